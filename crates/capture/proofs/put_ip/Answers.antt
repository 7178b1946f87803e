-- `capture::put_ip` meets its contract: the eight stores are the Ethernet and the IPv4 header.
use mathlib.Core.Path.{refl}
use Rattle.capture.proofs.Fronts.{ip-stored}
use Rattle.capture.proofs.put_ip.Goals as goal

pub returns : goal.returns
returns c =
    let a = c.args in
    ip-stored a.out.now _ _ _ _ _ _ _ _ a.to a.n _ _ refl c.checksum_of.ensures c.put_zeros.ensures c.put_half.ensures c.put_half-2.ensures c.put_half-3.ensures c.put_word.ensures c.put_half-4.ensures c.put_half-5.ensures c.put_zeros-2.ensures
