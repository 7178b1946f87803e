-- `capture::put_udp` meets its contract: the four stores are the UDP header.
use mathlib.Core.Path.{refl}
use Rattle.capture.proofs.Fronts.{udp_stored}
use Rattle.capture.proofs.put_udp.Goals as goal

pub returns : goal.returns
returns c =
    let a = c.args in
    udp_stored a.out.now _ _ _ _ a.to a.n a.port _ refl c.put_half.ensures c.put_half-2.ensures c.put_half-3.ensures c.put_half-4.ensures
