-- `capture::put_front` meets its contract: the three headers, one behind the other.
use Rattle.capture.proofs.Fronts.{front-stored}
use Rattle.capture.proofs.put_front.Goals as goal

pub returns : goal.returns
returns c =
    let a = c.args in
    front-stored a.out.now _ _ _ a.to a.seconds a.nanos a.port a.n c.put_record.ensures c.put_ip.ensures c.put_udp.ensures
