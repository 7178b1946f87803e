-- `capture::for_us` meets its contract: the Ethernet header, then what is behind it.
use Rattle.capture.proofs.Tests.{frame_short, type_other, type_ip}
use borrow.Author.Rules.{rules}
use Rattle.capture.proofs.for_us.Goals as goal

pub returns-then-frame-lt34 : goal.returns-then-frame-lt34
returns-then-frame-lt34 c = frame_short _ _ (search rules)

pub returns-then-half_at-ne2048 : goal.returns-then-half_at-ne2048
returns-then-half_at-ne2048 c = type_other _ _ (search rules) _ c.half_at.ensures (search rules)

pub returns : goal.returns
returns c = type_ip _ _ (search rules) _ c.half_at.ensures (search rules) _ c.datagram_for_us.ensures
