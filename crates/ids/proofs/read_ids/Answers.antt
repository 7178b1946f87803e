-- `ids::read_ids` meets its contract: the item reader begins at the line's first byte, with no range read.
use mathlib.Core.Path.{ap, ◌∙◌}
use Rattle.refusal.proofs.Numbers.{handed_on}
use Rattle.ids.specs.Told.{answer}
use Rattle.ids.proofs.Reading.{line-large, line_read}
use Rattle.ids.proofs.read_ids.Goals as goal

pub returns-then-line-gt65536 : goal.returns-then-line-gt65536
returns-then-line-gt65536 c = rw c.refuse.ensures (ap answer (line-large _ c.if-line-gt65536.true))

pub returns-in_err-count : goal.returns-in_err-count
returns-in_err-count c = ap answer (handed_on _ _ _ c.from_residual.ensures.1 (c.in_err-count.ensures ∙ line_read _ c.if-line-gt65536.false))

pub returns : goal.returns
returns c = rw c.ranges_of.ensures (ap answer (c.in_ok-count.ensures ∙ line_read _ c.if-line-gt65536.false))
