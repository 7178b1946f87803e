-- `ids::digits_at` meets its contract: the n bytes that were looked at are digits, and say the value.
use borrow.Author.Rules.{rules}
use mathlib.Core.Path.{sym, ◌∙◌}
use native.Mathlib.Omega.{arith}
use Rattle.ids.proofs.Counting.{counting_start, counting_next, digits_stopped, digits-ended}
use Rattle.ids.proofs.digits_at.Goals as goal

pub loop-n-init : goal.loop-n-init
loop-n-init c = counting_start _ _

pub returns-then-not-is_ascii_digit : goal.returns-then-not-is_ascii_digit
returns-then-not-is_ascii_digit c = digits_stopped _ _ _ _ c.loop-n.invariant _ c.byte_at-x.ensures (sym c.is_ascii_digit.ensures.value ∙ c.if-not-is_ascii_digit.true)

pub loop-n-preserved : goal.loop-n-preserved
loop-n-preserved c =
    rw c.from.ensures (counting_next _ _ _ _ c.loop-n.invariant _ c.byte_at-x.ensures (sym c.is_ascii_digit.ensures.value ∙ c.if-not-is_ascii_digit.false) (search rules))

pub returns : goal.returns
returns c = digits-ended _ _ _ _ c.loop-n.invariant (omega arith)
