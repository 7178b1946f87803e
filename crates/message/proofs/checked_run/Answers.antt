-- `message::checked_run` meets its contract: a law for each `return`.
use borrow.Author.Rules.{rules}
use Rattle.message.proofs.Fronts.{large, behind, seven-there, not_seven_there, not_nine_there, nine-there}
use Rattle.refusal.proofs.Numbers.{handed_on}
use Rattle.message.proofs.checked_run.Goals as goal

pub returns-then-s-gt65536 : goal.returns-then-s-gt65536
returns-then-s-gt65536 c = rw c.refuse.ensures (large _ _ _ c.if-s-gt65536.true)

pub returns-then-s-at : goal.returns-then-s-at
returns-then-s-at c = rw c.refuse-then-s-at.ensures (behind _ _ (search rules) _ (search rules))

pub returns-in_err-checks_eight_and_nine : goal.returns-in_err-checks_eight_and_nine
returns-in_err-checks_eight_and_nine c = handed_on _ _ _ c.from_residual-in_err-checks_eight_and_nine.ensures.1 (not_nine_there _ _ (search rules) _ (search rules) _ _ c.header_of.ensures c.in_ok-run.ensures c.in_err-checks_eight_and_nine.ensures)

pub returns-in_ok-checks_eight_and_nine : goal.returns-in_ok-checks_eight_and_nine
returns-in_ok-checks_eight_and_nine c = nine-there _ _ (search rules) _ (search rules) _ _ c.header_of.ensures c.in_ok-run.ensures c.in_ok-checks_eight_and_nine.ensures

pub returns-in_err-run : goal.returns-in_err-run
returns-in_err-run c = handed_on _ _ _ c.from_residual.ensures.1 (not_seven_there _ _ (search rules) _ c.in_err-run.ensures)

pub returns-else-nine : goal.returns-else-nine
returns-else-nine c = seven-there _ _ (search rules) _ (search rules) c.in_ok-run.ensures
