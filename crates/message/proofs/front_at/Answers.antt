-- `message::front_at` meets its contract: the checks, then the numbers.
use Rattle.message.proofs.Fronts.{front-bad, front-good}
use Rattle.refusal.proofs.Numbers.{handed_on}
use Rattle.message.proofs.front_at.Goals as goal

pub returns-in_err-run : goal.returns-in_err-run
returns-in_err-run c = handed_on _ _ _ c.from_residual.ensures.1 (front-bad _ _ c.in_err-run.ensures)

pub returns : goal.returns
returns c = front-good _ _ _ _ c.in_ok-run.ensures c.header_in.ensures
