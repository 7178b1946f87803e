-- `message::read_header` meets its contract: the checks, then the numbers.
use Rattle.message.proofs.Headers.{not_alone, alone}
use Rattle.refusal.proofs.Numbers.{handed_on}
use Rattle.message.proofs.read_header.Goals as goal

pub returns-in_err-run : goal.returns-in_err-run
returns-in_err-run c = handed_on _ _ _ c.from_residual.ensures.1 (not_alone _ c.in_err-run.ensures)

pub returns : goal.returns
returns c = alone _ _ _ c.in_ok-run.ensures c.header_of.ensures
