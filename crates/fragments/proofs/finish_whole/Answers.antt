-- `fragments::finish_whole` meets its contract: the cleaner's answer, with one fragment.
use Rattle.refusal.proofs.Numbers.{number_positive, passed_on}
use Rattle.fragments.proofs.Answering.{one-refused, one-done}
use Rattle.fragments.proofs.finish_whole.Goals as goal

pub returns-in_err-bytes : goal.returns-in_err-bytes
returns-in_err-bytes c = rw (passed_on _ _ c.from_residual.ensures.1) (one-refused _ _ _ (number_positive _) c.in_err-bytes.ensures)

pub returns : goal.returns
returns c = one-done _ _ c.in_ok-bytes.ensures
