-- `ids::fault` meets its contract: a broken form comes before the item at fault.
use Rattle.refusal.proofs.Numbers.{handed_on}
use Rattle.ids.proofs.Reading.{fault-good, fault-bad}
use Rattle.ids.proofs.fault.Goals as goal

pub returns-in_err-form_at : goal.returns-in_err-form_at
returns-in_err-form_at c numbers = handed_on _ _ _ c.from_residual.ensures.1 (fault-bad _ _ _ _ c.in_err-form_at.ensures)

pub returns : goal.returns
returns c numbers = rw c.refuse.ensures (fault-good _ _ c.in_ok-form_at.ensures)
