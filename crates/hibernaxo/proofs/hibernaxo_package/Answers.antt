-- `hibernaxo::hibernaxo_package` meets its contract: what the step told, by the definition's cases; a package has at least the 12 bytes of its header.
use mathlib.Core.Path.{sym, ap}
use native.Mathlib.Omega.{arith}
use Rattle.message.proofs.Pieces.{inside}
use Rattle.hibernaxo.specs.Told.{step_told}
use Rattle.hibernaxo.proofs.hibernaxo_package.Goals as goal

pub overflow_sub-values : goal.overflow_sub-values
overflow_sub-values c = omega (arith, (inside _ _ _ (sym (rw c.in-Ok-Some.field-0-is at c.in-Ok-Some.ensures))).least)

pub returns-in-Ok-Some : goal.returns-in-Ok-Some
returns-in-Ok-Some c = ap (step_told _) (rw c.in-Ok-Some.field-0-is at c.in-Ok-Some.ensures)

pub returns-in-Ok-None : goal.returns-in-Ok-None
returns-in-Ok-None c = ap (step_told _) (rw c.in-Ok-None.field-0-is at c.in-Ok-None.ensures)

pub returns-in-Err : goal.returns-in-Err
returns-in-Err c = rw c.number_of.ensures (ap (step_told _) (c.in-Err.ensures))
