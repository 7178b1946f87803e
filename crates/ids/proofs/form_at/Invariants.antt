-- `ids::form_at` meets its contract: what is before `at` has good form, and what follows decides.
use Prim.Native.Nat.{◌-◌}
use lib.ListN.{length}
use Rattle.ids.proofs.Steps.{Formed}
use Rattle.ids.proofs.form_at.Given as goal

abbrev pub invariant-loop-at : goal.invariant-loop-at
invariant-loop-at l = Formed l.s l.from l.at

abbrev pub decreases-loop-at : goal.decreases-loop-at
decreases-loop-at l = length l.s - l.at
