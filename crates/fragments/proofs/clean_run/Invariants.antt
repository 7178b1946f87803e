-- `fragments::clean_run` meets its contract: the packages before index i are cleaned.
use Prim.Native.Nat.{◌-◌}
use lib.ListN.{length}
use Rattle.fragments.proofs.Stores.{Cleaning}
use Rattle.fragments.proofs.clean_run.Given as goal

abbrev pub invariant-loop-i : goal.invariant-loop-i
invariant-loop-i l = Cleaning l.initial.run l.run l.i

abbrev pub decreases-loop-i : goal.decreases-loop-i
decreases-loop-i l = length l.initial.run - l.i
