-- `purge::set_counts` meets its contract: in the loop the options before `i` are done, and the others are as they were.
use Prim.Native.Nat.{◌-◌}
use lib.ListN.{length}
use Rattle.purge.proofs.Counts.{Setting}
use Rattle.purge.proofs.set_counts.Given as goal

abbrev pub invariant-loop-i : goal.invariant-loop-i
invariant-loop-i l = Setting l.count l.initial.o l.o l.i

abbrev pub decreases-loop-i : goal.decreases-loop-i
decreases-loop-i l = length l.initial.o - l.i
