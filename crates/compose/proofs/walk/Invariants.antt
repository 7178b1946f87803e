-- `compose::walk` meets its contract: the packages before the index are passed, and one of them ends at the border.
use Prim.Native.Nat.{◌-◌}
use lib.ListN.{length}
use Rattle.compose.proofs.Walking.{Walking}
use Rattle.compose.proofs.walk.Given as goal

abbrev pub invariant-loop-i : goal.invariant-loop-i
invariant-loop-i l = Walking l.run l.i l.all l.mid

abbrev pub decreases-loop-i : goal.decreases-loop-i
decreases-loop-i l = length l.run - l.i
