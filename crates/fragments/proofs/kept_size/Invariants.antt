-- `fragments::kept_size` meets its contract: the options before `i` are measured.
use Prim.Native.Nat.{◌-◌}
use lib.ListN.{length}
use Rattle.fragments.proofs.Keeping.{Measured}
use Rattle.fragments.proofs.kept_size.Given as goal

abbrev pub invariant-loop-i : goal.invariant-loop-i
invariant-loop-i l = Measured l.run l.i l.n

abbrev pub decreases-loop-i : goal.decreases-loop-i
decreases-loop-i l = length l.run - l.i
