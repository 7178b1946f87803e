-- `fragments::put_kept` meets its contract: what is kept of the options before `i` is stored.
use Prim.Native.Nat.{◌-◌}
use lib.ListN.{length}
use Rattle.fragments.proofs.Keeping.{Storing}
use Rattle.fragments.proofs.put_kept.Given as goal

abbrev pub invariant-loop-i : goal.invariant-loop-i
invariant-loop-i l = Storing l.run l.initial.out l.out l.at l.i l.k

abbrev pub decreases-loop-i : goal.decreases-loop-i
decreases-loop-i l = length l.run - l.i
