-- `fragments::scan_run` meets its contract: the words before `i` are passed.
use Prim.Native.Nat.{◌+◌, ◌-◌, ◌≤◌}
use lib.ListN.{length}
use Rattle.fragments.proofs.Steps.{Scanning}
use Rattle.fragments.proofs.scan_run.Given as goal

abbrev pub invariant-loop-i : goal.invariant-loop-i
invariant-loop-i l = Scanning l.run l.initial.st l.st l.i × (l.st.packages ≤ l.initial.st.packages + l.i)

abbrev pub decreases-loop-i : goal.decreases-loop-i
decreases-loop-i l = length l.run - l.i
