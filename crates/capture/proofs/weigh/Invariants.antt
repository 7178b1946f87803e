-- `capture::weigh` meets its contract: in the loop the sums are those of the messages before `at`.
use Prim.Native.Nat.{◌-◌, ◌≤◌}
use lib.ListN.{length}
use Rattle.capture.proofs.Weighing.{Weighing}
use Rattle.capture.proofs.weigh.Given as goal

abbrev pub invariant-loop-at : goal.invariant-loop-at
invariant-loop-at l = (length l.recording ≤ 65536) × Weighing l.recording l.bytes l.messages l.at

abbrev pub decreases-loop-at : goal.decreases-loop-at
decreases-loop-at l = length l.recording - l.at
