-- `capture::put_messages` meets its contract: in the loop the records of the messages before `at` are stored.
use Prim.Native.Nat.{◌-◌, ◌≤◌}
use lib.ListN.{length}
use Rattle.capture.specs.Told.{Roomy}
use Rattle.capture.proofs.Laying.{Laying}
use Rattle.capture.proofs.put_messages.Given as goal

abbrev pub invariant-loop-at : goal.invariant-loop-at
invariant-loop-at l = (length l.recording ≤ 65536) × Roomy l.recording l.port (length l.initial.out) × Laying l.recording l.port l.initial.out l.out l.to l.at

abbrev pub decreases-loop-at : goal.decreases-loop-at
decreases-loop-at l = length l.recording - l.at
