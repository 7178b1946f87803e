-- `capture::count` meets its contract: in the loop the counts are those of the records before `at`.
use Prim.Native.Nat.{◌-◌, ◌≤◌}
use lib.ListN.{length}
use Rattle.capture.specs.Told.{order_by}
use Rattle.capture.proofs.Tallying.{Counting}
use Rattle.capture.proofs.count.Given as goal

abbrev pub invariant-loop-at : goal.invariant-loop-at
invariant-loop-at l = (length l.file ≤ 65536) × Counting (order_by l.big) l.port l.file l.counts l.spots l.at

abbrev pub decreases-loop-at : goal.decreases-loop-at
decreases-loop-at l = length l.file - l.at
