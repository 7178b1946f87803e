-- `salvage::survey` meets its contract: what is before `at` is surveyed, and a 65th stretch ends the survey.
use Prim.Native.Nat.{◌-◌, ◌≤◌}
use lib.ListN.{length}
use Rattle.salvage.proofs.Surveying.{Surveying}
use Rattle.salvage.proofs.survey.Given as goal

abbrev pub invariant-loop-at : goal.invariant-loop-at
invariant-loop-at l = (length l.s ≤ 65536) × Surveying l.s l.stretches l.count l.last l.end l.bytes l.messages l.at

abbrev pub decreases-loop-at : goal.decreases-loop-at
decreases-loop-at l = length l.s - l.at
