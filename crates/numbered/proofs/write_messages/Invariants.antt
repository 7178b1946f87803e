-- `numbered::write_messages` meets its contract: in the loop the copy of the messages before `at` is stored, and the numbers after them are held.
use Prim.Native.Nat.{◌-◌, ◌≤◌}
use lib.ListN.{length}
use Rattle.sheet.specs.Table.{rows_in}
use Rattle.numbered.specs.Parts.{Marked, Roomy}
use Rattle.numbered.proofs.Written.{Writing}
use Rattle.numbered.proofs.write_messages.Given as goal

abbrev pub invariant-loop-at : goal.invariant-loop-at
invariant-loop-at l =
    (length l.recording ≤ 65536)
    × Roomy (rows_in l.table) l.recording l.initial.ids l.initial.next l.held
    × Marked (rows_in l.table) l.recording l.marks
    × Writing (rows_in l.table) l.recording l.initial.ids l.initial.next l.held l.initial.out l.out l.ids l.next l.seen l.reached l.at l.passed

abbrev pub decreases-loop-at : goal.decreases-loop-at
decreases-loop-at l = length l.recording - l.at
