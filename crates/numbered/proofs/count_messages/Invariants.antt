-- `numbered::count_messages` meets its contract: in the loop the totals are those of the messages before `at`, their ids are counted and their packages marked.
use Prim.Native.Nat.{◌-◌, ◌≤◌}
use lib.ListN.{length}
use Rattle.sheet.specs.Table.{rows_in}
use Rattle.numbered.proofs.Tally.{Measuring}
use Rattle.numbered.proofs.count_messages.Given as goal

abbrev pub invariant-loop-at : goal.invariant-loop-at
invariant-loop-at l =
    (length l.input ≤ 65536) × Measuring (rows_in l.table) l.input l.quota l.known l.room l.totals l.handled l.fresh l.seats l.marks l.passed l.at

abbrev pub decreases-loop-at : goal.decreases-loop-at
decreases-loop-at l = length l.input - l.at
