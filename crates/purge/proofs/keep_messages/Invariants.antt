-- `purge::keep_messages` meets its contract: in the loop what is kept of the messages before `at` ends at `to`, and the messages from `at` on are as they were.
use Prim.Native.Nat.{◌-◌}
use lib.ListN.{length}
use Rattle.sheet.specs.Table.{rows_in}
use Rattle.purge.proofs.Purging.{Purging}
use Rattle.purge.proofs.keep_messages.Given as goal

abbrev pub invariant-loop-at : goal.invariant-loop-at
invariant-loop-at l = Purging (rows_in l.table) l.initial.s l.s l.to l.at

abbrev pub decreases-loop-at : goal.decreases-loop-at
decreases-loop-at l = length l.initial.s - l.at
