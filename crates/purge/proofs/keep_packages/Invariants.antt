-- `purge::keep_packages` meets its contract: in the loop the packages before `at` are done, those kept stand from `to` on, and what is not read yet is as it was.
use mathlib.Core.Path.{◌≡◌}
use Prim.Native.Nat.{◌-◌, ◌≤◌}
use lib.ListN.{length, take}
use Rattle.rules.specs.Message.{is_simulated}
use Rattle.sheet.specs.Table.{rows_in, near_of}
use Rattle.numbered.specs.Parts.{message_by}
use Rattle.purge.proofs.Sliding.{Sliding}
use Rattle.purge.proofs.keep_packages.Given as goal

abbrev pub invariant-loop-at : goal.invariant-loop-at
invariant-loop-at l =
    (l.many ≤ length l.near) × (take l.many l.near ≡ near_of l.h.id.0 (is_simulated l.h.flags) l.table) × Sliding (rows_in l.table) (message_by l.h) l.from l.to l.initial.s l.s l.left l.at

abbrev pub decreases-loop-at : goal.decreases-loop-at
decreases-loop-at l = length l.initial.s - l.at
