-- `numbered::measure_packages` meets its contract: in the loop what is done are the packages before what is left, and their flags are marked.
use mathlib.Core.Path.{◌≡◌}
use Prim.Native.Nat.{◌+◌, ◌*◌, ◌≤◌}
use lib.ListN.{length, take}
use Rattle.rules.specs.Message.{is_simulated}
use Rattle.sheet.specs.Table.{rows_in, near_of}
use Rattle.numbered.specs.Parts.{message_by}
use Rattle.message.proofs.Left.{Left, gone}
use Rattle.numbered.proofs.Packages.{Walking}
use Rattle.numbered.proofs.measure_packages.Given as goal

abbrev pub invariant-loop-rest : goal.invariant-loop-rest
invariant-loop-rest l =
    (12 * l.first + length l.run ≤ 65536) × (l.many ≤ length l.near) × (take l.many l.near ≡ near_of l.h.id.0 (is_simulated l.h.flags) l.table) × Left l.run l.rest
    × Walking (rows_in l.table) (message_by l.h) l.run l.initial.marks l.first l.size l.all l.marks (gone l.run l.rest)

abbrev pub decreases-loop-rest : goal.decreases-loop-rest
decreases-loop-rest l = length l.rest
