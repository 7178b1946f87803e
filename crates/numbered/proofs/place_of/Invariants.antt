-- `numbered::place_of` meets its contract: in the loop the sum is how many stand from the id on, if it was met.
use mathlib.Core.Path.{◌≡◌}
use Prim.Native.Nat.{◌+◌, ◌≤◌}
use lib.ListN.{length}
use Rattle.rules.specs.Items.{count}
use Rattle.numbered.proofs.Seeking.{Seeking}
use Rattle.numbered.proofs.place_of.Given as goal

abbrev pub invariant-loop-other : goal.invariant-loop-other
invariant-loop-other l = (length l.ids ≤ 65536) × (count l.id l.ids ≤ 1) × (l.other-index + l.left ≡ length l.ids) × Seeking l.ids l.id l.behind l.other-index
