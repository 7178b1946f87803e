-- `ids::ranges_of` meets its contract: in the loop the first i ranges are there.
use mathlib.Core.Path.{◌≡◌}
use lib.ListN.{length, take}
use Rattle.ids.specs.Told.{ranges_in}
use Rattle.ids.proofs.ranges_of.Given as goal

abbrev pub invariant-loop-i : goal.invariant-loop-i
invariant-loop-i l = (length l.ranges ≡ 32) × (take l.i l.ranges ≡ take l.i (ranges_in 32 l.ends))
