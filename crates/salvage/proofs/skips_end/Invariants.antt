-- `salvage::skips_end` meets its contract. The invariant of its loop: the skips that are left, from `end` on, end where all of them do.
use Prim.Native.Nat.{◌-◌, ◌≤◌}
use mathlib.Core.Path.{◌≡◌}
use lib.ListN.{length, drop}
use Rattle.salvage.specs.Told.{skips_end}
use Rattle.salvage.proofs.skips_end.Given as goal

abbrev pub invariant-loop-end : goal.invariant-loop-end
invariant-loop-end l = (l.end ≤ length l.s) × (skips_end 4 l.at (drop l.at l.s) ≡ skips_end 0 l.end (drop l.end l.s))

abbrev pub decreases-loop-end : goal.decreases-loop-end
decreases-loop-end l = length l.s - l.end
