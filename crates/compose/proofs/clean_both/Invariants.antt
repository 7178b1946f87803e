-- `compose::clean_both` meets its contract: of each run the packages before its index are clean, and those behind are as they were. What a loop behind another keeps is said
-- of whatever the first began with.
use Prim.Native.Nat.{ℕ, ◌+◌, ◌-◌}
use mathlib.Core.Path.{◌≡◌}
use mathlib.Core.List.{List, ◌++◌}
use lib.ListN.{length, take}
use Rattle.compose.proofs.Run.{Lanes}
use Rattle.compose.proofs.clean_both.Given as goal

abbrev pub invariant-loop-i : goal.invariant-loop-i
invariant-loop-i l = Lanes l.front l.back l.initial.out l.out l.i l.j

abbrev pub decreases-loop-i : goal.decreases-loop-i
decreases-loop-i l = length l.front - l.i

abbrev pub invariant-loop-i-2 : goal.invariant-loop-i-2
invariant-loop-i-2 l = (b : List ℕ) → take (length l.front + length l.back) b ≡ l.front ++ l.back → Lanes l.front l.back b l.initial.out l.initial.i l.j → Lanes l.front l.back b l.out l.i l.j

abbrev pub decreases-loop-i-2 : goal.decreases-loop-i-2
decreases-loop-i-2 l = length l.front - l.i

abbrev pub invariant-loop-j : goal.invariant-loop-j
invariant-loop-j l = (b : List ℕ) → take (length l.front + length l.back) b ≡ l.front ++ l.back → Lanes l.front l.back b l.initial.out l.i l.initial.j → Lanes l.front l.back b l.out l.i l.j

abbrev pub decreases-loop-j : goal.decreases-loop-j
decreases-loop-j l = length l.back - l.j
