-- `ids::put_line` meets its contract: the line of the first i ranges is stored.
use mathlib.Core.Path.{◌≡◌}
use mathlib.Core.List.{List}
use Prim.Native.Nat.{ℕ, ◌≤◌}
use lib.ListN.{length}
use lib.Seq.{sets}
use Rattle.ids.specs.Told.{ranges_in}
use Rattle.ids.proofs.Writing.{line, Measuring}
use Rattle.ids.proofs.put_line.Given as goal

abbrev pub invariant-loop-i : goal.invariant-loop-i
invariant-loop-i l =
    (l.i ≤ l.n) × (l.n ≤ 32) × (length l.ends ≡ 64) × Measuring (ranges_in 32 l.ends) l.i l.at × (length l.out ≡ length l.initial.out)
    × ((b : List ℕ) → l.initial.out ≡ sets b 0 (line (ranges_in 32 l.ends) 1) → l.out ≡ sets b 0 (line (ranges_in 32 l.ends) l.i))
