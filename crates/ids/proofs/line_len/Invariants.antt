-- `ids::line_len` meets its contract: the first i ranges are measured.
use mathlib.Core.Path.{◌≡◌}
use Prim.Native.Nat.{◌≤◌}
use lib.ListN.{length}
use Rattle.ids.specs.Told.{ranges_in}
use Rattle.ids.proofs.Writing.{Measuring}
use Rattle.ids.proofs.line_len.Given as goal

abbrev pub invariant-loop-i : goal.invariant-loop-i
invariant-loop-i l = (l.i ≤ l.n) × (l.n ≤ 32) × (length l.ends ≡ 64) × Measuring (ranges_in 32 l.ends) l.i l.len
