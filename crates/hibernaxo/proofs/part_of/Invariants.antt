-- `hibernaxo::part_of` meets its contract: in the loop the numbers before number i are there.
use Prim.Native.Nat.{ℕ, ◌≤◌}
use mathlib.Core.Path.{◌≡◌}
use lib.ListN.{replicate}
use lib.Seq.{sets}
use Rattle.hibernaxo.specs.Told.{numbers_from}
use Rattle.hibernaxo.proofs.part_of.Given as goal

abbrev pub invariant-loop-i : goal.invariant-loop-i
invariant-loop-i l = (l.i ≤ 64) × (l.at ≤ 65) × (l.part ≡ sets (replicate {A = ℕ} 64 0) 0 (numbers_from l.i l.at l.state))
