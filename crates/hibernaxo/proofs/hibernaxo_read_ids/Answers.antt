-- `hibernaxo::hibernaxo_read_ids` meets its contract: what was read fills the array behind the place and its number.
use native.Mathlib.Omega.{arith}
use Prim.Native.Nat.{ℕ}
use mathlib.Core.Path.{◌≡◌, refl, ap}
use mathlib.Core.List.{List, [], ◌∷◌}
use lib.ListN.{length}
use Rattle.rules.specs.Outcome.{Outcome}
use Rattle.ids.specs.Reader.{Range}
use Rattle.ids.specs.Told.{range_in}
use Rattle.hibernaxo.specs.Told.{range_values, ids_told}
use Rattle.hibernaxo.proofs.Stored.{all-stored}
use Rattle.hibernaxo.proofs.hibernaxo_read_ids.Goals as goal

-- what reading tells: the outcome, and what is shown
abbrev Read : Type 0
Read = Outcome (List Range × ℕ) × (List Range × ℕ)

pub returns-in-Ok : goal.returns-in-Ok
returns-in-Ok c =
    let read = c.in-Ok.read in
    let n : length read.ranges ≡ 32 = omega arith in
    rw (c.put_each.ensures, all-stored range_in range_values 2 (λ r. refl) (0 ∷ read.count ∷ []) 32 read.ranges n) (ap (λ (x : Read). ids_told x.0) c.in-Ok.ensures)

pub returns-in-Err : goal.returns-in-Err
returns-in-Err c = rw (c.put_refusal.ensures.0, c.put_refusal.ensures.1) (ap (λ (x : Read). ids_told x.0) c.in-Err.ensures)
