-- `hibernaxo::hibernaxo_sheet` meets its contract: what was read fills the array behind the place and its number.
use native.Mathlib.Omega.{arith}
use Prim.Native.Nat.{ℕ}
use mathlib.Core.Path.{◌≡◌, refl, ap}
use mathlib.Core.List.{List, [], ◌∷◌}
use lib.ListN.{length}
use Rattle.rules.specs.Outcome.{Outcome}
use Rattle.rules.specs.Sheet.{Row}
use Rattle.sheet.specs.Rows.{row_in}
use Rattle.hibernaxo.specs.Told.{row_values, sheet_told}
use Rattle.hibernaxo.proofs.Stored.{all-stored}
use Rattle.hibernaxo.proofs.hibernaxo_sheet.Goals as goal

-- what reading tells: the outcome, and what is shown
abbrev Read : Type 0
Read = Outcome (List Row × ℕ) × (List Row × ℕ)

pub returns-in-Ok : goal.returns-in-Ok
returns-in-Ok c =
    let read = c.in-Ok.read in
    let n : length read.rows ≡ 32 = omega arith in
    rw (c.put_each.ensures, all-stored row_in row_values 9 (λ r. refl) (0 ∷ read.count ∷ []) 32 read.rows n) (ap (λ (x : Read). sheet_told x.0) c.in-Ok.ensures)

pub returns-in-Err : goal.returns-in-Err
returns-in-Err c = rw (c.put_refusal.ensures.0, c.put_refusal.ensures.1) (ap (λ (x : Read). sheet_told x.0) c.in-Err.ensures)
