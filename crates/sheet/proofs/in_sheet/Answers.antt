-- `sheet::in_sheet` meets its contract: the first four rows are those of a short sheet, and an array has no more than 32 rows.
use borrow.Author.Rules.{rules}
use mathlib.Core.Path.{◌≡◌, sym, ap, ◌∙◌}
use mathlib.Core.List.{List, [], ◌∷◌}
use Prim.Native.Nat.{ℕ, ◌≤◌}
use native.Mathlib.Omega.{arith}
use lib.ListN.{length, get_or, take}
use lib.Seq.{take_all, take-take}
use Rattle.sheet.specs.declared.Row.{Row}
use Rattle.sheet.specs.Rows.{no_row, some_grants}
use Rattle.sheet.proofs.in_sheet.Goals as goal

first-four : (rows : List Row) (n : ℕ) → n ≤ 4 → 4 ≤ length rows → take n (get_or rows 0 no_row ∷ get_or rows 1 no_row ∷ get_or rows 2 no_row ∷ get_or rows 3 no_row ∷ []) ≡ take n rows
first-four (a ∷ b ∷ c ∷ d ∷ rows) n h l = take-take n 4 (a ∷ b ∷ c ∷ d ∷ rows) h
first-four (a ∷ b ∷ c ∷ []) n h l = absurd (omega arith)
first-four (a ∷ b ∷ []) n h l = absurd (omega arith)
first-four (a ∷ []) n h l = absurd (omega arith)
first-four [] n h l = absurd (omega arith)

pub returns-then-n-le4 : goal.returns-then-n-le4
returns-then-n-le4 c =
    let a = c.args in
    c.in_first.ensures ∙ ap (λ (l : List Row). some_grants l a.m.mdid.0 a.m.simulated a.p.0 a.t) (first-four a.rows a.n (search rules) (omega arith))

pub returns : goal.returns
returns c =
    let a = c.args in
    let e : take 32 a.rows ≡ take a.n a.rows = take_all 32 a.rows (omega arith) ∙ sym (take_all a.n a.rows (omega arith)) in
    rw (← e) c.in_first-2.ensures
