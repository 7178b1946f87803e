-- `sheet::some_row_grants` meets its contract: that one of the rows passes the test is what the search by recursion says.
use Prim.Native.Nat.{ℕ}
use mathlib.Core.Path.{◌≡◌, refl, ap, ◌∙◌}
use mathlib.Core.Bool.{Bool, ◌||◌}
use mathlib.Core.List.{List, [], ◌∷◌}
use Rattle.std.proofs.Common.{rules, tests}
use Rattle.std.specs.List.{list_any}
use Rattle.std.proofs.lemmas.Iterator.{YieldsList-from_slice}
use Rattle.std.proofs.lemmas.Iterator.Search.{any_from_yields_List}
use Rattle.rules.specs.Sheet.{grants}
use Rattle.sheet.specs.declared.Row.{Row}
use Rattle.sheet.specs.Rows.{row_in, some_grants}
use Rattle.sheet.proofs.some_row_grants.Goals as goal

module _ (m : ℕ) (simulated : Bool) (p t : ℕ) where
  abbrev test : Row → Bool
  test r = grants m simulated p t (row_in r)

  any_is : (rows : List Row) → list_any test rows ≡ some_grants rows m simulated p t
  unfolding some_grants
  any_is [] = refl
  any_is (r ∷ rows) = ap (λ (b : Bool). test r || b) (any_is rows)

pub returns : goal.returns
returns c =
    let a = c.args in
    any_from_yields_List (test a.m.mdid.0 a.m.simulated a.p.0 a.t) _ _ _ c.any.ensures.ran (YieldsList-from_slice a.rows.now cc) (λ x b q k. search (rules, tests))
    ∙ any_is a.m.mdid.0 a.m.simulated a.p.0 a.t a.rows.now
