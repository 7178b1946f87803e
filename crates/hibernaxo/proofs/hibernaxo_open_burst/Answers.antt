-- `hibernaxo::hibernaxo_open_burst` meets its contract: what was answered, and the buffer that it left.
use mathlib.Core.Path.{refl, ap, ◌∙◌}
use mathlib.Core.List.{List, [], ◌∷◌}
use Prim.Native.Nat.{ℕ}
use Rattle.std.specs.Prelude.{Result}
use Rattle.refusal.specs.declared.Refusal.{Refusal}
use Rattle.burst.specs.Told.{numbers_opened}
use Rattle.hibernaxo.specs.Told.{opened_told}
use Rattle.hibernaxo.proofs.Answered.{told_as}
use Rattle.hibernaxo.proofs.hibernaxo_open_burst.Goals as goal

pub returns : goal.returns
returns c =
    let buf : List ℕ = c.open_burst.new.buf in
    ap (λ (y : ℕ × List ℕ). (y.0, y.1, buf)) (c.put.ensures ∙ told_as _ 2 (λ (r : Result ℕ Refusal). let a = numbers_opened r in (a.number, a.place ∷ a.blocks ∷ [])) (λ a. refl) (λ r. refl) c.open_burst.result) ∙ ap opened_told c.open_burst.ensures
