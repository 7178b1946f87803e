-- `hibernaxo::hibernaxo_randomize` meets its contract: what was answered, and the buffer that it left.
use mathlib.Core.Path.{refl, ap, ◌∙◌}
use mathlib.Core.List.{List, [], ◌∷◌}
use Prim.Native.Nat.{ℕ}
use Rattle.std.specs.Prelude.{Result}
use Rattle.refusal.specs.declared.Refusal.{Refusal}
use Rattle.burst.specs.Told.{numbers_randomized}
use Rattle.hibernaxo.specs.Told.{randomized_told}
use Rattle.hibernaxo.proofs.Answered.{told_as}
use Rattle.hibernaxo.proofs.hibernaxo_randomize.Goals as goal

pub returns : goal.returns
returns c =
    let buf : List ℕ = c.randomize.new.buf in
    ap (λ (y : ℕ × List ℕ). (y.0, y.1, buf)) (c.put.ensures ∙ told_as _ 1 (λ (r : Result (Unit {0}) Refusal). let a = numbers_randomized r in (a.number, a.place ∷ [])) (λ a. refl) (λ r. refl) c.randomize.result) ∙ ap randomized_told c.randomize.ensures
