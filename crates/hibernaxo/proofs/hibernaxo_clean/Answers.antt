-- `hibernaxo::hibernaxo_clean` meets its contract: what the cleaner answered, and the buffer that it left.
use mathlib.Core.Path.{refl, ◌∙◌}
use Prim.Native.Nat.{ℕ}
use Rattle.std.specs.Prelude.{Result}
use Rattle.refusal.specs.declared.Refusal.{Refusal}
use Rattle.compose.specs.Told.{numbers}
use Rattle.hibernaxo.specs.Told.{written_values}
use Rattle.hibernaxo.proofs.Answered.{told_as}
use Rattle.hibernaxo.proofs.Buffers.{with-buffer}
use Rattle.hibernaxo.proofs.hibernaxo_clean.Goals as goal

pub returns : goal.returns
returns c =
    with-buffer written_values (numbers c.clean.result) _ (c.put.ensures ∙ told_as _ 2 (λ (r : Result ℕ Refusal). written_values (numbers r)) (λ a. refl) (λ r. refl) c.clean.result) c.clean.ensures
