-- `hibernaxo::hibernaxo_cut` meets its contract: what cutting answered, and the buffer that it left.
use mathlib.Core.Path.{refl, ◌∙◌}
use Rattle.fragments.specs.declared.Fragmented.{Fragmented}
use Rattle.std.specs.Prelude.{Result}
use Rattle.refusal.specs.declared.Refusal.{Refusal}
use Rattle.fragments.specs.Told.{cut_numbers}
use Rattle.hibernaxo.specs.Told.{cut_values}
use Rattle.hibernaxo.proofs.Answered.{told_as}
use Rattle.hibernaxo.proofs.Buffers.{with-buffer}
use Rattle.hibernaxo.proofs.hibernaxo_cut.Goals as goal

pub returns : goal.returns
returns c =
    with-buffer cut_values (cut_numbers c.cut.result) _ (c.put.ensures ∙ told_as _ 3 (λ (r : Result Fragmented Refusal). cut_values (cut_numbers r)) (λ a. refl) (λ r. refl) c.cut.result) c.cut.ensures
