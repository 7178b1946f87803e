-- `hibernaxo::hibernaxo_copy_write` meets its contract: what writing answered, and the buffer that it left.
use mathlib.Core.Path.{refl, ◌∙◌}
use Rattle.release.specs.declared.Totals.{Totals}
use Rattle.std.specs.Prelude.{Result}
use Rattle.refusal.specs.declared.Refusal.{Refusal}
use Rattle.release.specs.Told.{numbers}
use Rattle.hibernaxo.specs.Told.{answer_values}
use Rattle.hibernaxo.proofs.Answered.{told_as}
use Rattle.hibernaxo.proofs.Buffers.{with-buffer}
use Rattle.hibernaxo.proofs.hibernaxo_copy_write.Goals as goal

pub returns : goal.returns
returns c =
    with-buffer answer_values (numbers c.write.result) _ (c.put.ensures ∙ told_as _ 4 (λ (r : Result Totals Refusal). answer_values (numbers r)) (λ a. refl) (λ r. refl) c.write.result) c.write.ensures
