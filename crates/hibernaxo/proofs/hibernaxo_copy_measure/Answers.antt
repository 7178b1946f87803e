-- `hibernaxo::hibernaxo_copy_measure` meets its contract: what measuring answered.
use mathlib.Core.Path.{refl, ap, ◌∙◌}
use Rattle.std.specs.Prelude.{Result}
use Rattle.refusal.specs.declared.Refusal.{Refusal}
use Rattle.release.specs.declared.Totals.{Totals}
use Rattle.release.specs.Told.{numbers}
use Rattle.hibernaxo.specs.Told.{answer_values}
use Rattle.hibernaxo.proofs.Answered.{told_as}
use Rattle.hibernaxo.proofs.hibernaxo_copy_measure.Goals as goal

pub returns : goal.returns
returns c =
    c.put.ensures ∙ told_as _ 4 (λ (r : Result Totals Refusal). answer_values (numbers r)) (λ a. refl) (λ r. refl) c.measure.result ∙ ap answer_values c.measure.ensures
