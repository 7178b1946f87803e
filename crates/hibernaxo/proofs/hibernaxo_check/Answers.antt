-- `hibernaxo::hibernaxo_check` meets its contract: what checking told.
use mathlib.Core.Path.{refl, ap, ◌∙◌}
use Rattle.std.specs.Prelude.{Result}
use Rattle.refusal.specs.declared.Refusal.{Refusal}
use Rattle.message.specs.declared.Counts.{Counts}
use Rattle.message.specs.Answers.{told_check}
use Rattle.hibernaxo.specs.Told.{check_told}
use Rattle.hibernaxo.proofs.Answered.{told_as}
use Rattle.hibernaxo.proofs.hibernaxo_check.Goals as goal

pub returns : goal.returns
returns c =
    c.put.ensures ∙ told_as _ 3 (λ (r : Result Counts Refusal). check_told (told_check r)) (λ a. refl) (λ r. refl) c.check.result ∙ ap check_told c.check.ensures
