-- `hibernaxo::hibernaxo_header` meets its contract: what reading told.
use mathlib.Core.Path.{refl, ap, ◌∙◌}
use Rattle.std.specs.Prelude.{Result}
use Rattle.refusal.specs.declared.Refusal.{Refusal}
use Rattle.message.specs.declared.Header.{Header}
use Rattle.message.specs.Answers.{told_header}
use Rattle.hibernaxo.specs.Told.{header_told}
use Rattle.hibernaxo.proofs.Answered.{told_as}
use Rattle.hibernaxo.proofs.hibernaxo_header.Goals as goal

pub returns : goal.returns
returns c =
    c.put.ensures ∙ told_as _ 10 (λ (r : Result Header Refusal). header_told (told_header r)) (λ a. refl) (λ r. refl) c.read_header.result ∙ ap header_told c.read_header.ensures
