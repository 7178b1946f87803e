-- `hibernaxo::hibernaxo_read_radio` meets its contract: what reading told.
use mathlib.Core.Path.{refl, ap, ◌∙◌}
use Rattle.std.specs.Prelude.{Result}
use Rattle.refusal.specs.declared.Refusal.{Refusal}
use Rattle.radio.specs.declared.RadioMessage.{RadioMessage}
use Rattle.radio.specs.Told.{told_radio}
use Rattle.hibernaxo.specs.Radio.{radio_told}
use Rattle.hibernaxo.proofs.Answered.{told_as}
use Rattle.hibernaxo.proofs.hibernaxo_read_radio.Goals as goal

pub returns : goal.returns
returns c =
    c.put.ensures ∙ told_as _ 5 (λ (r : Result RadioMessage Refusal). radio_told (told_radio r)) (λ a. refl) (λ r. refl) c.read.result ∙ ap radio_told c.read.ensures
