-- `hibernaxo::hibernaxo_read_capture` meets its contract: what reading answered, and the buffer that it left.
use mathlib.Core.Path.{refl, ◌∙◌}
use Rattle.capture.specs.declared.CaptureRead.{CaptureRead}
use Rattle.std.specs.Prelude.{Result}
use Rattle.refusal.specs.declared.Refusal.{Refusal}
use Rattle.capture.specs.Told.{numbers_read}
use Rattle.hibernaxo.specs.Told.{read_values}
use Rattle.hibernaxo.proofs.Answered.{told_as}
use Rattle.hibernaxo.proofs.Buffers.{with-buffer}
use Rattle.hibernaxo.proofs.hibernaxo_read_capture.Goals as goal

pub returns : goal.returns
returns c =
    with-buffer read_values (numbers_read c.read_capture.result) _ (c.put.ensures ∙ told_as _ 6 (λ (r : Result CaptureRead Refusal). read_values (numbers_read r)) (λ a. refl) (λ r. refl) c.read_capture.result) c.read_capture.ensures
