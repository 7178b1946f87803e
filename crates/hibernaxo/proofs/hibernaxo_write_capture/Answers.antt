-- `hibernaxo::hibernaxo_write_capture` meets its contract: what writing answered, and the buffer that it left.
use mathlib.Core.Path.{refl, ◌∙◌}
use Rattle.capture.specs.declared.CaptureWritten.{CaptureWritten}
use Rattle.std.specs.Prelude.{Result}
use Rattle.refusal.specs.declared.Refusal.{Refusal}
use Rattle.capture.specs.Told.{numbers_written}
use Rattle.hibernaxo.specs.Told.{sent_values}
use Rattle.hibernaxo.proofs.Answered.{told_as}
use Rattle.hibernaxo.proofs.Buffers.{with-buffer}
use Rattle.hibernaxo.proofs.hibernaxo_write_capture.Goals as goal

pub returns : goal.returns
returns c =
    with-buffer sent_values (numbers_written c.write_capture.result) _ (c.put.ensures ∙ told_as _ 3 (λ (r : Result CaptureWritten Refusal). sent_values (numbers_written r)) (λ a. refl) (λ r. refl) c.write_capture.result) c.write_capture.ensures
