-- `hibernaxo::hibernaxo_put_radio_tlv` meets its contract: what putting answered, and the buffer that it left.
use mathlib.Core.Path.{refl, ◌∙◌}
use Prim.Native.Nat.{ℕ}
use Rattle.std.specs.Prelude.{Result}
use Rattle.refusal.specs.declared.Refusal.{Refusal}
use Rattle.compose.specs.Told.{numbers}
use Rattle.hibernaxo.specs.Told.{written_values}
use Rattle.hibernaxo.proofs.Answered.{told_as}
use Rattle.hibernaxo.proofs.Buffers.{with-buffer}
use Rattle.hibernaxo.proofs.hibernaxo_put_radio_tlv.Goals as goal

pub returns : goal.returns
returns c =
    with-buffer written_values (numbers c.put_handed.result) _ (c.put.ensures ∙ told_as _ 2 (λ (r : Result ℕ Refusal). written_values (numbers r)) (λ a. refl) (λ r. refl) c.put_handed.result) (rw c.tlv_in-t.ensures at c.put_handed.ensures)
