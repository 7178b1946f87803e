-- `hibernaxo::hibernaxo_radio_tlv` meets its contract: what the step told, by the definition's cases.
use mathlib.Core.Path.{ap}
use Rattle.hibernaxo.specs.Radio.{tlv_told}
use Rattle.hibernaxo.proofs.hibernaxo_radio_tlv.Goals as goal

pub returns-in-Ok-Some : goal.returns-in-Ok-Some
returns-in-Ok-Some c = rw c.tlv_values.ensures (ap (tlv_told _) (rw c.in-Ok-Some.field-0-is at c.in-Ok-Some.ensures))

pub returns-in-Ok-None : goal.returns-in-Ok-None
returns-in-Ok-None c = ap (tlv_told _) (rw c.in-Ok-None.field-0-is at c.in-Ok-None.ensures)

pub returns-in-Err : goal.returns-in-Err
returns-in-Err c = rw c.number_of.ensures (ap (tlv_told _) (c.in-Err.ensures))
