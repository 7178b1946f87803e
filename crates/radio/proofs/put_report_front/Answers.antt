-- `radio::put_report_front` meets its contract: four stores.
use native.Mathlib.Omega.{arith}
use Rattle.radio.proofs.Tlvs.{report-ranges}
use Rattle.radio.proofs.put_report_front.Goals as goal

pub overflow_add-from : goal.overflow_add-from
overflow_add-from c = record { fits = let (x, y) = report-ranges _ c.requires in omega (arith, c.from.ensures) }
