-- `radio::fits` meets its contract: by its type.
use mathlib.Core.Path.{sym, ap, ◌∙◌}
use Rattle.radio.specs.Tlv.{tlv_fits}
use Rattle.radio.proofs.fits.Goals as goal

pub returns-in-TxOp : goal.returns-in-TxOp
unfolding tlv_fits
returns-in-TxOp c = c.in_second.ensures ∙ ap tlv_fits (sym c.in-TxOp.is)

pub returns-in-Heartbeat : goal.returns-in-Heartbeat
unfolding tlv_fits
returns-in-Heartbeat c = ap tlv_fits (sym c.in-Heartbeat.is)

pub returns-in-LinkMetric : goal.returns-in-LinkMetric
unfolding tlv_fits
returns-in-LinkMetric c = c.in_minute.ensures ∙ ap tlv_fits (sym c.in-LinkMetric.is)

pub returns-in-QueueReport : goal.returns-in-QueueReport
unfolding tlv_fits
returns-in-QueueReport c = c.in_minute-in-QueueReport.ensures ∙ ap tlv_fits (sym c.in-QueueReport.is)
