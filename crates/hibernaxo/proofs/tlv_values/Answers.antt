-- `hibernaxo::tlv_values` meets its contract: by the TLV's type.
use mathlib.Core.Path.{sym, ap}
use Rattle.radio.specs.declared.Tlv.{Tlv}
use Rattle.hibernaxo.specs.Radio.{tlv_values}
use Rattle.hibernaxo.proofs.tlv_values.Goals as goal

pub returns-in-TxOp : goal.returns-in-TxOp
returns-in-TxOp c = rw c.opportunity_values.ensures (ap (λ (t : Tlv). tlv_values t c.args.next) (sym c.in-TxOp.is))

pub returns-in-Heartbeat : goal.returns-in-Heartbeat
returns-in-Heartbeat c = rw c.heartbeat_values.ensures (ap (λ (t : Tlv). tlv_values t c.args.next) (sym c.in-Heartbeat.is))

pub returns-in-LinkMetric : goal.returns-in-LinkMetric
returns-in-LinkMetric c = rw c.metric_values.ensures (ap (λ (t : Tlv). tlv_values t c.args.next) (sym c.in-LinkMetric.is))

pub returns-in-QueueReport : goal.returns-in-QueueReport
returns-in-QueueReport c = rw c.report_values.ensures (ap (λ (t : Tlv). tlv_values t c.args.next) (sym c.in-QueueReport.is))
