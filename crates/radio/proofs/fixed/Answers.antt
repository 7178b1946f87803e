-- `radio::fixed` meets its contract: by its type.
use Rattle.radio.specs.Tlv.{fixed_bytes}
use Rattle.radio.proofs.fixed.Goals as goal

pub returns-in-TxOp : goal.returns-in-TxOp
unfolding fixed_bytes
returns-in-TxOp c = rw (c.byte_at.ensures, c.in-TxOp.is)

pub returns-in-Heartbeat : goal.returns-in-Heartbeat
unfolding fixed_bytes
returns-in-Heartbeat c = rw c.in-Heartbeat.is

pub returns-in-LinkMetric : goal.returns-in-LinkMetric
unfolding fixed_bytes
returns-in-LinkMetric c = rw c.in-LinkMetric.is

pub returns-in-QueueReport : goal.returns-in-QueueReport
unfolding fixed_bytes
returns-in-QueueReport c = rw (c.byte_at-in-QueueReport.ensures, c.in-QueueReport.is)
