-- `radio::heartbeat_of` meets its contract: its one field.
use Rattle.radio.specs.Tlv.{heartbeat_of}
use Rattle.radio.proofs.heartbeat_of.Goals as goal

pub returns : goal.returns
unfolding heartbeat_of
returns c = rw c.half_at-timeout.ensures
