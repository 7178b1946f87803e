-- `radio::put_heartbeat` meets its contract: two stores.
use Rattle.radio.proofs.Storing.{heartbeat_stored}
use Rattle.radio.proofs.put_heartbeat.Goals as goal

pub returns : goal.returns
returns c = heartbeat_stored _ _ c.put_half.ensures c.put_half-2.ensures
