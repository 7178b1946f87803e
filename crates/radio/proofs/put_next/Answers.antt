-- `radio::put_next` meets its contract: the TLV at the place, stored there.
use Rattle.radio.proofs.Storing.{shown-here, moved}
use Rattle.radio.proofs.put_next.Goals as goal

pub put_first-requires : goal.put_first-requires
put_first-requires c = (shown-here c.args.run.now c.args.at _ c.in-Ok.ensures).1

pub returns-in-Ok : goal.returns-in-Ok
returns-in-Ok c = moved c.args.run.now c.args.at c.args.out.now _ _ _ c.size_of.ensures.0 c.in-Ok.ensures c.put_first.ensures
