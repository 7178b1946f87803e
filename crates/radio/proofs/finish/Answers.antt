-- `radio::finish` meets its contract: ROOM, or the message stored.
use Rattle.radio.proofs.Storing.{finish_roomless, finish_done}
use Rattle.radio.proofs.finish.Goals as goal

pub returns-then-out-n : goal.returns-then-out-n
returns-then-out-n c = rw c.refuse.ensures (finish_roomless c.args.h c.args.run.now c.args.out.now c.requires c.if-out-n.true)

pub returns : goal.returns
returns c = finish_done c.args.h c.args.run.now c.args.out.now c.requires c.if-out-n.false c.put_head.ensures c.put_run.ensures
