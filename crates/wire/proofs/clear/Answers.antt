-- `wire::clear` meets its contract: in the loop the zeros before `i` are stored.
use Rattle.wire.proofs.Stores.{zeros-more}
use Rattle.wire.proofs.clear.Goals as goal

pub loop-i-preserved : goal.loop-i-preserved
loop-i-preserved c = rw c.loop-i.invariant (zeros-more c.args.out.now c.args.at c.loop-i.i)
