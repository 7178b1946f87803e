-- `wire::raised` meets its contract: to set a bit is to add it where it is not set.
use Rattle.wire.proofs.Bits.{raised_is}
use Rattle.wire.proofs.raised.Goals as goal

pub returns : goal.returns
returns c = raised_is c.args.v c.args.k c.args.b c.requires
