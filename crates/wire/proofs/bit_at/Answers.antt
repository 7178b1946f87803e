-- `wire::bit_at` meets its contract: the bit is read out of its byte.
use Rattle.wire.specs.Bits.{bit_at}
use Rattle.wire.proofs.bit_at.Goals as goal

pub returns : goal.returns
unfolding bit_at
returns c = rw (c.bit_of.ensures, c.byte_at.ensures)
