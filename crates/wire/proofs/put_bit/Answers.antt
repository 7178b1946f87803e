-- `wire::put_bit` meets its contract: one byte is stored, and none behind the end.
use Rattle.wire.proofs.Bits.{stored, nothing_stored}
use Rattle.wire.proofs.put_bit.Goals as goal

pub returns-then-k-out : goal.returns-then-k-out
returns-then-k-out c = let a = c.args in stored a.out.now a.i a.b c.raised.ensures

pub returns-else-k-out : goal.returns-else-k-out
returns-else-k-out c = let a = c.args in nothing_stored a.out.now a.i a.b c.if-k-out.false
