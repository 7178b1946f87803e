-- `wire::copy_few` meets its contract: in the loop the bytes before `i` are stored.
use native.Mathlib.Omega.{arith}
use Rattle.wire.proofs.Stores.{part-more}
use Rattle.wire.proofs.copy_few.Goals as goal

pub loop-i-preserved : goal.loop-i-preserved
loop-i-preserved c = let a = c.args in rw c.loop-i.invariant (part-more a.out.now a.s.now a.at a.from c.loop-i.i (omega arith))
