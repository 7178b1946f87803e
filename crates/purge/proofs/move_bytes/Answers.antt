-- `purge::move_bytes` meets its contract: in the loop the bytes before `i` have been moved, and no byte that is still to be read has been stored to.
use mathlib.Core.Path.{◌≡◌}
use Prim.Native.Nat.{◌+◌}
use native.Mathlib.Omega.{arith}
use lib.ListN.{length}
use Rattle.rules.specs.Bytes.{part}
use Rattle.wire.proofs.Stores.{copied_none, length-is}
use Rattle.purge.proofs.Moves.{moved-byte}
use Rattle.purge.proofs.move_bytes.Goals as goal
use Rattle.purge.proofs.move_bytes.Goals.{At-loop-i}

kept : (c : At-loop-i) → length c.loop-i.s ≡ length c.args.s.now
kept c = length-is c.args.s.now c.args.to (part c.args.from (c.args.from + c.loop-i.i) c.args.s.now) c.loop-i.invariant

pub loop-i-init : goal.loop-i-init
loop-i-init c = copied_none c.args.s.now c.args.s.now c.args.to c.args.from

pub bounds-s-from : goal.bounds-s-from
bounds-s-from c = omega (arith, kept (goal.at.bounds-s-from c).At-loop-i)

pub bounds-s-to : goal.bounds-s-to
bounds-s-to c = omega (arith, kept (goal.at.bounds-s-to c).At-loop-i)

pub loop-i-preserved : goal.loop-i-preserved
loop-i-preserved c =
    let l = c.loop-i in
    rw l.invariant (moved-byte c.args.s.now c.args.to c.args.from l.i c.requires.0 (omega arith))

pub shape_of-s : goal.shape_of-s
shape_of-s c = kept (goal.at.shape_of-s c).At-loop-i

pub returns : goal.returns
returns c = let e : c.loop-i.i ≡ c.args.n = omega arith in rw e at c.loop-i.invariant
