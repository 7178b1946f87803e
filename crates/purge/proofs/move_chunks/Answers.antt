-- `purge::move_chunks` meets its contract: in the loop the bytes before `i` have been moved, and no byte that is still to be read has been stored to.
use mathlib.Core.Path.{◌≡◌, ◌∙◌}
use Prim.Native.Nat.{◌+◌}
use native.Mathlib.Omega.{arith}
use lib.ListN.{length}
use Rattle.rules.specs.Bytes.{part}
use Rattle.wire.proofs.Stores.{copied_none, length-is}
use Rattle.purge.proofs.Moves.{moved_on}
use Rattle.purge.proofs.move_chunks.Goals as goal
use Rattle.purge.proofs.move_chunks.Goals.{At-loop-i}

kept : (c : At-loop-i) → length c.loop-i.s ≡ length c.args.s.now
kept c = let a = c.args in length-is a.s.now a.to (part a.from (a.from + c.loop-i.i) a.s.now) c.loop-i.invariant.1

pub loop-i-init : goal.loop-i-init
loop-i-init c = let a = c.args in (omega arith, copied_none a.s.now a.s.now a.to a.from)

pub move_chunk-requires : goal.move_chunk-requires
move_chunk-requires c =
    (omega (arith, kept (goal.at.move_chunk-requires c).At-loop-i, c.requires.0, c.requires.1), omega (arith, kept (goal.at.move_chunk-requires c).At-loop-i, c.requires.1))

pub loop-i-preserved : goal.loop-i-preserved
loop-i-preserved c =
    (omega arith, c.move_chunk.ensures ∙ rw c.loop-i.invariant.1 (moved_on c.args.s.now c.args.to c.args.from c.loop-i.i 64 c.requires.0 (omega (arith, c.requires.1))))

pub shape_of-s : goal.shape_of-s
shape_of-s c = kept (goal.at.shape_of-s c).At-loop-i

pub returns : goal.returns
returns c = c.loop-i.invariant
