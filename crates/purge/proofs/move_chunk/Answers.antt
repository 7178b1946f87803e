-- `purge::move_chunk` meets its contract: the chunk is read whole, then stored whole.
use mathlib.Core.Path.{refl}
use lib.ListN.{replicate}
use Rattle.purge.proofs.Moves.{chunk-moved}
use Rattle.purge.proofs.move_chunk.Goals as goal

pub returns : goal.returns
returns c =
    chunk-moved c.args.s.now (replicate 64 0) c.args.to c.args.from 64 refl c.requires.1 c.requires.0 c.put_part.ensures c.put_part-2.ensures refl
