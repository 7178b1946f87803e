-- `wire::copy_chunk` meets its contract: what is stored is what the array was filled with.
use native.Mathlib.Omega.{arith}
use lib.ListN.{replicate, length-replicate}
use Rattle.wire.proofs.Stores.{part_through}
use Rattle.wire.proofs.copy_chunk.Goals as goal

pub returns : goal.returns
returns g c =
    let a = c.args in
    part_through a.out.now a.s.now (replicate g.row.SIZE 0) a.at a.from g.row.SIZE c.requires.1 (simp length-replicate (omega arith)) c.copy_few.ensures c.copy_few-2.ensures
