-- `burst::randomize_few` meets its contract: a law for each number of bytes.
use native.Mathlib.Omega.{arith}
use lib.ListN.{get_or, set, length-set}
use Rattle.rules.specs.Burst.{◌xor◌}
use Rattle.burst.proofs.Buffer.{few-none, few-one, few-two, few-three}
use Rattle.burst.proofs.randomize_few.Goals as goal

pub returns-then-part-lt1 : goal.returns-then-part-lt1
returns-then-part-lt1 c = few-none _ c.requires.table_value _ c.if-part-lt1.true

pub returns-then-part-lt2 : goal.returns-then-part-lt2
returns-then-part-lt2 c = few-one _ c.requires.table_value _ (omega (arith, length-set c.args.part.now 0 (get_or c.args.part.now 0 0 xor get_or c.args.table.now 0 0), c.if-part-lt2.true, c.if-part-lt1.false))

pub returns-then-part-lt3 : goal.returns-then-part-lt3
returns-then-part-lt3 c = few-two _ c.requires.table_value _ (omega (arith, length-set c.args.part.now 0 (get_or c.args.part.now 0 0 xor get_or c.args.table.now 0 0), length-set (set c.args.part.now 0 (get_or c.args.part.now 0 0 xor get_or c.args.table.now 0 0)) 1 (get_or (set c.args.part.now 0 (get_or c.args.part.now 0 0 xor get_or c.args.table.now 0 0)) 1 0 xor get_or c.args.table.now 1 0), c.if-part-lt3.true, c.if-part-lt2.false))

pub returns : goal.returns
returns c = few-three _ c.requires.table_value _ (omega (arith, length-set c.args.part.now 0 (get_or c.args.part.now 0 0 xor get_or c.args.table.now 0 0), length-set (set c.args.part.now 0 (get_or c.args.part.now 0 0 xor get_or c.args.table.now 0 0)) 1 (get_or (set c.args.part.now 0 (get_or c.args.part.now 0 0 xor get_or c.args.table.now 0 0)) 1 0 xor get_or c.args.table.now 1 0), c.if-part-lt3.false, c.requires.part_len_bound))
