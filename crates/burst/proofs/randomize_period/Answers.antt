-- `burst::randomize_period` meets its contract: its first 240 bytes, then those behind them.
use mathlib.Core.Path.{refl, ◌∙◌}
use native.Mathlib.Omega.{arith}
use borrow.Rule.Slice.PartMut.{put_mid}
use Rattle.burst.proofs.Buffer.{part-less, behind}
use Rattle.burst.proofs.randomize_period.Goals as goal

pub returns : goal.returns
returns c =
    let b = c.randomize_part-2 in
    let a = c.randomize_part in
    let s = c.args.part.now in
    behind 240 240 (put_mid 0 240 s a.new.part) b.new.part b.ensures
    ∙ part-less 0 0 240 240 s a.new.part refl refl (omega arith) a.ensures
