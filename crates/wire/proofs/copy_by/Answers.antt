-- `wire::copy_by` meets its contract: in the loop the bytes before `i` are stored. The last chunk begins among them or right behind them.
use mathlib.Core.Path.{◌≡◌, ◌∙◌}
use Prim.Native.Nat.{◌+◌, ◌-◌}
use native.Mathlib.Omega.{arith}
use Rattle.wire.proofs.Stores.{part-over}
use Rattle.wire.proofs.copy_by.Goals as goal

pub loop-i-preserved : goal.loop-i-preserved
loop-i-preserved g c =
    let a = c.args in
    (omega arith, c.copy_chunk.ensures ∙ rw c.loop-i.invariant.1 (part-over a.out.now a.s.now a.at a.from c.loop-i.i c.loop-i.i g.row.SIZE (omega arith) (omega arith) (omega arith)))

pub returns : goal.returns
returns g c =
    let a = c.args in
    let e : a.n - g.row.SIZE + g.row.SIZE ≡ a.n = omega arith in
    c.copy_chunk-2.ensures ∙ rw c.loop-i.invariant.1 (rw e at (part-over a.out.now a.s.now a.at a.from c.loop-i.i (a.n - g.row.SIZE) g.row.SIZE (omega arith) (omega arith) (omega arith)))
