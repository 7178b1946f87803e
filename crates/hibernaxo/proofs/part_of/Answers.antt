-- `hibernaxo::part_of` meets its contract: in the loop the numbers before number i are there.
use Prim.Native.Nat.{ℕ}
use mathlib.Core.Path.{◌≡◌, ap, ◌∙◌}
use native.Mathlib.Omega.{arith}
use lib.ListN.{replicate}
use lib.Seq.{sets}
use Rattle.hibernaxo.specs.Told.{numbers_from}
use Rattle.hibernaxo.proofs.States.{from-none, part-next, part-all}
use Rattle.hibernaxo.proofs.part_of.Goals as goal

pub loop-i-init : goal.loop-i-init
loop-i-init c = (omega arith, c.requires, from-none (replicate {A = ℕ} 64 0) c.args.state.now c.args.at)

pub overflow_add-part : goal.overflow_add-part
overflow_add-part c = omega (arith, c.loop-i.invariant.0, c.loop-i.invariant.1, c.loop-i-test.true)

pub offset_bounds-state-at : goal.offset_bounds-state-at
offset_bounds-state-at c = omega (arith, c.loop-i.invariant.0, c.loop-i.invariant.1, c.loop-i-test.true)

pub bounds-state-at : goal.bounds-state-at
bounds-state-at c = omega (arith, c.loop-i.invariant.0, c.loop-i.invariant.1, c.loop-i-test.true)

pub loop-i-preserved : goal.loop-i-preserved
loop-i-preserved c =
    let v = c.loop-i in
    let a = c.args in
    (omega arith, v.invariant.1, rw v.invariant.2 (part-next (replicate {A = ℕ} 64 0) a.state.now a.at v.i))

pub returns : goal.returns
returns c =
    let v = c.loop-i in
    let a = c.args in
    let e : v.i ≡ 64 = omega (arith, v.invariant.0) in
    v.invariant.2 ∙ ap (λ (k : ℕ). sets (replicate {A = ℕ} 64 0) 0 (numbers_from k a.at a.state.now)) e ∙ part-all a.state.now a.at
