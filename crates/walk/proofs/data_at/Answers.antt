-- `walk::data_at` meets its contract: the part that is shown lies in the run.
use mathlib.Core.Path.{refl, sym, ap}
use Prim.Native.Nat.{ℕ, ◌+◌}
use native.Mathlib.Omega.{arith}
use Rattle.walk.proofs.Found.{there, over, refused}
use Rattle.message.proofs.Pieces.{inside}
use Rattle.walk.proofs.data_at.Goals as goal

pub slice_bounds-result-count : goal.slice_bounds-result-count
slice_bounds-result-count c =
    let w = inside _ _ _ (sym (rw c.in-Ok-Some.field-0-is at c.in-Ok-Some.ensures)) in
    omega (arith, w.from, w.to, w.least, w.next, w.most)

pub slice_bounds-result-start : goal.slice_bounds-result-start
slice_bounds-result-start c =
    let w = inside _ _ _ (sym (rw c.in-Ok-Some.field-0-is at c.in-Ok-Some.ensures)) in
    omega (arith, w.from, w.to, w.least, w.next, w.most)

pub slice_bounds-result-end : goal.slice_bounds-result-end
slice_bounds-result-end c =
    let w = inside _ _ _ (sym (rw c.in-Ok-Some.field-0-is at c.in-Ok-Some.ensures)) in
    omega (arith, w.from, w.to, w.least, w.next, w.most)

pub returns-in-Ok-Some : goal.returns-in-Ok-Some
returns-in-Ok-Some c =
    let w = there _ _ _ (rw c.in-Ok-Some.field-0-is at c.in-Ok-Some.ensures) in
    (w.shows, record { block = refl; offset = ap (λ (k : ℕ). k + c.args.s.ref_ptr.1) w.start })

pub returns-in-Ok-None : goal.returns-in-Ok-None
returns-in-Ok-None c =
    let w = over _ _ (rw c.in-Ok-None.field-0-is at c.in-Ok-None.ensures) in
    (w.shows, record { block = refl; offset = ap (λ (k : ℕ). k + c.args.s.ref_ptr.1) w.start })

pub returns-in-Err : goal.returns-in-Err
returns-in-Err c =
    let w = refused _ _ c.in-Err.ensures in
    (w.shows, record { block = refl; offset = ap (λ (k : ℕ). k + c.args.s.ref_ptr.1) w.start })
