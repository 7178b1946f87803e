-- `ids::put_line` meets its contract: the line of the first i ranges is stored.
use mathlib.Core.Path.{◌≡◌, refl, ap, ◌∙◌}
use Prim.Native.Nat.{ℕ, ◌<◌}
use native.Mathlib.Nat.{zero-add}
use native.Mathlib.Omega.{arith}
use lib.Seq.{sets}
use Rattle.ids.specs.Told.{ranges_in}
use Rattle.ids.proofs.Ends.{many}
use Rattle.ids.proofs.Writing.{line, line_first, measuring-start, storing_measured, storing_next}
use Rattle.ids.proofs.put_line.Goals as goal

pub loop-i-init : goal.loop-i-init
loop-i-init c =
    let p = c.requires in
    let r = c.put_item-at.ensures in
    let m = measuring-start _ (many 32 _) _ ((rw c.range_at.ensures at r.1) ∙ zero-add _) (omega (arith, r.2)) in
    (p.0, p.1, p.2, m, refl, λ b e. e)

pub loop-i-preserved : goal.loop-i-preserved
loop-i-preserved c =
    let v = c.loop-i in
    let put = c.put_item-at-in-loop-i in
    let r = rw c.range_at-in-loop-i.ensures at put.ensures in
    let comma = c.put_byte in
    let l : v.i < 32 = omega (arith, v.invariant.1) in
    let m = storing_measured _ (many 32 _) _ _ _ l v.invariant.3 r.1 r.2 in (
      omega arith,
      v.invariant.1,
      v.invariant.2,
      m,
      put.auto.out ∙ comma.auto.out ∙ v.invariant.4,
      λ b e. storing_next _ (many 32 _) b _ _ _ _ _ l v.invariant.3 (v.invariant.5 b e) comma.ensures r.0,
    )

pub returns : goal.returns
returns c =
    let v = c.loop-i in
    let a = c.args in
    let e : v.i ≡ a.n = omega arith in
    let r = rw c.range_at.ensures at c.put_item-at.ensures.0 in
    v.invariant.5 _ (r ∙ rw (line_first (ranges_in 32 a.ends.now) (many 32 _))) ∙ ap (λ (k : ℕ). sets a.out.now 0 (line (ranges_in 32 a.ends.now) k)) e
