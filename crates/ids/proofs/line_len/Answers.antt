-- `ids::line_len` meets its contract: the first i ranges are measured.
use native.Mathlib.Omega.{arith}
use Rattle.ids.proofs.Ends.{many}
use Rattle.ids.proofs.Writing.{measuring-start, measuring-next}
use Rattle.ids.proofs.line_len.Goals as goal

pub loop-i-init : goal.loop-i-init
loop-i-init c =
    let p = c.requires in
    (p.0, p.1, p.2, measuring-start _ (many 32 _) _ (rw c.range_at.ensures at c.item_len-len.ensures.0) c.item_len-len.ensures.1)

pub loop-i-preserved : goal.loop-i-preserved
loop-i-preserved c =
    let v = c.loop-i in
    (omega arith, v.invariant.1, v.invariant.2, measuring-next _ (many 32 _) _ _ _ (omega (arith, v.invariant.1)) v.invariant.3 (rw c.range_at-in-loop-i.ensures at c.item_len.ensures.0) c.item_len.ensures.1)
