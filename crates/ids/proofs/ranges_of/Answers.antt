-- `ids::ranges_of` meets its contract: in the loop the first i ranges are there.
use Prim.Native.Nat.{◌<◌}
use mathlib.Core.Path.{sym, ◌∙◌}
use native.Mathlib.Numerals.{add-one}
use native.Mathlib.Omega.{arith}
use lib.ListN.{length, length-set}
use lib.Seq.{take_all, take-suc, take-suc-set}
use Rattle.ids.specs.Told.{ranges_in}
use Rattle.ids.specs.Parts.{no_ids}
use Rattle.ids.proofs.Ends.{many}
use Rattle.ids.proofs.ranges_of.Goals as goal

pub loop-i-preserved : goal.loop-i-preserved
loop-i-preserved c =
    let v = c.loop-i in
    let all = ranges_in 32 c.args.ends.now in
    let h : v.i < 32 = c.loop-i-test.true in
    let n : v.i < length all = omega (arith, h, many 32 c.args.ends.now) in
    (rw length-set v.invariant.0, rw (add-one v.i) (take-suc-set v.ranges v.i c.range_at.result (omega (arith, h, v.invariant.0)) ∙ rw (v.invariant.1, c.range_at.ensures) (sym (take-suc all v.i no_ids n))))

pub returns : goal.returns
returns c =
    let v = c.loop-i in
    let all = ranges_in 32 c.args.ends.now in
    sym (take_all v.i v.ranges (omega (arith, v.invariant.0))) ∙ v.invariant.1 ∙ take_all v.i all (omega (arith, many 32 c.args.ends.now))
