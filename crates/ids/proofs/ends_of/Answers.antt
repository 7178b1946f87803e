-- `ids::ends_of` meets its contract: in the loop the first i ranges are there by their ends.
use mathlib.Core.Path.{sym, ◌∙◌}
use Prim.Native.Nat.{◌<◌}
use native.Mathlib.Numerals.{add-one}
use native.Mathlib.Omega.{arith}
use lib.ListN.{length-set}
use lib.Seq.{take_all, take-suc}
use Rattle.ids.specs.Told.{ranges_in}
use Rattle.ids.specs.Parts.{no_ids}
use Rattle.ids.proofs.Ends.{many, ranges_more}
use Rattle.ids.proofs.ends_of.Goals as goal

pub loop-i-preserved : goal.loop-i-preserved
loop-i-preserved c =
    let v = c.loop-i in
    let h : v.i < 32 = omega arith in
    (v.invariant.0, rw (c.put_range.ensures, length-set, length-set) v.invariant.1, rw c.put_range.ensures (ranges_more v.i 32 v.ends _ _ h (omega (arith, v.invariant.1)) ∙ rw (v.invariant.2, add-one v.i) (sym (take-suc _ v.i no_ids (omega (arith, v.invariant.0))))))

pub returns : goal.returns
returns c =
    let v = c.loop-i in
    sym (take_all v.i (ranges_in 32 v.ends) (omega (arith, many 32 v.ends))) ∙ v.invariant.2 ∙ take_all v.i _ (omega (arith, v.invariant.0))
