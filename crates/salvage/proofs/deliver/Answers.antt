-- `salvage::deliver` meets its contract: what is between the stretches so far is stored.
use mathlib.Core.Path.{◌≡◌}
use native.Mathlib.Omega.{arith}
use lib.ListN.{length}
use Rattle.salvage.proofs.Delivering.{deliver_start, from-inside, deliver_bounds, deliver_next, deliver_end, reported-length, reported-next}
use Rattle.salvage.proofs.deliver.Goals as goal

pub loop-i-init : goal.loop-i-init
loop-i-init c = let w : length c.args.stretches ≡ 64 = omega arith in (c.requires.0, c.requires.1, w, deliver_start _ _ _ c.requires.2)

pub overflow_sub-n : goal.overflow_sub-n
overflow_sub-n c = let v = c.loop-i.invariant in (deliver_bounds _ _ _ _ _ _ _ v.3 _ (reported-next c.args.stretches _ v.2 v.1 c.loop-i.i c.loop-i-test.true)).0

pub overflow_add-from : goal.overflow_add-from
overflow_add-from c =
    let v = c.loop-i.invariant in
    let d = deliver_bounds _ _ _ _ _ _ _ v.3 _ (reported-next c.args.stretches _ v.2 v.1 c.loop-i.i c.loop-i-test.true) in
    omega (arith, d.1, v.0)

pub loop-i-preserved : goal.loop-i-preserved
loop-i-preserved c = let v = c.loop-i.invariant in (v.0, v.1, v.2, deliver_next _ _ _ _ _ _ _ v.3 _ (reported-next c.args.stretches _ v.2 v.1 c.loop-i.i c.loop-i-test.true) _ c.put_part.ensures)

pub overflow_sub-s : goal.overflow_sub-s
overflow_sub-s c = from-inside _ _ _ _ _ _ _ c.loop-i.invariant.3

pub returns : goal.returns
returns c = let v = c.loop-i.invariant in deliver_end _ _ _ _ _ _ _ v.3 (omega (arith, reported-length c.args.stretches c.args.count v.2 v.1)) _ c.put_part-2.ensures
