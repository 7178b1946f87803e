-- `compose::clean_both` meets its contract: of each run the packages before its index are clean, and those behind are as they were. What a loop behind another keeps is said
-- of whatever the first began with.
use native.Mathlib.Omega.{arith}
use borrow.Author.Tests.{ltb-true}
use Rattle.compose.proofs.Run.{lanes_start, lanes_length, lane_fits, one_lies, one_less, one-next, two_lies, two-less, two-next, lanes_ended}
use Rattle.compose.proofs.clean_both.Goals as goal

pub loop-i-init : goal.loop-i-init
loop-i-init c =
    lanes_start c.args.front.now c.args.back.now c.args.out.now

pub clean_next-i-requires : goal.clean_next-i-requires
clean_next-i-requires c =
    let l = c.loop-i in
    record { run_value = lane_fits c.args.front.now c.requires.cuts.0 l.i l.invariant.one (omega arith); at_in_bounds = (omega arith, omega (arith, c.requires.back_len_bound.0), one_lies c.args.front.now c.args.back.now c.args.out.now c.requires.back_len_bound.1 l.out l.i l.j l.invariant c.requires.cuts.0 (omega arith)) }

pub clean_next-j-requires : goal.clean_next-j-requires
clean_next-j-requires c =
    let l = c.loop-i in
    let w = one-next c.args.front.now c.args.back.now c.args.out.now c.requires.back_len_bound.1 l.out l.i l.j l.invariant c.requires.cuts.0 (omega arith) c.clean_next-i.ensures in record { run_value = lane_fits c.args.back.now c.requires.cuts.1 l.j l.invariant.two (omega (arith, ltb-true)); at_in_bounds = (omega (arith, ltb-true), omega (arith, c.requires.back_len_bound.0), two_lies c.args.front.now c.args.back.now c.args.out.now c.requires.back_len_bound.1 _ _ l.j w c.requires.cuts.1 (omega (arith, ltb-true))) }

pub loop-i-smaller : goal.loop-i-smaller
loop-i-smaller c =
    let l = c.loop-i in
    one_less c.args.front.now c.args.back.now c.args.out.now c.requires.back_len_bound.1 l.out l.i l.j l.invariant c.requires.cuts.0 (omega arith) c.clean_next-i.ensures

pub loop-i-preserved : goal.loop-i-preserved
loop-i-preserved c =
    let l = c.loop-i in
    let w = one-next c.args.front.now c.args.back.now c.args.out.now c.requires.back_len_bound.1 l.out l.i l.j l.invariant c.requires.cuts.0 (omega arith) c.clean_next-i.ensures in
    two-next c.args.front.now c.args.back.now c.args.out.now c.requires.back_len_bound.1 _ _ l.j w c.requires.cuts.1 (omega (arith, ltb-true)) c.clean_next-j.ensures

pub loop-i-2-init : goal.loop-i-2-init
loop-i-2-init c =
    λ b h w. w

pub clean_next-i-requires-in-loop-i-2 : goal.clean_next-i-requires-in-loop-i-2
clean_next-i-requires-in-loop-i-2 c =
    let k = c.loop-i-2 in
    let l = c.loop-i in
    let w = k.invariant c.args.out.now c.requires.back_len_bound.1 l.invariant in record { run_value = lane_fits c.args.front.now c.requires.cuts.0 k.i w.one (omega arith); at_in_bounds = (omega arith, omega (arith, c.requires.back_len_bound.0), one_lies c.args.front.now c.args.back.now c.args.out.now c.requires.back_len_bound.1 k.out k.i l.j w c.requires.cuts.0 (omega arith)) }

pub loop-i-2-smaller : goal.loop-i-2-smaller
loop-i-2-smaller c =
    let k = c.loop-i-2 in
    let l = c.loop-i in
    let w = k.invariant c.args.out.now c.requires.back_len_bound.1 l.invariant in
    one_less c.args.front.now c.args.back.now c.args.out.now c.requires.back_len_bound.1 k.out k.i l.j w c.requires.cuts.0 (omega arith) c.clean_next-i-in-loop-i-2.ensures

pub loop-i-2-preserved : goal.loop-i-2-preserved
loop-i-2-preserved c =
    let k = c.loop-i-2 in
    let l = c.loop-i in
    λ b h w. one-next c.args.front.now c.args.back.now b h k.out k.i l.j (k.invariant b h w) c.requires.cuts.0 (omega arith) c.clean_next-i-in-loop-i-2.ensures

pub loop-j-init : goal.loop-j-init
loop-j-init c =
    λ b h w. w

pub clean_next-j-requires-in-loop-j : goal.clean_next-j-requires-in-loop-j
clean_next-j-requires-in-loop-j c =
    let n = c.loop-j in
    let k = c.loop-i-2 in
    let l = c.loop-i in
    let w = n.invariant c.args.out.now c.requires.back_len_bound.1 (k.invariant c.args.out.now c.requires.back_len_bound.1 l.invariant) in record { run_value = lane_fits c.args.back.now c.requires.cuts.1 n.j w.two (omega arith); at_in_bounds = (omega arith, omega (arith, c.requires.back_len_bound.0), two_lies c.args.front.now c.args.back.now c.args.out.now c.requires.back_len_bound.1 n.out k.i n.j w c.requires.cuts.1 (omega arith)) }

pub loop-j-smaller : goal.loop-j-smaller
loop-j-smaller c =
    let n = c.loop-j in
    let k = c.loop-i-2 in
    let l = c.loop-i in
    let w = n.invariant c.args.out.now c.requires.back_len_bound.1 (k.invariant c.args.out.now c.requires.back_len_bound.1 l.invariant) in
    two-less c.args.front.now c.args.back.now c.args.out.now c.requires.back_len_bound.1 n.out k.i n.j w c.requires.cuts.1 (omega arith) c.clean_next-j-in-loop-j.ensures

pub loop-j-preserved : goal.loop-j-preserved
loop-j-preserved c =
    let n = c.loop-j in
    let k = c.loop-i-2 in
    λ b h w. two-next c.args.front.now c.args.back.now b h n.out k.i n.j (n.invariant b h w) c.requires.cuts.1 (omega arith) c.clean_next-j-in-loop-j.ensures

pub shape_of-out : goal.shape_of-out
shape_of-out c =
    let n = c.loop-j in
    let k = c.loop-i-2 in
    let l = c.loop-i in
    let w = n.invariant c.args.out.now c.requires.back_len_bound.1 (k.invariant c.args.out.now c.requires.back_len_bound.1 l.invariant) in
    lanes_length c.args.front.now c.args.back.now c.args.out.now n.out k.i n.j w

pub returns : goal.returns
returns c =
    let n = c.loop-j in
    let k = c.loop-i-2 in
    let l = c.loop-i in
    let w = n.invariant c.args.out.now c.requires.back_len_bound.1 (k.invariant c.args.out.now c.requires.back_len_bound.1 l.invariant) in
    lanes_ended c.args.front.now c.args.back.now c.args.out.now c.requires.back_len_bound.1 n.out k.i n.j w (omega arith) (omega arith)
