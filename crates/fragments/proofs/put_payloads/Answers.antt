-- `fragments::put_payloads` meets its contract: the payloads before place `i` are stored.
use Prim.Native.Nat.{◌+◌, ◌*◌, ◌%◌}
use native.Mathlib.Omega.{arith}
use Rattle.fragments.proofs.Payloads.{Put, putting_start, putting_length, putting_ended, put_next, words-at, size-at}
use Rattle.fragments.proofs.put_payloads.Goals as goal
use Rattle.fragments.proofs.put_payloads.Goals.{After-word_at}

-- a turn behind a fragment
on : (c : After-word_at) → Put c.args.s.now c.args.out.now c.loop-i.out c.args.at c.loop-i.i c.loop-i.k (c.loop-i.i + (24 + 4 * (c.byte_at.result % 16))) (c.loop-i.i + c.word_at.result)
on c =
    put_next c.args.s.now c.args.out.now c.loop-i.out c.args.at c.loop-i.i c.loop-i.k (record { below = λ k. omega (arith, c.type_inv.s k) }) c.requires.at_bound.1 c.loop-i.invariant (omega arith) _ _
    (words-at c.args.s.now c.loop-i.i c.byte_at.ensures) (size-at c.args.s.now c.loop-i.i c.word_at.ensures)

pub loop-i-init : goal.loop-i-init
loop-i-init c = putting_start c.args.s.now c.args.out.now c.args.at c.requires.in_order.fragments c.requires.in_order.read

pub overflow_sub-to : goal.overflow_sub-to
overflow_sub-to c = omega (arith, (on (goal.at.overflow_sub-to c).After-word_at).start)

pub overflow_sub-k : goal.overflow_sub-k
overflow_sub-k c = omega (arith, (on (goal.at.overflow_sub-k c).After-word_at).start)

pub overflow_add-k : goal.overflow_add-k
overflow_add-k c = let l = c.loop-i in let k = on (goal.at.overflow_add-k c).After-word_at in omega (arith, k.short, k.most, k.less, l.invariant.place, l.invariant.few, c.requires.at_bound.0, c.requires.at_bound.1)

pub loop-i-smaller : goal.loop-i-smaller
loop-i-smaller c = let k = on (goal.at.loop-i-smaller c).After-word_at in omega (arith, k.less, k.most)

pub loop-i-preserved : goal.loop-i-preserved
loop-i-preserved c = (on (goal.at.loop-i-preserved c).After-word_at).on c.put_part.ensures

pub shape_of-out : goal.shape_of-out
shape_of-out c = let l = c.loop-i in let a = c.args in putting_length a.s.now a.out.now l.out a.at l.i l.k l.invariant

pub returns : goal.returns
returns c = let l = c.loop-i in let a = c.args in putting_ended a.s.now a.out.now l.out a.at l.i l.k l.invariant (omega arith)
