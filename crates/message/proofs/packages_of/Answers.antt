-- `message::packages_of` meets its contract: in the loop the packages before what is left are whole.
use mathlib.Core.Path.{sym, ap, ◌∙◌}
use Prim.Native.Nat.{◌≤◌}
use native.Mathlib.Omega.{arith}
use lib.ListN.{length}
use Rattle.message.specs.Answers.{piece_here}
use Rattle.message.proofs.Left.{gone, none-gone, left-all, left-long, more-gone, left-on}
use Rattle.message.proofs.Pieces.{Onward, start, next, stopped, ended}
use Rattle.message.proofs.packages_of.Goals as goal
use Rattle.message.proofs.packages_of.Goals.{In-Some}

pub loop-rest-init : goal.loop-rest-init
loop-rest-init c = (left-all _, rw (none-gone c.args.q.now) (start _ _))

pub overflow_sub-q : goal.overflow_sub-q
overflow_sub-q c = c.loop-rest.invariant.0.most

pub overflow_add-p : goal.overflow_add-p
overflow_add-p c = omega (arith, c.loop-rest.invariant.0.most)

pub returns-in_default : goal.returns-in_default
returns-in_default c = rw c.refuse.ensures (stopped _ _ _ _ c.loop-rest.invariant.1 (omega (arith, c.loop-rest-test.true, c.loop-rest.invariant.0.most)) (sym c.in_default.is ∙ c.piece_here.ensures ∙ ap piece_here c.loop-rest.invariant.0.is))

-- a turn behind a package, which is inside
on : (c : In-Some) → Onward c.args.p c.args.q.now (gone c.args.q.now c.loop-rest.rest.now) c.loop-rest.n c.in-Some.k
on c = next _ _ _ _ c.loop-rest.invariant.1 _ (omega (arith, c.loop-rest-test.true, c.loop-rest.invariant.0.most)) (sym c.in-Some.is ∙ c.piece_here.ensures ∙ ap piece_here c.loop-rest.invariant.0.is)

fit : (c : In-Some) → c.in-Some.k ≤ length c.loop-rest.rest.now
fit c = omega (arith, (on c).counting.inside, c.loop-rest.invariant.0.most)

pub slice_bounds-rest-count : goal.slice_bounds-rest-count
slice_bounds-rest-count c = fit c

pub slice_bounds-rest-start : goal.slice_bounds-rest-start
slice_bounds-rest-start c = fit c

pub overflow_add-n : goal.overflow_add-n
overflow_add-n c = omega (arith, (on (goal.at.overflow_add-n c).In-Some).counting.inside, (on (goal.at.overflow_add-n c).In-Some).counting.few)

pub loop-rest-smaller : goal.loop-rest-smaller
loop-rest-smaller c = omega (arith, (on (goal.at.loop-rest-smaller c).In-Some).least, fit (goal.at.loop-rest-smaller c).In-Some, left-long _ _ _ c.loop-rest.invariant.0 (fit (goal.at.loop-rest-smaller c).In-Some))

pub loop-rest-preserved : goal.loop-rest-preserved
loop-rest-preserved c = (left-on _ _ _ c.loop-rest.invariant.0 (fit (goal.at.loop-rest-preserved c).In-Some), rw (more-gone _ _ _ c.loop-rest.invariant.0 (fit (goal.at.loop-rest-preserved c).In-Some)) (on (goal.at.loop-rest-preserved c).In-Some).counting)

pub returns : goal.returns
returns c = ended _ _ _ _ c.loop-rest.invariant.1 (omega (arith, c.loop-rest-test.false))
