-- `fragments::put_kept` meets its contract: what is kept of the options before `i` is stored.
use native.Mathlib.Omega.{arith}
use Rattle.fragments.proofs.Keeping.{Kept, keep-next, storing_start, storing_next, storing_length, storing_ended}
use Rattle.fragments.proofs.put_kept.Goals as goal
use Rattle.fragments.proofs.put_kept.Goals.{After-option_size-i}

-- a turn behind an option
on : (c : After-option_size-i) → Kept c.args.run.now c.loop-i.i c.option_size-i.result c.kept_here-m.result c.loop-i.invariant.done
on c = keep-next c.args.run.now c.loop-i.i c.loop-i.invariant.done c.loop-i.invariant.keeping (omega arith) _ _ c.option_size-i.ensures c.kept_here-m.ensures

pub loop-i-init : goal.loop-i-init
loop-i-init c = storing_start c.args.run.now c.args.out.now c.args.at c.requires.whole_options

pub overflow_add-i : goal.overflow_add-i
overflow_add-i c = omega (arith, (on c).most)

pub overflow_add-k : goal.overflow_add-k
overflow_add-k c = let l = c.loop-i in omega (arith, (on c).most, (on c).less, l.invariant.place, l.invariant.keeping.few, c.requires.at_bound.0, c.requires.at_bound.1)

pub loop-i-smaller : goal.loop-i-smaller
loop-i-smaller c = omega (arith, (on c).least, (on c).most)

pub loop-i-preserved : goal.loop-i-preserved
loop-i-preserved c = let l = c.loop-i in let a = c.args in storing_next a.run.now a.out.now l.out a.at l.i l.k _ _ l.invariant (on c) c.put_part.ensures

pub shape_of-out : goal.shape_of-out
shape_of-out c = let l = c.loop-i in let a = c.args in storing_length a.run.now a.out.now l.out a.at l.i l.k l.invariant

pub returns : goal.returns
returns c = let l = c.loop-i in let a = c.args in storing_ended a.run.now a.out.now l.out a.at l.i l.k l.invariant (omega arith)
