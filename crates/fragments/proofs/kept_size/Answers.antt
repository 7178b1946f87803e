-- `fragments::kept_size` meets its contract: the options before `i` are measured.
use native.Mathlib.Omega.{arith}
use Rattle.fragments.proofs.Keeping.{Kept, keep-next, measured-start, measured-next, measured-ended}
use Rattle.fragments.proofs.kept_size.Goals as goal
use Rattle.fragments.proofs.kept_size.Goals.{After-option_size-i}

-- a turn behind an option
on : (c : After-option_size-i) → Kept c.args.run.now c.loop-i.i c.option_size-i.result c.kept_here-m.result c.loop-i.invariant.done
on c = keep-next c.args.run.now c.loop-i.i c.loop-i.invariant.done c.loop-i.invariant.keeping (omega arith) _ _ c.option_size-i.ensures c.kept_here-m.ensures

pub loop-i-init : goal.loop-i-init
loop-i-init c = measured-start c.args.run.now c.requires

pub overflow_add-i : goal.overflow_add-i
overflow_add-i c = omega (arith, (on c).most)

pub overflow_add-n : goal.overflow_add-n
overflow_add-n c = let l = c.loop-i in omega (arith, (on c).most, (on c).less, l.invariant.long, l.invariant.keeping.few)

pub loop-i-smaller : goal.loop-i-smaller
loop-i-smaller c = omega (arith, (on c).least, (on c).most)

pub loop-i-preserved : goal.loop-i-preserved
loop-i-preserved c = let l = c.loop-i in measured-next c.args.run.now l.i l.n _ _ l.invariant (on c)

pub returns : goal.returns
returns c = let l = c.loop-i in measured-ended c.args.run.now l.i l.n l.invariant (omega arith)
