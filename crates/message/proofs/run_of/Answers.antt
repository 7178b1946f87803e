-- `message::run_of` meets its contract: in the loop the options before `i` are whole, and `seen` tells which kinds they have.
use mathlib.Core.Path.{sym, ◌∙◌}
use native.Mathlib.Omega.{arith}
use Rattle.message.proofs.Opts.{Onward, start, next, ended, stopped, all}
use Rattle.message.proofs.run_of.Goals as goal
use Rattle.message.proofs.run_of.Goals.{After-with_kind-seen}

pub loop-i-init : goal.loop-i-init
loop-i-init c = start _ _

-- a turn behind an option
on : (c : After-with_kind-seen) → Onward c.args.p c.args.o.now c.loop-i.i c.in-Takes.n c.with_kind-seen.result
on c = rw c.with_kind-seen.ensures (next _ _ _ _ c.loop-i.invariant c.loop-i-test.true _ _ c.byte_at.ensures (sym c.in-Takes.is ∙ c.option_next.ensures))

pub overflow_add-i : goal.overflow_add-i
overflow_add-i c = omega (arith, (on c).running.inside)

pub loop-i-smaller : goal.loop-i-smaller
loop-i-smaller c = omega (arith, (on c).least, (on c).running.inside)

pub loop-i-preserved : goal.loop-i-preserved
loop-i-preserved c = (on c).running

pub returns-in-Ends : goal.returns-in-Ends
returns-in-Ends c = ended _ _ _ _ c.loop-i.invariant c.loop-i-test.true (sym c.in-Ends.is ∙ c.option_next.ensures)

pub returns-in-Bad : goal.returns-in-Bad
returns-in-Bad c = rw c.refuse.ensures (stopped _ _ _ _ c.loop-i.invariant c.loop-i-test.true (sym c.in-Bad.is ∙ c.option_next.ensures))

pub returns : goal.returns
returns c = all _ _ _ _ c.loop-i.invariant c.loop-i-test.false
