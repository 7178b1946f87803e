-- `message::count_said` meets its contract: in the loop nothing is said before `i`.
use mathlib.Core.Path.{sym, ◌∙◌}
use native.Mathlib.Omega.{arith}
use Rattle.message.proofs.Opts.{silent-start, silent-next, said_at, silent-end, least_by}
use Rattle.message.proofs.count_said.Goals as goal

pub loop-i-init : goal.loop-i-init
loop-i-init c = silent-start _

pub returns-then-byte_at : goal.returns-then-byte_at
returns-then-byte_at c = said_at _ _ c.loop-i.invariant c.loop-i-test.true _ c.word_at.ensures (sym c.byte_at.ensures ∙ c.if-byte_at.true)

pub overflow_add-i : goal.overflow_add-i
overflow_add-i c = omega (arith, c.option_step-i.ensures.1)

pub loop-i-smaller : goal.loop-i-smaller
loop-i-smaller c = omega (arith, least_by _ _ c.option_step-i.ensures.0)

pub loop-i-preserved : goal.loop-i-preserved
loop-i-preserved c = silent-next _ _ c.loop-i.invariant c.loop-i-test.true _ c.option_step-i.ensures.0 (λ z. c.if-byte_at.false (c.byte_at.ensures ∙ z))

pub returns : goal.returns
returns c = silent-end _ _ c.loop-i.invariant c.loop-i-test.false
