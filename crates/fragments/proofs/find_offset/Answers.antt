-- `fragments::find_offset` meets its contract: the options before `i` are passed, none of them 0x86.
use mathlib.Core.Path.{◌∙◌}
use native.Mathlib.Omega.{arith}
use Rattle.fragments.proofs.Finding.{Onward, start, found, onward, ended}
use Rattle.fragments.proofs.find_offset.Goals as goal
use Rattle.fragments.proofs.find_offset.Goals.{After-option_size-i}

-- a turn behind an option
on : (c : After-option_size-i) → Onward c.args.run.now c.loop-i.i c.option_size-i.result
on c = onward c.args.run.now c.loop-i.i c.loop-i.invariant (omega arith) _ (λ z. c.if-byte_at.false (c.byte_at.ensures ∙ z)) c.option_size-i.ensures

pub loop-i-init : goal.loop-i-init
loop-i-init c = start c.args.run.now c.requires

pub returns-then-byte_at : goal.returns-then-byte_at
returns-then-byte_at c = found c.args.run.now c.loop-i.i c.loop-i.invariant (omega arith) (omega (arith, c.byte_at.ensures))

pub overflow_add-i : goal.overflow_add-i
overflow_add-i c = omega (arith, (on c).finding.inside)

pub loop-i-smaller : goal.loop-i-smaller
loop-i-smaller c = omega (arith, (on c).least, (on c).finding.inside)

pub loop-i-preserved : goal.loop-i-preserved
loop-i-preserved c = (on c).finding

pub returns : goal.returns
returns c = ended c.args.run.now c.loop-i.i c.loop-i.invariant (omega arith)
