-- `message::check` meets its contract: in the loop the messages before `i` have passed.
use mathlib.Core.Path.{sym, ap, ◌∙◌}
use native.Mathlib.Omega.{arith}
use borrow.Author.Rules.{rules}
use Rattle.message.proofs.Messages.{Onward, start, next, stopped, ended, too_large}
use Rattle.refusal.specs.Numbers.{outcome_of}
use Rattle.refusal.proofs.Numbers.{handed_on}
use Rattle.message.proofs.check.Goals as goal
use Rattle.message.proofs.check.Goals.{In_ok-next}

pub returns-then-s-gt65536 : goal.returns-then-s-gt65536
returns-then-s-gt65536 c = rw c.refuse.ensures (too_large _ c.if-s-gt65536.true)

pub loop-i-init : goal.loop-i-init
loop-i-init c = start _

-- a turn behind a message
on : (c : In_ok-next) → Onward c.args.s.now c.loop-i.i c.loop-i.messages c.loop-i.packages c.in_ok-next.next c.in_ok-next.many
on c = next _ _ _ _ c.loop-i.invariant (search rules) c.loop-i-test.true (ap outcome_of (sym c.in_ok-next.was) ∙ c.span_at.ensures)

pub overflow_add-messages : goal.overflow_add-messages
overflow_add-messages c = omega (arith, (on c).checking.few, (on c).checking.inside)

pub overflow_add-packages : goal.overflow_add-packages
overflow_add-packages c = omega (arith, (on c).checking.few, (on c).checking.inside)

pub loop-i-smaller : goal.loop-i-smaller
loop-i-smaller c = omega (arith, (on c).less, (on c).checking.inside)

pub loop-i-preserved : goal.loop-i-preserved
loop-i-preserved c = (on c).checking

pub returns-in_err-next : goal.returns-in_err-next
returns-in_err-next c = handed_on _ _ _ c.from_residual.ensures.1 (stopped _ _ _ _ c.loop-i.invariant (search rules) c.loop-i-test.true c.in_err-next.ensures)

pub returns : goal.returns
returns c = ended _ _ _ _ c.loop-i.invariant (search rules) c.loop-i-test.false
