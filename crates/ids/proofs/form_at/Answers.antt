-- `ids::form_at` meets its contract: what is before `at` has good form, and what follows decides.
use borrow.Author.Rules.{rules}
use mathlib.Core.Path.{sym}
use native.Mathlib.Omega.{arith}
use Rattle.refusal.proofs.Numbers.{handed_on}
use Rattle.ids.proofs.Steps.{form_odd, form-bad, form-next, form-end}
use Rattle.ids.proofs.form_at.Goals as goal

pub returns-then-s-at-ne44 : goal.returns-then-s-at-ne44
returns-then-s-at-ne44 c = rw c.refuse.ensures (form_odd _ _ _ c.loop-at.invariant (search rules) c.if-s-at-ne44.true)

pub returns-in_err-item : goal.returns-in_err-item
returns-in_err-item c = handed_on _ _ _ c.from_residual.ensures.1 (form-bad _ _ _ c.loop-at.invariant (search rules) c.if-s-at-ne44.false (sym c.in_err-item.ensures))

pub overflow_add-at-in-loop-at-2 : goal.overflow_add-at-in-loop-at-2
overflow_add-at-in-loop-at-2 c = let n = form-next _ _ _ c.loop-at.invariant (search rules) c.if-s-at-ne44.false (sym c.in_ok-item.ensures) in omega (arith, n.1.inside)

pub loop-at-preserved : goal.loop-at-preserved
loop-at-preserved c = (form-next _ _ _ c.loop-at.invariant (search rules) c.if-s-at-ne44.false (sym c.in_ok-item.ensures)).1

pub returns : goal.returns
returns c = form-end _ _ _ c.loop-at.invariant (search rules)
