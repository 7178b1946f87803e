-- `sheet::count_rows` meets its contract: in the loop the rows before row i keep the rules.
use mathlib.Core.Path.{sym, ap, ◌∙◌}
use mathlib.Core.List.{[]}
use native.Mathlib.Omega.{arith}
use Rattle.refusal.specs.Numbers.{outcome_of}
use Rattle.rules.specs.Outcome.{good}
use Rattle.rules.proofs.Outcomes.{step, stop}
use Rattle.sheet.proofs.Reading.{through_start, through_more, through_end, row-bad, wrong-sized}
use Rattle.sheet.proofs.count_rows.Goals as goal

pub returns-then-wrong_size : goal.returns-then-wrong_size
returns-then-wrong_size c = ap outcome_of c.refuse.ensures ∙ sym (stop _ _ (wrong-sized _ (sym c.wrong_size.ensures ∙ c.if-wrong_size.true)))

pub loop-i-init : goal.loop-i-init
loop-i-init c = ([], through_start _ (sym c.wrong_size.ensures ∙ c.if-wrong_size.false))

pub returns-then-not-first_fits : goal.returns-then-not-first_fits
returns-then-not-first_fits c =
    let v = c.loop-i.invariant in
    ap outcome_of c.refuse-then-not-first_fits.ensures ∙ sym (stop _ _ (row-bad _ v.0 _ v.1 (omega arith) (sym c.first_fits.ensures ∙ c.if-not-first_fits.true)))

pub loop-i-preserved : goal.loop-i-preserved
loop-i-preserved c =
    let v = c.loop-i.invariant in
    (_, through_more _ v.0 _ v.1 (omega arith) (record { below = λ k. (c.type_inv.s k).fits }) (sym c.first_fits.ensures ∙ c.if-not-first_fits.false))

pub returns : goal.returns
returns c = let v = c.loop-i.invariant in sym (step _ _ (through_end _ v.0 _ v.1 (omega arith)) (ap good (omega (arith, v.1.place))))
