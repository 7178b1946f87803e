-- `sheet::read_sheet` meets its contract: in the loop the rows before row i are read.
use borrow.Author.Rules.{rules}
use mathlib.Core.Path.{refl, sym, ◌∙◌}
use native.Mathlib.Omega.{arith}
use Rattle.sheet.proofs.Reading.{start, next, stopped, ended, wrong-sized, told-bad}
use Rattle.sheet.proofs.read_sheet.Goals as goal

pub returns-then-wrong_size : goal.returns-then-wrong_size
returns-then-wrong_size c = rw c.refuse.ensures (told-bad _ (wrong-sized _ (sym c.wrong_size.ensures ∙ c.if-wrong_size.true)))

pub loop-i-init : goal.loop-i-init
loop-i-init c = rw c.no_row-rows.ensures (start _ (sym c.wrong_size.ensures ∙ c.if-wrong_size.false))

pub returns-then-not-first_fits : goal.returns-then-not-first_fits
returns-then-not-first_fits c =
    rw c.refuse-then-not-first_fits.ensures (told-bad _ (stopped _ _ _ c.loop-i.invariant (omega arith) (sym c.first_fits.ensures ∙ c.if-not-first_fits.true)))

pub loop-i-preserved : goal.loop-i-preserved
loop-i-preserved c =
    let fits = sym c.first_fits.ensures ∙ c.if-not-first_fits.false in
    rw c.row_at-row.ensures (next _ _ _ c.loop-i.invariant (omega arith) (record { below = λ k. (c.type_inv.s k).fits }) fits)

pub returns : goal.returns
returns c = ended _ _ _ c.loop-i.invariant _ refl (search rules) (search rules)
