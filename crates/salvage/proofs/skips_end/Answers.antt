-- `salvage::skips_end` meets its contract. The invariant of its loop: the skips that are left, from `end` on, end where all of them do.
use mathlib.Core.Path.{sym, ◌∙◌}
use native.Mathlib.Omega.{arith}
use borrow.Author.Rules.{rules}
use Rattle.salvage.proofs.Skips.{first, goes_on, ends-here, ended}
use Rattle.salvage.proofs.skips_end.Goals as goal

pub loop-end-init : goal.loop-end-init
loop-end-init c = (omega (arith, c.skip_of.ensures), first _ _ (omega arith) ∙ rw c.skip_of.ensures)

pub returns-then-s-end-eq1 : goal.returns-then-s-end-eq1
returns-then-s-end-eq1 c =
    let l = c.loop-end in
    sym (l.invariant.1 ∙ ends-here _ _ (search rules) c.if-s-end-eq1.true)

pub loop-end-preserved : goal.loop-end-preserved
loop-end-preserved c =
    let l = c.loop-end in
    (omega (arith, c.skip_of-end.ensures), l.invariant.1 ∙ goes_on _ _ (search rules) c.if-s-end-eq1.false ∙ first _ _ l.invariant.0 ∙ rw c.skip_of-end.ensures)

pub returns : goal.returns
returns c =
    let l = c.loop-end in
    sym (l.invariant.1 ∙ ended _ _ (search rules))
