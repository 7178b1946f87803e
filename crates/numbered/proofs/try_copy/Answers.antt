-- `numbered::try_copy` meets its contract: the ids or the sheet refused, or the copy under its rows.
use mathlib.Core.Path.{◌≡◌, sym, ap, subst, ◌∙◌}
use Prim.Native.Nat.{ℕ}
use lib.ListN.{length}
use Rattle.numbered.specs.Quota.{settled, shorter, most_in}
use Rattle.numbered.specs.Parts.{Most}
use Rattle.numbered.specs.Told.{state_of}
use Rattle.refusal.proofs.Numbers.{passed_on}
use Rattle.numbered.proofs.Whole.{min_is, most-is, shut}
use Rattle.numbered.proofs.try_copy.Goals as goal
use Rattle.numbered.proofs.try_copy.Goals.{After-most_in-most}

-- how many ids may be held
abbrev After : Type 0
After = After-most_in-most

most-eq : (c : After) → c.most_in-most.result ≡ most_in (shorter (length c.args.ids.now) (length c.args.next.now)) c.args.held
most-eq c = c.most_in-most.ensures ∙ ap (λ (k : ℕ). most_in k c.args.held) (c.min.ensures ∙ min_is _ _)

within : (c : After) → Most (shorter (length c.args.ids.now) (length c.args.next.now)) c.args.held c.most_in-most.result
within c =
    let a = c.args in
    subst (Most (shorter (length a.ids.now) (length a.next.now)) a.held) (sym (most-eq c)) (most-is (shorter (length a.ids.now) (length a.next.now)) a.held)

pub returns-in_err-end : goal.returns-in_err-end
returns-in_err-end c =
    let a = c.args in
    rw (passed_on _ _ c.from_residual.ensures.1) (shut a.input.now a.sheet.now a.quota a.ids.now a.next.now a.held a.out.now c.most_in-most.result (within (goal.at.returns-in_err-end c).After-most_in-most) a.measured _ c.in_err-end.ensures)
    ∙ ap (λ (k : ℕ). settled a.measured k a.input.now a.sheet.now a.quota (state_of a.ids.now a.next.now a.held) a.out.now) (most-eq (goal.at.returns-in_err-end c).After-most_in-most)
