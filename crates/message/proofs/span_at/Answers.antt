-- `message::span_at` meets its contract: checks 1 to 9, by whichever way, then the packages.
use mathlib.Core.Path.{◌≡◌, refl, sym, ap, ◌∙◌}
use native.Mathlib.Omega.{arith}
use Rattle.rules.specs.Outcome.{good}
use Rattle.message.proofs.Fronts.{front-is, front-bad, entered, front_stopped}
use Rattle.message.proofs.Messages.{span-bad}
use Rattle.message.specs.Answers.{front_run, span_of}
use Rattle.refusal.specs.Numbers.{outcome_of}
use Rattle.message.proofs.span_at.Goals as goal
use Rattle.message.proofs.span_at.Goals.{then-plain_at, else-plain_at+in-Ok, Joined-plain_at}

pub returns-in-Err : goal.returns-in-Err
returns-in-Err c = span-bad (front_stopped _ _ (front-bad _ _ (ap outcome_of (sym c.in-Err.is) ∙ c.checked_run.ensures ∙ front-is _ _)))

-- checks 1 to 9 pass, of a plain message or of another
passing : (c : Joined-plain_at) → good c.if-plain_at.run ≡ front_run c.args.s.now c.args.at
passing c =
    elim c.if-plain_at.branch [
      | then-plain_at w ↦ ap good w.run-is ∙ sym (c.plain_at.ensures w.if-plain_at.true)
      | else-plain_at+in-Ok w ↦ ap good w.run-is ∙ ap outcome_of (sym w.in-Ok.is) ∙ w.checked_run.ensures ∙ front-is _ _
    ]

pub slice_bounds-span_from_ten-count : goal.slice_bounds-span_from_ten-count
slice_bounds-span_from_ten-count c = (entered _ _ _ _ (passing (goal.at.slice_bounds-span_from_ten-count c).Joined-plain_at) c.header_in-head.ensures).inside

pub slice_bounds-span_from_ten-start : goal.slice_bounds-span_from_ten-start
slice_bounds-span_from_ten-start c = omega (arith, (entered _ _ _ _ (passing (goal.at.slice_bounds-span_from_ten-start c).Joined-plain_at) c.header_in-head.ensures).inside)

pub span_from_ten-requires : goal.span_from_ten-requires
span_from_ten-requires c = (entered _ _ _ _ (passing (goal.at.span_from_ten-requires c).Joined-plain_at) c.header_in-head.ensures).opened

pub returns : goal.returns
returns c = c.span_from_ten.ensures ∙ ap span_of ((entered _ _ _ _ (passing (goal.at.returns c).Joined-plain_at) c.header_in-head.ensures).told refl)
