-- `message::message_at` meets its contract: checks 1 to 9, by whichever way, then the packages.
use mathlib.Core.Path.{◌≡◌, sym, ap, ◌∙◌}
use native.Mathlib.Omega.{arith}
use Rattle.rules.specs.Outcome.{good}
use Rattle.message.proofs.Fronts.{front-is, front-bad, entered, front_stopped}
use Rattle.message.specs.Answers.{front_run}
use Rattle.refusal.specs.Numbers.{outcome_of}
use Rattle.refusal.proofs.Numbers.{handed_on}
use Rattle.message.proofs.message_at.Goals as goal
use Rattle.message.proofs.message_at.Goals.{then-plain_at, else-plain_at+in_ok-run, Joined-plain_at}

pub returns-in_err-run : goal.returns-in_err-run
returns-in_err-run c = handed_on _ _ _ c.from_residual.ensures.1 (front_stopped _ _ (front-bad _ _ (c.in_err-run.ensures ∙ front-is _ _)))

-- checks 1 to 9 pass, of a plain message or of another
passing : (c : Joined-plain_at) → good c.if-plain_at.run ≡ front_run c.args.s.now c.args.at
passing c =
    elim c.if-plain_at.branch [
      | then-plain_at w ↦ ap good w.run-is ∙ sym (c.plain_at.ensures w.if-plain_at.true)
      | else-plain_at+in_ok-run w ↦ ap good w.run-is ∙ ap outcome_of (sym w.in_ok-run.was) ∙ w.checked_run.ensures ∙ front-is _ _
    ]

pub slice_bounds-checks_from_ten-count : goal.slice_bounds-checks_from_ten-count
slice_bounds-checks_from_ten-count c = (entered _ _ _ _ (passing (goal.at.slice_bounds-checks_from_ten-count c).Joined-plain_at) c.header_in-h.ensures).inside

pub slice_bounds-checks_from_ten-start : goal.slice_bounds-checks_from_ten-start
slice_bounds-checks_from_ten-start c = omega (arith, (entered _ _ _ _ (passing (goal.at.slice_bounds-checks_from_ten-start c).Joined-plain_at) c.header_in-h.ensures).inside)

pub checks_from_ten-requires : goal.checks_from_ten-requires
checks_from_ten-requires c = (entered _ _ _ _ (passing (goal.at.checks_from_ten-requires c).Joined-plain_at) c.header_in-h.ensures).opened

pub returns : goal.returns
returns c = (entered _ _ _ _ (passing (goal.at.returns c).Joined-plain_at) c.header_in-h.ensures).told c.checks_from_ten.ensures
