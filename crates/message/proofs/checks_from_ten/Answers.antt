-- `message::checks_from_ten` meets its contract: a law for each `return`.
use mathlib.Core.Path.{refl, sym, ap, ◌∙◌}
use Rattle.message.proofs.Messages.{no_cut, miscounted, whole}
use Rattle.refusal.specs.Numbers.{outcome_of}
use Rattle.refusal.proofs.Numbers.{handed_on}
use Rattle.message.proofs.checks_from_ten.Goals as goal

pub returns-then-miscounts : goal.returns-then-miscounts
returns-then-miscounts c = rw c.refuse.ensures (miscounted _ _ _ c.requires _ _ c.payload_start-a.ensures.0 refl _ (ap outcome_of (sym c.in_ok-packages.was) ∙ c.packages_of.ensures) (sym c.miscounts.ensures ∙ c.if-miscounts.true))

pub returns-in_err-packages : goal.returns-in_err-packages
returns-in_err-packages c = handed_on _ _ _ c.from_residual.ensures.1 (no_cut _ _ _ c.requires _ _ c.payload_start-a.ensures.0 refl c.in_err-packages.ensures)

pub returns : goal.returns
returns c = whole _ _ _ c.requires _ _ c.payload_start-a.ensures.0 refl _ (ap outcome_of (sym c.in_ok-packages.was) ∙ c.packages_of.ensures) (sym c.miscounts.ensures ∙ c.if-miscounts.false)
