-- `message::span_from_ten` meets its contract: what is told of the message is told of its span.
use mathlib.Core.Path.{refl, sym, ap, ◌∙◌}
use Rattle.message.proofs.Messages.{no_cut, miscounted, whole, span-bad, span-good}
use Rattle.refusal.specs.Numbers.{outcome_of}
use Rattle.refusal.proofs.Numbers.{handed_on}
use Rattle.message.proofs.span_from_ten.Goals as goal

pub returns-then-miscounts : goal.returns-then-miscounts
returns-then-miscounts c = rw c.refuse.ensures (span-bad (miscounted _ _ _ c.requires _ _ c.payload_start-from.ensures.0 refl _ (ap outcome_of (sym c.in_ok-packages.was) ∙ c.packages_of.ensures) (sym c.miscounts.ensures ∙ c.if-miscounts.true)))

pub returns-in_err-packages : goal.returns-in_err-packages
returns-in_err-packages c = handed_on _ _ _ c.from_residual.ensures.1 (span-bad (no_cut _ _ _ c.requires _ _ c.payload_start-from.ensures.0 refl c.in_err-packages.ensures))

pub returns : goal.returns
returns c = span-good (whole _ _ _ c.requires _ _ c.payload_start-from.ensures.0 refl _ (ap outcome_of (sym c.in_ok-packages.was) ∙ c.packages_of.ensures) (sym c.miscounts.ensures ∙ c.if-miscounts.false))
