-- `message::checks_eight_and_nine` meets its contract: a law for each `return`.
use mathlib.Core.Path.{refl, ap, ◌∙◌}
use Rattle.message.proofs.Messages.{fragment, standard, fits}
use Rattle.refusal.specs.Numbers.{outcome_of}
use Rattle.message.proofs.checks_eight_and_nine.Goals as goal

pub returns-then-h-ne0 : goal.returns-then-h-ne0
returns-then-h-ne0 c = ap outcome_of c.refuse.ensures ∙ fragment _ _ c.if-h-ne0.true

pub returns-then-h-one_if_bytes : goal.returns-then-h-one_if_bytes
returns-then-h-one_if_bytes c = ap outcome_of c.refuse-then-h-one_if_bytes.ensures ∙ standard _ _ c.if-h-ne0.false _ _ c.payload_start-a.ensures.0 refl _ c.one_if_bytes.ensures c.if-h-one_if_bytes.true

pub returns : goal.returns
returns c = fits _ _ c.if-h-ne0.false _ _ c.payload_start-a.ensures.0 refl _ c.one_if_bytes.ensures c.if-h-one_if_bytes.false
