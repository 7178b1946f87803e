-- `message::checks_one_to_six` meets its contract: a law for each `return`.
use mathlib.Core.Path.{refl, ap, ◌∙◌}
use borrow.Author.Rules.{rules}
use Rattle.message.proofs.Checks.{short, version, kind, low, odd, cut, time, sound}
use Rattle.refusal.specs.Numbers.{outcome_of}
use Rattle.message.proofs.checks_one_to_six.Goals as goal

pub returns-then-m-lt24 : goal.returns-then-m-lt24
returns-then-m-lt24 c = ap outcome_of c.refuse.ensures ∙ short _ _ _ (search rules)

pub returns-then-h-ne1 : goal.returns-then-h-ne1
returns-then-h-ne1 c = ap outcome_of c.refuse-then-h-ne1.ensures ∙ version _ _ _ (search rules) (search rules)

pub returns-then-h-ne0 : goal.returns-then-h-ne0
returns-then-h-ne0 c = ap outcome_of c.refuse-then-h-ne0.ensures ∙ kind _ _ _ (search rules) (search rules) (search rules)

pub returns-then-size-payload_start : goal.returns-then-size-payload_start
returns-then-size-payload_start c = ap outcome_of c.refuse-then-size-payload_start.ensures ∙ low _ _ _ _ _ refl c.payload_start.ensures.0 (search rules) (search rules) (search rules) (search rules)

pub returns-then-size-ne0 : goal.returns-then-size-ne0
returns-then-size-ne0 c = ap outcome_of c.refuse-then-size-ne0.ensures ∙ odd _ _ _ _ _ refl c.payload_start.ensures.0 (search rules) (search rules) (search rules) (search rules) (search rules)

pub returns-then-m-size : goal.returns-then-m-size
returns-then-m-size c = ap outcome_of c.refuse-then-m-size.ensures ∙ cut _ _ _ _ _ refl c.payload_start.ensures.0 (search rules) (search rules) (search rules) (search rules) (search rules) (search rules)

pub returns-then-h-gt999999999 : goal.returns-then-h-gt999999999
returns-then-h-gt999999999 c = ap outcome_of c.refuse-then-h-gt999999999.ensures ∙ time _ _ _ _ _ refl c.payload_start.ensures.0 (search rules) (search rules) (search rules) (search rules) (search rules) (search rules) (search rules)

pub returns : goal.returns
returns c = sound _ _ _ _ _ refl c.payload_start.ensures.0 (search rules) (search rules) (search rules) (search rules) (search rules) (search rules) (search rules)
