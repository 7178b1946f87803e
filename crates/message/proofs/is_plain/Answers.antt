-- `message::is_plain` meets its contract: where it says so, every check passes.
use mathlib.Core.Path.{sym, ap, ◌∙◌}
use borrow.Author.Rules.{rules}
use Rattle.message.proofs.Fronts.{plain}
use mathlib.Core.Bool.{not}
use Rattle.refusal.proofs.Numbers.{passes}
use Rattle.message.proofs.is_plain.Goals as goal

pub returns-then-m-lt24 : goal.returns-then-m-lt24
returns-then-m-lt24 c = λ z. absurd (search rules)

pub returns-then-h-ne0 : goal.returns-then-h-ne0
returns-then-h-ne0 c = λ z. absurd (search rules)

pub returns-then-is_err : goal.returns-then-is_err
returns-then-is_err c = λ z. absurd (search rules)

pub returns : goal.returns
returns c = λ z. plain _ _ _ _ c.tested_in-h.ensures (search rules) (passes _ (c.is_err.ensures.negation ∙ ap not c.if-is_err.false) ∙ c.checks_one_to_six.ensures) c.header_of.ensures (passes _ (sym c.is_ok.ensures.value ∙ z) ∙ c.checks_eight_and_nine.ensures)
