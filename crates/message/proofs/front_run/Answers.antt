-- `message::front_run` meets its contract: a plain message passes, and any other is checked.
use mathlib.Core.Path.{sym, ◌∙◌}
use Rattle.message.proofs.Fronts.{front-is}
use Rattle.refusal.proofs.Numbers.{handed_on}
use Rattle.message.proofs.front_run.Goals as goal

pub returns-then-plain_at : goal.returns-then-plain_at
returns-then-plain_at c = sym (c.plain_at.ensures c.if-plain_at.true)

pub returns-in_err-checked_run : goal.returns-in_err-checked_run
returns-in_err-checked_run c = handed_on _ _ _ c.from_residual.ensures.1 (c.in_err-checked_run.ensures ∙ front-is _ _)

pub returns : goal.returns
returns c = c.in_ok-checked_run.ensures ∙ front-is _ _
