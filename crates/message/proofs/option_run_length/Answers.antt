-- `message::option_run_length` meets its contract: LARGE, then the options from the front.
use mathlib.Core.Path.{refl, sym, ◌∙◌}
use borrow.Author.Tests.{lt-ltb, le-ltb}
use Rattle.rules.proofs.Outcomes.{pass, halt}
use Rattle.message.specs.Runs.{options_of}
use Rattle.message.proofs.option_run_length.Goals as goal

pub returns-then-o-gt65536 : goal.returns-then-o-gt65536
unfolding options_of
returns-then-o-gt65536 c = rw c.refuse.ensures (sym (halt _ _ _ _ (lt-ltb _ _ c.if-o-gt65536.true)))

pub returns : goal.returns
unfolding options_of
returns c = c.run_of.ensures ∙ sym (pass _ _ _ _ (le-ltb _ _ c.if-o-gt65536.false) refl)
