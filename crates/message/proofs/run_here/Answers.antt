-- `message::run_here` meets its contract: the tested numbers are those of the header.
use mathlib.Core.Path.{◌∙◌}
use borrow.Author.Rules.{rules}
use Rattle.message.proofs.Headers.{short-run, same_checks}
use Rattle.message.proofs.run_here.Goals as goal

pub returns-then-m-lt24 : goal.returns-then-m-lt24
returns-then-m-lt24 c = rw c.refuse.ensures (short-run _ _ (search rules))

pub returns : goal.returns
returns c = c.checks_one_to_seven.ensures ∙ same_checks _ _ _ c.tested_in-h.ensures
