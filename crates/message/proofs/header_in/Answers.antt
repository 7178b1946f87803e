-- `message::header_in` meets its contract: the header from its place on.
use mathlib.Core.Path.{◌∙◌}
use borrow.Author.Rules.{rules}
use Rattle.message.proofs.Fronts.{header-behind, header-there}
use Rattle.message.proofs.header_in.Goals as goal

pub returns-then-s-at : goal.returns-then-s-at
returns-then-s-at c = c.no_header.ensures ∙ header-behind _ _ _ (search rules)

pub returns : goal.returns
returns c = c.header_of.ensures ∙ header-there _ _ _
