-- `sheet::near_grants` meets its contract: one near row is asked alone.
use borrow.Author.Rules.{rules}
use mathlib.Core.Path.{◌∙◌}
use Rattle.sheet.proofs.Table.{ask_one}
use Rattle.sheet.proofs.near_grants.Goals as goal

pub returns-in-len4 : goal.returns-in-len4
returns-in-len4 c = c.within.ensures ∙ ask_one _ _ _ (search rules)
