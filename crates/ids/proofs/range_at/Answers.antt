-- `ids::range_at` meets its contract: both ends are among the 64.
use borrow.Author.Rules.{rules}
use mathlib.Core.Path.{sym}
use Rattle.ids.proofs.Ends.{the_range}
use Rattle.ids.proofs.range_at.Goals as goal

pub returns : goal.returns
returns c = sym (the_range 32 _ _ _ (search rules))
