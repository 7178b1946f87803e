-- `compose::flags_with` meets its contract: flag 7 exactly where there are packages.
use Rattle.compose.proofs.Whole.{flags-none, flags-some}
use borrow.Author.Rules.{rules}
use Rattle.compose.proofs.flags_with.Goals as goal

pub returns-then-payload-eq0 : goal.returns-then-payload-eq0
returns-then-payload-eq0 c = flags-none c.args.flags c.args.payload (search rules)

pub returns : goal.returns
returns c = flags-some c.args.flags c.args.payload (search rules)
