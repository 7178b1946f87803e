-- `purge::loses_last` meets its contract: it had one, and none is left.
use borrow.Author.Rules.{rules}
use Rattle.purge.proofs.Moving.{had_no, had_one}
use Rattle.purge.proofs.loses_last.Goals as goal

pub returns-then-had-eq0 : goal.returns-then-had-eq0
returns-then-had-eq0 c = had_no c.args.had c.args.left (search rules)

pub returns : goal.returns
returns c = had_one c.args.had c.args.left (search rules)
