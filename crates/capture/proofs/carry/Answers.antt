-- `capture::carry` meets its contract: the carry goes in at the low end, and what comes out has 16 bits.
use Rattle.capture.proofs.Fronts.{carry_is}
use borrow.Author.Rules.{rules}
use Rattle.capture.proofs.carry.Goals as goal

pub returns : goal.returns
returns c = carry_is c.args.n (search rules)
