-- `sheet::fits` meets its contract: a law for each `return`.
use borrow.Author.Rules.{rules}
use mathlib.Core.Path.{◌∙◌, ap₂}
use lib.Dec.{ltb}
use Rattle.sheet.proofs.Reading.{messages-turned, packages-turned, start-long, end-long, in_order}
use Rattle.sheet.proofs.fits.Goals as goal

pub returns-then-row : goal.returns-then-row
returns-then-row c = messages-turned c.args.row c.if-row.true

pub returns-then-row-2 : goal.returns-then-row-2
returns-then-row-2 c = packages-turned c.args.row c.if-row.false c.if-row-2.true

pub returns-then-row-gt999999999 : goal.returns-then-row-gt999999999
returns-then-row-gt999999999 c = start-long c.args.row (search rules) (search rules) (search rules)

pub returns-then-row-gt999999999-2 : goal.returns-then-row-gt999999999-2
returns-then-row-gt999999999-2 c = end-long c.args.row (search rules) (search rules) (search rules) (search rules)

pub returns : goal.returns
returns c = ap₂ ltb c.nanos_of.ensures c.nanos_of-2.ensures ∙ in_order c.args.row (search rules) (search rules) (search rules) (search rules)
