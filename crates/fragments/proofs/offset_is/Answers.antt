-- `fragments::offset_is` meets its contract.
use mathlib.Core.Path.{◌∙◌}
use native.Mathlib.Omega.{arith}
use borrow.Author.Tests.{le-ltb}
use Rattle.fragments.proofs.Steps.{says-it, says_none}
use Rattle.fragments.proofs.offset_is.Goals as goal

pub returns-then-at-run : goal.returns-then-at-run
returns-then-at-run c = says-it c.args.run.now c.requires c.find_offset-at.ensures c.args.o (omega arith) c.word_at.ensures

pub returns-else-at-run : goal.returns-else-at-run
returns-else-at-run c = le-ltb _ _ (omega arith) ∙ says_none c.args.run.now c.requires c.find_offset-at.ensures c.args.o (omega arith)
