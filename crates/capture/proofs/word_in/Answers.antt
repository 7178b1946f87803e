-- `capture::word_in` meets its contract: the four bytes as they stand, or turned round.
use mathlib.Core.Path.{◌∙◌}
use native.Mathlib.Omega.{arith}
use Rattle.capture.proofs.Tests.{word-big, word-little}
use borrow.Author.Rules.{rules}
use Rattle.capture.proofs.word_in.Goals as goal

pub returns-then-big : goal.returns-then-big
returns-then-big c = word-big _ _ _ c.word_at-w.ensures c.args.big (search rules)

pub returns : goal.returns
returns c = c.reverse.ensures ∙ word-little c.args.s.now _ (λ i. omega (arith, c.type_inv.s i)) _ c.word_at-w.ensures c.args.big (search rules)
