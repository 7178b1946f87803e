-- `capture::half_in` meets its contract: the two bytes as they stand, or turned round.
use native.Mathlib.Omega.{arith}
use Rattle.capture.proofs.Tests.{half-big, half-little}
use borrow.Author.Rules.{rules}
use Rattle.capture.proofs.half_in.Goals as goal

pub returns-then-big : goal.returns-then-big
returns-then-big c = half-big _ _ _ c.half_at-h.ensures c.args.big (search rules)

pub returns : goal.returns
returns c = half-little c.args.s.now _ (λ i. omega (arith, c.type_inv.s i)) _ c.half_at-h.ensures c.args.big (search rules)
