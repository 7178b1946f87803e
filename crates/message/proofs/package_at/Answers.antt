-- `message::package_at` meets its contract: LARGE, the end, or the package at the place.
use mathlib.Core.Path.{refl, sym, ◌∙◌}
use native.Mathlib.Omega.{arith}
use borrow.Author.Rules.{rules}
use Rattle.message.proofs.Pieces.{large, over, room, not_there, there}
use Rattle.message.proofs.package_at.Goals as goal

pub returns-then-s-gt65536 : goal.returns-then-s-gt65536
returns-then-s-gt65536 c = rw c.refuse.ensures (large _ _ c.if-s-gt65536.true)

pub returns-then-s-at : goal.returns-then-s-at
returns-then-s-at c = over _ _ (search rules) (search rules)

pub overflow_add-next : goal.overflow_add-next
overflow_add-next c = omega (arith, room c.args.s.now c.args.at (search rules) (search rules) _ refl _ (sym c.in-Some.is ∙ c.piece_here.ensures))

pub returns-in_default : goal.returns-in_default
returns-in_default c = rw c.refuse-in_default.ensures (not_there _ _ (search rules) (search rules) (sym c.in_default.is ∙ c.piece_here.ensures))

pub returns : goal.returns
returns c = there c.args.s.now c.args.at (search rules) (search rules) _ refl _ (sym c.in-Some.is ∙ c.piece_here.ensures) _ _ _ _ _ c.word_at.ensures c.half_at-length.ensures c.byte_at-status.ensures c.word_at-delta.ensures refl
