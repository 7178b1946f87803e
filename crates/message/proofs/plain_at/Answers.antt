-- `message::plain_at` meets its contract: what passes from its place on passes there.
use borrow.Author.Rules.{rules}
use Rattle.message.proofs.Fronts.{plain-there}
use Rattle.message.proofs.plain_at.Goals as goal

pub returns-then-s-gt65536 : goal.returns-then-s-gt65536
returns-then-s-gt65536 c = λ z. absurd (search rules)

pub returns-then-s-at : goal.returns-then-s-at
returns-then-s-at c = λ z. absurd (search rules)

pub returns : goal.returns
returns c = λ z. plain-there _ _ (search rules) (c.is_plain.ensures z)
