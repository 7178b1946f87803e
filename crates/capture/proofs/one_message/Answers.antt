-- `capture::one_message` meets its contract: a message that ends where the bytes end.
use Rattle.std.proofs.lemmas.Result.{MatchResult-weaker}
use Rattle.capture.proofs.Classing.{one-by}
use borrow.Author.Rules.{rules}
use Rattle.capture.proofs.one_message.Goals as goal

pub returns : goal.returns
returns c = one-by _ c.requires c.message_at.result c.is_ok_and.result c.message_at.ensures (MatchResult-weaker c.message_at.result c.is_ok_and.ensures (λ x p. search rules) (λ y q. q))
