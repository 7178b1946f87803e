-- `radio::whole` meets its contract.
use borrow.Author.Rules.{rules}
use Rattle.radio.proofs.Quotients.{whole_is}
use Rattle.radio.proofs.whole.Goals as goal

-- src/lib.rt:138:1
pub returns : goal.returns
returns c = search (rules, whole_is)
