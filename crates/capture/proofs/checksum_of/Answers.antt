-- `capture::checksum_of` meets its contract: of the ten halves only three are not zero.
use mathlib.Core.Path.{refl}
use Rattle.capture.proofs.Fronts.{checksum-is}
use borrow.Author.Rules.{rules}
use Rattle.capture.proofs.checksum_of.Goals as goal

pub returns : goal.returns
returns c = checksum-is c.args.n _ _ _ (search rules) c.carry.ensures.0 c.carry-2.ensures.0 refl
