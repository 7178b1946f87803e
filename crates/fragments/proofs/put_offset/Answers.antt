-- `fragments::put_offset` meets its contract: two bytes, and the offset's four.
use Rattle.fragments.proofs.Stores.{offset-stored}
use Rattle.fragments.proofs.put_offset.Goals as goal

pub returns : goal.returns
returns c = let a = c.args in offset-stored a.out.now a.at a.offset c.put_half.ensures c.put_word.ensures
