-- `fragments::put_later` meets its contract: header, 0x86, two zero bytes and the payload, one behind the other.
use Rattle.fragments.proofs.Stores.{later-stored}
use Rattle.fragments.proofs.put_later.Goals as goal

pub returns : goal.returns
returns c = let a = c.args in later-stored a.out.now a.r a.bits a.offset a.from a.n c.requires.movable.behind c.requires.movable.inside c.put_front.ensures c.put_offset.ensures c.put_half.ensures c.copy_within.ensures.after
