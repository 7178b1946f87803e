-- `fragments::put_front` meets its contract: the header of a message, with the fragment's flags stored over its own.
use Rattle.fragments.proofs.Stores.{front_put}
use Rattle.fragments.proofs.put_front.Goals as goal

pub returns : goal.returns
returns c =
    front_put c.args.out.now c.args.r c.args.words c.args.flags c.args.size c.requires.1 c.requires.3 c.put_header.ensures c.put_byte.ensures
