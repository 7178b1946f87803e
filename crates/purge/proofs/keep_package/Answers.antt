-- `purge::keep_package` meets its contract: moved down, its reserved byte and its padding zero.
use Rattle.purge.proofs.Moves.{package_kept}
use Rattle.purge.proofs.keep_package.Goals as goal

pub returns : goal.returns
returns c =
    package_kept c.args.s.now c.args.at c.args.to c.args.p c.requires.0 c.move_down.ensures c.put_byte.ensures c.put_zeros.ensures
