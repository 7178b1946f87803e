-- `purge::put_front` meets its contract: the counts are set, and the header is stored before them.
use mathlib.Core.Path.{refl}
use Rattle.purge.proofs.Headers.{front-stored}
use Rattle.purge.proofs.put_front.Goals as goal

pub returns : goal.returns
returns c =
    front-stored c.args.s.now c.args.to c.args.h c.args.left c.requires c.set_counts.ensures refl (rw c.record_of.ensures at c.put_header.ensures)
