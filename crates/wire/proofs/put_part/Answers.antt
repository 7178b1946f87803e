-- `wire::put_part` meets its contract: the part is cut at the ends of both slices.
use mathlib.Core.Path.{◌∙◌}
use Rattle.wire.proofs.Stores.{part-fits}
use Rattle.wire.proofs.put_part.Goals as goal

pub returns : goal.returns
returns c =
    let a = c.args in
    c.copy.ensures ∙ part-fits a.out.now a.s.now a.at a.from a.n _ _ c.room-m.ensures c.room-k.ensures
