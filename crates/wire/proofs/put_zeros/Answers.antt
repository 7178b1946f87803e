-- `wire::put_zeros` meets its contract: the run is cut at the end of the slice.
use mathlib.Core.Path.{◌∙◌}
use Rattle.wire.proofs.Stores.{zeros-fit}
use Rattle.wire.proofs.put_zeros.Goals as goal

pub returns-then-k-lt4 : goal.returns-then-k-lt4
returns-then-k-lt4 c =
    let a = c.args in
    c.clear_few.ensures ∙ zeros-fit a.out.now a.at a.n _ c.room-k.ensures

pub returns : goal.returns
returns c =
    let a = c.args in
    c.clear.ensures ∙ zeros-fit a.out.now a.at a.n _ c.room-k.ensures
