-- `purge::keep_unless` meets its contract: stored and counted, or neither.
use mathlib.Core.Path.{refl}
use Rattle.purge.proofs.keep_unless.Goals as goal

pub returns : goal.returns
returns c = rw c.if-granted.false (record { bytes = c.keep_package.ensures; left = refl })
