-- `radio::level_of` meets its contract: missing, or a level.
use mathlib.Core.Path.{ap, ◌∙◌}
use mir.Facts.{to_z-of_z}
use lib.IntN.{ℤ}
use Rattle.radio.specs.Quotient.{quotient}
use Rattle.radio.proofs.Finding.{level_missing, level_there}
use Rattle.radio.proofs.level_of.Goals as goal

pub returns-then-z-eqminus128 : goal.returns-then-z-eqminus128
returns-then-z-eqminus128 c = level_missing _ c.ranges.z c.if-z-eqminus128.true

pub returns : goal.returns
returns c = level_there _ c.ranges.z c.if-z-eqminus128.false _ (c.whole.ensures ∙ ap (λ (z : ℤ). quotient z 1) (to_z-of_z c.ranges.z))
