-- `radio::byte_of` meets its contract.
use mathlib.Core.Path.{ap, ◌∙◌}
use mir.Syntax.{w8}
use mir.Val.{of_z}
use mir.Facts.{to_z-of_z}
use Rattle.radio.proofs.Signs.{unsigned-is}
use Rattle.radio.proofs.byte_of.Goals as goal

pub returns : goal.returns
returns c = c.cast_unsigned.ensures ∙ ap (of_z w8) (to_z-of_z c.ranges.z) ∙ unsigned-is _ c.ranges.z
