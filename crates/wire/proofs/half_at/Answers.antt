-- `wire::half_at` meets its contract: two bytes are a number.
use mathlib.Core.Path.{◌∙◌}
use Rattle.wire.proofs.Stores.{both}
use Rattle.wire.proofs.half_at.Goals as goal

pub returns : goal.returns
returns c = c.from_be_bytes.ensures ∙ both c.args.s.now c.args.k c.byte_at.ensures c.byte_behind.ensures
