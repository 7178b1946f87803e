-- `burst::first_sixteen` meets its contract: the stores are the table's first bytes.
use mathlib.Core.Path.{◌∙◌}
use Rattle.rules.specs.Burst.{sequence_bytes}
use Rattle.burst.proofs.first_sixteen.Goals as goal

pub returns : goal.returns
unfolding sequence_bytes
returns c = c.put_part.ensures ∙ rw c.requires
