-- `ids::order_of` meets its contract: no range before i is inverted, and i is at most 32.
use mathlib.Core.Path.{◌≡◌}
use lib.ListN.{length}
use Rattle.ids.specs.Told.{ranges_in}
use Rattle.ids.proofs.Ends.{many}
use Rattle.ids.proofs.Writing.{Ordering}
use Rattle.ids.proofs.order_of.Given as goal

abbrev pub invariant-loop-i : goal.invariant-loop-i
invariant-loop-i l = (length l.ends ≡ 64) × Ordering (ranges_in 32 l.ends) l.n (many 32 l.ends) l.i
