-- `wire::clear` meets its contract: in the loop the zeros before `i` are stored.
use mathlib.Core.Path.{◌≡◌}
use lib.Seq.{sets}
use lib.ListN.{replicate}
use Rattle.wire.proofs.clear.Given as goal

abbrev pub invariant-loop-i : goal.invariant-loop-i
invariant-loop-i l = l.out ≡ sets l.initial.out l.at (replicate l.i 0)
