-- `purge::move_bytes` meets its contract: in the loop the bytes before `i` have been moved, and no byte that is still to be read has been stored to.
use mathlib.Core.Path.{◌≡◌}
use Prim.Native.Nat.{◌+◌}
use lib.Seq.{sets}
use Rattle.rules.specs.Bytes.{part}
use Rattle.purge.proofs.move_bytes.Given as goal

abbrev pub invariant-loop-i : goal.invariant-loop-i
invariant-loop-i l = l.s ≡ sets l.initial.s l.to (part l.from (l.from + l.i) l.initial.s)
