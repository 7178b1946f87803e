-- `wire::copy_few` meets its contract: in the loop the bytes before `i` are stored.
use mathlib.Core.Path.{◌≡◌}
use Prim.Native.Nat.{◌+◌}
use lib.Seq.{sets}
use Rattle.rules.specs.Bytes.{part}
use Rattle.wire.proofs.copy_few.Given as goal

abbrev pub invariant-loop-i : goal.invariant-loop-i
invariant-loop-i l = l.out ≡ sets l.initial.out l.at (part l.from (l.from + l.i) l.s)
