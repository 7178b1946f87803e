-- `wire::copy_by` meets its contract: in the loop the bytes before `i` are stored. The last chunk begins among them or right behind them.
use mathlib.Core.Path.{◌≡◌}
use Prim.Native.Nat.{◌+◌, ◌-◌, ◌≤◌}
use lib.Seq.{sets}
use Rattle.rules.specs.Bytes.{part}
use Rattle.wire.proofs.copy_by.Given as goal

abbrev pub invariant-loop-i : goal.invariant-loop-i
invariant-loop-i g l = (l.i ≤ l.n) × (l.out ≡ sets l.initial.out l.at (part l.from (l.from + l.i) l.s))

abbrev pub decreases-loop-i : goal.decreases-loop-i
decreases-loop-i g l = l.n - l.i
