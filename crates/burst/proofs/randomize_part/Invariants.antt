-- `burst::randomize_part` meets its contract. The invariant of its loop: the part with its bytes from k on randomized is what the contract asks for.
use Prim.Native.Nat.{◌+◌}
use mathlib.Core.Path.{◌≡◌}
use Rattle.rules.specs.Burst.{randomized}
use Rattle.burst.proofs.Buffer.{left}
use Rattle.burst.proofs.randomize_part.Given as goal

abbrev pub invariant-loop-k : goal.invariant-loop-k
invariant-loop-k l = left (l.from + l.k) l.k l.part ≡ randomized l.from l.initial.part
