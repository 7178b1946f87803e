-- `burst::randomize_all` meets its contract. The invariant of its loop: `at` is the end of whole periods, and the buffer with its bytes from there on randomized is what the contract asks for.
use Prim.Native.Nat.{◌-◌, ◌%◌, ◌≤◌}
use mathlib.Core.Path.{◌≡◌}
use lib.ListN.{length}
use Rattle.rules.specs.Burst.{randomized}
use Rattle.burst.proofs.Buffer.{left}
use Rattle.burst.proofs.randomize_all.Given as goal

abbrev pub invariant-loop-buf : goal.invariant-loop-buf
invariant-loop-buf l = (l.at ≤ length l.initial.buf) × (l.at % 255 ≡ 0) × (length l.buf ≡ length l.initial.buf) × (left l.at l.at l.buf ≡ randomized 0 l.initial.buf)

abbrev pub decreases-loop-buf : goal.decreases-loop-buf
decreases-loop-buf l = length l.initial.buf - l.at
