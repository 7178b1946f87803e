-- Measuring first and writing then: what is reported of a released list is reported of its copy, where the buffer has room.
use Prim.Native.Nat.{ℕ, ◌≤◌, ◌<◌}
use mathlib.Core.Path.{◌≡◌, refl, ap}
use mathlib.Core.List.{List}
use native.Mathlib.Omega.{arith}
use borrow.Author.Tests.{le-ltb, lt-ltb}
use lib.ListN.{length}
use Rattle.rules.specs.Outcome.{Outcome, good, bad, ◌>>=◌, ROOM}
use Rattle.rules.specs.Buffer.{fitted}
use Rattle.rules.specs.Copy.{Entry, refusal, copy_bytes, room_for, reported, filled, answered}
use Rattle.rules.proofs.Outcomes.{pass, halt, step, stop}
use Rattle.rules.proofs.Nevers.{Never}

pub room_for_lem : (buffer : List ℕ) (es : List Entry) → length (copy_bytes es) ≤ length buffer → room_for buffer es ≡ good es
unfolding room_for fitted
room_for_lem buffer es l = step _ _ (pass _ _ _ _ (le-ltb (length buffer) (length (copy_bytes es)) l) refl) refl

pub no_room_for : (buffer : List ℕ) (es : List Entry) → length buffer < length (copy_bytes es) → room_for buffer es ≡ bad ROOM (length (copy_bytes es))
unfolding room_for fitted
no_room_for buffer es l = stop _ _ (halt _ _ _ _ (lt-ltb (length buffer) (length (copy_bytes es)) l))

pub measured-roomless : (o : Outcome (List Entry)) → Never ROOM o → (reported o).number ≡ ROOM → ⊥
unfolding reported
measured-roomless (good es) v e = omega (arith, e)
measured-roomless (bad n p) v e = v.given p (ap (λ (x : ℕ). bad x p) e)

pub measured-enough : (o : Outcome (List Entry)) (buffer : List ℕ) → (reported o).bytes ≤ length buffer → reported (o >>= room_for buffer) ≡ reported o
unfolding reported ◌>>=◌
measured-enough (good es) buffer l = ap reported (room_for_lem buffer es l)
measured-enough (bad n p) buffer l = refl

pub measured-short : (o : Outcome (List Entry)) (buffer : List ℕ) → length buffer < (reported o).bytes → answered buffer (o >>= room_for buffer) ≡ (refusal ROOM (reported o).bytes, buffer)
unfolding reported filled answered ◌>>=◌
measured-short (good es) buffer l = ap (answered buffer) (no_room_for buffer es l)
measured-short (bad n p) buffer l = absurd (omega (arith, l))
