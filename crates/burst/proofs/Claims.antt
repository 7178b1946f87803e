-- A promise allows one outcome alone: answers that tell the same, each with the buffer after it, are the same.
use Prim.Native.Nat.{ℕ}
use mathlib.Core.Path.{refl, sym, ap}
use mathlib.Core.List.{List}
use Rattle.std.specs.Prelude.{Result, Ok, Err}
use Rattle.rules.specs.Claims.{TellsApart}
use Rattle.rules.proofs.Apart.{beside}
use Rattle.refusal.specs.declared.Refusal.{Refusal}
use Rattle.refusal.proofs.Numbers.{number_positive, same_refusal}
use Rattle.burst.specs.Told.{numbers_randomized, told_randomized, numbers_opened, told_opened}

same_randomized : TellsApart numbers_randomized
same_randomized (Ok a) (Ok b) e = refl
same_randomized (Ok a) (Err q) e = absurd (number_positive q.why (sym (ap (λ r. r.number) e)))
same_randomized (Err r) (Ok b) e = absurd (number_positive r.why (ap (λ r. r.number) e))
same_randomized (Err r) (Err q) e = ap Err (same_refusal r q (ap (λ r. r.number) e) (ap (λ r. r.place) e))

same_opened : TellsApart numbers_opened
same_opened (Ok a) (Ok b) e = ap (λ r. Ok r.blocks) e
same_opened (Ok a) (Err q) e = absurd (number_positive q.why (sym (ap (λ r. r.number) e)))
same_opened (Err r) (Ok b) e = absurd (number_positive r.why (ap (λ r. r.number) e))
same_opened (Err r) (Err q) e = ap Err (same_refusal r q (ap (λ r. r.number) e) (ap (λ r. r.place) e))

pub tells-randomized : TellsApart (λ (x : Result (Unit {0}) Refusal × List ℕ). told_randomized x.0 x.1)
tells-randomized = beside numbers_randomized same_randomized

pub tells-opened : TellsApart (λ (x : Result ℕ Refusal × List ℕ). told_opened x.0 x.1)
tells-opened = beside numbers_opened same_opened
