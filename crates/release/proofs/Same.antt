-- A promise allows one outcome alone: what measuring and writing tell settles the answer, and the buffer.
use Prim.Native.Nat.{ℕ}
use mathlib.Core.Path.{sym, ap}
use mathlib.Core.List.{List}
use Rattle.rules.specs.Claims.{TellsApart}
use Rattle.rules.specs.Copy as rules
use Rattle.rules.proofs.Apart.{beside}
use Rattle.refusal.proofs.Numbers.{number_positive, same_refusal}
use Rattle.release.specs.declared.Totals.{Totals}
use Rattle.refusal.specs.declared.Refusal.{Refusal}
use Rattle.std.specs.Prelude.{Result, Ok, Err}
use Rattle.release.specs.Told.{numbers, told}

totals_in : rules.Answer → Totals
totals_in a = record { bytes = a.bytes; messages = a.messages; packages = a.packages }

pub same_numbers : TellsApart numbers
unfolding totals_in
same_numbers (Ok x) (Ok y) e = ap (λ (a : rules.Answer). Ok (totals_in a)) e
same_numbers (Ok x) (Err f) e = absurd (number_positive f.why (sym (ap (λ (a : rules.Answer). a.number) e)))
same_numbers (Err f) (Ok x) e = absurd (number_positive f.why (ap (λ (a : rules.Answer). a.number) e))
same_numbers (Err f) (Err g) e = ap Err (same_refusal f g (ap (λ (a : rules.Answer). a.number) e) (ap (λ (a : rules.Answer). a.place) e))

pub tells_apart : TellsApart (λ (x : Result Totals Refusal × List ℕ). told x.0 x.1)
tells_apart = beside numbers same_numbers
