-- What an answer hands over, told in another way: by its value, and by its refusal.
use Prim.Native.Nat.{ℕ, ◌-◌}
use mathlib.Core.Path.{◌≡◌}
use mathlib.Core.List.{List}
use Rattle.std.specs.Prelude.{Result, Ok, Err}
use Rattle.refusal.specs.Numbers.{number_of}
use Rattle.refusal.specs.declared.Refusal.{Refusal}
use Rattle.hibernaxo.specs.Told.{refused_at, values_told}

pub told_as : {A : Type 0} (f : A → List ℕ) (n : ℕ) (h : Result A Refusal → ℕ × List ℕ) → ((a : A) → ◌≡◌ {A = ℕ × List ℕ} (0, f a) (h (Ok a)))
    → ((r : Refusal) → ◌≡◌ {A = ℕ × List ℕ} (number_of r.why, refused_at r.place (n - 1)) (h (Err r))) → (x : Result A Refusal) → values_told f n x ≡ h x
told_as f n h e g (Ok a) = e a
told_as f n h e g (Err r) = g r
