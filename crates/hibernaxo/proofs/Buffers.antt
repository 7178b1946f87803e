-- What was answered, with the buffer that was left.
use Prim.Native.Nat.{ℕ}
use mathlib.Core.Path.{◌≡◌, ap, ◌∙◌}
use mathlib.Core.List.{List}
use Rattle.hibernaxo.specs.Told.{with_buffer}

pub with-buffer : {A : Type 0} (values_of : A → ℕ × List ℕ) (a : A) (buffer : List ℕ) {r : ℕ} {values : List ℕ} {w : A × List ℕ}
    → ◌≡◌ {A = ℕ × List ℕ} (r, values) (values_of a) → (a, buffer) ≡ w → ◌≡◌ {A = ℕ × List ℕ × List ℕ} (r, values, buffer) (with_buffer values_of w)
with-buffer values_of a buffer e f = ap (λ (x : ℕ × List ℕ). (x.0, x.1, buffer)) e ∙ ap (with_buffer values_of) f
