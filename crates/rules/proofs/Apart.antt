-- Answers that are told apart stay so beside the buffer after them.
use Prim.Native.Nat.{ℕ}
use mathlib.Core.Path.{ap, ap₂}
use mathlib.Core.List.{List}
use Rattle.rules.specs.Claims.{TellsApart}

pub beside : {A B : Type 0} (numbers : A → B) → TellsApart numbers → TellsApart {B = B × List ℕ} (λ (x : A × List ℕ). (numbers x.0, x.1))
beside {A} {B} numbers apart x y e =
    ap₂ (λ (a : A) (s : List ℕ). (a, s)) (apart x.0 y.0 (ap (λ (r : B × List ℕ). r.0) e)) (ap (λ (r : B × List ℕ). r.1) e)
