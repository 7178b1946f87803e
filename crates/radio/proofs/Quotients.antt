-- A whole number below 2 ^ 53, divided by a power of two, is a double exactly; and it is what the division of the two doubles gives.
use mathlib.Core.Path.{◌≡◌, refl, sym, ap, ◌∙◌}
use mathlib.Core.Bool.{Bool, true, false, true≢false}
use Prim.Native.Nat.{ℕ, suc, ◌+◌, ◌-◌, ◌*◌, ◌^◌, ◌≤◌, ◌<◌}
use native.Mathlib.Nat.{lt_of_lt_of_le, one-mul, mul_assoc, mul_right_comm, mul-pos, eq_of_mul-eq-mul_right}
use native.Mathlib.Omega.{arith}
use lib.IntN.{ℤ, pos, negsuc, nat_abs}
use lib.Dec.{lit<}
use lib.Pow.{pow-add, pow_pos, pow_mono, shl_lt}
use lib.Ieee.{Float, nan, inf, fin, binary64, up, down, round, div, of_int}
use lib.Ieee.Fits.{down_pos}
use lib.Ieee.Exact.{HasValue, round_exact}
use lib.Ieee.Back.{round_whole}
use lib.Ieee.Scale.{round_same}
use Rattle.radio.specs.Quotient.{quotient, IsExactly}

-- n / 2 ^ k is a double exactly: 1074 is how far the format's digits go down
exact : (s : Bool) (n k : ℕ) → n < 2 ^ 53 → k ≤ 1074 → HasValue (round binary64 s n (2 ^ k)) s n (2 ^ k)
exact s n k h l =
    let e : 1074 - k + k ≡ 1074 = omega arith in
    let w : 53 + (1074 - k) ≤ 2098 = omega arith in
    round_exact binary64 s n (2 ^ k) n (1074 - k) (pow_pos k) h
    (lt_of_lt_of_le (shl_lt 53 (1074 - k) h) (pow_mono w))
    (sym (mul_assoc n (2 ^ (1074 - k)) (2 ^ k) ∙ ap (λ (x : ℕ). n * x) (sym (pow-add 2 (1074 - k) k) ∙ ap (λ (x : ℕ). 2 ^ x) e)))

pub quotient_exact : (z : ℤ) (k : ℕ) → nat_abs z < 2 ^ 53 → k ≤ 1074 → IsExactly (quotient z (2 ^ k)) z (2 ^ k)
unfolding quotient
quotient_exact (pos n) k h l = exact false n k h l
quotient_exact (negsuc n) k h l = exact true (suc n) k h l

-- a double is one quotient alone
value_same : (x : Float) (s t : Bool) (m n d : ℕ) → HasValue x s m d → HasValue x t n d → (s ≡ t) × (m ≡ n)
value_same nan s t m n d v w = elim v [ ]
value_same (inf _) s t m n d v w = elim v [ ]
value_same (fin r k e) s t m n d v w = (sym v.0 ∙ w.0, eq_of_mul-eq-mul_right (down e) (down_pos e) m n (sym v.1 ∙ w.1))

pub exact_same : (x : Float) (y z : ℤ) (d : ℕ) → IsExactly x y d → IsExactly x z d → y ≡ z
exact_same x (pos m) (pos n) d v w = ap pos (value_same x false false m n d v w).1
exact_same x (pos m) (negsuc n) d v w = absurd (true≢false (sym (value_same x false true m (suc n) d v w).0))
exact_same x (negsuc m) (pos n) d v w = absurd (true≢false (value_same x true false (suc m) n d v w).0)
exact_same x (negsuc m) (negsuc n) d v w = let e : suc m ≡ suc n = (value_same x true true (suc m) (suc n) d v w).1 in ap negsuc (omega arith)

-- a double of the value n, divided by the double 2 ^ k, is the double nearest to n / 2 ^ k
divided : (x : Float) (n k : ℕ) → HasValue x false n 1 → div binary64 x (fin false 1 (pos k)) ≡ round binary64 false n (2 ^ k)
unfolding div
divided nan n k v = elim v [ ]
divided (inf _) n k v = elim v [ ]
divided (fin true m e) n k v = absurd (true≢false v.0)
divided (fin false m e) n k v =
    round_same binary64 false (m * up e * 1) (1 * 2 ^ k * down e) n (2 ^ k) (mul-pos (mul-pos (lit< tt) (pow_pos k)) (down_pos e)) (pow_pos k)
    (ap (λ (x : ℕ). x * 2 ^ k) v.1 ∙ mul_right_comm n (down e) (2 ^ k) ∙ mul_assoc n (2 ^ k) (down e) ∙ ap (λ (x : ℕ). n * (x * down e)) (sym (one-mul (2 ^ k))))

-- what the code computes: a whole number as a double, and that divided by 2 ^ k
pub whole_is : (z : ℤ) → of_int binary64 z ≡ quotient z 1
unfolding of_int quotient
whole_is (pos n) = refl
whole_is (negsuc n) = refl

pub quotient_is : (n k : ℕ) → n ≤ 2 ^ 53 → div binary64 (of_int binary64 (pos n)) (fin false 1 (pos k)) ≡ quotient (pos n) (2 ^ k)
unfolding of_int quotient
quotient_is n k h = divided (round binary64 false n 1) n k (round_whole binary64 false n h)
