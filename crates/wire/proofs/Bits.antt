-- Bits in bytes: a bit that is set is set, and no other bit changes.
use Prim.Native.Nat.{ℕ, zero, suc, ◌+◌, ◌-◌, ◌*◌, ◌/◌, ◌%◌, ◌^◌, ◌≤◌, ◌<◌}
use mathlib.Core.Path.{◌≡◌, refl, sym, ap, ap₂, ◌∙◌}
use mathlib.Core.Bool.{Bool, true, false}
use mathlib.Core.List.{List}
use native.Mathlib.Nat.{add-mul-div_right, div-div-eq-div-mul, mul_assoc, mul_comm, add-zero, zero-mul, zero-div, pow-succ', mod-eq_of_lt, mod-lt, add-mul, one-mul}
use native.Mathlib.Omega.{arith}
use borrow.Author.Tests.{ltb-true, ltb-false, eqb-true, eqb-false}
use mir.Val.{bool_byte}
use lib.Dec.{ltb, eqb}
use lib.Bits.{bit_or, or_step, or_zero_r, or_block}
use lib.Pow.{pow_pos, pow-add, pow-lt, split}
use lib.ListN.{length, get_or, set, replicate, length-set}
use lib.Seq.{set_out, get_or-set_same, get_or-set_other, set-get_or}
use Rattle.rules.specs.Bytes.{at}
use Rattle.wire.specs.Bits.{bit_at, with_bit, with_bit_if, only_if}

-- v with the bit of weight d set
abbrev raise : ℕ → ℕ → ℕ
raise v d = v + (1 - v / d % 2) * d

raise-div : (v d : ℕ) → 0 < d → raise v d / d ≡ v / d + (1 - v / d % 2)
raise-div v d pos = add-mul-div_right v (1 - v / d % 2) pos

-- that bit is 1
raise-set : (v d : ℕ) → 0 < d → raise v d / d % 2 ≡ 1
raise-set v d pos = rw (raise-div v d pos) (omega arith)

-- above it nothing changes: the sum has no carry
raise-above : (v d m : ℕ) → 0 < d → raise v d / (d * (2 * m)) ≡ v / (d * (2 * m))
raise-above v d m pos =
    let e : (v / d + (1 - v / d % 2)) / 2 ≡ v / d / 2 = omega arith in
    rw (← div-div-eq-div-mul (raise v d) d (2 * m), raise-div v d pos, ← div-div-eq-div-mul (v / d + (1 - v / d % 2)) 2 m, e, div-div-eq-div-mul (v / d) 2 m, div-div-eq-div-mul v d (2 * m))

-- below it no bit changes
raise-below : (v w m a : ℕ) → 0 < w → (v + a * (w * (2 * m))) / w % 2 ≡ v / w % 2
raise-below v w m a pos =
    rw (mul_comm w (2 * m), ← mul_assoc a (2 * m) w, add-mul-div_right v (a * (2 * m)) pos, mul_comm 2 m, ← mul_assoc a m 2) (omega arith)

-- a power of two is a multiple of twice a smaller one
twice : (a b : ℕ) → a < b → 2 ^ b ≡ 2 ^ a * (2 * 2 ^ (b - a - 1))
twice a b h =
    let e : b ≡ a + suc (b - a - 1) = omega arith in
    ap (λ (n : ℕ). 2 ^ n) e ∙ pow-add 2 a (suc (b - a - 1)) ∙ ap (λ (n : ℕ). 2 ^ a * n) (pow-succ' 2 (b - a - 1))

raise-other : (v a b : ℕ) → (a ≡ b → ⊥) → raise v (2 ^ a) / 2 ^ b % 2 ≡ v / 2 ^ b % 2
raise-other v a b ne = go (ltb a b) refl
  where
    go : (t : Bool) → ltb a b ≡ t → raise v (2 ^ a) / 2 ^ b % 2 ≡ v / 2 ^ b % 2
    go true e = rw (twice a b (ltb-true _ _ e)) (ap (λ (n : ℕ). n % 2) (raise-above v (2 ^ a) (2 ^ (b - a - 1)) (pow_pos a)))
    go false e =
        let l : b < a = omega (arith, ltb-false a b e) in
        rw (twice b a l) (raise-below v (2 ^ b) (2 ^ (a - b - 1)) (1 - v / (2 ^ b * (2 * 2 ^ (a - b - 1))) % 2) (pow_pos b))

-- a bit is 0 or 1
pub bit-small : (s : List ℕ) (i : ℕ) → bit_at s i < 2
unfolding bit_at
bit-small s i = omega arith

zeros-at : (n i : ℕ) → get_or {A = ℕ} (replicate n 0) i 0 ≡ 0
zeros-at zero i = refl
zeros-at (suc n) zero = refl
zeros-at (suc n) (suc i) = zeros-at n i

-- no bit of zeros is set
pub bit-zeros : (n i : ℕ) → bit_at (replicate n 0) i ≡ 0
unfolding bit_at
bit-zeros n i = rw (zeros-at n (i / 8), zero-div)

-- the bit that is set is 1
pub bit-set : (s : List ℕ) (i : ℕ) → i / 8 < length s → bit_at (with_bit s i) i ≡ 1
unfolding bit_at with_bit
bit-set s i h = rw (get_or-set_same s (i / 8) (raise (at s (i / 8)) (2 ^ (i % 8))) 0 h) (raise-set (at s (i / 8)) (2 ^ (i % 8)) (pow_pos (i % 8)))

kept : (s : List ℕ) (k l a b : ℕ) → (l ≡ k → a ≡ b → ⊥) → at (set s k (raise (at s k) (2 ^ a))) l / 2 ^ b % 2 ≡ at s l / 2 ^ b % 2
kept s k l a b ne = go (eqb l k) (ltb k (length s)) refl refl
  where
    go : (t u : Bool) → eqb l k ≡ t → ltb k (length s) ≡ u → at (set s k (raise (at s k) (2 ^ a))) l / 2 ^ b % 2 ≡ at s l / 2 ^ b % 2
    go false u e f = rw (get_or-set_other s k l (raise (at s k) (2 ^ a)) 0 (eqb-false _ _ e))
    go true false e f = rw (set_out s k (raise (at s k) (2 ^ a)) (ltb-false _ _ f))
    go true true e f = rw (eqb-true l k e, get_or-set_same s k (raise (at s k) (2 ^ a)) 0 (ltb-true _ _ f)) (raise-other (at s k) a b (ne (eqb-true l k e)))

-- every other bit is as it was
pub bit_kept : (s : List ℕ) (i j : ℕ) → (i ≡ j → ⊥) → bit_at (with_bit s i) j ≡ bit_at s j
unfolding bit_at with_bit
bit_kept s i j ne = kept s (i / 8) (j / 8) (i % 8) (j % 8) (λ e f. ne (omega arith))

pub length-with : (s : List ℕ) (i : ℕ) (b : Bool) → length (with_bit_if s i b) ≡ length s
unfolding with_bit_if with_bit
length-with s i true = length-set s (i / 8) _
length-with s i false = refl

-- an odd number has its lowest bit set
or_one : (q : ℕ) → bit_or q 1 ≡ q + (1 - q % 2)
or_one q = or_step q 1 ∙ rw (or_zero_r (q / 2)) (omega arith)

-- to set a bit is to add it where it is not set
or_raises : (v k : ℕ) → bit_or v (2 ^ k) ≡ raise v (2 ^ k)
or_raises v k =
    let e : bit_or (v / 2 ^ k * 2 ^ k + v % 2 ^ k) (1 * 2 ^ k + 0) ≡ bit_or (v / 2 ^ k) 1 * 2 ^ k + bit_or (v % 2 ^ k) 0 = or_block k (v / 2 ^ k) 1 (v % 2 ^ k) 0 (mod-lt v (pow_pos k)) (pow_pos k) in
    let one : 1 * 2 ^ k + 0 ≡ 2 ^ k = omega arith in
    ap₂ bit_or (sym (split v k)) (sym one) ∙ e ∙ rw (or_one (v / 2 ^ k), or_zero_r (v % 2 ^ k), add-mul (v / 2 ^ k) (1 - v / 2 ^ k % 2) (2 ^ k)) (omega (arith, split v k))

-- what `raised` gives
pub raised_is : (v k : ℕ) (b : Bool) → k < 8 → bit_or v (bool_byte b * 2 ^ k % 256) ≡ v + only_if b (1 - v / 2 ^ k % 2) * 2 ^ k
raised_is v k true h = rw (one-mul, mod-eq_of_lt (pow-lt h)) (or_raises v k)
raised_is v k false h = rw (zero-mul, add-zero) (or_zero_r v)

-- the byte that is stored, and nothing behind the end
pub stored : (s : List ℕ) (i : ℕ) (b : Bool) {x : ℕ} → x ≡ at s (i / 8) + only_if b (1 - at s (i / 8) / 2 ^ (i % 8) % 2) * 2 ^ (i % 8) → set s (i / 8) x ≡ with_bit_if s i b
unfolding with_bit_if with_bit bit_at
stored s i true e = rw e
stored s i false e = rw (e, zero-mul, add-zero, set-get_or s (i / 8) 0)

pub nothing_stored : (s : List ℕ) (i : ℕ) (b : Bool) → length s ≤ i / 8 → s ≡ with_bit_if s i b
unfolding with_bit_if with_bit
nothing_stored s i true h = sym (set_out s (i / 8) _ h)
nothing_stored s i false h = refl
