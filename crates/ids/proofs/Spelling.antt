-- A number in decimal: its digits say it, and none of them is a leading zero.
use Prim.Native.Nat.{ℕ, zero, suc, ◌+◌, ◌-◌, ◌*◌, ◌/◌, ◌%◌, ◌≤◌, ◌<◌, ◌^◌}
use mathlib.Core.Path.{◌≡◌, refl, sym, ap, ◌∙◌}
use mathlib.Core.Bool.{Bool, true, false}
use mathlib.Core.List.{List, [], ◌∷◌, ◌++◌}
use native.Mathlib.Nat.{add-zero, div-lt_iff_lt-mul, pow-suc}
use native.Mathlib.Omega.{arith}
use borrow.Author.Tests.{ltb-true, ltb-false, lt-ltb}
use lib.Dec.{ltb}
use lib.ListN.{length, length-append, get_or-append}
use Rattle.rules.specs.Bytes.{at}
use Rattle.rules.specs.Items.{All, all_nil, all_cons}
use Rattle.ids.specs.Line.{Digit, decimal}
use Rattle.ids.specs.Writer.{spelled}

pub decimal_snoc : (m : ℕ) (a : List ℕ) (x : ℕ) → decimal m (a ++ (x ∷ [])) ≡ decimal m a * 10 + (x - 0x30)
unfolding decimal
decimal_snoc m [] x = refl
decimal_snoc m (y ∷ a) x = decimal_snoc (m * 10 + (y - 0x30)) a x

-- the digits s of n, at most k
pub record Spelt (k n : ℕ) (s : List ℕ) : Type 0 where
  pub all : All Digit s
  pub least : 1 ≤ length s
  pub most : length s ≤ k
  pub says : decimal 0 s ≡ n
  pub zeroed : at s 0 ≡ 0x30 → n ≡ 0
  pub one : n < 10 → length s ≡ 1

all_snoc : {l : List ℕ} (x : ℕ) → All Digit l → Digit x → All Digit (l ++ (x ∷ []))
all_snoc x all_nil d = all_cons d all_nil
all_snoc x (all_cons e r) d = all_cons e (all_snoc x r d)

digit : (x : ℕ) → x < 10 → Digit (0x30 + x)
digit x h = record { least = omega arith; most = omega arith }

spelt_one : (k n : ℕ) → n < 10 → Spelt (suc k) n ((0x30 + n) ∷ [])
unfolding decimal
spelt_one k n h = record { all = all_cons (digit n h) all_nil; least = omega arith; most = omega arith; says = omega arith; zeroed = λ e. omega arith; one = λ e. refl }

spelt_more : (k n : ℕ) (s : List ℕ) → 10 ≤ n → Spelt (suc k) (n / 10) s → Spelt (suc (suc k)) n (s ++ ((0x30 + n % 10) ∷ []))
spelt_more k n s h r = record {
  all = all_snoc _ r.all (digit (n % 10) (omega arith));
  least = rw length-append (omega arith);
  most = rw length-append (omega (arith, r.most));
  says = decimal_snoc 0 s (0x30 + n % 10) ∙ rw r.says (omega arith);
  zeroed = λ e. absurd (omega (arith, r.zeroed (sym (get_or-append s ((0x30 + n % 10) ∷ []) 0 0 r.least) ∙ e)));
  one = λ e. absurd (omega arith);
}

pub spelt : (k n : ℕ) → n < 10 ^ suc k → Spelt (suc k) n (spelled (suc k) n)
unfolding spelled
spelt zero n h = rw (lt-ltb n 10 (omega arith), spelled) (spelt_one 0 n (omega arith))
spelt (suc k) n h = go (ltb n 10) refl (λ l. spelt k (n / 10) l)
  where
    go : (b : Bool) → ltb n 10 ≡ b → (n / 10 < 10 ^ suc k → Spelt (suc k) (n / 10) (spelled (suc k) (n / 10))) → Spelt (suc (suc k)) n (spelled (suc (suc k)) n)
    go true e r = rw (e, spelled) (spelt_one (suc k) n (ltb-true _ _ e))
    go false e r = rw (e, spelled) (spelt_more k n (spelled (suc k) (n / 10)) (ltb-false _ _ e) (r ((div-lt_iff_lt-mul (omega arith)).1 (rw (pow-suc 10 (suc k)) at h))))

-- one digit more may be asked for
pub spelled-more : (k n : ℕ) → n < 10 ^ suc k → spelled (suc (suc k)) n ≡ spelled (suc k) n
unfolding spelled
spelled-more zero n h = rw (lt-ltb n 10 (omega arith), spelled, spelled)
spelled-more (suc k) n h = go (ltb n 10) refl (λ l. spelled-more k (n / 10) l)
  where
    go : (b : Bool) → ltb n 10 ≡ b → (n / 10 < 10 ^ suc k → spelled (suc (suc k)) (n / 10) ≡ spelled (suc k) (n / 10)) → spelled (suc (suc (suc k))) n ≡ spelled (suc (suc k)) n
    go true e r = rw (e, spelled, spelled)
    go false e r = rw (e, spelled, spelled) (ap (λ (s : List ℕ). s ++ ((0x30 + n % 10) ∷ [])) (r ((div-lt_iff_lt-mul (omega arith)).1 (rw (pow-suc 10 (suc k)) at h))))

-- as many digits are enough as the number asks for
pub spelled-short : (m k n : ℕ) → n < 10 ^ suc k → length (spelled m n) ≤ suc k
unfolding spelled
spelled-short zero k n h = omega arith
spelled-short (suc m) zero n h = rw (lt-ltb n 10 (omega arith), spelled) (omega arith)
spelled-short (suc m) (suc k) n h = go (ltb n 10) refl (λ l. spelled-short m k (n / 10) l)
  where
    go : (b : Bool) → ltb n 10 ≡ b → (n / 10 < 10 ^ suc k → length (spelled m (n / 10)) ≤ suc k) → length (spelled (suc m) n) ≤ suc (suc k)
    go true e r = rw (e, spelled) (omega arith)
    go false e r = rw (e, spelled, length-append) (omega (arith, r ((div-lt_iff_lt-mul (omega arith)).1 (rw (pow-suc 10 (suc k)) at h))))

-- a number of so many digits is below the power of ten
pub decimal-below : (k n : ℕ) {d : List ℕ} → All Digit d → n < 10 ^ k → decimal n d < 10 ^ (k + length d)
unfolding decimal
decimal-below k n all_nil h = rw add-zero h
decimal-below k n (all_cons {a = x} {l = d} y r) h =
    let e : k + suc (length d) ≡ suc k + length d = omega arith in
    rw e (decimal-below (suc k) (n * 10 + (x - 0x30)) r (rw (pow-suc 10 k) (omega (arith, y.most))))
