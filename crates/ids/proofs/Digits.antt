-- Digits at the start of a list, and the id that they are.
use Prim.Native.Nat.{ℕ, zero, suc, ◌+◌, ◌-◌, ◌≤◌}
use mathlib.Core.Path.{◌≡◌, refl, sym, ap, subst, ◌∙◌}
use mathlib.Core.Logic.{◌⊎◌, inl, inr}
use mathlib.Core.Bool.{Bool, true, false}
use mathlib.Core.List.{List, [], ◌∷◌, ◌++◌}
use native.Mathlib.Nat.{zero-add, suc-add}
use native.Mathlib.Omega.{arith}
use borrow.Author.Tests.{le-leb, leb-true, ne_eqb}
use lib.Dec.{leb}
use lib.ListN.{length}
use lib.Seq.{take-append_seam}
use Rattle.rules.specs.Outcome.{good, bad}
use Rattle.rules.specs.Bytes.{at}
use Rattle.rules.specs.Items.{All, all_nil, all_cons}
use Rattle.refusal.specs.Numbers.{TEXT}
use Rattle.rules.proofs.Outcomes.{pass, halt, both}
use Rattle.ids.specs.Line.{Digit, IsId, decimal, most_digits}
use Rattle.ids.specs.Reader.{is_digit, digits, id_at}

pub digit_yes : (x : ℕ) → Digit x → is_digit x ≡ true
digit_yes x d = rw (le-leb 0x30 x d.least, le-leb x 0x39 d.most)

pub digit_is : (x : ℕ) → is_digit x ≡ true → Digit x
digit_is x e = let (a, b) = both (leb 0x30 x) (leb x 0x39) e in record { least = leb-true _ _ a; most = leb-true _ _ b }

-- no digit is at the start of u
abbrev pub NoDigit : List ℕ → Type 0
NoDigit u = is_digit (at u 0) ≡ false

-- the k digits that were looked for are there, or u goes on with something else
abbrev pub Ends : ℕ → List ℕ → Type 0
Ends k u = (k ≡ 0) ⊎ NoDigit u

pub no_digits : (k : ℕ) (u : List ℕ) → Ends k u → digits k u ≡ 0
unfolding digits
no_digits zero u h = refl
no_digits (suc k) [] h = refl
no_digits (suc k) (x ∷ u) (inl e) = absurd (omega arith)
no_digits (suc k) (x ∷ u) (inr e) = rw (e, digits)

-- the digits d, in front of what does not go on with one more
module _ (m : ℕ) (u : List ℕ) (h : Ends m u) where
  one_more_lem : (x : ℕ) (d : List ℕ) → is_digit x ≡ true → digits (length d + m) (d ++ u) ≡ length d → digits (suc (length d + m)) (x ∷ (d ++ u)) ≡ suc (length d)
  unfolding digits
  one_more_lem x d t e = rw (t, digits) (ap suc e)

  pub digits_are : {d : List ℕ} → All Digit d → digits (length d + m) (d ++ u) ≡ length d
  digits_are all_nil = rw zero-add (no_digits m u h)
  digits_are (all_cons {a = x} {l = d} y r) = rw suc-add (one_more_lem x d (digit_yes x y) (digits_are r))

-- every list begins with its digits, k at most
pub record Split (k : ℕ) (s : List ℕ) : Type 0 where
  pub front : List ℕ
  pub back : List ℕ
  pub more : ℕ
  pub split : s ≡ front ++ back
  pub all : All Digit front
  pub most : k ≡ length front + more
  pub ends : Ends more back

pub splits : (k : ℕ) (s : List ℕ) → Split k s
splits zero s = record { front = []; back = s; more = 0; split = refl; all = all_nil; most = refl; ends = inl refl }
splits (suc k) [] = record { front = []; back = []; more = suc k; split = refl; all = all_nil; most = sym (zero-add (suc k)); ends = inr refl }
splits (suc k) (x ∷ s) = go (is_digit x) refl (splits k s)
  where
    go : (b : Bool) → is_digit x ≡ b → Split k s → Split (suc k) (x ∷ s)
    go false e r = record { front = []; back = x ∷ s; more = suc k; split = refl; all = all_nil; most = sym (zero-add (suc k)); ends = inr e }
    go true e r = record {
      front = x ∷ r.front;
      back = r.back;
      more = r.more;
      split = ap (λ (l : List ℕ). x ∷ l) r.split;
      all = all_cons (digit_is x e) r.all;
      most = rw (r.most, suc-add);
      ends = r.ends;
    }

-- an id in front of u: it has ten digits, or u does not go on with one
abbrev pub Behind : List ℕ → List ℕ → Type 0
Behind d u = (length d ≡ most_digits) ⊎ NoDigit u

behind-ends : (d u : List ℕ) → length d ≤ most_digits → Behind d u → Ends (most_digits - length d) u
behind-ends d u l (inl e) = inl (omega arith)
behind-ends d u l (inr e) = inr e

pub id-good : (p : ℕ) {d : List ℕ} (u : List ℕ) → IsId d → Behind d u → id_at p (d ++ u) ≡ good (decimal 0 d, length d)
unfolding id_at
id-good p {d} u i h =
    let z : most_digits ≡ length d + (most_digits - length d) = omega (arith, i.most) in
    let n : digits most_digits (d ++ u) ≡ length d = ap (λ (k : ℕ). digits k (d ++ u)) z ∙ digits_are (most_digits - length d) u (behind-ends d u i.most h) i.digits in
    rw (n, take-append_seam) (pass _ _ _ _ (ne_eqb (length d) 0 (λ e. omega (arith, i.least))) refl)

pub id-bad : (p : ℕ) (s : List ℕ) → NoDigit s → id_at p s ≡ bad TEXT p
unfolding id_at
id-bad p s h = rw (no_digits most_digits s (inr h)) (halt _ _ _ _ refl)

-- how the reading of an id goes
pub data IdView : List ℕ → Type 0 where
  no_id : {s : List ℕ} → NoDigit s → IdView s
  an_id : {d : List ℕ} (u : List ℕ) → IsId d → Behind d u → IdView (d ++ u)

pub id_view : (s : List ℕ) → IdView s
id_view s = let r = splits most_digits s in subst IdView (sym r.split) (go r.front r.back r.more r.all r.most r.ends)
  where
    go : (d u : List ℕ) (m : ℕ) → All Digit d → most_digits ≡ length d + m → Ends m u → IdView (d ++ u)
    go [] u m a e (inl z) = absurd (omega arith)
    go [] u m a e (inr z) = no_id z
    go (x ∷ d) u m a e (inl z) = an_id u (record { digits = a; least = omega arith; most = omega arith }) (inl (omega arith))
    go (x ∷ d) u m a e (inr z) = an_id u (record { digits = a; least = omega arith; most = omega arith }) (inr z)
