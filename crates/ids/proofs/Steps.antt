-- The steps of the readers at a place of the line: an item, what follows it, and what is answered.
use Prim.Native.Nat.{ℕ, zero, suc, ◌+◌, ◌≤◌, ◌<◌}
use mathlib.Core.Path.{◌≡◌, refl, sym, ap, ◌∙◌}
use mathlib.Core.Logic.{◌⊎◌, inl, inr}
use mathlib.Core.Bool.{Bool, true, false}
use mathlib.Core.List.{List, [], ◌∷◌}
use native.Mathlib.Nat.{add_assoc}
use native.Mathlib.Numerals.{add-one}
use native.Mathlib.Omega.{arith}
use borrow.Author.Tests.{eqb-true, eqb-false, eq-eqb, ne_eqb, leb-true, leb-false}
use lib.Dec.{eqb, leb}
use lib.ListN.{length, take, drop, length-append, length-drop, drop_of_length-le}
use lib.Seq.{get_or-drop, drop-drop, drop-cons}
use Rattle.rules.specs.Outcome.{Outcome, good, bad, ◌>>=◌, ◌∷>◌}
use Rattle.rules.specs.Bytes.{at}
use Rattle.refusal.specs.Numbers.{TEXT}
use Rattle.rules.proofs.Outcomes.{pass, halt, step, stop, good_inj, bad_inj, good≢bad, stop_front}
use Rattle.ids.specs.Line.{comma, hyphen, decimal, Item}
use Rattle.ids.specs.Reader.{is_digit, digits, id_at, item_behind, item_at, list_at}
use Rattle.ids.specs.Parts.{rest_at, form_of}
use Rattle.ids.proofs.Items.{Found, Lost, item_view, item-none}
use Rattle.ids.proofs.Lists.{list-none, list-bad, list-alone, list_odd, list-more}

pub digits-most : (k : ℕ) (s : List ℕ) → (digits k s ≤ k) × (digits k s ≤ length s)
unfolding digits
digits-most zero s = (omega arith, omega arith)
digits-most (suc k) [] = (omega arith, omega arith)
digits-most (suc k) (x ∷ s) = go (is_digit x) refl (digits-most k s)
  where
    go : (b : Bool) → is_digit x ≡ b → (digits k s ≤ k) × (digits k s ≤ length s) → (digits (suc k) (x ∷ s) ≤ suc k) × (digits (suc k) (x ∷ s) ≤ suc (length s))
    go true e (a, b) = rw (e, digits) (omega arith, omega arith)
    go false e r = rw (e, digits) (omega arith, omega arith)

-- the byte that stands n behind place p
pub byte-behind : (s : List ℕ) (p n : ℕ) → at (drop p s) n ≡ at s (p + n)
byte-behind s p n = get_or-drop p s n 0

-- n digits at place p that say v
module _ (s : List ℕ) (p n v : ℕ) (en : n ≡ digits 10 (drop p s)) (ev : v ≡ decimal 0 (take n (drop p s))) where
  pub few-digits : n ≤ 10
  few-digits = omega (arith, (digits-most 10 (drop p s)).0)

  pub no_digit : n ≡ 0 → id_at p (drop p s) ≡ bad TEXT p
  unfolding id_at
  no_digit z = halt _ _ _ _ (rw (← en, z))

  pub some-digits : (n ≡ 0 → ⊥) → id_at p (drop p s) ≡ good (v, n)
  unfolding id_at
  some-digits z = rw (← en) (pass _ _ _ _ (ne_eqb n 0 z) (rw (← ev)))

  pub item_missing : n ≡ 0 → bad TEXT p ≡ item_at p (drop p s)
  unfolding item_at
  item_missing z = sym (stop _ _ (no_digit z))

  module _ (z : n ≡ 0 → ⊥) where
    pub item-one : (at s (p + n) ≡ hyphen → ⊥) → good (record { place = p; first = v; last = v }, n) ≡ item_at p (drop p s)
    unfolding item_at item_behind
    item-one h =
        let e : eqb (at (drop p s) n) hyphen ≡ false = rw (byte-behind s p n) (ne_eqb (at s (p + n)) hyphen h) in
        sym (step _ _ (some-digits z) (rw (e, item_behind)))

    module _ (h : at s (p + n) ≡ hyphen) where
      behind : {o : Outcome (ℕ × ℕ)} → id_at (p + n + 1) (drop (p + n + 1) s) ≡ o
          → item_at p (drop p s) ≡ (o >>= λ r. good (record { place = p; first = v; last = r.0 }, n + 1 + r.1))
      unfolding item_at item_behind
      behind {o} e =
          let t : eqb (at (drop p s) n) hyphen ≡ true = rw (byte-behind s p n) (eq-eqb (at s (p + n)) hyphen h) in
          let d : drop (n + 1) (drop p s) ≡ drop (p + n + 1) s = drop-drop (n + 1) p s ∙ rw (← add_assoc p n 1) in
          step _ _ (some-digits z) (rw (t, item_behind, d, e))

-- and m digits behind the hyphen that say w
module _ (s : List ℕ) (p n v : ℕ) (en : n ≡ digits 10 (drop p s)) (ev : v ≡ decimal 0 (take n (drop p s))) (z : n ≡ 0 → ⊥) (h : at s (p + n) ≡ hyphen)
    (m w : ℕ) (em : m ≡ digits 10 (drop (p + n + 1) s)) (ew : w ≡ decimal 0 (take m (drop (p + n + 1) s))) where
  pub item-half : m ≡ 0 → bad TEXT (p + n + 1) ≡ item_at p (drop p s)
  unfolding ◌>>=◌
  item-half y = sym (behind s p n v en ev z h (no_digit s (p + n + 1) m w em ew y))

  pub item-two : (m ≡ 0 → ⊥) → good (record { place = p; first = v; last = w }, n + 1 + m) ≡ item_at p (drop p s)
  unfolding ◌>>=◌
  item-two y = sym (behind s p n v en ev z h (some-digits s (p + n + 1) m w em ew y))

-- an item has a byte at least, and ends inside the line
pub item-size : (p : ℕ) (u : List ℕ) (i : Item) (n : ℕ) → item_at p u ≡ good (i, n) → (1 ≤ n) × (n ≤ length u)
item-size p u i n e = go (item_view p u)
  where
    go : Found p u ⊎ Lost p u → (1 ≤ n) × (n ≤ length u)
    go (inl f) =
        let q : ◌≡◌ {A = Outcome (Item × ℕ)} (good (f.item, length f.text)) (good (i, n)) = sym (f.read f.rest refl) ∙ sym (ap (item_at p) f.split) ∙ e in
        let l : length f.text ≡ n = ap (λ (r : Item × ℕ). r.1) (good_inj q) in
        (omega (arith, f.least), omega (arith, ap length f.split, length-append f.text f.rest))
    go (inr f) = absurd (good≢bad (sym (f.read f.rest refl) ∙ sym (ap (item_at p) f.split) ∙ e))

-- what follows an item
module _ (s : List ℕ) (q : ℕ) where
  pub rest-none : length s ≤ q → rest_at q (drop q s) ≡ good []
  unfolding rest_at
  rest-none l = rw (drop_of_length-le s l)

  module _ (l : q < length s) where
    pub rest_odd : (at s q ≡ comma → ⊥) → rest_at q (drop q s) ≡ bad TEXT q
    unfolding rest_at
    rest_odd h = rw (drop-cons s q 0 l) (halt _ _ _ _ (rw (ne_eqb (at s q) comma h)))

    pub rest-list : at s q ≡ comma → rest_at q (drop q s) ≡ list_at 0 (q + 1) (drop (q + 1) s)
    unfolding rest_at
    rest-list h = rw (drop-cons s q 0 l, add-one) (pass _ _ _ _ (rw (eq-eqb (at s q) comma h)) refl)

-- a list: its item, and what follows it
module _ (s : List ℕ) (p : ℕ) where
  pub list-broken : {m q : ℕ} → item_at p (drop p s) ≡ bad m q → list_at 0 p (drop p s) ≡ bad m q
  list-broken {m} {q} e = go (drop p s) e
    where
      go : (u : List ℕ) → item_at p u ≡ bad m q → list_at 0 p u ≡ bad m q
      go [] f = let (a, b) = bad_inj (sym (item-none p [] refl) ∙ f) in list-none p ∙ rw (a, b)
      go (x ∷ u) f = list-bad p (x ∷ u) (omega arith) f

-- an item of n bytes, and what follows it
module _ (s : List ℕ) (p : ℕ) (i : Item) (n : ℕ) (e : item_at p (drop p s) ≡ good (i, n)) where
  abbrev Then : Type 0
  Then = list_at 0 p (drop p s) ≡ (i ∷> rest_at (p + n) (drop (p + n) s))

  ends : length s ≤ p + n → length (drop p s) ≤ n → 1 ≤ length (drop p s) → Then
  unfolding ◌∷>◌
  ends l b m = list-alone p i n (drop p s) m b e ∙ rw (rest-none s (p + n) l)

  module _ (l : p + n < length s) (m : n < length (drop p s)) where
    goes_odd : eqb (at s (p + n)) comma ≡ false → Then
    goes_odd c = list_odd p i n (drop p s) m (rw (byte-behind s p n) c) e ∙ sym (stop_front i _ (rest_odd s (p + n) l (eqb-false _ _ c)))

    goes_on : eqb (at s (p + n)) comma ≡ true → Then
    goes_on c =
        let d : drop (n + 1) (drop p s) ≡ drop (p + n + 1) s = drop-drop (n + 1) p s ∙ rw (← add_assoc p n 1) in
        list-more p i n (drop p s) m (rw (byte-behind s p n) c) e ∙ rw (d, rest-list s (p + n) l (eqb-true _ _ c))

    goes : (b : Bool) → eqb (at s (p + n)) comma ≡ b → Then
    goes true c = goes_on c
    goes false c = goes_odd c

  within : (b : Bool) → leb (length s) (p + n) ≡ b → Then
  within true c = let (a, b) = item-size p (drop p s) i n e in let k = leb-true (length s) (p + n) c in ends k (omega (arith, length-drop p s)) (omega arith)
  within false c = let k = leb-false (length s) (p + n) c in goes k (omega (arith, length-drop p s)) (eqb (at s (p + n)) comma) refl

  pub list_then : Then
  list_then = within (leb (length s) (p + n)) refl

  pub item-inside : p ≤ length s → (1 ≤ n) × (p + n ≤ length s)
  item-inside h = let (a, b) = item-size p (drop p s) i n e in (a, omega (arith, length-drop p s))

-- the loop over what follows an item
pub form-front : (i : Item) (o : Outcome (List Item)) → form_of (i ∷> o) ≡ form_of o
unfolding form_of ◌∷>◌
form-front i (good is) = refl
form-front i (bad n q) = refl

pub record Formed (s : List ℕ) (from q : ℕ) : Type 0 where
  pub inside : q ≤ length s
  pub form : form_of (rest_at from (drop from s)) ≡ form_of (rest_at q (drop q s))

module _ (s : List ℕ) (from q : ℕ) (inv : Formed s from q) where
  pub form-end : length s ≤ q → good tt ≡ form_of (rest_at from (drop from s))
  unfolding form_of
  form-end l = sym (inv.form ∙ rw (rest-none s q l))

  module _ (l : q < length s) where
    pub form_odd : (at s q ≡ comma → ⊥) → bad TEXT q ≡ form_of (rest_at from (drop from s))
    unfolding form_of
    form_odd h = sym (inv.form ∙ rw (rest_odd s q l h))

    module _ (h : at s q ≡ comma) where
      pub form-bad : {n r : ℕ} → item_at (q + 1) (drop (q + 1) s) ≡ bad n r → bad n r ≡ form_of (rest_at from (drop from s))
      unfolding form_of
      form-bad e = sym (inv.form ∙ rw (rest-list s q l h, list-broken s (q + 1) e))

      pub form-next : {i : Item} {n : ℕ} → item_at (q + 1) (drop (q + 1) s) ≡ good (i, n) → (1 ≤ n) × Formed s from (q + 1 + n)
      form-next {i} {n} e =
          let (a, b) = item-inside s (q + 1) i n e (omega arith) in
          (a, record { inside = b; form = inv.form ∙ rw (rest-list s q l h, list_then s (q + 1) i n e) (form-front i _) })
