-- The ranges of a line's items: each fits, and none is the 33rd.
use Prim.Native.Nat.{ℕ, suc, ◌+◌, ◌≤◌, ◌<◌, ◌^◌}
use mathlib.Core.Path.{◌≡◌, refl, sym, ap, subst, ◌∙◌}
use mathlib.Core.Logic.{◌⊎◌, inl, inr, ⊎_elim}
use mathlib.Core.Bool.{Bool, true, false, not, ◌&&◌, ◌||◌}
use mathlib.Core.List.{List, [], ◌∷◌, ◌++◌, map}
use native.Mathlib.Nat.{add-zero}
use native.Mathlib.Omega.{arith}
use borrow.Author.Tests.{ltb-true, leb-true, leb-false, lt-ltb, le-leb, lt-leb}
use lib.Dec.{leb, ltb}
use lib.ListN.{length}
use Rattle.rules.specs.Outcome.{good, bad}
use Rattle.rules.specs.Items.{All, all_nil, all_cons}
use Rattle.refusal.specs.Numbers.{TEXT}
use Rattle.rules.proofs.Outcomes.{pass, passed, halt, fronted, front_of_lem, refused-at, refused-front, good≢bad, both, good_inj, stop_front}
use Rattle.ids.specs.Line.{Item}
use Rattle.ids.specs.Reader.{most_items, item_fits, ranges_of, Range}
use Rattle.ids.specs.Claims.{Fits, range_of}

pub fits-is : (i : Item) → item_fits i ≡ true → Fits i
unfolding item_fits
fits-is i e =
    let (a, c) = both (ltb i.first (2 ^ 32) && ltb i.last (2 ^ 32)) (leb i.first i.last) e in
    let (a, b) = both (ltb i.first (2 ^ 32)) (ltb i.last (2 ^ 32)) a in
    record { first = ltb-true _ _ a; last = ltb-true _ _ b; order = leb-true _ _ c }

pub fits_yes : (i : Item) → Fits i → item_fits i ≡ true
unfolding item_fits
fits_yes i f = rw (lt-ltb i.first (2 ^ 32) f.first, lt-ltb i.last (2 ^ 32) f.last, le-leb i.first i.last f.order)

pub fits_not : (i : Item) → item_fits i ≡ false → Fits i → ⊥
fits_not i e f = let z : true ≡ false = sym (fits_yes i f) ∙ e in let y : ◌≡◌ {A = ℕ} 0 1 = cc in omega arith

-- the test of an item with n before it
judged : (i : Item) (n : ℕ) → (not (item_fits i) || leb most_items n) ≡ false → Fits i × (n < most_items)
judged i n e = go (item_fits i) refl (leb most_items n) refl e
  where
    go : (b : Bool) → item_fits i ≡ b → (c : Bool) → leb most_items n ≡ c → (not b || c) ≡ false → Fits i × (n < most_items)
    go true f false l e = (fits-is i f, leb-false _ _ l)
    go true f true l e = absurd (omega (arith, let y : ◌≡◌ {A = ℕ} 0 1 = cc in y))
    go false f c l e = absurd (omega (arith, let y : ◌≡◌ {A = ℕ} 0 1 = cc in y))

faulted : (i : Item) (n : ℕ) → n ≤ most_items → (not (item_fits i) || leb most_items n) ≡ true → (Fits i → ⊥) ⊎ (n ≡ most_items)
faulted i n h e = go (item_fits i) refl (leb most_items n) refl e
  where
    go : (b : Bool) → item_fits i ≡ b → (c : Bool) → leb most_items n ≡ c → (not b || c) ≡ true → (Fits i → ⊥) ⊎ (n ≡ most_items)
    go false f c l e = inl (fits_not i f)
    go true f true l e = inr (omega (arith, leb-true most_items n l))
    go true f false l e = absurd (omega (arith, let y : ◌≡◌ {A = ℕ} 0 1 = cc in y))

pub record Kept (n : ℕ) (is : List Item) (rs : List Range) : Type 0 where
  pub fit : All Fits is
  pub few : n + length is ≤ most_items
  pub ranges : map range_of is ≡ rs

pub ranges-good : (n : ℕ) (is : List Item) (rs : List Range) → n ≤ most_items → ranges_of n is ≡ good rs → Kept n is rs
unfolding ranges_of
ranges-good n [] rs h e = record { fit = all_nil; few = omega arith; ranges = good_inj e }
ranges-good n (i ∷ is) rs h e =
    let (t, e) = passed _ _ _ _ e in
    let (l, g, m) = fronted _ _ e in
    more i n is l rs (judged i n t) m (ranges-good (suc n) is l (omega (arith, (judged i n t).1)) g)
  where
    more : (i : Item) (n : ℕ) (is : List Item) (l rs : List Range) → Fits i × (n < most_items) → range_of i ∷ l ≡ rs → Kept (suc n) is l → Kept n (i ∷ is) rs
    more i n is l rs j m k = record { fit = all_cons j.0 k.fit; few = omega (arith, k.few); ranges = ap (λ (z : List Range). range_of i ∷ z) k.ranges ∙ m }

pub ranges-complete : (n : ℕ) {is : List Item} → All Fits is → n + length is ≤ most_items → ranges_of n is ≡ good (map range_of is)
unfolding ranges_of
ranges-complete n all_nil h = refl
ranges-complete n (all_cons {a = i} {l = is} f r) h =
    let t : (not (item_fits i) || leb most_items n) ≡ false = rw (fits_yes i f, lt-leb most_items n (omega arith)) in
    pass _ _ _ _ t (front_of_lem _ _ (ranges-complete (suc n) r (omega arith)))

-- the first item at fault, with n items before these
pub record FaultyFrom (n : ℕ) (is : List Item) (p : ℕ) : Type 0 where
  pub before : List Item
  pub item : Item
  pub behind : List Item
  pub split : is ≡ before ++ item ∷ behind
  pub fit : All Fits before
  pub few : n + length before ≤ most_items
  pub fault : (Fits item → ⊥) ⊎ (n + length before ≡ most_items)
  pub place : item.place ≡ p

module _ (n : ℕ) (i : Item) (is : List Item) where
  fault-here : n ≤ most_items → (not (item_fits i) || leb most_items n) ≡ true → FaultyFrom n (i ∷ is) i.place
  fault-here h t = record { before = []; item = i; behind = is; split = refl; fit = all_nil; few = omega arith; fault = rw add-zero (faulted i n h t); place = refl }

  fault-behind : {p : ℕ} → Fits i → FaultyFrom (suc n) is p → FaultyFrom n (i ∷ is) p
  fault-behind f r = record {
    before = i ∷ r.before;
    item = r.item;
    behind = r.behind;
    split = ap (λ (l : List Item). i ∷ l) r.split;
    fit = all_cons f r.fit;
    few = omega (arith, r.few);
    fault = ⊎_elim (λ g. inl g) (λ g. inr (omega arith)) r.fault;
    place = r.place;
  }

pub ranges-bad : (n : ℕ) (is : List Item) {m p : ℕ} → n ≤ most_items → ranges_of n is ≡ bad m p → (TEXT ≡ m) × FaultyFrom n is p
unfolding ranges_of
ranges-bad n [] h e = absurd (good≢bad (sym e))
ranges-bad n (i ∷ is) {m} {p} h e = ⊎_elim
    (λ z. (z.1, subst (FaultyFrom n (i ∷ is)) z.2 (fault-here n i is h z.0)))
    (λ z. let j = judged i n z.0 in let r = ranges-bad (suc n) is (omega (arith, j.1)) (refused-front _ _ z.1) in (r.0, fault-behind n i is j.0 r.1))
    (refused-at _ _ _ _ e)

-- and the other way: an item at fault behind some that fit is where the ranges are refused
refusing : (i : Item) (n : ℕ) → (Fits i → ⊥) ⊎ (n ≡ most_items) → (not (item_fits i) || leb most_items n) ≡ true
refusing i n (inl f) = go (item_fits i) refl
  where
    go : (b : Bool) → item_fits i ≡ b → (not (item_fits i) || leb most_items n) ≡ true
    go true e = absurd (f (fits-is i e))
    go false e = rw e
refusing i n (inr e) = go (item_fits i)
  where
    go : (b : Bool) → (not b || leb most_items n) ≡ true
    go true = le-leb most_items n (omega arith)
    go false = refl

pub ranges-faulty : (n : ℕ) {before : List Item} (i : Item) (behind : List Item) → All Fits before → n + length before ≤ most_items → (Fits i → ⊥) ⊎ (n + length before ≡ most_items)
    → ranges_of n (before ++ i ∷ behind) ≡ bad TEXT i.place
unfolding ranges_of
ranges-faulty n i behind all_nil h f = halt _ _ _ _ (refusing i n (rw add-zero at f))
ranges-faulty n i behind (all_cons {a = j} {l = before} g r) h f =
    let t : (not (item_fits j) || leb most_items n) ≡ false = rw (fits_yes j g, lt-leb most_items n (omega arith)) in
    pass _ _ _ _ t (stop_front _ _ (ranges-faulty (suc n) i behind r (omega arith) (⊎_elim (λ z. inl z) (λ z. inr (omega arith)) f)))
