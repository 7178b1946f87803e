-- Ids that stand twice.
use Prim.Native.Nat.{ℕ, ◌+◌, ◌≤◌, ◌<◌}
use mathlib.Core.Path.{◌≡◌, refl, sym, ap, ◌∙◌}
use mathlib.Core.Bool.{Bool, true, false, ◌||◌}
use mathlib.Core.Logic.{⊎_elim}
use mathlib.Core.List.{List, [], ◌∷◌}
use native.Mathlib.Numerals.{add-one}
use native.Mathlib.Omega.{arith}
use borrow.Author.Tests.{ltb-false, le-ltb, lt-ltb, eqb-true, eqb-false, eq-eqb, ne_eqb}
use lib.Dec.{eqb, ltb}
use lib.ListN.{length, get_or, drop, drop_of_length-le}
use lib.Seq.{drop-cons}
use Rattle.std.specs.List.{list_any}
use Rattle.rules.specs.Items.{count}
use Rattle.rules.proofs.Outcomes.{neither}
use Rattle.numbered.specs.Quota.{some_twice}
use Rattle.numbered.proofs.Numbers.{count-cons}
use Rattle.numbered.proofs.Seeking.{count_same, count-other, count-one}

-- ---- whether x stands in a list

pub any_count : (x : ℕ) (l : List ℕ) → list_any (λ (y : ℕ). eqb y x) l ≡ ltb 0 (count x l)
unfolding count
any_count x [] = refl
any_count x (y ∷ l) =
    ⊎_elim (λ w. rw (eq-eqb y x (sym w.0)) (sym (lt-ltb 0 (count x (y ∷ l)) (omega (arith, count-cons x y l, w.1)))))
    (λ w. rw (ne_eqb y x (λ e. w.0 (sym e))) (any_count x l ∙ ap (ltb 0) (omega (arith, count-cons x y l, w.1))))
    (count-one x y)

-- ---- whether some id of those from place i on stands twice

module _ (ids : List ℕ) (i : ℕ) where
  pub twice-end : length ids ≤ i → some_twice (drop i ids) ≡ false
  unfolding some_twice
  twice-end l = ap some_twice (drop_of_length-le ids l)

  module _ (l : i < length ids) where
    twice-is : some_twice (drop i ids) ≡ (ltb 0 (count (get_or ids i 0) (drop (i + 1) ids)) || some_twice (drop (i + 1) ids))
    unfolding some_twice
    twice-is = ap some_twice (drop-cons ids i 0 l ∙ ap (λ (k : ℕ). get_or ids i 0 ∷ drop k ids) (sym (add-one i)))

    pub twice-hit : ltb 0 (count (get_or ids i 0) (drop (i + 1) ids)) ≡ true → some_twice (drop i ids) ≡ true
    twice-hit e = twice-is ∙ rw e

    pub twice-next : ltb 0 (count (get_or ids i 0) (drop (i + 1) ids)) ≡ false → some_twice (drop i ids) ≡ some_twice (drop (i + 1) ids)
    twice-next e = twice-is ∙ rw e

-- ---- none does exactly if each stands once at most

pub twice-once : (l : List ℕ) → some_twice l ≡ false → (x : ℕ) → count x l ≤ 1
unfolding some_twice count
twice-once [] e x = omega arith
twice-once (y ∷ l) e x = go (eqb x y) refl (twice-once l both.1 x)
  where
    both : (ltb 0 (count y l) ≡ false) × (some_twice l ≡ false)
    both = neither _ _ e

    go : (b : Bool) → eqb x y ≡ b → count x l ≤ 1 → count x (y ∷ l) ≤ 1
    go true t h =
        let z = eqb-true x y t in
        omega (arith, count-cons x y l, count_same x y z, ltb-false 0 (count y l) both.0, ap (λ (k : ℕ). count k l) z)
    go false t h = omega (arith, count-cons x y l, count-other x y (eqb-false x y t), h)

pub once-twice : (l : List ℕ) → ((x : ℕ) → count x l ≤ 1) → some_twice l ≡ false
unfolding some_twice
once-twice [] once = refl
once-twice (y ∷ l) once =
    rw (le-ltb 0 (count y l) (omega (arith, once y, count-cons y y l, count_same y y refl)))
    (once-twice l (λ x. omega (arith, once x, count-cons x y l)))
