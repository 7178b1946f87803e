-- Searching for an id among ids that are all different.
use Prim.Native.Nat.{ℕ, zero, suc, ◌+◌, ◌-◌, ◌≤◌, ◌<◌}
use mathlib.Core.Path.{◌≡◌, refl, sym, ◌∙◌}
use mathlib.Core.Logic.{◌⊎◌, inl, inr, ⊎_elim}
use mathlib.Core.Bool.{Bool, true, false}
use mathlib.Core.List.{List, [], ◌∷◌, ◌++◌}
use native.Mathlib.Nat.{zero-add}
use native.Mathlib.Numerals.{add-one}
use native.Mathlib.Omega.{arith}
use lib.Dec.{eqb}
use lib.ListN.{length, get_or, take, drop, take-append-drop}
use lib.Seq.{take-suc, take_all}
use borrow.Author.Tests.{eqb-true, eqb-false}
use Rattle.rules.specs.Items.{count}
use Rattle.numbered.specs.Parts.{Place}

-- ---- how often a number stands in a list

pub count-append : (x : ℕ) (l m : List ℕ) → count x (l ++ m) ≡ count x l + count x m
unfolding count
count-append x [] m = sym (zero-add (count x m))
count-append x (y ∷ l) m = go (eqb x y) (count-append x l m)
  where
    go : (b : Bool) → count x (l ++ m) ≡ count x l + count x m
        → elim b [ true ↦ suc (count x (l ++ m)) | false ↦ count x (l ++ m) ] ≡ elim b [ true ↦ suc (count x l) | false ↦ count x l ] + count x m
    go true e = omega arith
    go false e = e

-- a list of one number has it once, and no other
abbrev pub Once : ℕ → ℕ → ℕ → Type 0
Once x y n = ((x ≡ y) × (n ≡ 1)) ⊎ ((x ≡ y → ⊥) × (n ≡ 0))

pub count-one : (x y : ℕ) → Once x y (count x (y ∷ []))
unfolding count
count-one x y = go (eqb x y) refl
  where
    go : (b : Bool) → eqb x y ≡ b → Once x y (elim b [ true ↦ 1 | false ↦ 0 ])
    go true e = inl (eqb-true x y e, refl)
    go false e = inr (eqb-false x y e, refl)

pub count_same : (x y : ℕ) → x ≡ y → count x (y ∷ []) ≡ 1
count_same x y e = ⊎_elim (λ w. w.1) (λ w. absurd (w.0 e)) (count-one x y)

pub count-other : (x y : ℕ) → (x ≡ y → ⊥) → count x (y ∷ []) ≡ 0
count-other x y h = ⊎_elim (λ w. absurd (h w.0)) (λ w. w.1) (count-one x y)

pub count-some : (x : ℕ) (l : List ℕ) (i : ℕ) → i < length l → get_or l i 0 ≡ x → 1 ≤ count x l
count-some x [] i l e = absurd (omega arith)
count-some x (y ∷ m) zero l e = omega (arith, count-append x (y ∷ []) m, count_same x y (sym e))
count-some x (y ∷ m) (suc i) l e = omega (arith, count-append x (y ∷ []) m, count-some x m i (omega arith) e)

-- ---- the search: found is how many ids stand from x on, or 0 where it was not met among the first i

pub record Seeking (ids : List ℕ) (x found i : ℕ) : Type 0 where
  pub most : found ≤ length ids
  pub met : (found ≡ 0 → ⊥) → (get_or ids (length ids - found) 0 ≡ x) × (count x (take i ids) ≡ 1)
  pub unmet : found ≡ 0 → count x (take i ids) ≡ 0

module _ (ids : List ℕ) (x : ℕ) where
  pub seek_start : Seeking ids x 0 0
  unfolding count
  seek_start = record { most = omega arith; met = λ h. absurd (h refl); unmet = λ e. refl }

  module _ (found i : ℕ) (inv : Seeking ids x found i) where
    pub seek_ended : length ids ≤ i → Place ids x (length ids - found)
    seek_ended l = record {
      inside = omega arith;
      hit = λ h. (inv.met (λ z. omega arith)).0;
      miss = λ h. rw (take_all i ids l) at (inv.unmet (omega (arith, inv.most)));
    }

    module _ (l : i < length ids) where
      one_more_lem : count x (take (i + 1) ids) ≡ count x (take i ids) + count x (get_or ids i 0 ∷ [])
      one_more_lem = rw (add-one i, take-suc ids i 0 l, count-append)

      pub seek_miss : (get_or ids i 0 ≡ x → ⊥) → Seeking ids x found (i + 1)
      seek_miss h =
          let z = count-other x (get_or ids i 0) (λ e. h (sym e)) in
          record {
            most = inv.most;
            met = λ s. ((inv.met s).0, omega (arith, (inv.met s).1, one_more_lem, z));
            unmet = λ s. omega (arith, inv.unmet s, one_more_lem, z);
          }

      -- it was not met before, since it stands there once
      pub seek_hit : (left : ℕ) → i + left ≡ length ids → count x ids ≤ 1 → get_or ids i 0 ≡ x → Seeking ids x (found + left) (i + 1)
      seek_hit left a once e = go found refl
        where
          all : count x (take (i + 1) ids) + count x (drop (i + 1) ids) ≡ count x ids
          all = sym (count-append x (take (i + 1) ids) (drop (i + 1) ids)) ∙ rw take-append-drop

          go : (f : ℕ) → found ≡ f → Seeking ids x (f + left) (i + 1)
          go (suc f) q = absurd (omega (arith, (inv.met (λ z. omega arith)).1, one_more_lem, all, count_same x (get_or ids i 0) (sym e)))
          go zero q =
              let p : length ids - (0 + left) ≡ i = omega arith in
              record {
                most = omega arith;
                met = λ s. (rw p e, omega (arith, inv.unmet q, one_more_lem, count_same x (get_or ids i 0) (sym e)));
                unmet = λ s. absurd (omega arith);
              }
