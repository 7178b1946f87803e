-- Ids and numbers side by side, and which ids can be held.
use Prim.Native.Nat.{ℕ, suc, ◌+◌, ◌≤◌}
use mathlib.Core.Path.{◌≡◌, refl, ap, ◌∙◌}
use mathlib.Core.Bool.{false}
use mathlib.Core.List.{List, [], ◌∷◌, ◌++◌, map}
use native.Mathlib.Nat.{zero-add}
use native.Mathlib.Omega.{arith}
use borrow.Author.Tests.{ltb-false}
use lib.Dec.{ltb}
use lib.ListN.{length, take, drop, take-append-drop}
use lib.Seq.{sets, sets-eq, length-take-le}
use Rattle.rules.proofs.Outcomes.{neither}
use Rattle.numbered.specs.Numbering.{Running, beside, id_of, next_of}
use Rattle.numbered.specs.Quota.{bad_ids, some_twice}

-- ---- ids and numbers side by side

pub beside-ids : (xs ns : List ℕ) → length xs ≡ length ns → map id_of (beside xs ns) ≡ xs
unfolding beside
beside-ids [] ns e = refl
beside-ids (x ∷ xs) [] e = absurd (omega arith)
beside-ids (x ∷ xs) (n ∷ ns) e = ap (λ (l : List ℕ). x ∷ l) (beside-ids xs ns (omega arith))

pub beside-next : (xs ns : List ℕ) → length xs ≡ length ns → map next_of (beside xs ns) ≡ ns
unfolding beside
beside-next [] [] e = refl
beside-next [] (n ∷ ns) e = absurd (omega arith)
beside-next (x ∷ xs) [] e = absurd (omega arith)
beside-next (x ∷ xs) (n ∷ ns) e = ap (λ (l : List ℕ). n ∷ l) (beside-next xs ns (omega arith))

pub beside-length : (xs ns : List ℕ) → length xs ≡ length ns → length (beside xs ns) ≡ length xs
unfolding beside
beside-length [] ns e = refl
beside-length (x ∷ xs) [] e = absurd (omega arith)
beside-length (x ∷ xs) (n ∷ ns) e = ap suc (beside-length xs ns (omega arith))

pub beside_maps : (ns : List Running) → beside (map id_of ns) (map next_of ns) ≡ ns
unfolding beside
beside_maps [] = refl
beside_maps (n ∷ ns) = ap (λ (l : List Running). n ∷ l) (beside_maps ns)

-- ---- the first places of a list

pub sets_same : (n : ℕ) (l : List ℕ) → n ≤ length l → sets l 0 (take n l) ≡ l
sets_same n l h =
    let e : 0 + length (take n l) ≡ n = zero-add (length (take n l)) ∙ length-take-le n l h in
    sets-eq (take n l) l 0 (omega (arith, e)) ∙ ap (λ (k : ℕ). take n l ++ drop k l) e ∙ take-append-drop n l

-- ---- ids that can be held

module _ (most : ℕ) (ids : List ℕ) (held : ℕ) where
  pub good-few : bad_ids most ids held ≡ false → held ≤ most
  unfolding bad_ids
  good-few e = ltb-false _ _ (neither _ _ e).0

  pub good-single : bad_ids most ids held ≡ false → some_twice (take held ids) ≡ false
  unfolding bad_ids
  good-single e = (neither (ltb most held) (some_twice (take held ids)) e).1
