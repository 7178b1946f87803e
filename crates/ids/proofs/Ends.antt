-- Ranges by their ends: each is taken out of them, and one more is stored as them.
use Prim.Native.Nat.{ℕ, zero, suc, ◌+◌, ◌*◌, ◌<◌}
use mathlib.Core.Path.{◌≡◌, refl, ap, ◌∙◌}
use mathlib.Core.List.{List, [], ◌∷◌, ◌++◌}
use native.Mathlib.Omega.{arith}
use lib.ListN.{length, get_or, take, drop}
use lib.Seq.{get_or-drop}
use Rattle.ids.specs.Told.{ranges_in}
use Rattle.ids.specs.Parts.{with_range}
use Rattle.ids.specs.declared.IdRange.{IdRange}

-- they are as many as are asked for
pub many : (n : ℕ) (ends : List ℕ) → length (ranges_in n ends) ≡ n
unfolding ranges_in
many zero ends = refl
many (suc n) ends = ap suc (many n (drop 2 ends))

-- range i has the ends 2 i and 2 i + 1
pub the_range : (n : ℕ) (ends : List ℕ) (i : ℕ) (d : IdRange) → i < n → get_or (ranges_in n ends) i d ≡ record { first = get_or ends (2 * i) 0; last = get_or ends (2 * i + 1) 0 }
unfolding ranges_in
the_range zero ends i d h = absurd (omega arith)
the_range (suc n) ends zero d h = refl
the_range (suc n) ends (suc i) d h =
    let x : get_or (drop 2 ends) (2 * i) 0 ≡ get_or ends (2 * suc i) 0 = get_or-drop 2 ends (2 * i) 0 ∙ ap (λ (k : ℕ). get_or ends k 0) (omega arith) in
    let y : get_or (drop 2 ends) (2 * i + 1) 0 ≡ get_or ends (2 * suc i + 1) 0 = get_or-drop 2 ends (2 * i + 1) 0 ∙ ap (λ (k : ℕ). get_or ends k 0) (omega arith) in
    the_range n (drop 2 ends) i d (omega arith) ∙ rw (x, y)

-- one more range is stored
pub ranges_more : (n m : ℕ) (l : List ℕ) (a b : ℕ) → n < m → 2 * n + 1 < length l → take (n + 1) (ranges_in m (with_range l n a b)) ≡ take n (ranges_in m l) ++ (record { first = a; last = b } ∷ [])
unfolding ranges_in
ranges_more n zero l a b h k = absurd (omega arith)
ranges_more n (suc m) [] a b h k = absurd (omega arith)
ranges_more n (suc m) (x ∷ []) a b h k = absurd (omega arith)
ranges_more zero (suc m) (x ∷ y ∷ l) a b h k = refl
ranges_more (suc n) (suc m) (x ∷ y ∷ l) a b h k =
    let z : 2 * suc n ≡ suc (suc (2 * n)) = omega arith in
    let w : 2 * suc n + 1 ≡ suc (suc (2 * n + 1)) = omega arith in
    let v : suc n + 1 ≡ suc (n + 1) = omega arith in
    rw (w, z, v) (ap (λ (q : List IdRange). record { first = x; last = y } ∷ q) (ranges_more n m l a b (omega arith) (omega arith)))
