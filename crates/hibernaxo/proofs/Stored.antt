-- The values of a list's elements, stored one behind the other: k values for each, behind those that stand in front.
use borrow.Rule.Slice.PartMut.{put_mid}
use Prim.Native.Nat.{ℕ, suc, ◌+◌, ◌*◌, ◌<◌, ◌≤◌}
use mathlib.Core.Path.{◌≡◌, sym, ap, ◌∙◌}
use mathlib.Core.List.{List, [], ◌∷◌, ◌++◌, map, map-map, append-nil, append_assoc}
use native.Mathlib.Nat.{add_comm, mul_comm, mul-zero, mul-suc}
use Rattle.std.proofs.Math.Nat.{mul-le-mul_right}
use native.Mathlib.Numerals.{add-one}
use native.Mathlib.Omega.{arith}
use lib.ListN.{length, get_or, set, take, drop, replicate, length-append, length-replicate}
use lib.Seq.{sets, sets-eq, drop-drop, take-suc, length-take-le, drop-length, take-append_seam}
use Rattle.rules.specs.Bytes.{join}
use Rattle.rules.proofs.Loops.{sets-sets}
use Rattle.rules.proofs.Growing.{join-append, map-append}

abbrev pub values_of : {A : Type 0} → (A → List ℕ) → List A → List ℕ
values_of values l = join (map values l)

-- there is room for one element more
pub room : (k i m n r : ℕ) → i < m → n + k * m ≤ r → n + k * i + k ≤ r
room k i m n r h g =
    let p : k * suc i ≤ k * m = rw (mul_comm k (suc i), mul_comm k m) (mul-le-mul_right {m = suc i} {n = m} k (omega (arith, h))) in
    omega (arith, p, mul-suc k i, g)

-- a part that was copied in place is a run of stores
pub part-stored : (b ys : List ℕ) (a k : ℕ) → length ys ≡ k → a + k ≤ length b → put_mid a k b ys ≡ sets b a ys
part-stored b ys a k e h = rw (← e, drop-drop) (sym (append_assoc (take a b) ys _) ∙ sym (sets-eq ys b a (omega arith)))

-- one element more is stored behind those stored from a place on
pub put_next : {A : Type 0} (b l : List A) (at i : ℕ) (d : A) → i < length l → set (sets b at (take i l)) (at + i) (get_or l i d) ≡ sets b at (take (i + 1) l)
put_next b l at i d h =
    let n : length (take i l) ≡ i = length-take-le i l (omega arith) in
    ap (λ (k : ℕ). set (sets b at (take i l)) (at + k) (get_or l i d)) (sym n) ∙ sets-sets (take i l) (get_or l i d ∷ []) b at
    ∙ ap (sets b at) (sym (take-suc l i d h)) ∙ ap (λ (k : ℕ). sets b at (take k l)) (sym (add-one i))

module _ {A : Type 0} (values : A → List ℕ) (k : ℕ) (each : (a : A) → length (values a) ≡ k) where
  behind : (l : List A) (a : A) → values_of values (l ++ (a ∷ [])) ≡ values_of values l ++ values a
  behind l a = rw (map-append values l (a ∷ []), join-append) (ap (λ (t : List ℕ). values_of values l ++ t) (append-nil (values a)))

  many : (l : List A) → length (values_of values l) ≡ k * length l
  many [] = sym (mul-zero k)
  many (a ∷ l) = length-append (values a) (values_of values l) ∙ rw (each a, many l, mul-suc k (length l)) (add_comm k (k * length l))

  -- one element more, behind n values
  pub next-behind : (n : ℕ) (b : List ℕ) (l : List A) (i : ℕ) (d : A) → i < length l
      → sets (sets b n (values_of values (take i l))) (n + k * i) (values (get_or l i d)) ≡ sets b n (values_of values (take (i + 1) l))
  next-behind n b l i d h =
      let m : length (values_of values (take i l)) ≡ k * i = many (take i l) ∙ ap (λ (j : ℕ). k * j) (length-take-le i l (omega arith)) in
      rw (add-one, take-suc l i d h, behind, ← m) (sets-sets (values_of values (take i l)) (values (get_or l i d)) b n)

  -- all of them fill the zeros behind the values in front
  pub filled-behind : (front : List ℕ) (m : ℕ) (l : List A) → length l ≡ m → sets (front ++ replicate (k * m) 0) (length front) (values_of values l) ≡ front ++ values_of values l
  filled-behind front m l e =
      let zeros : List ℕ = replicate (k * m) 0 in
      let n : length (values_of values l) ≡ length zeros = many l ∙ ap (λ (j : ℕ). k * j) e ∙ sym (length-replicate (k * m) 0) in
      let d : drop (length front + length (values_of values l)) (front ++ zeros) ≡ [] = rw (n, ← length-append front zeros) (drop-length (front ++ zeros)) in
      sets-eq (values_of values l) (front ++ zeros) (length front) (omega (arith, length-append front zeros)) ∙ rw (d, take-append_seam) (append-nil (front ++ values_of values l))

-- elements of the code, each told as what it stands for: all of them, behind the values in front
pub all-stored : {A B : Type 0} (told : A → B) (values : B → List ℕ) (k : ℕ) → ((a : A) → length (values (told a)) ≡ k) → (front : List ℕ) (m : ℕ) (l : List A) → length l ≡ m
    → sets (front ++ replicate (k * m) 0) (length front) (join (map (λ (a : A). values (told a)) l)) ≡ front ++ join (map values (map told l))
all-stored {A} told values k each front m l e =
    filled-behind (λ (a : A). values (told a)) k each front m l e ∙ ap (λ (t : List (List ℕ)). front ++ join t) (sym (map-map values told l))
