-- Bytes moved down within one buffer: by chunks, and one by one; and a package cleaned where it stands.
use Prim.Native.Nat.{ℕ, ◌+◌, ◌-◌, ◌≤◌, ◌<◌}
use mathlib.Core.Path.{◌≡◌, sym, ap, ◌∙◌}
use mathlib.Core.List.{List, [], ◌∷◌, ◌++◌, append-nil, append_assoc}
use native.Mathlib.Omega.{arith}
use borrow.Rule.Slice.PartMut.{put_mid}
use lib.ListN.{length, get_or, set, take, drop, replicate, length-append, length-drop, take-append-drop, drop_of_length-le}
use lib.Seq.{sets, sets-eq, length-sets, set-set, drop-cons, take-add, take-take, take_all, drop-drop, length-take-le, split_at}
use Rattle.rules.specs.Bytes.{part}
use Rattle.rules.specs.Packages.{package_length}
use Rattle.rules.specs.Clean.{clean_piece}
use Rattle.rules.proofs.Loops.{sets-sets, drop-sets}
use Rattle.numbered.proofs.Stores.{sets-before}
use Rattle.message.specs.declared.Package.{Package}
use Rattle.purge.specs.Parts.{Standing}
use Rattle.purge.proofs.Stores.{drop-take, part-back}

pub part-long : (s : List ℕ) (a n : ℕ) → a + n ≤ length s → length (part a (a + n) s) ≡ n
part-long s a n h =
    let z : a + n - a ≡ n = omega arith in
    rw z (length-take-le n (drop a s) (omega (arith, length-drop a s)))

-- a part, and the one that follows it
pub part-append : (s : List ℕ) (a i k : ℕ) → part a (a + i) s ++ part (a + i) (a + i + k) s ≡ part a (a + (i + k)) s
part-append s a i k =
    let x : a + i - a ≡ i = omega arith in
    let y : a + i + k - (a + i) ≡ k = omega arith in
    let z : a + (i + k) - a ≡ i + k = omega arith in
    rw (x, y, z, ← drop-drop i a s) (sym (take-add i k (drop a s)))

-- the next k bytes are moved behind the first i: none of them has been stored to
pub moved_on : (b : List ℕ) (to from i k : ℕ) → to ≤ from → from + i ≤ length b
    → sets (sets b to (part from (from + i) b)) (to + i) (part (from + i) (from + i + k) (sets b to (part from (from + i) b))) ≡ sets b to (part from (from + (i + k)) b)
moved_on b to from i k h l =
    let n : length (part from (from + i) b) ≡ i = part-long b from i l in
    let d : drop (from + i) (sets b to (part from (from + i) b)) ≡ drop (from + i) b = drop-sets (part from (from + i) b) b to (from + i) (omega arith) in
    rw (d, ← part-append b from i k) (rw n at (sets-sets (part from (from + i) b) (part (from + i) (from + i + k) b) b to))

-- one byte more
pub moved-byte : (b : List ℕ) (to from i : ℕ) → to ≤ from → from + i < length b
    → set (sets b to (part from (from + i) b)) (to + i) (get_or (sets b to (part from (from + i) b)) (from + i) 0) ≡ sets b to (part from (from + (i + 1)) b)
moved-byte b to from i h l =
    let z : from + i + 1 - (from + i) ≡ 1 = omega arith in
    let n : from + i < length (sets b to (part from (from + i) b)) = omega (arith, length-sets b to (part from (from + i) b)) in
    let e : part (from + i) (from + i + 1) (sets b to (part from (from + i) b)) ≡ get_or (sets b to (part from (from + i) b)) (from + i) 0 ∷ [] =
    rw (z, drop-cons (sets b to (part from (from + i) b)) (from + i) 0 n) in
    rw e at (moved_on b to from i 1 h (omega arith))

-- a part stored where it stands changes nothing
pub stays_put : (b : List ℕ) (at n : ℕ) → at + n ≤ length b → b ≡ sets b at (part at (at + n) b)
stays_put b at n h =
    let z : at + n - at ≡ n = omega arith in
    let l : length (take n (drop at b)) ≡ n = length-take-le n (drop at b) (omega (arith, length-drop at b)) in
    rw (z, sets-eq (take n (drop at b)) b at (omega arith), l, append_assoc, ← drop-drop n at b, take-append-drop, take-append-drop)

-- a chunk of k bytes moved through a local array: read whole before it is stored
filled : (b xs : List ℕ) → length xs ≡ length b → sets b 0 xs ≡ xs
filled b xs e =
    let h : length b ≤ 0 + length xs = omega arith in
    sets-eq xs b 0 (omega arith) ∙ rw (drop_of_length-le b h) (append-nil xs)

pub chunk-moved : (s room : List ℕ) (to from k : ℕ) {c ys b : List ℕ} → length room ≡ k → from + k ≤ length s → to + k ≤ length s
    → c ≡ sets room 0 (part 0 (0 + k) (part from (from + k) s)) → ys ≡ sets (part to (to + k) s) 0 (part 0 (0 + k) c) → b ≡ put_mid to (to + k - to) s ys → b ≡ sets s to (part from (from + k) s)
chunk-moved s room to from k {c = c} {ys = ys} r f t e1 e2 e3 =
    let x : List ℕ = part from (from + k) s in
    let n : length (part from (from + k) s) ≡ k = part-long s from k f in
    let z : 0 + k - 0 ≡ k = omega arith in
    let w : to + k - to ≡ k = omega arith in
    let whole : take k (part from (from + k) s) ≡ part from (from + k) s = take_all k (part from (from + k) s) (omega arith) in
    let c-is : c ≡ part from (from + k) s = e1 ∙ rw (z, whole) (filled room (part from (from + k) s) (omega arith)) in
    let ys-is : ys ≡ part from (from + k) s = e2 ∙ rw (z, c-is, whole) (filled (part to (to + k) s) (part from (from + k) s) (omega (arith, part-long s to k t))) in
    e3 ∙ rw (w, ys-is) (part-back s (part from (from + k) s) to k n t)

-- one byte stored anew within a run of stores
one-over : (u v b : List ℕ) (x y i : ℕ) → sets (sets b i (u ++ (x ∷ v))) (i + length u) (y ∷ []) ≡ sets b i (u ++ (y ∷ v))
one-over u v b x y i =
    rw (← sets-sets u (x ∷ v) b i, ← sets-before (x ∷ []) v (sets b i u) (i + length u), set-set, sets-before (y ∷ []) v (sets b i u) (i + length u), sets-sets u (y ∷ v) b i)

-- a package of n bytes moved down with its padding, reserved byte and padding zero
module _ (s : List ℕ) (to at n m : ℕ) (least : 12 ≤ n) (most : n ≤ m) (inside : at + m ≤ length s) (size : package_length (part at (at + m) s) ≡ n) where
  abbrev c : List ℕ
  c = part at (at + m) s

  abbrev a : List ℕ
  a = part at (at + n) s

  c-long : length c ≡ m
  c-long = part-long s at m inside

  a-long : length a ≡ n
  a-long = part-long s at n (omega arith)

  a-is : a ≡ take n c
  a-is =
      let x : at + n - at ≡ n = omega arith in
      let y : at + m - at ≡ m = omega arith in
      rw (x, y) (sym (take-take n m (drop at s) most))

  clean_is : clean_piece c ≡ (take 6 a ++ (0 ∷ drop 7 a)) ++ replicate (m - n) 0
  unfolding clean_piece
  clean_is =
      let x : take 6 a ≡ take 6 c = rw a-is (take-take 6 n c (omega arith)) in
      let y : drop 7 a ≡ take (n - 7) (drop 7 c) = rw a-is (drop-take 7 n c) in
      rw (size, x, y, c-long)

  pub package_moved : {b1 b2 b3 : List ℕ} → b1 ≡ sets s to a → b2 ≡ sets b1 (to + 6) (0 ∷ []) → b3 ≡ sets b2 (to + n) (replicate (m - n) 0) → b3 ≡ sets s to (clean_piece c)
  package_moved {b2 = b2} e1 e2 e3 =
      let six : length (take 6 a) ≡ 6 = length-take-le 6 a (omega (arith, a-long)) in
      let seven : length (drop 7 a) ≡ n - 7 = rw (length-drop 7 a, a-long) in
      let n-long : length (take 6 a ++ (0 ∷ drop 7 a)) ≡ n = omega (arith, length-append (take 6 a) (0 ∷ drop 7 a)) in
      let apart : a ≡ take 6 a ++ (get_or a 6 0 ∷ drop 7 a) = split_at a 6 0 (omega (arith, a-long)) in
      let z : b2 ≡ sets s to (take 6 a ++ (0 ∷ drop 7 a)) = e2 ∙ ap (λ (b : List ℕ). sets b (to + 6) (0 ∷ [])) (e1 ∙ ap (sets s to) apart) ∙ (rw six at (one-over (take 6 a) (drop 7 a) s (get_or a 6 0) 0 to)) in
      e3 ∙ rw (z, clean_is) (rw n-long at (sets-sets (take 6 a ++ (0 ∷ drop 7 a)) (replicate (m - n) 0) s to))

-- the same of a package by its places
pub package_kept : (s : List ℕ) (at to : ℕ) (p : Package) → Standing s at p → {b1 b2 b3 : List ℕ} → b1 ≡ sets s to (part at (at + (p.to - at)) s) → b2 ≡ sets b1 (to + 6) (0 ∷ [])
    → b3 ≡ sets b2 (to + (p.to - at)) (replicate (p.next - p.to) 0) → b3 ≡ sets s to (clean_piece (part at p.next s))
package_kept s at to p d e1 e2 e3 =
    let z : at + (p.next - at) ≡ p.next = omega (arith, d.least, d.padding) in
    let y : p.next - p.to ≡ p.next - at - (p.to - at) = omega (arith, d.least, d.padding) in
    rw z at (package_moved s to at (p.to - at) (p.next - at) (omega (arith, d.least)) (omega (arith, d.padding)) (rw z d.inside) (rw z d.size) e1 e2 (rw y at e3))
