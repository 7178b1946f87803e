-- Runs of stores: one behind the other, and one before another.
use Prim.Native.Nat.{ℕ, suc, ◌+◌, ◌-◌, ◌*◌, ◌/◌, ◌%◌, ◌≤◌, ◌<◌}
use mathlib.Core.Path.{◌≡◌, refl, sym, ap, ◌∙◌}
use mathlib.Core.Bool.{Bool, true, false}
use mathlib.Core.List.{List, [], ◌∷◌, ◌++◌, append-nil, append_assoc}
use native.Mathlib.Nat.{add-zero, add-suc, suc-add}
use native.Mathlib.Omega.{arith}
use borrow.Author.Tests.{eqb-true, eqb-false}
use lib.Dec.{eqb}
use lib.ListN.{length, get_or, take, drop, set, replicate, length-replicate, replicate-append-replicate}
use lib.Seq.{sets, set-set, set_comm, take-add, drop-cons, length-take-le}
use Rattle.rules.specs.Bytes.{Bytes, word, put32, part}
use Rattle.rules.proofs.Numbers.{put32-at}
use Rattle.rules.proofs.Loops.{sets-sets, set_before}
use Rattle.message.specs.declared.Header.{Header}
use Rattle.message.specs.declared.Package.{Package}
use Rattle.numbered.specs.Parts.{head_bytes, piece_as, Placed}

-- a run of stores before another can be made behind it
pub sets-before : (xs ys b : List ℕ) (i : ℕ) → sets (sets b (i + length xs) ys) i xs ≡ sets b i (xs ++ ys)
sets-before [] ys b i = rw add-zero
sets-before (x ∷ xs) ys b i = rw (add-suc, ← suc-add) (ap (λ (c : List ℕ). sets c (suc i) xs) (set_before ys b (suc i + length xs) i x (omega arith)) ∙ sets-before xs ys (set b i x) (suc i))

-- a store is lost under a later run of stores that goes over it
set-lost : (xs b : List ℕ) (i j y : ℕ) → i ≤ j → j < i + length xs → sets (set b j y) i xs ≡ sets b i xs
set-lost [] b i j y l h = absurd (omega arith)
set-lost (x ∷ xs) b i j y l h = go (λ k. set-lost xs (set b i x) (suc i) j y k (omega arith)) (eqb j i) refl
  where
    go : (suc i ≤ j → sets (set (set b i x) j y) (suc i) xs ≡ sets (set b i x) (suc i) xs) → (t : Bool) → eqb j i ≡ t → sets (set (set b j y) i x) (suc i) xs ≡ sets (set b i x) (suc i) xs
    go rest true e = rw (eqb-true j i e, set-set)
    go rest false e =
        let ne = eqb-false j i e in
        ap (λ (c : List ℕ). sets c (suc i) xs) (set_comm b j i y x ne) ∙ rest (omega arith)

sets-lost : (ys xs b : List ℕ) (i j : ℕ) → i ≤ j → j + length ys ≤ i + length xs → sets (sets b j ys) i xs ≡ sets b i xs
sets-lost [] xs b i j l h = refl
sets-lost (y ∷ ys) xs b i j l h = sets-lost ys xs (set b j y) i (suc j) (omega arith) (omega arith) ∙ set-lost xs b i j y l (omega arith)

-- a zero word that is stored first: what a run of stores leaves of it stands behind the run
zeros-left : (xs b : List ℕ) (i j z : ℕ) → z ≤ 4 → i ≤ j → j + 4 ≡ i + length xs + z → sets (sets b j (put32 0 [])) i xs ≡ sets b i (xs ++ replicate z 0)
zeros-left xs b i j z s l e =
    let ys : List ℕ = replicate (4 - z) 0 in
    let zs : List ℕ = replicate z 0 in
    let f : 4 - z + z ≡ 4 = omega arith in
    let a : put32 0 [] ≡ ys ++ zs = sym (replicate-append-replicate (4 - z) z 0 ∙ ap (λ (n : ℕ). replicate n 0) f) in
    let n : j + length ys ≡ i + length xs = omega (arith, length-replicate {A = ℕ} (4 - z) 0) in
    ap (λ (w : List ℕ). sets (sets b j w) i xs) a ∙ ap (λ (c : List ℕ). sets c i xs) (sym (sets-before ys zs b j))
    ∙ sets-lost ys xs (sets b (j + length ys) zs) i j l (omega arith) ∙ ap (λ (k : ℕ). sets (sets b k zs) i xs) n ∙ sets-before xs zs b i

-- two words, one behind the other
pub words-all : (b : List ℕ) (at x y : ℕ) {b1 b2 : List ℕ} → b1 ≡ sets b at (put32 x []) → b2 ≡ sets b1 (at + 4) (put32 y []) → b2 ≡ sets b at (put32 x (put32 y []))
words-all b at x y e1 e2 = rw (e2, e1, sets-sets (put32 x []) (put32 y []) b at)

-- a number among those that are stored is stored anew
stored_anew : (xs ys b : List ℕ) (i y z : ℕ) → set (sets b i (xs ++ (y ∷ ys))) (i + length xs) z ≡ sets b i (xs ++ (z ∷ ys))
stored_anew xs ys b i y z =
    let j = i + length xs in
    let c = sets b i xs in
    ap (λ (l : List ℕ). set l j z) (sym (sets-sets xs (y ∷ ys) b i)) ∙ set_before ys (set c j y) (suc j) j z (omega arith)
    ∙ ap (λ (l : List ℕ). sets l (suc j) ys) (set-set c j y z) ∙ sets-sets xs (z ∷ ys) b i

-- the stores of a package: its last word is zero first, its own bytes go over what is not padding, and its reserved byte is zero then
module _ (run : List ℕ) (p : Package) (b : List ℕ) (at : ℕ) (in_place : Placed run p) (y : Bytes run) {x : ℕ} {b1 b2 b3 b4 : List ℕ} (first : x ≡ word run 0)
    (e1 : b1 ≡ sets b (at + (p.next - 4)) (put32 0 [])) (e2 : b2 ≡ sets b1 at (put32 x [])) (e3 : b3 ≡ sets b2 (at + 4) (part 4 (4 + (p.to - 4)) run)) (e4 : b4 ≡ sets b3 (at + 6) (0 ∷ [])) where
  abbrev own : List ℕ
  own = take p.to run

  abbrev six : List ℕ
  six = take 6 run

  abbrev seventh : ℕ
  seventh = get_or run 6 0

  abbrev tail : List ℕ
  tail = part 7 p.to run

  abbrev zeros : List ℕ
  zeros = replicate (p.next - p.to) 0

  length-own : length own ≡ p.to
  length-own = length-take-le p.to run (omega (arith, in_place.padding, in_place.inside))

  length-six : length six ≡ 6
  length-six = length-take-le 6 run (omega (arith, in_place.front, in_place.padding, in_place.inside))

  own_is : own ≡ six ++ (seventh ∷ tail)
  own_is =
      let n : p.to ≡ 6 + suc (p.to - 7) = omega (arith, in_place.front) in
      ap (λ (i : ℕ). take i run) n ∙ take-add 6 (suc (p.to - 7)) run
      ∙ ap (λ (l : List ℕ). six ++ take (suc (p.to - 7)) l) (drop-cons run 6 0 (omega (arith, in_place.front, in_place.padding, in_place.inside)))

  -- the first word, and the bytes behind it
  abbrev front : List ℕ
  front = take 4 run

  abbrev behind : List ℕ
  behind = take (p.to - 4) (drop 4 run)

  in_two : b3 ≡ sets b1 at own
  in_two =
      let n : p.to ≡ 4 + (p.to - 4) = omega (arith, in_place.front) in
      let m : 4 + (p.to - 4) - 4 ≡ p.to - 4 = omega arith in
      let w : put32 x [] ≡ front = ap (λ (v : ℕ). put32 v []) first ∙ put32-at 0 run [] y (omega (arith, in_place.front, in_place.padding, in_place.inside)) ∙ append-nil front in
      let l : length front ≡ 4 = length-take-le 4 run (omega (arith, in_place.front, in_place.padding, in_place.inside)) in
      let all : own ≡ front ++ behind = ap (λ (i : ℕ). take i run) n ∙ take-add 4 (p.to - 4) run in
      e3 ∙ ap (λ (i : ℕ). sets b2 (at + 4) (take i (drop 4 run))) m ∙ ap (λ (c : List ℕ). sets c (at + 4) behind) (e2 ∙ ap (sets b1 at) w)
      ∙ ap (λ (i : ℕ). sets (sets b1 at front) (at + i) behind) (sym l) ∙ sets-sets front behind b1 at ∙ ap (sets b1 at) (sym all)

  pub package_all : b4 ≡ sets b at (piece_as run p)
  unfolding piece_as
  package_all =
      let padded : b3 ≡ sets b at (own ++ zeros) = in_two ∙ rw e1 (zeros-left own b at (at + (p.next - 4)) (p.next - p.to) (omega (arith, in_place.little)) (omega arith) (omega (arith, length-own, in_place.front, in_place.padding))) in
      let split : b3 ≡ sets b at (six ++ (seventh ∷ tail ++ zeros)) = padded ∙ ap (λ (l : List ℕ). sets b at (l ++ zeros)) own_is ∙ ap (sets b at) (append_assoc six (seventh ∷ tail) zeros) in
      e4 ∙ ap (λ (l : List ℕ). set l (at + 6) 0) split ∙ ap (λ (n : ℕ). set (sets b at (six ++ (seventh ∷ tail ++ zeros))) (at + n) 0) (sym length-six)
      ∙ stored_anew six (tail ++ zeros) b at seventh 0 ∙ ap (sets b at) (sym (append_assoc six (0 ∷ tail) zeros))

-- a header's first byte, two zeros and its flags as one word
front-flags : (f : ℕ) (t : List ℕ) → f < 256 → put32 (268435456 + f) t ≡ 16 ∷ 0 ∷ 0 ∷ f ∷ t
front-flags f t h =
    let w = 268435456 + f in
    let a : w / 16777216 % 256 ≡ 16 = omega arith in
    let b : w / 65536 % 256 ≡ 0 = omega arith in
    let c : w / 256 % 256 ≡ 0 = omega arith in
    let d : w % 256 ≡ f = omega arith in
    rw (a, b, c, d)

-- the stores of a header
module _ (b : List ℕ) (at : ℕ) (h : Header) (n size : ℕ) {b1 b2 b3 : List ℕ}
    (e1 : b1 ≡ sets b at (put32 (268435456 + (192 + h.flags / 2 % 8 * 2)) (put32 h.id.0 [])))
    (e2 : b2 ≡ sets b1 (at + 8) (put32 n (put32 size []))) (e3 : b3 ≡ sets b2 (at + 16) (put32 h.seconds (put32 h.nanos []))) where
  abbrev flags : ℕ
  flags = 192 + h.flags / 2 % 8 * 2

  pub head-all : b3 ≡ sets b at (head_bytes h n size)
  unfolding head_bytes
  head-all =
      let front = put32 (268435456 + flags) (put32 h.id.0 []) in
      let middle = put32 n (put32 size []) in
      rw (e3, e2, e1, sets-sets front middle b at, sets-sets (front ++ middle) (put32 h.seconds (put32 h.nanos [])) b at)
      (ap (λ (t : List ℕ). sets b at t) (front-flags flags (put32 h.id.0 (put32 n (put32 size (put32 h.seconds (put32 h.nanos []))))) (omega arith)))
