-- Runs of stores in one buffer: what stands before them, and what stands behind them.
use Prim.Native.Nat.{ℕ, zero, suc, ◌+◌, ◌-◌, ◌≤◌}
use mathlib.Core.Path.{◌≡◌, refl, sym, ◌∙◌}
use mathlib.Core.List.{List, [], ◌∷◌, ◌++◌, append_assoc}
use native.Mathlib.Omega.{arith}
use borrow.Rule.Slice.PartMut.{put_mid}
use lib.ListN.{length, take, drop, replicate, length-append, length-drop}
use lib.Seq.{sets, sets-eq, take-append_seam, drop-drop, length-take-le}
use Rattle.rules.specs.Bytes.{pad, padded, part}
use Rattle.rules.proofs.Loops.{sets-sets}

-- what stands before a run of stores, with the run behind it
pub take_more : (xs b : List ℕ) (i : ℕ) → i + length xs ≤ length b → take (i + length xs) (sets b i xs) ≡ take i b ++ xs
take_more xs b i h =
    let n : length (take i b ++ xs) ≡ i + length xs = rw (length-append, length-take-le i b (omega arith)) in
    rw (sets-eq xs b i h, ← n) (take-append_seam (take i b ++ xs) (drop (length (take i b ++ xs)) b))

-- an option run moved down, with zeros behind it
pub run_moved : (s : List ℕ) (to from n : ℕ) {b1 b2 : List ℕ} {m : ℕ} → from + n ≤ length s → b1 ≡ sets s to (part from (from + n) s) → m ≡ pad n
    → b2 ≡ sets b1 (to + n) (replicate (m - n) 0) → b2 ≡ sets s to (padded (part from (from + n) s))
run_moved s to from n h e1 q e2 =
    let z : from + n - from ≡ n = omega arith in
    let l : length (part from (from + n) s) ≡ n = rw z (length-take-le n (drop from s) (omega (arith, length-drop from s))) in
    e2 ∙ rw (e1, q, l) (rw l at (sets-sets (part from (from + n) s) (replicate (pad n - n) 0) s to))

pub drop-take : (a n : ℕ) (l : List ℕ) → drop a (take n l) ≡ take (n - a) (drop a l)
drop-take zero n l = let e : n - 0 ≡ n = omega arith in rw e
drop-take (suc a) zero l = let e : 0 - suc a ≡ 0 = omega arith in rw e
drop-take (suc a) (suc n) [] = sym (nothing (suc n - suc a))
  where
    nothing : (j : ℕ) → take {A = ℕ} j [] ≡ []
    nothing zero = refl
    nothing (suc j) = refl
drop-take (suc a) (suc n) (x ∷ l) = let e : suc n - suc a ≡ n - a = omega arith in rw e (drop-take a n l)

-- a part that was lent and came back, as many bytes as it was
pub part-back : (xs ys : List ℕ) (a k : ℕ) → length ys ≡ k → a + k ≤ length xs → put_mid a k xs ys ≡ sets xs a ys
part-back xs ys a k e h = rw (sets-eq ys xs a (omega arith), append_assoc, ← e, drop-drop)
