-- A message that passes, read and written again, is its clean form.
use Prim.Native.Nat.{ℕ, suc, ◌+◌, ◌-◌, ◌*◌, ◌/◌, ◌%◌, ◌≤◌, ◌<◌}
use mathlib.Core.Path.{◌≡◌, refl, sym, ◌∙◌}
use mathlib.Core.List.{List, [], ◌∷◌, ◌++◌, map, append_assoc}
use native.Mathlib.Nat.{div-div-eq-div-mul}
use native.Mathlib.Omega.{arith}
use lib.ListN.{length, take, drop, length-drop}
use lib.Seq.{take-add, drop-cons, drop-drop, length-take-le}
use Rattle.rules.specs.Bytes.{Bytes, at, half, word, put32, pad, part, one_if_any}
use Rattle.rules.specs.Items.{Fills, none, more}
use Rattle.rules.specs.Packages.{package_of, piece_of, Piece}
use Rattle.rules.specs.Message.{head, payload_start, record_of}
use Rattle.rules.specs.Writer.{write}
use Rattle.rules.specs.Clean.{clean_piece, clean_bytes}
use Rattle.rules.proofs.Numbers.{put32-at, put16-at, bytes_drop, bytes_take, bytes_left, bytes-right}
use Rattle.rules.proofs.Cut as Cut
use Rattle.rules.proofs.Passed.{Passed}

module _ (c : List ℕ) (h : Piece c) (b : Bytes c) where
  long : 12 ≤ length c
  long = omega (arith, h.least, h.whole)

  pub content-length : length (part 12 (half c 4) c) ≡ half c 4 - 12
  content-length = length-take-le (half c 4 - 12) (drop 12 c) (omega (arith, length-drop 12 c, h.least, h.whole))

  pub size : 12 + length (part 12 (half c 4) c) ≡ half c 4
  size = omega (arith, content-length, h.least)

  -- the bytes behind the reserved one
  tail : part 7 (half c 4) c ≡ at c 7 ∷ (take 4 (drop 8 c) ++ part 12 (half c 4) c)
  tail =
      let e : half c 4 - 7 ≡ suc (4 + (half c 4 - 12)) = omega (arith, h.least) in
      rw (e, drop-cons c 7 0 (omega (arith, long)), take-add 4 (half c 4 - 12) (drop 8 c), drop-drop 4 8 c)

  pub piece-clean : piece_of (package_of c) ≡ clean_piece c
  unfolding piece_of package_of clean_piece
  piece-clean =
      let z : pad (length (part 12 (half c 4) c)) - length (part 12 (half c 4) c) ≡ length c - half c 4 = omega (arith, h.least, h.whole, content-length) in
      rw (
        size,
        z,
        put32-at 0 c _ b (omega (arith, long)),
        put16-at 4 c _ b (omega (arith, long)),
        put32-at 8 c _ b (omega (arith, long)),
        tail,
        take-add 4 2 c,
      )
      (simp append_assoc)

pub pieces-clean : {cs : List (List ℕ)} {s : List ℕ} → Fills Piece cs s → Bytes s → map piece_of (map package_of cs) ≡ map clean_piece cs
pieces-clean none b = refl
pieces-clean (more {c = c} {s = s} h r) b = rw (piece-clean c h (bytes_left c s b), pieces-clean r (bytes-right c s b))

-- there is a package exactly where the payload is not empty
pub any-filled : {cs : List (List ℕ)} {s : List ℕ} → Fills Piece cs s → one_if_any (map package_of cs) ≡ one_if_any s
any-filled none = refl
any-filled (more {c = c} {s = s} h r) = go c (omega (arith, h.least, h.whole))
  where
    go : (l : List ℕ) → 1 ≤ length l → 1 ≡ one_if_any (l ++ s)
    go [] q = absurd (omega arith)
    go (x ∷ l) q = refl

-- the flags of a message that passes are the record's and flag 7
pub flags-back : (f a : ℕ) → f < 256 → f / 16 % 4 ≡ 0 → f / 128 % 2 ≡ a → f / 64 % 2 * 64 + f % 16 + a * 128 ≡ f
flags-back f a l g h =
    let i : f / 16 / 4 ≡ f / 64 = div-div-eq-div-mul f 16 4 in
    let j : f / 64 / 2 ≡ f / 128 = div-div-eq-div-mul f 64 2 in
    let top : f / 128 % 2 ≡ f / 128 = omega arith in
    let k : f / 128 * 2 + f / 64 % 2 ≡ f / 64 = omega arith in
    let m : f / 64 * 4 + f / 16 % 4 ≡ f / 16 = omega arith in
    let n : f / 16 * 16 + f % 16 ≡ f = omega arith in
    omega arith

module _ (p : ℕ) (s : List ℕ) (r : ℕ × List (List ℕ)) (b : Bytes s) (w : Passed p s (head s) r) where
  pub fills : Fills Piece r.1 (part (payload_start (head s)) (head s).size s)
  fills = Cut.sound 0 (p + payload_start (head s)) (part (payload_start (head s)) (head s).size s) w.packages

  pub payload-bytes : Bytes (part (payload_start (head s)) (head s).size s)
  payload-bytes = bytes_take ((head s).size - payload_start (head s)) (drop (payload_start (head s)) s) (bytes_drop (payload_start (head s)) s b)

  two : (k : ℕ) (t : List ℕ) → k + 8 ≤ length s → put32 (word s k) (put32 (word s (k + 4)) t) ≡ take 8 (drop k s) ++ t
  two k t l = rw (put32-at k s _ b (omega arith), put32-at (k + 4) s _ b (omega arith), take-add 4 4 (drop k s), drop-drop 4 k s) (simp append_assoc)

  pub write_read : write (record_of s (head s) r) ≡ clean_bytes s r
  unfolding write record_of clean_bytes head
  write_read =
      rw (
        flags-back (at s 3) (one_if_any (map package_of r.1)) (b.below 3) w.fragment (w.standard ∙ sym (any-filled fills)),
        pieces-clean fills payload-bytes,
        w.header.version,
        w.header.kind,
        two 4 _ (omega (arith, w.header.long)),
        two 16 _ (omega (arith, w.header.long)),
      )
