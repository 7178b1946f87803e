-- What a package and a message that were read say of the bytes where they stand.
use Prim.Native.Nat.{ℕ, zero, suc, ◌+◌, ◌-◌, ◌≤◌, ◌<◌}
use mathlib.Core.Path.{◌≡◌, refl, sym, ap, ◌∙◌}
use mathlib.Core.Bool.{Bool, true, false}
use mathlib.Core.List.{List, [], ◌∷◌}
use mathlib.Core.Option.{Option, none, some}
use native.Mathlib.Omega.{arith}
use lib.Dec.{leb}
use lib.ListN.{length, take, drop, length-drop}
use lib.Seq.{take-take, length-take-le}
use borrow.Author.Tests.{lt-leb, not-false, le-ltb}
use Rattle.rules.specs.Outcome.{Outcome, good, bad, ◌>>=◌}
use Rattle.rules.specs.Bytes.{Bytes, half, word, pad, part}
use Rattle.rules.specs.Packages.{piece, package_of, piece_of, Piece}
use Rattle.rules.proofs.Outcomes.{pass, passed, stepped, good_inj, some_inj, none≢some, refused-only}
use Rattle.rules.proofs.Cut.{Fit, fit, piece_of_lem}
use Rattle.rules.specs.Clean.{clean_piece}
use Rattle.rules.proofs.Pieces.{length-padded}
use Rattle.rules.proofs.Numbers.{bytes_drop, bytes_take}
use Rattle.rules.proofs.Cleaned.{piece-clean}
use Rattle.refusal.specs.declared.Refusal.{Refusal}
use Rattle.refusal.specs.Numbers.{number_of}
use Rattle.message.specs.declared.Package.{Package}
use Rattle.std.specs.Prelude.{Some, None, Ok, Err}
use Rattle.message.specs.Answers.{told_package}
use Rattle.message.proofs.Moved.{moved}
use Rattle.rules.specs.Walk.{PackageSpot, package_spot, package_at}
use Rattle.numbered.specs.Parts.{piece_as, Placed}

-- ---- one package

-- what is taken from t
pub record Taken (t c : List ℕ) (n : ℕ) : Type 0 where
  pub fits : Fit t
  pub bytes : c ≡ take (pad (half t 4)) t
  pub size : n ≡ pad (half t 4)

pub taken : (p : ℕ) (t : List ℕ) (r : List ℕ × ℕ) → piece p t ≡ good r → Taken t r.0 r.1
unfolding piece
taken p t r e =
    let (a, g) = passed _ _ _ _ e in
    let q = good_inj g in
    record {
      fits = fit t (not-false _ a);
      bytes = ap (λ (x : List ℕ × ℕ). x.0) (sym q);
      size = ap (λ (x : List ℕ × ℕ). x.1) (sym q);
    }

-- the package p was read at place k of run, from the piece c
pub record Found (run : List ℕ) (k : ℕ) (p : Package) : Type 0 where
  pub c : List ℕ
  pub n : ℕ
  pub read : piece k (drop k run) ≡ good (c, n)
  pub spot : package_spot k c n ≡ record { id = p.id.0; size = p.length; status = p.status; delta = p.delta; from = p.from; to = p.to; next = p.next }

module _ (run : List ℕ) (k : ℕ) where
  abbrev Rest : Bool → Outcome (Option PackageSpot)
  Rest b = elim b [
    | true ↦ good none
    | false ↦ piece k (drop k run) >>= (λ (r : List ℕ × ℕ). good (some (package_spot k r.0 r.1)))
  ]

  pub found : (p : Package) → told_package (Ok (Some p)) ≡ package_at run k → Found run k p
  unfolding package_at
  found p e = let (large, g) = passed _ _ _ _ (sym e) in go (leb (length run) k) g
    where
      go : (b : Bool) → Rest b ≡ told_package (Ok (Some p)) → Found run k p
      go true g = absurd (none≢some (good_inj g))
      go false g =
          let (r, q, f) = stepped _ _ g in
          record { c = r.0; n = r.1; read = q; spot = some_inj (good_inj f) }

  module _ (small : length run ≤ 65536) (inside : k < length run) where
    rest-is : package_at run k ≡ Rest false
    unfolding package_at
    rest-is = pass _ _ _ _ (le-ltb 65536 (length run) small) (rw (lt-leb (length run) k inside))

    -- there is no end before the end
    pub no_end : told_package (Ok None) ≡ package_at run k → ⊥
    no_end e =
        let (r, q, f) = stepped _ _ (sym rest-is ∙ sym e) in
        none≢some (sym (good_inj f))

    -- a package that is refused
    pub no_piece : (f : Refusal) → told_package (Err f) ≡ package_at run k → piece k (drop k run) ≡ bad (number_of f.why) f.place
    no_piece f e = refused-only _ _ (sym rest-is ∙ sym e)

take-drop-take : (a m n : ℕ) (l : List ℕ) → a + m ≤ n → take m (drop a (take n l)) ≡ take m (drop a l)
take-drop-take zero m n l h = take-take m n l (omega arith)
take-drop-take (suc a) m zero l h = absurd (omega arith)
take-drop-take (suc a) m (suc n) [] h = refl
take-drop-take (suc a) m (suc n) (x ∷ l) h = take-drop-take a m n l (omega arith)

module _ (run : List ℕ) (k : ℕ) (p : Package) (f : Found run k p) where
  abbrev t : List ℕ
  t = drop k run

  is-taken : Taken t f.c f.n
  is-taken = taken k t (f.c, f.n) f.read

  pub is-piece : Piece f.c
  is-piece = rw is-taken.bytes (piece_of_lem t is-taken.fits)

  pub piece-size : f.n ≡ pad (half f.c 4)
  piece-size =
      let l : length f.c ≡ pad (half t 4) = rw is-taken.bytes (length-take-le (pad (half t 4)) t is-taken.fits.room) in
      is-taken.size ∙ sym l ∙ is-piece.whole

  pub id-is : word f.c 0 ≡ p.id.0
  unfolding package_spot
  id-is = ap (λ (x : PackageSpot). x.id) f.spot

  pub delta-is : word f.c 8 ≡ p.delta
  unfolding package_spot
  delta-is = ap (λ (x : PackageSpot). x.delta) f.spot

  to_is : k + half f.c 4 ≡ p.to
  unfolding package_spot
  to_is = ap (λ (x : PackageSpot). x.to) f.spot

  pub next-is : k + f.n ≡ p.next
  unfolding package_spot
  next-is = ap (λ (x : PackageSpot). x.next) f.spot

  pub least : 12 ≤ f.n
  least = omega (arith, piece-size, is-piece.least)

  pub within : k + f.n ≤ length run
  within = omega (arith, is-taken.fits.room, is-taken.fits.header, is-taken.size, length-drop k run)

  pub on : k < p.next
  on = omega (arith, next-is, least)

  pub still : p.next ≤ length run
  still = omega (arith, next-is, within)

  content-size : 12 + length (part 12 (half f.c 4) f.c) ≡ half f.c 4
  content-size =
      omega (arith, length-take-le (half f.c 4 - 12) (drop 12 f.c) (omega (arith, length-drop 12 f.c, is-piece.least, is-piece.whole)), is-piece.least)

  -- a part of the piece, as it stands there
  part-there : (a e : ℕ) → a ≤ e → e ≤ f.n → part a e t ≡ part a e f.c
  part-there a e h l = sym (ap (λ (s : List ℕ). take (e - a) (drop a s)) is-taken.bytes ∙ take-drop-take a (e - a) (pad (half t 4)) t (omega (arith, is-taken.size)))

  pub piece-length : length (piece_of (package_of f.c)) ≡ f.n
  unfolding piece_of package_of
  piece-length =
      let l : 12 + length (part 12 (half f.c 4) f.c) ≡ half f.c 4 = content-size in
      omega (arith, length-padded (part 12 (half f.c 4) f.c), piece-size)

-- a package that was read at the start of what is left from place k on
module _ (run : List ℕ) (k : ℕ) (p : Package) (f : Found run k (moved k p)) where
  abbrev there : List ℕ
  there = drop k run

  pub placed : length run ≤ 65536 → Placed there p
  placed l =
      let piece = is-piece run k (moved k p) f in
      let size = piece-size run k (moved k p) f in
      let next = next-is run k (moved k p) f in
      let to = to_is run k (moved k p) f in
      record {
        front = omega (arith, to, piece.least);
        padding = omega (arith, to, next, size);
        little = omega (arith, to, next, size);
        inside = omega (arith, next, within run k (moved k p) f, length-drop k run);
        short = omega (arith, length-drop k run);
      }

  -- its bytes, reserved byte and padding zero, are those that its numbers are written as
  pub piece_is : Bytes run → piece_as there p ≡ piece_of (package_of f.c)
  unfolding piece_as clean_piece
  piece_is y =
      let piece = is-piece run k (moved k p) f in
      let taken = is-taken run k (moved k p) f in
      let size = piece-size run k (moved k p) f in
      let to : p.to ≡ half f.c 4 = omega (arith, to_is run k (moved k p) f) in
      let c : Bytes f.c = rw taken.bytes (bytes_take (pad (half there 4)) there (bytes_drop k run y)) in
      let z : p.next - p.to ≡ length f.c - half f.c 4 = omega (arith, next-is run k (moved k p) f, to, size, piece.whole) in
      let a : take 6 there ≡ part 0 6 f.c = part-there run k (moved k p) f 0 6 (omega arith) (omega (arith, least run k (moved k p) f)) in
      let b : part 7 p.to there ≡ part 7 (half f.c 4) f.c = rw to (part-there run k (moved k p) f 7 (half f.c 4) (omega (arith, piece.least)) (omega (arith, size))) in
      rw (a, b, z) (sym (piece-clean f.c piece c))
