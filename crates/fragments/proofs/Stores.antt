-- Runs of stores: a package cleaned where it stands, bytes moved down, and a fragment put together.
use Prim.Native.Nat.{ℕ, ◌+◌, ◌-◌, ◌*◌, ◌/◌, ◌≤◌, ◌<◌}
use mathlib.Core.Path.{◌≡◌, refl, sym, ap, subst, ◌∙◌}
use mathlib.Core.Bool.{true}
use mathlib.Core.List.{List, [], ◌∷◌, ◌++◌, map, append-nil, append_assoc}
use native.Mathlib.Nat.{add-zero}
use native.Mathlib.Omega.{arith}
use lib.ListN.{length, take, drop, replicate, length-append, length-drop, length-replicate, drop_of_length-le}
use lib.Seq.{sets, sets-eq, length-sets, take-append-add, length-take-le, take_all, drop-drop, drop_at, take_at, get_or-drop}
use borrow.Rule.Slice.PartMut.{put_mid}
use Rattle.rules.specs.Outcome.{good}
use Rattle.std.specs.List.{copy_within}
use Rattle.rules.specs.Bytes.{at, half, put16, put32, pad, padded, part, join}
use Rattle.rules.specs.Packages.{piece, cut, package_fits, Piece}
use Rattle.rules.specs.Clean.{clean_piece}
use Rattle.rules.proofs.Outcomes.{pass}
use Rattle.rules.proofs.Cut as Cut
use Rattle.rules.proofs.Pieces.{length-padded}
use Rattle.rules.proofs.Growing.{join-append, map-append}
use Rattle.rules.proofs.Loops.{Doing, doing_start, doing_next, doing_end, sets-sets, drop-sets}
use Rattle.compose.specs.declared.Record.{Record}
use Rattle.compose.specs.Payload.{Cuts, header_of, flags_with, header_by}
use Rattle.compose.proofs.Run.{cut_fits, rest-half}
use Rattle.fragments.specs.Fragment.{offset_option, fragment_bytes}
use Rattle.fragments.specs.Stored.{CleanedAt, cleaned_of, fragment_by}

-- ---- stores

pub at-sets : (xs b : List ℕ) (i k : ℕ) → i + length xs ≤ k → at (sets b i xs) k ≡ at b k
at-sets xs b i k h =
    let e : at (drop k (sets b i xs)) 0 ≡ at (drop k b) 0 = rw (drop-sets xs b i k h) in
    let f : at (drop k (sets b i xs)) 0 ≡ at (sets b i xs) k = rw (get_or-drop, add-zero) in
    let g : at (drop k b) 0 ≡ at b k = rw (get_or-drop, add-zero) in
    sym f ∙ e ∙ g

-- stores that go on where others end
pub glue : (xs ys b : List ℕ) (i j : ℕ) → j ≡ i + length xs → sets (sets b i xs) j ys ≡ sets b i (xs ++ ys)
glue xs ys b i j e = rw e (sets-sets xs ys b i)

pub take-front : (p q : List ℕ) (n k : ℕ) → length p ≡ n → take (n + k) (p ++ q) ≡ p ++ take k q
take-front p q n k e = rw (← e) (take-append-add p q k)

-- ---- a package, cleaned where it stands

module _ (c : List ℕ) (h : Piece c) where
  long : 12 ≤ length c
  long = omega (arith, h.least, h.whole)

  abbrev one : List ℕ
  one = sets c 6 (0 ∷ [])

  one-is : one ≡ take 6 c ++ (0 ∷ []) ++ drop 7 c
  one-is = sets-eq (0 ∷ []) c 6 (omega (arith, long))

  seven : length (take 6 c ++ (0 ∷ [])) ≡ 7
  seven = rw (length-append, length-take-le 6 c (omega (arith, long)))

  pub clean-length : length (clean_piece c) ≡ length c
  unfolding clean_piece
  clean-length =
      let zeros : List ℕ = replicate (length c - half c 4) 0 in
      let z : length zeros ≡ length c - half c 4 = length-replicate {A = ℕ} (length c - half c 4) 0 in
      let k : length (take (half c 4 - 7) (drop 7 c)) ≡ half c 4 - 7 = length-take-le (half c 4 - 7) (drop 7 c) (omega (arith, length-drop 7 c, h.whole, h.least)) in
      omega (arith, length-append (take 6 c ++ 0 ∷ take (half c 4 - 7) (drop 7 c)) zeros, length-append (take 6 c) (0 ∷ take (half c 4 - 7) (drop 7 c)), length-take-le 6 c (omega (arith, long)), long, h.least, h.whole)

  pub package_cleaned : {l n : ℕ} {c₁ c₂ : List ℕ} → l ≡ half c 4 → n ≡ length c → c₁ ≡ sets c 6 (0 ∷ []) → c₂ ≡ sets c₁ l (replicate (n - l) 0) → c₂ ≡ clean_piece c
  unfolding clean_piece
  package_cleaned {l} {n} {c₁} {c₂} e f g i =
      let zeros : List ℕ = replicate (length c - half c 4) 0 in
      let z : length zeros ≡ length c - half c 4 = length-replicate {A = ℕ} (length c - half c 4) 0 in
      let k : 7 + (half c 4 - 7) ≡ half c 4 = omega (arith, h.least) in
      let t : take (half c 4) one ≡ take 6 c ++ (0 ∷ []) ++ take (half c 4 - 7) (drop 7 c) =
      ap (take (half c 4)) one-is ∙ rw k at (take-front (take 6 c ++ (0 ∷ [])) (drop 7 c) 7 (half c 4 - 7) seven) in
      let m : half c 4 + length zeros ≡ length c = omega (arith, h.least, h.whole) in
      let d : drop (length c) one ≡ [] = drop_of_length-le one {i = length c} (omega (arith, length-sets c 6 (0 ∷ []))) in
      i ∙ rw (g, e, f)
      (sets-eq zeros one (half c 4) (omega (arith, length-sets c 6 (0 ∷ [])))
      ∙ rw (t, m, d, append-nil) (simp append_assoc))

-- the package at index i of a run, cleaned in a part that is lent
pub cleaned-at : (s ys : List ℕ) (i : ℕ) {l n : ℕ} → l ≡ half (take (length s - i) (drop i s)) 4 → n ≡ pad l
    → ys ≡ clean_piece (take (i + n - i) (drop i s)) → CleanedAt s i (put_mid i (i + n - i) s ys) (i + n)
cleaned-at s ys i {l} {n} e g h =
    let k : n ≡ pad (half (drop i s) 4) = omega (arith, rest-half s i) in
    let z : i + n - i ≡ n = omega arith in
    record { end = omega arith; bytes = rw (z, h, z, drop-drop n i s) }

pub piece-here : (s : List ℕ) (i : ℕ) {l n : ℕ} → package_fits (drop i s) ≡ true → l ≡ half (take (length s - i) (drop i s)) 4 → n ≡ pad l → Piece (take (i + n - i) (drop i s))
piece-here s i {l} {n} f e h =
    let k : i + n - i ≡ pad (half (drop i s) 4) = omega (arith, rest-half s i) in
    rw k (Cut.piece_of_lem (drop i s) (Cut.fit (drop i s) f))

-- ---- the loop over the packages of a run

-- of the run s the packages before index i are cleaned
pub record Cleaning (s run : List ℕ) (i : ℕ) : Type 0 where
  pub done : List (List ℕ)
  pub inside : i ≤ length s
  pub doing : Doing piece s done i
  pub long : length (join (map clean_piece done)) ≡ i
  pub same : run ≡ join (map clean_piece done) ++ drop i s

module _ (s : List ℕ) where
  pub cleaning_start : Cleaning s s 0
  cleaning_start = record { done = []; inside = omega arith; doing = doing_start piece s; long = refl; same = refl }

  module _ (run : List ℕ) (i : ℕ) (w : Cleaning s run i) where
    pub cleaning_length : length run ≡ length s
    cleaning_length = ap length w.same ∙ length-append (join (map clean_piece w.done)) (drop i s) ∙ (let a = length-drop i s in omega (arith, w.long, w.inside))

    rest_same : drop i run ≡ drop i s
    rest_same = ap (drop i) w.same ∙ drop_at (join (map clean_piece w.done)) (drop i s) i w.long

    front_same : take i run ≡ join (map clean_piece w.done)
    front_same = ap (take i) w.same ∙ take_at (join (map clean_piece w.done)) (drop i s) i w.long

    module _ (c : Cuts s) (l : i < length s) where
      fit : Cut.Fit (drop i s)
      fit = cut_fits s i w.done c w.doing l

      pub cleaning_fits : package_fits (drop i run) ≡ true
      cleaning_fits = rw rest_same (Cut.fits (drop i s) fit)

      module _ {run' : List ℕ} {e : ℕ} (m : CleanedAt run i run' e) where
        size : pad (half (drop i run) 4) ≡ pad (half (drop i s) 4)
        size = rw rest_same

        pub cleaning_less : length s - e < length s - i
        cleaning_less = omega (arith, fit.least, fit.room, m.end, size, length-drop i s, cleaning_length)

        this : List ℕ
        this = take (pad (half (drop i s) 4)) (drop i s)

        this-is : part i e run ≡ this
        unfolding this
        this-is = let k : e - i ≡ pad (half (drop i s) 4) = omega (arith, m.end, size) in rw (k, rest_same)

        piece_is : Piece this
        unfolding this
        piece_is = Cut.piece_of_lem (drop i s) fit

        this-length : length this ≡ pad (half (drop i s) 4)
        unfolding this
        this-length = length-take-le (pad (half (drop i s) 4)) (drop i s) fit.room

        piece-read : piece i (drop i s) ≡ good (this, pad (half (drop i s) 4))
        unfolding this piece
        piece-read = pass _ _ _ _ (rw (Cut.fits (drop i s) fit)) refl

        behind_same : drop e run ≡ drop e s
        behind_same =
            let k : e ≡ i + (e - i) = omega (arith, m.end) in
            rw k (sym (drop-drop (e - i) i run) ∙ ap (drop (e - i)) rest_same ∙ drop-drop (e - i) i s)

        pub cleaning_next : Cleaning s run' e
        cleaning_next =
            let k : i + pad (half (drop i s) 4) ≡ e = omega (arith, m.end, size) in
            let d : join (map clean_piece (w.done ++ (this ∷ []))) ≡ join (map clean_piece w.done) ++ clean_piece this =
            rw (map-append clean_piece w.done (this ∷ []), join-append (map clean_piece w.done) (clean_piece this ∷ []), append-nil) in
            record {
              done = w.done ++ (this ∷ []);
              inside = omega (arith, fit.room, length-drop i s);
              doing = subst (λ (x : ℕ). Doing piece s (w.done ++ (this ∷ [])) x) k (doing_next piece s w.done i this (pad (half (drop i s) 4)) w.doing l (omega (arith, fit.least)) piece-read);
              long = rw d (length-append (join (map clean_piece w.done)) (clean_piece this) ∙ omega (arith, w.long, clean-length this piece_is, this-length));
              same = m.bytes ∙ rw (front_same, this-is, behind_same, d) (sym (append_assoc (join (map clean_piece w.done)) (clean_piece this) (drop e s)));
            }

    pub cleaning_ended : length s ≤ i → run ≡ cleaned_of (cut 0 s)
    unfolding cleaned_of
    cleaning_ended l = w.same ∙ rw (drop_of_length-le s l, append-nil, doing_end piece s w.done i w.doing l)

-- ---- bytes moved down

moved : (b : List ℕ) (to from n : ℕ) → to ≤ from → from + n ≤ length b → copy_within b from (from + n) to ≡ sets b to (part from (from + n) b)
moved b to from n h l =
    let z : from + n - from ≡ n = omega arith in
    let k : length (take n (drop from b)) ≡ n = length-take-le n (drop from b) (omega (arith, length-drop from b)) in
    sym (rw z (rw k at (sets-eq (take n (drop from b)) b to (omega (arith, k)))))

-- ---- a fragment, put together

-- the header of a message, and other flags stored over its own
flags-over : (b : List ℕ) (w f g i q z s n : ℕ) {b₁ b₂ : List ℕ} → 24 ≤ length b → b₁ ≡ sets b 0 (header_of w f i q z s n) → b₂ ≡ sets b₁ 3 (g ∷ []) → b₂ ≡ sets b 0 (header_of w g i q z s n)
flags-over b w f g i q z s n {b₁} {b₂} l e h =
    let k : b₁ ≡ header_of w f i q z s n ++ drop 24 b = e ∙ sets-eq (header_of w f i q z s n) b 0 l in
    let m : length b₁ ≡ length b = ap length e ∙ length-sets b 0 (header_of w f i q z s n) in
    h ∙ sets-eq (g ∷ []) b₁ 3 (omega (arith, m)) ∙ rw k (sym (sets-eq (header_of w g i q z s n) b 0 l))

pub front_put : (b : List ℕ) (r : Record) (w f z : ℕ) {b₁ b₂ : List ℕ} → 24 + w * 4 ≤ z → 24 ≤ length b → b₁ ≡ sets b 0 (header_by r (w * 4) (z - (24 + w * 4))) → b₂ ≡ sets b₁ 3 (f ∷ [])
    → b₂ ≡ sets b 0 (header_of w f r.id.0 r.sequence z r.seconds r.nanos)
front_put b r w f z {b₁} {b₂} l n e h =
    let x : pad (w * 4) / 4 ≡ w = omega arith in
    let y : 24 + pad (w * 4) + (z - (24 + w * 4)) ≡ z = omega arith in
    let e' : b₁ ≡ sets b 0 (header_of w (flags_with r.flags (z - (24 + w * 4))) r.id.0 r.sequence z r.seconds r.nanos) = e ∙ rw (x, y) in
    flags-over b w (flags_with r.flags (z - (24 + w * 4))) f r.id.0 r.sequence z r.seconds r.nanos n e' h

pub offset-stored : (b : List ℕ) (i o : ℕ) {b₁ b₂ : List ℕ} → b₁ ≡ sets b i (put16 0x8606 []) → b₂ ≡ sets b₁ (i + 2) (put32 o []) → b₂ ≡ sets b i (offset_option o)
offset-stored b i o f g = g ∙ rw f (sets-sets (put16 0x8606 []) (put32 o []) b i)

-- header and options are stored before the payload, which stands behind them and is moved down
module _ (b : List ℕ) (front from n : ℕ) (xs : List ℕ) (long : length xs ≡ front) (behind : front ≤ from) (inside : from + n ≤ length b) where
  pub payload-length : length (part from (from + n) b) ≡ n
  payload-length =
      let z : from + n - from ≡ n = omega arith in
      rw z (length-take-le n (drop from b) (omega (arith, length-drop from b)))

  pub payload-stored : {b₁ b₂ : List ℕ} → b₁ ≡ sets b 0 xs → b₂ ≡ copy_within b₁ from (from + n) front → b₂ ≡ sets b 0 (xs ++ part from (from + n) b)
  payload-stored {b₁} {b₂} e f =
      let d : drop from b₁ ≡ drop from b = ap (drop from) e ∙ drop-sets xs b 0 from (omega arith) in
      let l : length b₁ ≡ length b = ap length e ∙ length-sets b 0 xs in
      f ∙ moved b₁ front from n behind (omega (arith, l)) ∙ rw (d, e) (glue xs (part from (from + n) b) b 0 front (omega arith))

module _ (b : List ℕ) (r : Record) (bits o from n : ℕ) (behind : 32 ≤ from) (inside : from + n ≤ length b) where
  pub later-stored : {b₁ b₂ b₃ b₄ : List ℕ} → b₁ ≡ sets b 0 (header_of 2 (r.flags + bits * 16) r.id.0 r.sequence (32 + n) r.seconds r.nanos)
      → b₂ ≡ sets b₁ 24 (offset_option o) → b₃ ≡ sets b₂ 30 (put16 0 []) → b₄ ≡ copy_within b₃ from (from + n) 32
      → b₄ ≡ sets b 0 (fragment_bytes (fragment_by r bits (offset_option o) (part from (from + n) b)))
  unfolding fragment_bytes
  later-stored {b₁} {b₂} {b₃} {b₄} e f g h =
      let front : List ℕ = header_of 2 (r.flags + bits * 16) r.id.0 r.sequence (32 + n) r.seconds r.nanos ++ offset_option o ++ put16 0 [] in
      let k : b₃ ≡ sets b 0 front = g ∙ rw (f, e) in
      payload-stored b 32 from n front refl behind inside k h ∙ rw (payload-length b 32 from n front refl behind inside)

pub front_bytes : (r : Record) (bits : ℕ) (o q : List ℕ) (m n : ℕ) → length (padded o) ≡ m → length q ≡ n
    → header_of (m / 4) (r.flags + bits * 16) r.id.0 r.sequence (24 + m + n) r.seconds r.nanos ++ padded o ++ q ≡ fragment_bytes (fragment_by r bits o q)
unfolding fragment_bytes
front_bytes r bits o q m n e f = rw (← e, ← f)

pub first-stored : (b : List ℕ) (r : Record) (options : List ℕ) (from n : ℕ) {b₁ b₂ b₃ b₄ b₅ : List ℕ} {m : ℕ} → 24 + pad (length options + 6) ≤ from → from + n ≤ length b
    → m ≡ pad (length options + 6) → b₁ ≡ sets b 0 (header_of (m / 4) (r.flags + 16) r.id.0 r.sequence (24 + m + n) r.seconds r.nanos)
    → b₂ ≡ sets b₁ 24 (part 0 (0 + length options) options) → b₃ ≡ sets b₂ (24 + length options) (offset_option 0)
    → b₄ ≡ sets b₃ (30 + length options) (replicate (m - (length options + 6)) 0) → b₅ ≡ copy_within b₄ from (from + n) (24 + m)
    → b₅ ≡ sets b 0 (fragment_bytes (fragment_by r 1 (options ++ offset_option 0) (part from (from + n) b)))
first-stored b r options from n {b₁} {b₂} {b₃} {b₄} {b₅} {m} behind inside q e f g h i =
    let head : List ℕ = header_of (m / 4) (r.flags + 16) r.id.0 r.sequence (24 + m + n) r.seconds r.nanos in
    let all : part 0 (0 + length options) options ≡ options = let z : 0 + length options - 0 ≡ length options = omega arith in rw (z, take_all (length options) options (omega arith)) in
    let len : length (options ++ offset_option 0) ≡ length options + 6 = length-append options (offset_option 0) in
    let k₁ : b₂ ≡ sets b 0 (head ++ options) = f ∙ rw (all, e) (glue head options b 0 24 refl) in
    let k₂ : b₃ ≡ sets b 0 ((head ++ options) ++ offset_option 0) = g ∙ rw k₁ (glue (head ++ options) (offset_option 0) b 0 (24 + length options) (omega (arith, length-append head options))) in
    let k₃ : b₄ ≡ sets b 0 (((head ++ options) ++ offset_option 0) ++ replicate (m - (length options + 6)) 0) =
    h ∙ rw k₂ (glue ((head ++ options) ++ offset_option 0) (replicate (m - (length options + 6)) 0) b 0 (30 + length options) (omega (arith, length-append (head ++ options) (offset_option 0), length-append head options))) in
    let front : List ℕ = head ++ padded (options ++ offset_option 0) in
    let same : ((head ++ options) ++ offset_option 0) ++ replicate (m - (length options + 6)) 0 ≡ front = rw (len, ← q) (simp append_assoc) in
    let k₄ : b₄ ≡ sets b 0 front = k₃ ∙ ap (sets b 0) same in
    let z : length front ≡ 24 + m = length-append head (padded (options ++ offset_option 0)) ∙ rw (length-padded, len) (omega arith) in
    payload-stored b (24 + m) from n front z (omega arith) inside k₄ i
    ∙ ap (sets b 0) (front_bytes r 1 (options ++ offset_option 0) (part from (from + n) b) m n (length-padded (options ++ offset_option 0) ∙ rw len (sym q)) (payload-length b (24 + m) from n front z (omega arith) inside))
