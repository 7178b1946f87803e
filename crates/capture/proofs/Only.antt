-- A file that is read is a file of the packets that it is read as: nothing else is taken for one.
use Prim.Native.Nat.{ℕ, zero, suc, ◌+◌, ◌-◌, ◌*◌, ◌/◌, ◌%◌, ◌≤◌, ◌<◌}
use mathlib.Core.Path.{◌≡◌, refl, ap, sym, subst, ◌∙◌}
use mathlib.Core.Bool.{Bool, true, false}
use mathlib.Core.List.{List, [], ◌∷◌, ◌++◌, map}
use native.Mathlib.Nat.{add-zero}
use native.Mathlib.Omega.{arith}
use borrow.Author.Tests.{leb-true, eqb-true, ltb-false}
use lib.Dec.{leb, eqb}
use lib.ListN.{length, get_or, take, drop, take-append-drop, length-drop}
use lib.Seq.{drop-nil, drop-drop, get_or-drop, length-take-le}
use Rattle.rules.specs.Outcome.{Outcome, good, bad}
use Rattle.refusal.specs.Numbers.{CAPTURE}
use Rattle.rules.specs.Bytes.{Bytes, half, word, put32, part, join}
use Rattle.rules.specs.Items.{items, All, all_nil, all_cons}
use Rattle.rules.proofs.Outcomes.{passed, stepped, fronted, both, good_inj, good≢bad}
use Rattle.rules.proofs.Numbers.{put32-word, put16-half, word_lt, bytes_drop, bytes-tail, bytes-cons, bytes-nil}
use Rattle.rules.proofs.Loops.{drop_pred}
use Rattle.capture.specs.File.{Order, big, little, half_in, word_in, put16_in, put32_in, magic, header_good, order_of, Packet, packet, packets, record_in, file_in}
use Rattle.capture.specs.Claims.{Fits, FileOf, FileOnly}
use Rattle.capture.proofs.Orders.{word-behind, record_length}

-- a number that was read, written again, in a byte order
put_word : (o : Order) (s t : List ℕ) → Bytes s → 4 ≤ length s → put32_in o (word_in o s 0) t ≡ take 4 s ++ t
unfolding word_in word
put_word big s t b l = put32-word s t b l
put_word little [] t b l = absurd (omega arith)
put_word little (a ∷ []) t b l = absurd (omega arith)
put_word little (a ∷ c ∷ []) t b l = absurd (omega arith)
put_word little (a ∷ c ∷ d ∷ []) t b l = absurd (omega arith)
put_word little (a ∷ c ∷ d ∷ e ∷ s) t b l =
    let q : put32 (word (e ∷ d ∷ c ∷ a ∷ []) 0) [] ≡ e ∷ d ∷ c ∷ a ∷ [] = put32-word (e ∷ d ∷ c ∷ a ∷ []) [] (bytes-cons (b.below 3) (bytes-cons (b.below 2) (bytes-cons (b.below 1) (bytes-cons (b.below 0) bytes-nil)))) (omega arith) in
    let x0 = ap (λ (y : List ℕ). get_or y 3 0) q in
    let x1 = ap (λ (y : List ℕ). get_or y 2 0) q in
    let x2 = ap (λ (y : List ℕ). get_or y 1 0) q in
    let x3 = ap (λ (y : List ℕ). get_or y 0 0) q in
    rw (x0, x1, x2, x3)

put_half : (o : Order) (s t : List ℕ) → Bytes s → 2 ≤ length s → put16_in o (half_in o s 0) t ≡ take 2 s ++ t
unfolding half_in half
put_half big s t b l = put16-half s t b l
put_half little [] t b l = absurd (omega arith)
put_half little (a ∷ []) t b l = absurd (omega arith)
put_half little (a ∷ c ∷ s) t b l =
    let x : (c * 256 + a) / 256 % 256 ≡ c = omega (arith, b.below 0, b.below 1) in
    let y : (c * 256 + a) % 256 ≡ a = omega (arith, b.below 0) in
    rw (x, y)

word_at : (o : Order) (k : ℕ) (s : List ℕ) → word_in o (drop k s) 0 ≡ word_in o s k
word_at o k s = word-behind o k 0 s ∙ ap (word_in o s) (add-zero k)

half_at : (o : Order) (k : ℕ) (s : List ℕ) → half_in o (drop k s) 0 ≡ half_in o s k
unfolding half_in half
half_at big k s = simp (get_or-drop, add-zero)
half_at little k s = simp (get_or-drop, add-zero)

word_small : (o : Order) (s : List ℕ) → Bytes s → (k : ℕ) → word_in o s k < 4294967296
unfolding word_in word
word_small big s b k = word_lt s b k
word_small little s b k = omega (arith, b.below k, b.below (k + 1), b.below (k + 2), b.below (k + 3))

-- in front of what follows it
seam : (n k : ℕ) (s : List ℕ) → take n (drop k s) ++ drop (k + n) s ≡ drop k s
seam n k s = ap (λ (t : List ℕ). take n (drop k s) ++ t) (sym (drop-drop n k s)) ∙ take-append-drop n (drop k s)

word_seam : (o : Order) (k : ℕ) (s : List ℕ) → Bytes s → k + 4 ≤ length s → put32_in o (word_in o s k) (drop (k + 4) s) ≡ drop k s
word_seam o k s b l =
    ap (λ (x : ℕ). put32_in o x (drop (k + 4) s)) (sym (word_at o k s)) ∙ put_word o (drop k s) (drop (k + 4) s) (bytes_drop k s b) (omega (arith, length-drop k s)) ∙ seam 4 k s

half_seam : (o : Order) (k : ℕ) (s : List ℕ) → Bytes s → k + 2 ≤ length s → put16_in o (half_in o s k) (drop (k + 2) s) ≡ drop k s
half_seam o k s b l =
    ap (λ (x : ℕ). put16_in o x (drop (k + 2) s)) (sym (half_at o k s)) ∙ put_half o (drop k s) (drop (k + 2) s) (bytes_drop k s b) (omega (arith, length-drop k s)) ∙ seam 2 k s

put_append : (o : Order) (x : ℕ) (s t : List ℕ) → put32_in o x s ++ t ≡ put32_in o x (s ++ t)
put_append big x s t = refl
put_append little x s t = refl

-- the record of a packet that was read
pub record Back (o : Order) (s : List ℕ) (k : Packet) (n : ℕ) : Type 0 where
  pub fit : Fits k
  pub is : record_in o k ++ drop n s ≡ s
  pub size : length (record_in o k) ≡ n
  pub least : 1 ≤ n

module _ (o : Order) (s : List ℕ) (b : Bytes s) (h : 16 + word_in o s 8 ≤ length s) where
  abbrev held : Packet
  held = record { seconds = word_in o s 0; micros = word_in o s 4; original = word_in o s 12; bytes = part 16 (16 + word_in o s 8) s }

  long : length (part 16 (16 + word_in o s 8) s) ≡ word_in o s 8
  long = let e : 16 + word_in o s 8 - 16 ≡ word_in o s 8 = omega arith in rw e (length-take-le (word_in o s 8) (drop 16 s) (omega (arith, length-drop 16 s)))

  tail : part 16 (16 + word_in o s 8) s ++ drop (16 + word_in o s 8) s ≡ drop 16 s
  tail = let e : 16 + word_in o s 8 - 16 ≡ word_in o s 8 = omega arith in rw e (seam (word_in o s 8) 16 s)

  whole : record_in o held ++ drop (16 + word_in o s 8) s ≡ s
  unfolding record_in
  whole =
      rw (put_append, put_append, put_append, put_append, tail, long, word_seam o 12 s b (omega arith), word_seam o 8 s b (omega arith), word_seam o 4 s b (omega arith)) (word_seam o 0 s b (omega arith))

  back : Back o s held (16 + word_in o s 8)
  back = record {
    fit = record { seconds = word_small o s b 0; micros = word_small o s b 4; original = word_small o s b 12; captured = rw long (word_small o s b 8) };
    is = whole;
    size = record_length held o ∙ ap (λ (n : ℕ). 16 + n) long;
    least = omega arith;
  }

pub read_back : (o : Order) (p : ℕ) (s : List ℕ) (k : Packet) (n : ℕ) → Bytes s → packet o p s ≡ good (k, n) → Back o s k n
unfolding packet
read_back o p s k n b e =
    let (x, e) = passed _ _ _ _ e in
    let (y, e) = passed _ _ _ _ e in
    subst (λ (r : Packet × ℕ). Back o s r.0 r.1) (good_inj e) (back o s b (ltb-false _ _ y))

pub record AllBack (o : Order) (s : List ℕ) (ks : List Packet) : Type 0 where
  pub fit : All Fits ks
  pub is : join (map (record_in o) ks) ≡ s

pub all_back : (o : Order) (k p : ℕ) (s : List ℕ) {ks : List Packet} → Bytes s → items (packet o) k p s ≡ good ks → AllBack o (drop k s) ks
unfolding items
all_back o k p [] {ks} b e = let q : [] ≡ ks = cc in rw (← q, drop-nil) (record { fit = all_nil; is = refl })
all_back o (suc k) p (x ∷ s) b e = all_back o k (suc p) s (bytes-tail b) e
all_back o zero p (x ∷ s) b e =
    let (r, g, e) = stepped _ _ e in
    let (l, i, e) = fronted _ _ e in
    let w = read_back o p (x ∷ s) r.0 r.1 b g in
    let v = all_back o (r.1 - 1) (suc p) s (bytes-tail b) i in
    rw (← e) (record { fit = all_cons w.fit v.fit; is = ap (λ (t : List ℕ). record_in o r.0 ++ t) (v.is ∙ sym (drop_pred r.1 x s w.least)) ∙ w.is })

-- the file header
pub order-good : (file : List ℕ) (o : Order) → order_of file ≡ good o → header_good o file ≡ true
unfolding order_of
order-good file o e = go (header_good big file) refl (header_good little file) refl
  where
    go : (a : Bool) → header_good big file ≡ a → (b : Bool) → header_good little file ≡ b → header_good o file ≡ true
    go true x b y = let w : ◌≡◌ {A = Outcome Order} (good big) (good o) = rw (x, order_of) at e in subst (λ (z : Order). header_good z file ≡ true) (good_inj w) x
    go false x true y = let w : ◌≡◌ {A = Outcome Order} (good little) (good o) = rw (x, y, order_of) at e in subst (λ (z : Order). header_good z file ≡ true) (good_inj w) y
    go false x false y = let w : ◌≡◌ {A = Outcome Order} (bad CAPTURE 0) (good o) = rw (x, y, order_of) at e in absurd (good≢bad w)

pub header_is : (o : Order) (file : List ℕ) (ks : List Packet) → Bytes file → header_good o file ≡ true → join (map (record_in o) ks) ≡ drop 24 file → file ≡ file_in o (take 12 (drop 8 file)) ks
unfolding header_good file_in
header_is o file ks b g j =
    let (x, link) = both _ _ g in
    let (x, minor) = both _ _ x in
    let (x, major) = both _ _ x in
    let (x, first) = both (leb 24 (length file)) (eqb (word_in o file 0) magic) x in
    let l = leb-true 24 (length file) x in
    let a : put32_in o 1 (drop 24 file) ≡ drop 20 file = ap (λ (x : ℕ). put32_in o x (drop 24 file)) (sym (eqb-true (word_in o file 20) 1 link)) ∙ word_seam o 20 file b (omega arith) in
    let c : take 12 (drop 8 file) ++ drop 20 file ≡ drop 8 file = seam 12 8 file in
    let d : put16_in o 4 (drop 8 file) ≡ drop 6 file = ap (λ (x : ℕ). put16_in o x (drop 8 file)) (sym (eqb-true (half_in o file 6) 4 minor)) ∙ half_seam o 6 file b (omega arith) in
    let e : put16_in o 2 (drop 6 file) ≡ drop 4 file = ap (λ (x : ℕ). put16_in o x (drop 6 file)) (sym (eqb-true (half_in o file 4) 2 major)) ∙ half_seam o 4 file b (omega arith) in
    let f : put32_in o magic (drop 4 file) ≡ file = ap (λ (x : ℕ). put32_in o x (drop 4 file)) (sym (eqb-true (word_in o file 0) magic first)) ∙ word_seam o 0 file b (omega arith) in
    sym (rw (j, a, c, d, e) f)

pub header-long : (o : Order) (s : List ℕ) → header_good o s ≡ true → 24 ≤ length s
unfolding header_good
header-long o s e =
    let (x, _) = both _ _ e in
    let (x, _) = both _ _ x in
    let (x, _) = both _ _ x in
    let (x, _) = both (leb 24 (length s)) (eqb (word_in o s 0) magic) x in
    leb-true 24 (length s) x

unfoldable pub file_of : (o : Order) (file : List ℕ) (ks : List Packet) → Bytes file → header_good o file ≡ true → All Fits ks → join (map (record_in o) ks) ≡ drop 24 file → FileOf file ks
file_of o file ks b g f j =
    record { order = o; free = take 12 (drop 8 file); twelve = length-take-le 12 (drop 8 file) (omega (arith, header-long o file g, length-drop 8 file)); fit = f; is = header_is o file ks b g j }

pub file-only : FileOnly
unfolding packets
file-only file ks b e =
    let (l, e) = passed _ _ _ _ e in
    let (o, h, i) = stepped _ _ e in
    let w = all_back o 0 24 (drop 24 file) (bytes_drop 24 file b) i in
    file_of o file ks b (order-good file o h) w.fit w.is
