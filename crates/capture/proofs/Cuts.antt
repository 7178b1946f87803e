-- Which file is refused, and where: at its header, or at the first record that its end cuts.
use Prim.Native.Nat.{ℕ, ◌+◌, ◌-◌, ◌≤◌, ◌<◌}
use mathlib.Core.Path.{◌≡◌, refl, ap, ap₂, sym, subst, ◌∙◌}
use mathlib.Core.Logic.{⊎_elim}
use mathlib.Core.Bool.{Bool, true, false}
use mathlib.Core.List.{List, ◌++◌, map}
use native.Mathlib.Omega.{arith}
use borrow.Author.Tests.{le-leb, le-ltb, lt-ltb, ltb-true, ltb-false}
use lib.ListN.{length, take, drop, length-append, length-drop, take-append-drop, get_or-append}
use lib.Seq.{take-add, take-append_seam, take-append-le, drop-append_seam, drop-append-le, drop_at, drop-drop, length-take-le}
use Rattle.rules.specs.Outcome.{Outcome, good, bad}
use Rattle.refusal.specs.Numbers.{CAPTURE}
use Rattle.rules.specs.Bytes.{Bytes, part, join}
use Rattle.rules.specs.Items.{items, All}
use Rattle.rules.proofs.Outcomes.{pass, halt, step, stop, passed, bad_inj, good_inj, good≢bad, refused-at, refused_pass, refused-step}
use Rattle.rules.proofs.Numbers.{word-append, half-append, bytes_drop, bytes_take}
use Rattle.rules.proofs.Stops as Stops
use Rattle.rules.proofs.Stops.{Any}
use Rattle.capture.specs.File.{Order, big, little, half_in, word_in, header_good, order_of, Packet, packet, packets, record_in, file_in}
use Rattle.capture.specs.Claims.{Fits, FileOf, FileRefused, large, header, cut}
use Rattle.capture.proofs.Orders.{word-behind, records-again, packet-cut, behind-header, file-length, good-order}
use Rattle.capture.proofs.Only.{all_back, order-good, header-long, file_of}

-- ---- records

-- s stands at place p: whole records, and behind them, where the refusal is, one that the end cuts
record Cut (o : Order) (p : ℕ) (s : List ℕ) (n q : ℕ) : Type 0 where
  number : n ≡ CAPTURE
  before : List Packet
  fit : All Fits before
  rest : List ℕ
  is : join (map (record_in o) before) ++ rest ≡ s
  some : 1 ≤ length rest
  place : q ≡ p + length (join (map (record_in o) before))
  short : length rest < 16 + word_in o rest 8

word-before : (o : Order) (s t : List ℕ) (k : ℕ) → k + 3 < length s → word_in o (s ++ t) k ≡ word_in o s k
unfolding word_in
word-before big s t k h = word-append s t k h
word-before little s t k h =
    rw (get_or-append s t 0 k (omega arith), get_or-append s t 0 (k + 1) (omega arith), get_or-append s t 0 (k + 2) (omega arith), get_or-append s t 0 (k + 3) h)

-- a record is read by its own bytes, wherever they stand and whatever follows them
abbrev held : Order → List ℕ → Packet
held o c = record { seconds = word_in o c 0; micros = word_in o c 4; original = word_in o c 12; bytes = part 16 (16 + word_in o c 8) c }

packet-front : (o : Order) (p : ℕ) (c t : List ℕ) → 16 + word_in o c 8 ≤ length c → packet o p (c ++ t) ≡ good (held o c, 16 + word_in o c 8)
unfolding packet
packet-front o p c t h =
    let m : 16 + word_in o c 8 - 16 ≡ word_in o c 8 = omega arith in
    let d : take (word_in o c 8) (drop 16 (c ++ t)) ≡ take (word_in o c 8) (drop 16 c) =
    ap (take (word_in o c 8)) (drop-append-le 16 c t (omega arith)) ∙ take-append-le (word_in o c 8) (drop 16 c) t (omega (arith, length-drop 16 c)) in
    rw (word-before o c t 0 (omega arith), word-before o c t 4 (omega arith), word-before o c t 8 (omega arith), word-before o c t 12 (omega arith), m, d)
    (pass _ _ _ _ (le-ltb (length (c ++ t)) 16 (omega (arith, length-append c t)))
    (pass _ _ _ _ (le-ltb (length (c ++ t)) (16 + word_in o c 8) (omega (arith, length-append c t))) refl))

packet_owns : (o : Order) (p : ℕ) (s : List ℕ) (k : Packet) (n : ℕ) → Any s → 1 ≤ length s → packet o p s ≡ good (k, n) → Stops.Owns (packet o) Any s k n
unfolding packet
packet_owns o p s k n f l e =
    let (x, g) = passed _ _ _ _ e in
    let (y, g) = passed _ _ _ _ g in
    let size : 16 + word_in o s 8 ≡ n = ap (λ (r : Packet × ℕ). r.1) (good_inj g) in
    let long = ltb-false (length s) (16 + word_in o s 8) y in
    let m : length (take n s) ≡ n = length-take-le n s (omega arith) in
    let w : word_in o s 8 ≡ word_in o (take n s) 8 = ap (λ (t : List ℕ). word_in o t 8) (sym (take-append-drop n s)) ∙ word-before o (take n s) (drop n s) 8 (omega arith) in
    let h : 16 + word_in o (take n s) 8 ≤ length (take n s) = omega arith in
    let same = sym (packet-front o p (take n s) (drop n s) h) ∙ ap (packet o p) (take-append-drop n s) ∙ e in
    record { least = omega arith; most = omega arith; again = λ q t. packet-front o q (take n s) t h ∙ same; rest = tt; joined = λ t f. tt }

-- a packet is refused where its record is cut
cut-here : (o : Order) (p : ℕ) (s : List ℕ) {n q : ℕ} → packet o p s ≡ bad n q → (CAPTURE ≡ n) × (p ≡ q) × (length s < 16 + word_in o s 8)
unfolding packet
cut-here o p s e =
    ⊎_elim
    (λ z. (z.1, z.2, omega (arith, ltb-true (length s) 16 z.0)))
    (λ e. ⊎_elim (λ z. (z.1, z.2, ltb-true (length s) (16 + word_in o s 8) z.0)) (λ e. absurd (good≢bad (sym e))) (refused_pass _ _ _ _ e))
    (refused_pass _ _ _ _ e)

cut_off : (o : Order) (p : ℕ) (s : List ℕ) {n q : ℕ} → Bytes s → items (packet o) 0 p s ≡ bad n q → Cut o p s n q
cut_off o p s b e =
    let w = Stops.stopped (packet o) Any tt (packet_owns o) p s tt e in
    let v = all_back o 0 p (take w.place s) (bytes_take w.place s b) w.passes in
    let h = cut-here o (p + w.place) (drop w.place s) w.refused in
    record {
      number = sym h.0;
      before = w.before;
      fit = v.fit;
      rest = drop w.place s;
      is = ap (λ (t : List ℕ). t ++ drop w.place s) v.is ∙ take-append-drop w.place s;
      some = omega (arith, length-drop w.place s, w.inside);
      place = sym h.1 ∙ ap (λ (k : ℕ). p + k) (sym (ap length v.is ∙ length-take-le w.place s (omega (arith, w.inside))));
      short = h.2;
    }

-- and such records are refused there
refused-behind : (o : Order) (p : ℕ) (rest : List ℕ) {ks : List Packet} → All Fits ks → 1 ≤ length rest → length rest < 16 + word_in o rest 8
    → items (packet o) 0 p (join (map (record_in o) ks) ++ rest) ≡ bad CAPTURE (p + length (join (map (record_in o) ks)))
refused-behind o p rest {ks} f l h =
    let t : List ℕ = join (map (record_in o) ks) in
    Stops.refused-behind (packet o) Any tt (packet_owns o) p (t ++ rest) (length t) (omega (arith, length-append t rest)) tt
    (ap (items (packet o) 0 p) (take-append_seam t rest) ∙ records-again o p f)
    (ap (packet o (p + length t)) (drop-append_seam t rest) ∙ packet-cut o (p + length t) rest h)

-- ---- the file header, which is told by its own bytes

half-before : (o : Order) (s t : List ℕ) (k : ℕ) → k + 1 < length s → half_in o (s ++ t) k ≡ half_in o s k
unfolding half_in
half-before big s t k h = half-append s t k h
half-before little s t k h = rw (get_or-append s t 0 k (omega arith), get_or-append s t 0 (k + 1) h)

header-before : (o : Order) (s t : List ℕ) → 24 ≤ length s → header_good o (s ++ t) ≡ header_good o s
unfolding header_good
header-before o s t l =
    rw (
      le-leb 24 (length (s ++ t)) (omega (arith, length-append s t)),
      le-leb 24 (length s) l,
      word-before o s t 0 (omega arith),
      half-before o s t 4 (omega arith),
      half-before o s t 6 (omega arith),
      word-before o s t 20 (omega arith),
    )

order-before : (s t : List ℕ) → 24 ≤ length s → order_of (s ++ t) ≡ order_of s
unfolding order_of
order-before s t l = ap₂ (λ (a b : Bool). elim a [ true ↦ good big | false ↦ elim b [ true ↦ good little | false ↦ bad CAPTURE 0 ] ]) (header-before big s t l) (header-before little s t l)

-- ---- files

headless : (file : List ℕ) {n p : ℕ} → length file ≤ 65536 → order_of file ≡ bad n p → FileRefused file n p
unfolding order_of
headless file {n} {p} l e = go (header_good big file) refl (header_good little file) refl
  where
    neither : header_good big file ≡ false → header_good little file ≡ false → (o : Order) → header_good o file ≡ false
    neither x y big = x
    neither x y little = y

    go : (a : Bool) → header_good big file ≡ a → (b : Bool) → header_good little file ≡ b → FileRefused file n p
    go true x b y = let w : ◌≡◌ {A = Outcome Order} (good big) (bad n p) = rw (x, order_of) at e in absurd (good≢bad (sym w))
    go false x true y = let w : ◌≡◌ {A = Outcome Order} (good little) (bad n p) = rw (x, y, order_of) at e in absurd (good≢bad (sym w))
    go false x false y =
        let w : ◌≡◌ {A = Outcome Order} (bad CAPTURE 0) (bad n p) = rw (x, y, order_of) at e in
        let (a, b) = bad_inj w in
        subst (λ (k : ℕ). FileRefused file k p) a (subst (FileRefused file CAPTURE) b (header l (neither x y)))

module _ (file : List ℕ) (b : Bytes file) (l : length file ≤ 65536) (o : Order) (g : header_good o file ≡ true) {n p : ℕ} (w : Cut o 24 (drop 24 file) n p) where
  abbrev records : List ℕ
  records = join (map (record_in o) w.before)

  long : length file ≡ 24 + (length records + length w.rest)
  long = omega (arith, header-long o file g, length-drop 24 file, ap length w.is, length-append records w.rest)

  front : take p file ≡ take 24 file ++ records
  front = ap (λ (k : ℕ). take k file) w.place ∙ take-add 24 (length records) file ∙ ap (λ (t : List ℕ). take 24 file ++ take (length records) t) (sym w.is)
      ∙ ap (λ (t : List ℕ). take 24 file ++ t) (take-append_seam records w.rest)

  back : drop p file ≡ w.rest
  back = ap (λ (k : ℕ). drop k file) w.place ∙ sym (drop-drop (length records) 24 file) ∙ ap (drop (length records)) (sym w.is) ∙ drop-append_seam records w.rest

  records-are : records ≡ drop 24 (take p file)
  records-are = sym (ap (drop 24) front ∙ drop_at (take 24 file) records 24 (length-take-le 24 file (omega (arith, long))))

  before-good : header_good o (take p file) ≡ true
  before-good =
      sym (header-before o (take p file) (drop p file) (omega (arith, length-take-le p file (omega (arith, long, w.place)), w.place)))
      ∙ ap (header_good o) (take-append-drop p file) ∙ g

  cut-file : FileRefused file n p
  unfolding file_of
  cut-file =
      let e : word_in o file (p + 8) ≡ word_in o w.rest 8 = sym (word-behind o p 8 file) ∙ ap (λ (t : List ℕ). word_in o t 8) back in
      subst (λ (k : ℕ). FileRefused file k p) (sym w.number)
      (cut l (file_of o (take p file) w.before (bytes_take p file b) before-good w.fit records-are) (omega (arith, long, w.place, w.some)) (omega (arith, long, w.place, w.short, e)))

pub refused_why : (file : List ℕ) (n p : ℕ) → Bytes file → packets file ≡ bad n p → FileRefused file n p
unfolding packets
refused_why file n p b e =
    ⊎_elim
    (λ z. subst (λ (k : ℕ). FileRefused file k p) z.1 (subst (FileRefused file _) z.2 (large (ltb-true _ _ z.0))))
    (λ z.
    let l = ltb-false _ _ z.0 in
    ⊎_elim (headless file l) (λ y. cut-file file b l y.0 (order-good file y.0 y.1) (cut_off y.0 24 (drop 24 file) (bytes_drop 24 file b) y.2)) (refused-step _ _ z.1))
    (refused-at _ _ _ _ e)

module _ (file : List ℕ) (p : ℕ) (ks : List Packet) (l : length file ≤ 65536) (w : FileOf (take p file) ks) (i : p < length file) (h : length file < p + 16 + word_in w.order file (p + 8)) where
  abbrev o : Order
  o = w.order

  abbrev whole : List ℕ
  whole = file_in o w.free ks

  split : file ≡ whole ++ drop p file
  split = sym (take-append-drop p file) ∙ ap (λ (t : List ℕ). t ++ drop p file) w.is

  whole_long : 24 + length (join (map (record_in o) ks)) ≡ p
  whole_long = sym (file-length w.free w.twelve ks o) ∙ sym (ap length w.is) ∙ length-take-le p file (omega arith)

  behind : drop 24 file ≡ join (map (record_in o) ks) ++ drop p file
  behind = ap (drop 24) split ∙ drop-append-le 24 whole (drop p file) (omega (arith, file-length w.free w.twelve ks o)) ∙ ap (λ (t : List ℕ). t ++ drop p file) (behind-header w.free w.twelve ks o)

  ordered : order_of file ≡ good o
  ordered = ap order_of split ∙ order-before whole (drop p file) (omega (arith, file-length w.free w.twelve ks o)) ∙ good-order w.free w.twelve ks o

  refused-there : packets file ≡ bad CAPTURE p
  unfolding packets
  refused-there =
      pass _ _ _ _ (le-ltb 65536 (length file) l)
      (step _ _ ordered
      (ap (items (packet o) 0 24) behind
      ∙ refused-behind o 24 (drop p file) w.fit (omega (arith, length-drop p file)) (omega (arith, length-drop p file, word-behind o p 8 file)) ∙ ap (bad CAPTURE) whole_long))

pub why_refused : (file : List ℕ) {n p : ℕ} → FileRefused file n p → packets file ≡ bad n p
unfolding packets order_of
why_refused file (large l) = halt _ _ _ _ (lt-ltb 65536 (length file) l)
why_refused file (header l h) = pass _ _ _ _ (le-ltb 65536 (length file) l) (stop _ _ (rw (h big, h little, order_of)))
why_refused file (cut {p = p} {ks = ks} l w i h) = refused-there file p ks l w i h
