-- A file and its twin in the other byte order are read as the same packets, and refused for the same reason at the same place.
use Prim.Native.Nat.{ℕ, zero, suc, ◌+◌, ◌-◌, ◌≤◌, ◌<◌}
use mathlib.Core.Path.{◌≡◌, refl, ap, sym, ◌∙◌}
use mathlib.Core.Bool.{Bool, true, false}
use mathlib.Core.List.{List, [], ◌∷◌, ◌++◌, map, append-nil}
use native.Mathlib.Omega.{arith}
use borrow.Author.Tests.{le-leb, le-ltb, lt-ltb, ltb-true, ltb-false, eqb-true}
use lib.Dec.{leb, ltb, eqb}
use lib.ListN.{length, take, drop, length-append, length-drop, drop_of_length-le}
use lib.Seq.{take_all, take_at, drop_at, drop-drop, take-append_seam, drop-append_seam, length-take-le}
use Rattle.rules.specs.Outcome.{Outcome, good, bad, ◌>>=◌, ◌∷>◌}
use Rattle.rules.specs.Bytes.{Bytes, at, half, word, part, join}
use Rattle.rules.specs.Items.{items, All, all_nil, all_cons}
use Rattle.rules.proofs.Outcomes.{both, pass}
use Rattle.rules.proofs.Walk.{items-next}
use Rattle.rules.proofs.Loops.{drop_pred}
use Rattle.capture.specs.File.{Order, big, little, half_in, word_in, magic, header_good, order_of, Packet, packet, packets, record_in, file_in}
use Rattle.capture.specs.Twins.{other, turned4, turned_record, turned_records, turned_behind, turned_header, twin, free_in}
use Rattle.capture.specs.Claims.{Fits}
use Rattle.capture.proofs.Orders.{cut-refused, record_length, record_fields, behind-header, file-length, good-order}

-- ---- records

-- a record's header, turned round
abbrev turned_front : List ℕ → List ℕ → List ℕ
turned_front s t = turned4 s 0 (turned4 s 4 (turned4 s 8 (turned4 s 12 t)))

fields : (o : Order) (s t : List ℕ) → (word_in (other o) (turned_front s t) 0 ≡ word_in o s 0) × (word_in (other o) (turned_front s t) 4 ≡ word_in o s 4)
    × (word_in (other o) (turned_front s t) 8 ≡ word_in o s 8) × (word_in (other o) (turned_front s t) 12 ≡ word_in o s 12)
unfolding word_in word
fields big s t = (refl, refl, refl, refl)
fields little s t = (refl, refl, refl, refl)

skipped : (o : Order) (k : ℕ) (s : List ℕ) → turned_records o k s ≡ turned_records o 0 (drop k s)
unfolding turned_records
skipped o zero s = refl
skipped o (suc k) [] = refl
skipped o (suc k) (x ∷ s) = skipped o k s

next : (o : Order) (s : List ℕ) → 1 ≤ length s → turned_records o 0 s ≡ turned_record o s ++ turned_records o 0 (drop (16 + word_in o s 8) s)
unfolding turned_records
next o [] l = absurd (omega arith)
next o (x ∷ s) l =
    ap (λ (t : List ℕ). turned_record o (x ∷ s) ++ t)
    (skipped o (16 + word_in o (x ∷ s) 8 - 1) s ∙ ap (turned_records o 0) (sym (drop_pred (16 + word_in o (x ∷ s) 8) x s (omega arith))))

-- a record whose header is cut, and one whose header is whole
module _ (o : Order) (p : ℕ) (s : List ℕ) (l : 1 ≤ length s) where
  front_same : length s < 16 → turned_records o 0 s ≡ s
  unfolding turned_record turned_records
  front_same h = next o s l ∙ rw (lt-ltb (length s) 16 h, drop_of_length-le s {i = 16 + word_in o s 8} (omega arith), turned_record, turned_records) (append-nil s)

  module _ (h : 16 ≤ length s) where
    turned-is : turned_records o 0 s ≡ turned_front s (part 16 (16 + word_in o s 8) s ++ turned_records o 0 (drop (16 + word_in o s 8) s))
    unfolding turned_record
    turned-is = next o s l ∙ rw (le-ltb (length s) 16 h, turned_record)

    whole : (t : Order) (u : List ℕ) → 16 + word_in t u 8 ≤ length u
        → items (packet t) 0 p u ≡ (record { seconds = word_in t u 0; micros = word_in t u 4; original = word_in t u 12; bytes = part 16 (16 + word_in t u 8) u } ∷> items (packet t) 0 (p + (16 + word_in t u 8)) (drop (16 + word_in t u 8) u))
    unfolding packet
    whole t u a = items-next (packet t) p u _ (16 + word_in t u 8) (omega arith) (omega arith) (pass _ _ _ _ (le-ltb (length u) 16 (omega arith)) (pass _ _ _ _ (le-ltb (length u) (16 + word_in t u 8) a) refl))

    part-long : 16 + word_in o s 8 ≤ length s → length (part 16 (16 + word_in o s 8) s) ≡ word_in o s 8
    part-long a = let e : 16 + word_in o s 8 - 16 ≡ word_in o s 8 = omega arith in rw e (length-take-le (word_in o s 8) (drop 16 s) (omega (arith, length-drop 16 s)))

    part_cut : length s < 16 + word_in o s 8 → part 16 (16 + word_in o s 8) s ≡ drop 16 s
    part_cut a = take_all (16 + word_in o s 8 - 16) (drop 16 s) (omega (arith, length-drop 16 s))

-- all records, and as many bytes
record Same (o : Order) (p : ℕ) (s : List ℕ) : Type 0 where
  reads : items (packet (other o)) 0 p (turned_records o 0 s) ≡ items (packet o) 0 p s
  long : length (turned_records o 0 s) ≡ length s

module _ (o : Order) (p : ℕ) (s : List ℕ) (l : 1 ≤ length s) where
  abbrev n : ℕ
  n = 16 + word_in o s 8

  same_front : length s < 16 → Same o p s
  same_front h =
      let i = front_same o p s l h in
      record { reads = ap (items (packet (other o)) 0 p) i ∙ cut-refused (other o) p s l (omega arith) ∙ sym (cut-refused o p s l (omega arith)); long = ap length i }

  module _ (h : 16 ≤ length s) where
    same_cut : length s < n → Same o p s
    unfolding turned_records
    same_cut a =
        let c : turned_records o 0 s ≡ turned_front s (drop 16 s) =
        turned-is o p s l h ∙ ap (turned_front s) (rw (part_cut o p s l h a, drop_of_length-le s {i = n} (omega arith), turned_records) (append-nil (drop 16 s)))
        in
        let k : length (turned_front s (drop 16 s)) ≡ length s = omega (arith, length-drop 16 s) in
        record {
          reads =
              ap (items (packet (other o)) 0 p) c ∙ cut-refused (other o) p (turned_front s (drop 16 s)) (omega arith) (omega (arith, k, (fields o s (drop 16 s)).2)) ∙ sym (cut-refused o p s l a);
          long = ap length c ∙ k;
        }

    module _ (a : n ≤ length s) (w : Same o (p + n) (drop n s)) where
      abbrev body : List ℕ
      body = part 16 n s

      abbrev rest : List ℕ
      rest = turned_records o 0 (drop n s)

      abbrev turned : List ℕ
      turned = turned_front s (body ++ rest)

      body-long : length body ≡ word_in o s 8
      body-long = part-long o p s l h a

      turned-long : length turned ≡ length s
      turned-long = omega (arith, length-append body rest, body-long, w.long, length-drop n s)

      behind : drop n turned ≡ rest
      behind = sym (drop-drop (word_in o s 8) 16 turned) ∙ drop_at body rest (word_in o s 8) body-long

      same_body : part 16 n turned ≡ body
      same_body = let e : n - 16 ≡ word_in o s 8 = omega arith in ap (λ (k : ℕ). take k (body ++ rest)) e ∙ take_at body rest (word_in o s 8) body-long

      same_whole : Same o p s
      same_whole =
          let (f, g, k, m) = fields o s (body ++ rest) in
          record {
            reads =
                ap (items (packet (other o)) 0 p) (turned-is o p s l h)
                ∙ rw (f, g, k, m, same_body, behind, w.reads) at (whole o p s l h (other o) turned (rw k (omega (arith, turned-long))))
                ∙ sym (whole o p s l h o s a);
            long = ap length (turned-is o p s l h) ∙ turned-long;
          }

same_step : (o : Order) (p : ℕ) (s : List ℕ) → ((q : ℕ) (t : List ℕ) → length t < length s → Same o q t) → Same o p s
unfolding items turned_records
same_step o p [] shorter = record { reads = refl; long = refl }
same_step o p (x ∷ s) shorter = go (ltb (length (x ∷ s)) 16) refl (ltb (length (x ∷ s)) (16 + word_in o (x ∷ s) 8)) refl
  where
    go : (a : Bool) → ltb (length (x ∷ s)) 16 ≡ a → (b : Bool) → ltb (length (x ∷ s)) (16 + word_in o (x ∷ s) 8) ≡ b → Same o p (x ∷ s)
    go true e b f = same_front o p (x ∷ s) (omega arith) (ltb-true _ _ e)
    go false e true f = same_cut o p (x ∷ s) (omega arith) (ltb-false _ _ e) (ltb-true _ _ f)
    go false e false f =
        same_whole o p (x ∷ s) (omega arith) (ltb-false _ _ e) (ltb-false _ _ f) (shorter _ _ (omega (arith, length-drop (16 + word_in o (x ∷ s) 8) (x ∷ s))))

same : (most : ℕ) (o : Order) (p : ℕ) (s : List ℕ) → length s ≤ most → Same o p s
same zero o p s l = same_step o p s (λ q t m. absurd (omega arith))
same (suc most) o p s l = same_step o p s (λ q t m. same most o q t (omega arith))

-- ---- the file header

-- no header is good in both byte orders: their magic differs
exclusive : (s : List ℕ) → Bytes s → header_good big s ≡ true → header_good little s ≡ true → ⊥
unfolding header_good word_in word
exclusive s b x y =
    let (x, _) = both _ _ x in
    let (x, _) = both _ _ x in
    let (x, _) = both _ _ x in
    let (_, x) = both (leb 24 (length s)) (eqb (word_in big s 0) magic) x in
    let (y, _) = both _ _ y in
    let (y, _) = both _ _ y in
    let (y, _) = both _ _ y in
    let (_, y) = both (leb 24 (length s)) (eqb (word_in little s 0) magic) y in
    let m : word s 0 ≡ 2712847316 = eqb-true (word_in big s 0) magic x in
    let n : word_in little s 0 ≡ 2712847316 = eqb-true (word_in little s 0) magic y in
    let d : at s 3 ≡ 212 = omega (arith, m, b.below 3) in
    omega (arith, n, d)

other_of : Outcome Order → Outcome Order
other_of (good o) = good (other o)
other_of (bad n p) = bad n p

module _ (s t : List ℕ) (h : 24 ≤ length s) where
  long : leb 24 (length (turned_header s t)) ≡ true
  long = le-leb 24 (length (turned_header s t)) (omega arith)

  turned-big : header_good little (turned_header s t) ≡ header_good big s
  unfolding header_good word_in word half_in half
  turned-big = rw (long, le-leb 24 (length s) h)

  turned-little : header_good big (turned_header s t) ≡ header_good little s
  unfolding header_good word_in word half_in half
  turned-little = rw (long, le-leb 24 (length s) h)

  -- the twin's byte order is the other one, and a bad header's twin is bad
  turned-order : Bytes s → order_of (turned_header s t) ≡ other_of (order_of s)
  unfolding order_of other_of
  turned-order b = go (header_good big s) refl (header_good little s) refl
    where
      go : (x : Bool) → header_good big s ≡ x → (y : Bool) → header_good little s ≡ y → order_of (turned_header s t) ≡ other_of (order_of s)
      go true f true g = absurd (exclusive s b f g)
      go true f false g = rw (turned-little ∙ g, turned-big ∙ f, f, order_of)
      go false f true g = rw (turned-little ∙ g, f, g, order_of)
      go false f false g = rw (turned-little ∙ g, turned-big ∙ f, f, g, order_of)

-- the rest of reading, in a byte order that was found or not
abbrev found : Outcome Order → List ℕ → Outcome (List Packet)
found r s = r >>= λ o. items (packet o) 0 24 s

found_same : (r : Outcome Order) (s : List ℕ) → found (other_of r) (turned_behind r s) ≡ found r s
unfolding other_of turned_behind ◌>>=◌
found_same (good o) s = (same (length s) o 24 s (omega arith)).reads
found_same (bad n p) s = refl

behind-long : (r : Outcome Order) (s : List ℕ) → length (turned_behind r s) ≡ length s
unfolding turned_behind
behind-long (good o) s = (same (length s) o 24 s (omega arith)).long
behind-long (bad n p) s = refl

pub packets-twin : (file : List ℕ) → Bytes file → packets (twin file) ≡ packets file
unfolding twin packets
packets-twin file b = go (ltb (length file) 24) refl
  where
    go : (a : Bool) → ltb (length file) 24 ≡ a → packets (twin file) ≡ packets file
    go true e = rw (e, twin)
    go false e =
        let h = ltb-false (length file) 24 e in
        let t : List ℕ = turned_behind (order_of file) (drop 24 file) in
        let l : length (turned_header file t) ≡ length file = omega (arith, behind-long (order_of file) (drop 24 file), length-drop 24 file) in
        let o : order_of (turned_header file t) ≡ other_of (order_of file) = turned-order file t h b in
        rw (e, twin, l, o, found_same (order_of file) (drop 24 file))

-- ---- the twin of a file of packets is the file of these packets in the other byte order

front-turned : (o : Order) (k : Packet) (t : List ℕ) → turned_front (record_in o k ++ t) k.bytes ≡ record_in (other o) k
unfolding record_in
front-turned big k t = refl
front-turned little k t = refl

module _ (o : Order) (k : Packet) (f : Fits k) (t : List ℕ) where
  abbrev here : List ℕ
  here = record_in o k ++ t

  here-long : length here ≡ 16 + length k.bytes + length t
  here-long = length-append (record_in o k) t ∙ ap (λ (n : ℕ). n + length t) (record_length k o)

  content : part 16 (16 + word_in o here 8) here ≡ k.bytes
  content =
      let (_, _, n, _, d) = record_fields k f o t in
      let e : 16 + length k.bytes - 16 ≡ length k.bytes = omega arith in
      rw (n, e, d) (take-append_seam k.bytes t)

  front : (b : List ℕ) → b ≡ k.bytes → turned_front here b ≡ record_in (other o) k
  front b e = rw e (front-turned o k t)

  turned_record_lem : turned_record o here ≡ record_in (other o) k
  unfolding turned_record
  turned_record_lem = rw (le-ltb (length here) 16 (omega (arith, here-long)), turned_record) (front _ content)

  turned-next : turned_records o 0 here ≡ record_in (other o) k ++ turned_records o 0 t
  turned-next =
      let e : 16 + word_in o here 8 ≡ length (record_in o k) = ap (λ (n : ℕ). 16 + n) (record_fields k f o t).2 ∙ sym (record_length k o) in
      next o here (omega (arith, here-long)) ∙ rw (turned_record_lem, e) (ap (λ (r : List ℕ). record_in (other o) k ++ turned_records o 0 r) (drop-append_seam (record_in o k) t))

turned-all : (o : Order) {ks : List Packet} → All Fits ks → turned_records o 0 (join (map (record_in o) ks)) ≡ join (map (record_in (other o)) ks)
unfolding turned_records
turned-all o all_nil = refl
turned-all o (all_cons {a = k} {l = ks} f fs) = turned-next o k f (join (map (record_in o) ks)) ∙ ap (λ (r : List ℕ). record_in (other o) k ++ r) (turned-all o fs)

module _ (zone accuracy snap : ℕ) (ks : List Packet) where
  abbrev file : Order → List ℕ
  file o = file_in o (free_in o zone accuracy snap) ks

  twelve : (o : Order) → length (free_in o zone accuracy snap) ≡ 12
  twelve big = refl
  twelve little = refl

  header-turned : (o : Order) → turned_header (file o) (join (map (record_in (other o)) ks)) ≡ file (other o)
  unfolding file_in
  header-turned big = refl
  header-turned little = refl

  pub twin-is : (o : Order) → All Fits ks → twin (file o) ≡ file (other o)
  unfolding twin turned_behind
  twin-is o fs =
      let n = file-length (free_in o zone accuracy snap) (twelve o) ks o in
      rw (le-ltb (length (file o)) 24 (omega (arith, n)), twin, good-order (free_in o zone accuracy snap) (twelve o) ks o, behind-header (free_in o zone accuracy snap) (twelve o) ks o, turned-all o fs) (header-turned o)
