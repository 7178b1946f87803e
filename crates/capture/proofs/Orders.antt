-- Numbers, records and files in both byte orders: what is written is read again.
use Prim.Native.Nat.{ℕ, ◌+◌, ◌-◌, ◌≤◌, ◌<◌}
use mathlib.Core.Path.{◌≡◌, refl, ap, sym, subst, ◌∙◌}
use mathlib.Core.Bool.{Bool, true, false, ◌&&◌}
use mathlib.Core.List.{List, [], ◌++◌, map}
use native.Mathlib.Nat.{add_assoc}
use native.Mathlib.Omega.{arith}
use borrow.Author.Tests.{le-leb, le-ltb, lt-ltb}
use lib.Dec.{ltb, eqb}
use lib.ListN.{length, drop, length-append}
use lib.Seq.{take-append_seam, drop-append_seam, drop-drop, get_or-drop}
use Rattle.rules.specs.Outcome.{good, bad}
use Rattle.refusal.specs.Numbers.{CAPTURE}
use Rattle.rules.specs.Bytes.{half, word, put32, join}
use Rattle.rules.specs.Items.{items, All}
use Rattle.rules.proofs.Outcomes.{pass, halt, step}
use Rattle.rules.proofs.Numbers.{word-put32}
use Rattle.rules.proofs.Walk.{items_stop, items-join}
use Rattle.capture.specs.File.{Order, big, little, half_in, word_in, put32_in, magic, header_good, order_of, Packet, packet, packets, record_in, file_in}
use Rattle.capture.specs.Claims.{Fits}

pub word_put : (o : Order) (x : ℕ) (t : List ℕ) → x < 4294967296 → word_in o (put32_in o x t) 0 ≡ x
unfolding word_in word
word_put big x t h = word-put32 x t h
word_put little x t h = word-put32 x t h

-- the record of a packet is read as the packet
pub record_length : (k : Packet) (o : Order) → length (record_in o k) ≡ 16 + length k.bytes
unfolding record_in
record_length k big = omega arith
record_length k little = omega arith

module _ (k : Packet) (f : Fits k) where
  pub record_fields : (o : Order) (t : List ℕ) → (word_in o (record_in o k ++ t) 0 ≡ k.seconds) × (word_in o (record_in o k ++ t) 4 ≡ k.micros)
      × (word_in o (record_in o k ++ t) 8 ≡ length k.bytes) × (word_in o (record_in o k ++ t) 12 ≡ k.original) × (drop 16 (record_in o k ++ t) ≡ k.bytes ++ t)
  unfolding record_in word_in word
  record_fields big t = (word-put32 k.seconds [] f.seconds, word-put32 k.micros [] f.micros, word-put32 (length k.bytes) [] f.captured, word-put32 k.original [] f.original, refl)
  record_fields little t = (word-put32 k.seconds [] f.seconds, word-put32 k.micros [] f.micros, word-put32 (length k.bytes) [] f.captured, word-put32 k.original [] f.original, refl)

  pub packet-again : (o : Order) (p : ℕ) (t : List ℕ) → packet o p (record_in o k ++ t) ≡ good (k, length (record_in o k))
  unfolding packet
  packet-again o p t =
      let (a, b, c, d, e) = record_fields o t in
      let n : length (record_in o k ++ t) ≡ 16 + length k.bytes + length t = length-append (record_in o k) t ∙ ap (λ (x : ℕ). x + length t) (record_length k o) in
      let m : 16 + length k.bytes - 16 ≡ length k.bytes = omega arith in
      rw (a, b, c, d, e, m, take-append_seam, record_length k o, n)
      (pass _ _ _ _ (le-ltb (16 + length k.bytes + length t) 16 (omega arith))
      (pass _ _ _ _ (le-ltb (16 + length k.bytes + length t) (16 + length k.bytes) (omega arith)) refl))

-- and so are whole records, one behind the other
pub records-again : (o : Order) (p : ℕ) {ks : List Packet} → All Fits ks → items (packet o) 0 p (join (map (record_in o) ks)) ≡ good ks
records-again o p fs = items-join (packet o) (record_in o) Fits (λ k f. omega (arith, record_length k o)) (λ k f p t. packet-again k f o p t) p fs

-- a record that the end cuts, in its header or behind it, is refused where it stands
pub packet-cut : (o : Order) (p : ℕ) (s : List ℕ) → length s < 16 + word_in o s 8 → packet o p s ≡ bad CAPTURE p
unfolding packet
packet-cut o p s h = go (ltb (length s) 16) refl
  where
    go : (a : Bool) → ltb (length s) 16 ≡ a → packet o p s ≡ bad CAPTURE p
    go true e = halt _ _ _ _ e
    go false e = pass _ _ _ _ e (halt _ _ _ _ (lt-ltb (length s) (16 + word_in o s 8) h))

pub cut-refused : (o : Order) (p : ℕ) (s : List ℕ) → 1 ≤ length s → length s < 16 + word_in o s 8 → items (packet o) 0 p s ≡ bad CAPTURE p
cut-refused o p s l h = items_stop (packet o) p s l (packet-cut o p s h)

pub word-behind : (o : Order) (n k : ℕ) (s : List ℕ) → word_in o (drop n s) k ≡ word_in o s (n + k)
unfolding word_in word
word-behind big n k s = simp (get_or-drop, add_assoc)
word-behind little n k s = simp (get_or-drop, add_assoc)

-- a file is read as its packets, in both byte orders
module _ (free : List ℕ) (twelve : length free ≡ 12) (ks : List Packet) where
  behind-free : (r : List ℕ) → drop 12 (free ++ r) ≡ r
  behind-free r = subst (λ (n : ℕ). drop n (free ++ r) ≡ r) twelve (drop-append_seam free r)

  behind_twenty : (o : Order) → drop 20 (file_in o free ks) ≡ put32_in o 1 (join (map (record_in o) ks))
  unfolding file_in
  behind_twenty big = behind-free _
  behind_twenty little = behind-free _

  pub behind-header : (o : Order) → drop 24 (file_in o free ks) ≡ join (map (record_in o) ks)
  behind-header o = sym (drop-drop 4 20 (file_in o free ks)) ∙ ap (drop 4) (behind_twenty o) ∙ go o
    where
      go : (o : Order) → drop 4 (put32_in o 1 (join (map (record_in o) ks))) ≡ join (map (record_in o) ks)
      go big = refl
      go little = refl

  pub file-length : (o : Order) → length (file_in o free ks) ≡ 24 + length (join (map (record_in o) ks))
  unfolding file_in
  file-length big = omega (arith, twelve, length-append free (put32 1 (join (map (record_in big) ks))))
  file-length little = omega (arith, twelve, length-append free (put32_in little 1 (join (map (record_in little) ks))))

  linked : (o : Order) → word_in o (file_in o free ks) 20 ≡ 1
  linked o = sym (word-behind o 20 0 (file_in o free ks)) ∙ ap (λ (s : List ℕ). word_in o s 0) (behind_twenty o) ∙ word_put o 1 _ (omega arith)

  versioned : (o : Order) → (true && eqb (word_in o (file_in o free ks) 0) magic && eqb (half_in o (file_in o free ks) 4) 2 && eqb (half_in o (file_in o free ks) 6) 4) ≡ true
  unfolding word_in word half_in half file_in
  versioned big = refl
  versioned little = refl

  good-header : (o : Order) → header_good o (file_in o free ks) ≡ true
  unfolding header_good
  good-header o = rw (linked o, le-leb 24 (length (file_in o free ks)) (omega (arith, file-length o)), versioned o)

  not_big : header_good big (file_in little free ks) ≡ false
  unfolding header_good word_in word file_in
  not_big = rw (le-leb 24 (length (file_in little free ks)) (omega (arith, file-length little)))

  pub good-order : (o : Order) → order_of (file_in o free ks) ≡ good o
  unfolding order_of
  good-order big = rw (good-header big, order_of)
  good-order little = rw (not_big, good-header little, order_of)

  pub packets-again : (o : Order) → All Fits ks → length (file_in o free ks) ≤ 65536 → packets (file_in o free ks) ≡ good ks
  unfolding packets
  packets-again o fs l =
      pass _ _ _ _ (le-ltb 65536 (length (file_in o free ks)) l)
      (step _ _ (good-order o)
      (rw (behind-header o) (records-again o 24 fs)))
