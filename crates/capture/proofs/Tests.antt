-- What the tests of the code say: numbers in a byte order, the file header, a record, and the tests of a frame.
use Prim.Native.Nat.{ℕ, ◌+◌, ◌-◌, ◌*◌, ◌/◌, ◌%◌, ◌≤◌, ◌<◌}
use mathlib.Core.Path.{◌≡◌, ap, sym, ◌∙◌}
use mathlib.Core.Bool.{Bool, true, false}
use mathlib.Core.List.{List}
use native.Mathlib.Omega.{arith}
use borrow.Author.Tests.{le-leb, lt-leb, eq-eqb, ne_eqb}
use lib.Dec.{leb, eqb}
use lib.ListN.{length, take, drop}
use Rattle.rules.specs.Bytes.{at, half, word}
use Rattle.rules.proofs.Loops.{rest}
use Rattle.wire.specs.Order.{reversed}
use Rattle.wire.proofs.Order.{turned-back}
use Rattle.capture.specs.File.{Order, half_in, word_in, header_good}
use Rattle.capture.specs.Frame.{ip_header, for_us, lengths_fit}
use Rattle.std.specs.Prelude.{Option, Some, None}
use Rattle.capture.specs.Told.{order_by, slot_of, datagram_for_us}
use Rattle.capture.specs.declared.Slot.{Slot}

-- ---- numbers in a byte order

pub half-big : (s : List ℕ) (k h : ℕ) → h ≡ half s k → (o : Bool) → o ≡ true → h ≡ half_in (order_by o) s k
unfolding half_in
half-big s k h e o t = rw t e

pub word-big : (s : List ℕ) (k w : ℕ) → w ≡ word s k → (o : Bool) → o ≡ true → w ≡ word_in (order_by o) s k
unfolding word_in
word-big s k w e o t = rw t e

module _ (s : List ℕ) (k : ℕ) (small : (i : ℕ) → at s i < 256) where
  pub half-little : (h : ℕ) → h ≡ half s k → (o : Bool) → o ≡ false → h % 256 * 256 + h / 256 ≡ half_in (order_by o) s k
  unfolding half_in half
  half-little h e o t = rw t (omega (arith, e, small k, small (k + 1)))

  pub word-little : (w : ℕ) → w ≡ word s k → (o : Bool) → o ≡ false → reversed w ≡ word_in (order_by o) s k
  unfolding word_in
  word-little w e o t = rw t (turned-back s k small e)

-- ---- the file header

module _ (o : Order) (s : List ℕ) where
  pub header-short : length s < 24 → false ≡ header_good o s
  unfolding header_good
  header-short h = rw (lt-leb 24 (length s) h)

  module _ (h : 24 ≤ length s) (m : ℕ) (em : m ≡ word_in o s 0) where
    pub header-magic : (m ≡ 0xA1B2C3D4 → ⊥) → false ≡ header_good o s
    unfolding header_good
    header-magic n = rw (le-leb 24 (length s) h, ne_eqb (word_in o s 0) 0xA1B2C3D4 (λ e. n (em ∙ e)))

    module _ (hm : m ≡ 0xA1B2C3D4) (v : ℕ) (ev : v ≡ half_in o s 4) where
      pub header_major : (v ≡ 2 → ⊥) → false ≡ header_good o s
      unfolding header_good
      header_major n = rw (le-leb 24 (length s) h, eq-eqb (word_in o s 0) 0xA1B2C3D4 (sym em ∙ hm), ne_eqb (half_in o s 4) 2 (λ e. n (ev ∙ e)))

      module _ (hv : v ≡ 2) (w : ℕ) (ew : w ≡ half_in o s 6) where
        pub header_minor : (w ≡ 4 → ⊥) → false ≡ header_good o s
        unfolding header_good
        header_minor n = rw (le-leb 24 (length s) h, eq-eqb (word_in o s 0) 0xA1B2C3D4 (sym em ∙ hm), eq-eqb (half_in o s 4) 2 (sym ev ∙ hv), ne_eqb (half_in o s 6) 4 (λ e. n (ew ∙ e)))

        pub header_link : w ≡ 4 → (l : ℕ) → l ≡ word_in o s 20 → eqb l 1 ≡ header_good o s
        unfolding header_good
        header_link hw l el = rw (le-leb 24 (length s) h, eq-eqb (word_in o s 0) 0xA1B2C3D4 (sym em ∙ hm), eq-eqb (half_in o s 4) 2 (sym ev ∙ hv), eq-eqb (half_in o s 6) 4 (sym ew ∙ hw), el)

-- ---- a record

module _ (o : Order) (s : List ℕ) where
  pub slot_short : length s < 16 → None ≡ slot_of o s
  unfolding slot_of
  slot_short h = rw (lt-leb 16 (length s) h, slot_of)

  module _ (h : 16 ≤ length s) (n : ℕ) (en : n ≡ word_in o s 8) where
    pub slot_cut : length s < 16 + n → None ≡ slot_of o s
    unfolding slot_of
    slot_cut l = rw (le-leb 16 (length s) h, lt-leb (16 + word_in o s 8) (length s) (omega (arith, en)), slot_of)

    pub slot_whole : 16 + n ≤ length s → (w : ℕ) → w ≡ word_in o s 12 → ◌≡◌ {A = Option Slot} (Some (record { size = 16 + n; original = w })) (slot_of o s)
    unfolding slot_of
    slot_whole l w ew = rw (le-leb 16 (length s) h, le-leb (16 + word_in o s 8) (length s) (omega (arith, en)), slot_of) (rw (en, ew))

-- ---- a datagram for us

module _ (port : ℕ) (ip : List ℕ) (a : ℕ) (ea : a ≡ at ip 0) where
  pub version-other : (a / 16 ≡ 4 → ⊥) → false ≡ datagram_for_us port ip
  unfolding datagram_for_us
  version-other n = rw (ne_eqb (at ip 0 / 16) 4 (λ e. n (rw ea e)))

  module _ (ha : a / 16 ≡ 4) (h : ℕ) (eh : h ≡ ip_header ip) where
    four : eqb (at ip 0 / 16) 4 ≡ true
    four = eq-eqb (at ip 0 / 16) 4 (rw ea at ha)

    pub header-low : h < 20 → false ≡ datagram_for_us port ip
    unfolding datagram_for_us
    header-low l = rw (four, lt-leb 20 (ip_header ip) (omega (arith, eh)))

    module _ (hh : 20 ≤ h) (f : ℕ) (ef : f ≡ half ip 6) where
      long : leb 20 (ip_header ip) ≡ true
      long = le-leb 20 (ip_header ip) (omega (arith, eh))

      pub fragmented : (f % 16384 ≡ 0 → ⊥) → false ≡ datagram_for_us port ip
      unfolding datagram_for_us
      fragmented n = rw (four, long, ne_eqb (half ip 6 % 16384) 0 (λ e. n (rw ef e)))

      module _ (hf : f % 16384 ≡ 0) (p : ℕ) (ep : p ≡ at ip 9) where
        whole : eqb (half ip 6 % 16384) 0 ≡ true
        whole = eq-eqb (half ip 6 % 16384) 0 (rw ef at hf)

        pub protocol_other : (p ≡ 17 → ⊥) → false ≡ datagram_for_us port ip
        unfolding datagram_for_us
        protocol_other n = rw (four, long, whole, ne_eqb (at ip 9) 17 (λ e. n (ep ∙ e)))

        module _ (hp : p ≡ 17) where
          udp : eqb (at ip 9) 17 ≡ true
          udp = eq-eqb (at ip 9) 17 (sym ep ∙ hp)

          pub port_unseen : length ip < h + 4 → false ≡ datagram_for_us port ip
          unfolding datagram_for_us
          port_unseen l = rw (four, long, whole, udp, lt-leb (ip_header ip + 4) (length ip) (omega (arith, eh)))

          pub port_seen : h + 4 ≤ length ip → (r : ℕ) → r ≡ half ip (h + 2) → eqb r port ≡ datagram_for_us port ip
          unfolding datagram_for_us
          port_seen l r er = rw (four, long, whole, udp, le-leb (ip_header ip + 4) (length ip) (omega (arith, eh)), er, eh)

module _ (port : ℕ) (frame : List ℕ) where
  pub frame_short : length frame < 34 → false ≡ for_us port frame
  unfolding for_us
  frame_short h = rw (lt-leb 34 (length frame) h)

  module _ (h : 34 ≤ length frame) (t : ℕ) (et : t ≡ half frame 12) where
    pub type_other : (t ≡ 2048 → ⊥) → false ≡ for_us port frame
    unfolding for_us
    type_other n = rw (le-leb 34 (length frame) h, ne_eqb (half frame 12) 2048 (λ e. n (et ∙ e)))

    pub type_ip : t ≡ 2048 → (r : Bool) → r ≡ datagram_for_us port (take (length frame - 14) (drop 14 frame)) → r ≡ for_us port frame
    unfolding for_us datagram_for_us
    type_ip ht r er = er ∙ rw (rest frame 14, le-leb 34 (length frame) h, eq-eqb (half frame 12) 2048 (sym et ∙ ht))

-- ---- lengths

module _ (ip : List ℕ) (h : ℕ) (eh : h ≡ ip_header ip) (t : ℕ) (et : t ≡ half ip 2) where
  pub total-low : t < h + 8 → false ≡ lengths_fit ip
  unfolding lengths_fit
  total-low l = rw (lt-leb (ip_header ip + 8) (half ip 2) (omega (arith, eh, et)))

  module _ (ht : h + 8 ≤ t) where
    least : leb (ip_header ip + 8) (half ip 2) ≡ true
    least = le-leb (ip_header ip + 8) (half ip 2) (omega (arith, eh, et))

    pub total_high : length ip < t → false ≡ lengths_fit ip
    unfolding lengths_fit
    total_high l = rw (least, lt-leb (half ip 2) (length ip) (omega (arith, et)))

    module _ (hl : t ≤ length ip) (u : ℕ) (eu : u ≡ half ip (h + 4)) where
      most : leb (half ip 2) (length ip) ≡ true
      most = le-leb (half ip 2) (length ip) (omega (arith, et))

      same : u ≡ half ip (ip_header ip + 4)
      same = eu ∙ ap (λ (x : ℕ). half ip (x + 4)) eh

      pub size_low : u < 8 → false ≡ lengths_fit ip
      unfolding lengths_fit
      size_low l = rw (least, most, lt-leb 8 (half ip (ip_header ip + 4)) (omega (arith, same)))

      pub size_fits : 8 ≤ u → leb (h + u) t ≡ lengths_fit ip
      unfolding lengths_fit
      size_fits l = rw (least, most, le-leb 8 (half ip (ip_header ip + 4)) (omega (arith, same)), same, eh, et)
