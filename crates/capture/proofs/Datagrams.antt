-- The packets of a recording: one for each message, with its clean form, read again as the clean messages.
use Prim.Native.Nat.{ℕ, zero, suc, ◌+◌, ◌-◌, ◌*◌, ◌≤◌, ◌<◌}
use mathlib.Core.Path.{◌≡◌, refl, ap, sym, subst, ◌∙◌}
use mathlib.Core.Bool.{true}
use mathlib.Core.List.{List, [], ◌∷◌, map, append-nil}
use native.Mathlib.Numerals.{add-one}
use native.Mathlib.Omega.{arith}
use borrow.Author.Tests.{ltb-false, eq-eqb, ne_eqb}
use lib.ListN.{length, drop, take-append-drop, length-append}
use Rattle.rules.specs.Outcome.{good}
use Rattle.rules.specs.Bytes.{Bytes, join}
use Rattle.rules.specs.Items.{items, All, all_nil, all_cons}
use Rattle.rules.specs.Message.{Message, message}
use Rattle.rules.specs.Writer.{write}
use Rattle.rules.specs.Clean.{clean_form}
use Rattle.rules.specs.Valid.{Valid}
use Rattle.rules.proofs.Outcomes.{passed, stepped, fronted, good_inj}
use Rattle.rules.proofs.Numbers.{bytes-tail}
use Rattle.rules.proofs.Alone.{Own, own}
use Rattle.rules.proofs.RoundTrip.{written_read, read-written}
use Rattle.capture.specs.File.{Packet, record_in, big}
use Rattle.capture.specs.Frame.{frame_of}
use Rattle.capture.specs.Reading.{takes, one_message, kept, not_for_us, class_of, counted, taken_of}
use Rattle.capture.specs.Writing.{packet_of, datagram}
use Rattle.capture.specs.Claims.{Fits}
use Rattle.capture.proofs.Orders.{record_length}
use Rattle.capture.proofs.Frames.{frame_length, fits, content, for_port}

-- the packet that carries a message
abbrev pub packet_for : ℕ → Message → Packet
packet_for port m = packet_of port m (write m)

pub record Small (m : Message) : Type 0 where
  pub valid : Valid m
  pub most : length (write m) ≤ 65507

-- the clean form of a message at any place is its record written
pub clean-written : (p : ℕ) (s : List ℕ) → Bytes s → (m : Message) (n : ℕ) → message p s ≡ good (m, n) → clean_form s ≡ good (write m)
clean-written p s b m n e =
    let o : Own s m n = own p s m n e in
    read-written s b m n (subst (λ (t : List ℕ). message 0 t ≡ good (m, n)) (take-append-drop n s) (o.again 0 (drop n s)))

-- what a packet that is sent carries
pub record Sent (port p : ℕ) (s : List ℕ) (k : Packet) (n : ℕ) : Type 0 where
  pub held : Message
  pub reads : message p s ≡ good (held, n)
  pub most : length (write held) ≤ 65507
  pub is : packet_for port held ≡ k

pub sent : (port p : ℕ) (s : List ℕ) (k : Packet) (n : ℕ) → Bytes s → datagram port p s ≡ good (k, n) → Sent port p s k n
unfolding datagram
sent port p s k n b e =
    let (r, g, e) = stepped _ _ e in
    let (c, f, e) = stepped _ _ e in
    let (l, e) = passed _ _ _ _ e in
    let q : write r.0 ≡ c = good_inj (sym (clean-written p s b r.0 r.1 g) ∙ f) in
    let z : ◌≡◌ {A = Packet × ℕ} (packet_of port r.0 c, r.1) (k, n) = good_inj e in
    record {
      held = r.0;
      reads = g ∙ ap (λ (x : Packet × ℕ). good (r.0, x.1)) z;
      most = rw q (ltb-false _ _ l);
      is = ap (packet_of port r.0) q ∙ ap (λ (x : Packet × ℕ). x.0) z;
    }

-- the packets of messages, in order
pub record Carries (port : ℕ) (ms : List Message) (ks : List Packet) : Type 0 where
  pub is : map (packet_for port) ms ≡ ks
  pub small : All (λ (m : Message). length (write m) ≤ 65507) ms

-- one message and its packet in front
carried_on : (port p : ℕ) (s : List ℕ) (r : Message × ℕ) (t : Packet × ℕ) {l ms : List Message} {j ks : List Packet} → Sent port p s t.0 t.1 → message p s ≡ good r
    → r.0 ∷ l ≡ ms → t.0 ∷ j ≡ ks → (r.1 ≡ t.1 → Carries port l j) → Carries port ms ks
carried_on port p s r t {l} {ms} {j} {ks} w g e f rest =
    let q : r ≡ (w.held, t.1) = good_inj (sym g ∙ w.reads) in
    let c = rest (ap (λ (x : Message × ℕ). x.1) q) in
    let m : r.0 ≡ w.held = ap (λ (x : Message × ℕ). x.0) q in
    rw (← e, ← f) (record {
      is = rw (m, w.is, c.is);
      small = all_cons {a = r.0} (rw m w.most) c.small;
    })

pub carries : (port k p : ℕ) (s : List ℕ) {ms : List Message} {ks : List Packet} → Bytes s → items message k p s ≡ good ms → items (datagram port) k p s ≡ good ks → Carries port ms ks
unfolding items
carries port k p [] {ms} {ks} b e f =
    let q : [] ≡ ms = cc in
    let r : [] ≡ ks = cc in
    rw (← q, ← r) (record { is = refl; small = all_nil })
carries port (suc k) p (x ∷ s) b e f = carries port k (suc p) s (bytes-tail b) e f
carries port zero p (x ∷ s) {ms} {ks} b e f =
    let (r, g, e) = stepped _ _ e in
    let (l, i, e) = fronted _ _ e in
    let (t, h, f) = stepped _ _ f in
    let (j, n, f) = fronted _ _ f in
    carried_on port p (x ∷ s) r t (sent port p (x ∷ s) t.0 t.1 b h) g e f (λ q. carries port (r.1 - 1) (suc p) s (bytes-tail b) i (rw q n))

module _ (port : ℕ) (h : port < 65536) (m : Message) (small : Small m) where
  whole : one_message (write m) ≡ true
  unfolding one_message takes
  whole = rw (subst (λ (s : List ℕ). message 0 s ≡ good (m, length (write m))) (append-nil (write m)) (written_read m small.valid 0 [])) (eq-eqb (length (write m)) (length (write m)) refl)

  class_own : class_of port (packet_for port m) ≡ kept (write m)
  unfolding class_of packet_of
  class_own =
      rw (
        for_port port (write m) port h,
        eq-eqb port port refl,
        eq-eqb (length (frame_of port (write m))) (length (frame_of port (write m))) refl,
        fits port (write m) small.most,
        content port (write m) small.most,
        whole,
        class_of,
      )
      (ap kept (content port (write m) small.most))

  class_other : (other : ℕ) → (port ≡ other → ⊥) → class_of other (packet_for port m) ≡ not_for_us
  unfolding class_of packet_of
  class_other other d = rw (for_port port (write m) other h, ne_eqb port other d, class_of)

  pub fits-fields : Fits (packet_for port m)
  unfolding packet_of
  fits-fields =
      record {
        seconds = small.valid.seconds;
        micros = omega (arith, small.valid.nanos);
        original = omega (arith, frame_length port (write m), small.most);
        captured = omega (arith, frame_length port (write m), small.most);
      }

module _ (port : ℕ) (h : port < 65536) where
  pub taken_own : {ms : List Message} → All Small ms → taken_of port (map (packet_for port) ms) ≡ record { messages = map write ms; not_for_us = 0; cut_short = 0; bad_message = 0 }
  unfolding taken_of counted
  taken_own all_nil = refl
  taken_own (all_cons {a = m} v a) = rw (class_own port h m v, taken_own a)

  pub taken-other : (other : ℕ) → (port ≡ other → ⊥) → {ms : List Message} → All Small ms
      → taken_of other (map (packet_for port) ms) ≡ record { messages = []; not_for_us = length ms; cut_short = 0; bad_message = 0 }
  unfolding taken_of counted
  taken-other other d all_nil = refl
  taken-other other d (all_cons {a = m} v a) = rw (class_other port h m v other d, taken-other other d a, add-one)

  pub all_fit : {ms : List Message} → All Small ms → All Fits (map (packet_for port) ms)
  all_fit all_nil = all_nil
  all_fit (all_cons {a = m} v a) = all_cons (fits-fields port h m v) (all_fit a)

-- the bytes of the records
pub lengths : (port : ℕ) (l : List Message) → length (join (map (record_in big) (map (packet_for port) l))) ≡ 58 * length l + length (join (map write l))
unfolding packet_of
lengths port [] = refl
lengths port (m ∷ l) =
    omega (
      arith,
      length-append (record_in big (packet_for port m)) (join (map (record_in big) (map (packet_for port) l))),
      length-append (write m) (join (map write l)),
      record_length (packet_for port m) big,
      frame_length port (write m),
      lengths port l,
    )
