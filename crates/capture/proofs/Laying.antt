-- What is stored of a capture file, one record behind the other.
use Prim.Native.Nat.{ℕ, zero, suc, ◌+◌, ◌-◌, ◌*◌, ◌/◌, ◌≤◌, ◌<◌}
use mathlib.Core.Path.{◌≡◌, refl, ap, sym, subst, ◌∙◌}
use mathlib.Core.Bool.{Bool, true, false}
use mathlib.Core.List.{List, [], ◌∷◌, ◌++◌, map, append-nil, append_assoc}
use native.Mathlib.Omega.{arith}
use borrow.Author.Tests.{le-ltb, leb-true, leb-false, ltb-false}
use lib.Dec.{leb}
use lib.ListN.{length, take, drop, replicate, length-append, length-drop}
use lib.Seq.{sets, length-sets, length-take-le}
use Rattle.rules.specs.Outcome.{Outcome, good, bad, LARGE, ROOM}
use Rattle.rules.specs.Bytes.{put32, pad, join}
use Rattle.rules.specs.Message as rule
use Rattle.rules.specs.Items.{items}
use Rattle.rules.specs.Reading.{checked_recording}
use Rattle.rules.specs.Writer.{write}
use Rattle.message.specs.Answers.{spot_of_message}
use Rattle.rules.specs.Buffer.{stored, fitted}
use Rattle.rules.specs.Clean.{clean_form, cleaner}
use Rattle.rules.proofs.Outcomes.{pass, step, stop, passed, stepped, fronted, front_of_lem, good_inj, good≢bad}
use Rattle.rules.proofs.Loops.{rest, Doing, doing_start, doing_next, doing_end, doing_bad, done-part}
use Rattle.capture.specs.File.{big, Packet, record_in, file_in}
use Rattle.capture.specs.Writing.{packet_of, datagram, datagrams, file_of, write_stored, write_capture}
use Rattle.capture.specs.Told.{record_front, ip_front, udp_front, front_of, Sendable, Sent, Roomy, records_of, LaidBehind, Laid, sums_of, weighed}
use Rattle.capture.specs.declared.CaptureWritten.{CaptureWritten}
use borrow.Rule.Slice.PartMut.{put_mid}
use Rattle.compose.proofs.Stores.{sets-part}
use Rattle.message.specs.declared.Message.{Message}
use Rattle.capture.specs.Frame.{frame_of}
use Rattle.capture.proofs.Frames.{frame_length}
use Rattle.capture.proofs.Datagrams.{packet_for, lengths}
use Rattle.capture.proofs.Weighing.{Spotted, fits_one, fits-none, file_size, file-size, size-next, map_last}
use Rattle.capture.proofs.Answers.{write-is, write-roomless}
use Rattle.capture.proofs.Fronts.{behind}

pub file-stored : (b b1 b2 b3 b4 b5 : List ℕ) → b1 ≡ sets b 0 (put32 0xA1B2C3D4 []) → b2 ≡ sets b1 4 (put32 0x00020004 []) → b3 ≡ sets b2 8 (replicate 8 0) → b4 ≡ sets b3 16 (put32 65549 []) → b5 ≡ sets b4 20 (put32 1 [])
    → b5 ≡ sets b 0 (file_of [])
unfolding file_of file_in
file-stored b b1 b2 b3 b4 b5 e1 e2 e3 e4 e5 =
    let x1 : List ℕ = put32 0xA1B2C3D4 [] in
    let x2 = x1 ++ put32 0x00020004 [] in
    let x3 = x2 ++ replicate 8 0 in
    let x4 = x3 ++ put32 65549 [] in
    behind b 0 x4 (put32 1 []) (behind b 0 x3 (put32 65549 []) (behind b 0 x2 (replicate 8 0) (behind b 0 x1 (put32 0x00020004 []) e1 e2) e3) e4) e5

-- the cleaner with room
cleaned : (s b c : List ℕ) → length s ≤ 65536 → clean_form s ≡ good c → length c ≤ length b → (cleaner s b).1 ≡ sets b 0 c
unfolding cleaner stored fitted
cleaned s b c l e r =
    ap (λ (o : Outcome (List ℕ)). (stored b o).1) (step _ _ (pass _ _ _ _ (le-ltb 65536 (length s) l) e) (pass _ _ _ _ (le-ltb (length b) (length c) r) refl))

front_length : (s m port n : ℕ) → length (front_of s m port n) ≡ 58
unfolding front_of record_front ip_front udp_front
front_length s m port n = refl

-- one record stored
pub message_sent : (s : List ℕ) (m : Message) (port : ℕ) (b b1 ys : List ℕ) (to n : ℕ) → Sendable s m to (length b) → n ≡ 24 + pad m.header.run + (m.next - m.payload)
    → b1 ≡ sets b to (front_of m.header.seconds m.header.nanos port n) → ys ≡ (cleaner s (take (length b1 - (to + 58)) (drop (to + 58) b1))).1
    → Sent s m port b (put_mid (to + 58) (length b1 - (to + 58)) b1 ys) to (to + 58 + n)
message_sent s m port b b1 ys to n q en e1 ey = record { right = go }
  where
    go : (c : List ℕ) → clean_form s ≡ good c
        → (put_mid (to + 58) (length b1 - (to + 58)) b1 ys ≡ sets b to (front_of m.header.seconds m.header.nanos port (length c) ++ c)) × (to + 58 + n ≡ to + (58 + length c))
    go c e =
        let same : q.clean ≡ c = good_inj (sym q.is ∙ e) in
        let z : length c ≡ n = ap length (sym same) ∙ q.size ∙ sym en in
        let long : length b1 ≡ length b = ap length e1 ∙ length-sets b to (front_of m.header.seconds m.header.nanos port n) in
        let part = take (length b1 - (to + 58)) (drop (to + 58) b1) in
        let room : length part ≡ length b1 - (to + 58) = length-take-le (length b1 - (to + 58)) (drop (to + 58) b1) (omega (arith, length-drop (to + 58) b1)) in
        let fits : length c ≤ length part = omega (arith, room, long, q.fits, ap length same) in
        let e2 : put_mid (to + 58) (length b1 - (to + 58)) b1 ys ≡ sets b1 (to + 58) c = sets-part b1 ys c (to + 58) (ey ∙ cleaned s part c q.short e fits) in
        let f = front_of m.header.seconds m.header.nanos port (length c) in (
          behind b to f c (e1 ∙ ap (λ (x : ℕ). sets b to (front_of m.header.seconds m.header.nanos port x)) (sym z))
              (subst (λ (x : ℕ). put_mid (to + 58) (length b1 - (to + 58)) b1 ys ≡ sets b1 (to + x) c) (sym (front_length m.header.seconds m.header.nanos port (length c))) e2),
          omega (arith, z),
        )

-- ---- the records before place `at`

-- a record is what stands before the data, and the data
frame_is : (port : ℕ) (c : List ℕ) → frame_of port c ≡ (ip_front (length c) ++ udp_front port (length c)) ++ c
unfolding frame_of ip_front udp_front
frame_is port c = refl

record_is : (port : ℕ) (m : rule.Message) → record_in big (packet_for port m) ≡ front_of m.seconds m.nanos port (length (write m)) ++ write m
unfolding record_in packet_of front_of record_front
record_is port m =
    rw (frame_length port (write m)) (ap (λ (x : List ℕ). put32 m.seconds (put32 (m.nanos / 1000) (put32 (42 + length (write m)) (put32 (42 + length (write m)) x)))) (frame_is port (write m)))

records-next : (ks : List Packet) (k : Packet) → records_of (ks ++ (k ∷ [])) ≡ records_of ks ++ record_in big k
records-next [] k = append-nil (record_in big k)
records-next (x ∷ ks) k = rw (records-next ks k, append_assoc)

file_grows : (ks ls : List Packet) → length (file_of ks) ≤ length (file_of (ks ++ ls))
unfolding file_of file_in
file_grows ks ls = omega (arith, go ks)
  where
    go : (ks : List Packet) → length (join (map (record_in big) ks)) ≤ length (join (map (record_in big) (ks ++ ls)))
    go [] = omega arith
    go (x ∷ ks) = omega (arith, length-append (record_in big x) (join (map (record_in big) ks)), length-append (record_in big x) (join (map (record_in big) (ks ++ ls))), go ks)

pub record Laying (s : List ℕ) (port : ℕ) (before after : List ℕ) (to at : ℕ) : Type 0 where
  pub done : List rule.Message
  pub doing : Doing (datagram port) s (map (packet_for port) done) at
  pub inside : at ≤ length s
  pub end : to ≡ file_size done
  pub low : to ≤ 24 + 65565 * at
  pub stored : after ≡ sets before 24 (records_of (map (packet_for port) done))

module _ (s : List ℕ) (port : ℕ) (before : List ℕ) (q : Roomy s port (length before)) where
  pub laying_start : Laying s port before before 24 0
  laying_start = record { done = []; doing = doing_start (datagram port) s; inside = omega arith; end = refl; low = omega arith; stored = refl }

  module _ (after : List ℕ) (to at : ℕ) (inv : Laying s port before after to at) where
    pub laying_end : length s ≤ at → LaidBehind s port before after
    laying_end l = record { right = λ ks e. let z : map (packet_for port) inv.done ≡ ks = good_inj (sym (doing_end (datagram port) s (map (packet_for port) inv.done) at inv.doing l) ∙ e) in rw (← z) inv.stored }

    module _ (h : at < length s) where
      pub laying_bad : (n p : ℕ) → datagram port at (drop at s) ≡ bad n p → ⊥
      laying_bad n p e = good≢bad (sym (doing_bad (datagram port) s (map (packet_for port) inv.done) at inv.doing h e) ∙ q.reads)

      module _ (m : Message) (w : Spotted s at (spot_of_message m)) where
        small : length (write w.held) ≤ 65507
        small = go (leb (length (write w.held)) 65507) refl
          where
            go : (b : Bool) → leb (length (write w.held)) 65507 ≡ b → length (write w.held) ≤ 65507
            go true e = leb-true (length (write w.held)) 65507 e
            go false e = absurd (laying_bad LARGE at (fits-none s at (spot_of_message m) w port (leb-false (length (write w.held)) 65507 e)))

        next_doing : Doing (datagram port) s (map (packet_for port) (inv.done ++ (w.held ∷ []))) m.next
        next_doing =
            let n : at + (m.next - at) ≡ m.next = omega (arith, w.payload, w.next) in
            subst (λ (x : ℕ). Doing (datagram port) s (map (packet_for port) (inv.done ++ (w.held ∷ []))) x) n
            (rw (map_last port inv.done w.held) (doing_next (datagram port) s (map (packet_for port) inv.done) at (packet_for port w.held) (m.next - at) inv.doing h (omega (arith, w.payload, w.next)) (fits_one s at (spot_of_message m) w port small)))

        room : to + (58 + length (write w.held)) ≤ length before
        room =
            let (r, e) = done-part (map (packet_for port) (inv.done ++ (w.held ∷ []))) _ (sym next_doing ∙ q.reads) in
            let g = file_grows (map (packet_for port) (inv.done ++ (w.held ∷ []))) r in
            omega (arith, g, ap (λ (x : List Packet). length (file_of x)) e, q.room, file-size port (inv.done ++ (w.held ∷ [])), size-next inv.done w.held, inv.end)

        clean-here : clean_form (take (length s - at) (drop at s)) ≡ good (write w.held)
        clean-here = rw (rest s at) w.clean

        pub sendable : length s ≤ 65536 → Sendable (take (length s - at) (drop at s)) m to (length after)
        sendable l =
            record {
              clean = write w.held;
              is = clean-here;
              size = w.size;
              most = small;
              fits = omega (arith, room, ap length inv.stored, length-sets before 24 (records_of (map (packet_for port) inv.done)));
              low = omega (arith, inv.low);
              short = omega (arith, ap length (rest s at), length-drop at s);
              payload = w.next;
              next = omega (arith, w.most);
              run = w.run;
            }

        pub laying_next : (after' : List ℕ) (to' : ℕ) → Sent (take (length s - at) (drop at s)) m port after after' to to' → Laying s port before after' to' m.next
        laying_next after' to' x =
            let (stored, end) = x.right (write w.held) clean-here in
            let old = records_of (map (packet_for port) inv.done) in
            let front = front_of w.held.seconds w.held.nanos port (length (write w.held)) in
            let times : front_of m.header.seconds m.header.nanos port (length (write w.held)) ≡ front =
            ap (λ (y : ℕ). front_of y m.header.nanos port (length (write w.held))) w.seconds ∙ ap (λ (y : ℕ). front_of w.held.seconds y port (length (write w.held))) w.nanos in
            let whole : records_of (map (packet_for port) (inv.done ++ (w.held ∷ []))) ≡ old ++ (front ++ write w.held) =
            ap records_of (map_last port inv.done w.held) ∙ records-next (map (packet_for port) inv.done) (packet_for port w.held) ∙ ap (λ (y : List ℕ). old ++ y) (record_is port w.held) in
            let place : to ≡ 24 + length old = inv.end ∙ ap (λ (y : ℕ). 24 + y) (sym (lengths port inv.done)) in
            record {
              done = inv.done ++ (w.held ∷ []);
              doing = next_doing;
              inside = w.most;
              end = end ∙ ap (λ (y : ℕ). y + (58 + length (write w.held))) inv.end ∙ sym (size-next inv.done w.held);
              low = omega (arith, end, inv.low, small, w.payload, w.next);
              stored =
                  behind before 24 old (front ++ write w.held) inv.stored
                  (stored ∙ ap (λ (y : List ℕ). sets after to (y ++ write w.held)) times ∙ ap (λ (y : ℕ). sets after y (front ++ write w.held)) place)
                  ∙ ap (sets before 24) (sym whole);
            }

-- header and records
pub laid : (s : List ℕ) (port : ℕ) (b b1 after : List ℕ) → b1 ≡ sets b 0 (file_of []) → LaidBehind s port b1 after → Laid s port b after
unfolding file_of file_in
laid s port b b1 after e w = record { right = λ ks g. behind b 0 (file_of []) (records_of ks) e (w.right ks g) }

-- ---- the answer

-- what a recording that passes its checks is
pub record Checked (s : List ℕ) : Type 0 where
  pub held : List rule.Message
  pub reads : rule.recording s ≡ good held
  pub small : length s ≤ 65536

pub checked : (s : List ℕ) (a b : ℕ) → good (a, b) ≡ checked_recording s → Checked s
unfolding checked_recording rule.recording
checked s a b e =
    let (ms, r, _) = stepped _ _ (sym e) in
    let (l, _) = passed _ _ _ _ r in
    record { held = ms; reads = r; small = ltb-false _ _ l }

-- each message whose packet is made was read
all_read : (port k p : ℕ) (s : List ℕ) {ks : List Packet} → items (datagram port) k p s ≡ good ks → (ms : List rule.Message) × (items rule.message k p s ≡ good ms)
unfolding items datagram
all_read port k p [] e = ([], refl)
all_read port (suc k) p (x ∷ s) e = all_read port k (suc p) s e
all_read port zero p (x ∷ s) e =
    let (t, h, f) = stepped _ _ e in
    let (j, n, _) = fronted _ _ f in
    let (r, g, d) = stepped _ _ h in
    let (c, _, d) = stepped _ _ d in
    let (_, z) = passed _ _ _ _ d in
    let q : r.1 ≡ t.1 = ap (λ (y : Packet × ℕ). y.1) (good_inj z) in
    let (ms, i) = all_read port (t.1 - 1) (suc p) s n in
    (r.0 ∷ ms, step _ _ g (front_of_lem _ _ (rw q i)))

pub checked-by : (s : List ℕ) (port : ℕ) (t : CaptureWritten) → length s ≤ 65536 → good t ≡ weighed s port → Checked s
unfolding weighed rule.recording
checked-by s port t l e =
    let (ks, r, _) = stepped _ _ (sym e) in
    let (ms, i) = all_read port 0 0 s r in
    record { held = ms; reads = pass _ _ _ _ (le-ltb 65536 (length s) l) i; small = l }

module _ (s : List ℕ) (port : ℕ) (buffer : List ℕ) where
  refused-with : (n p : ℕ) → datagrams s port ≡ bad n p → (record { number = n; place = p; bytes = 0; messages = 0 }, buffer) ≡ write_capture s port buffer
  unfolding write_capture write_stored
  refused-with n p e = sym (ap (write_stored buffer) (stop _ _ e))

  datagrams_stop : (n p : ℕ) → rule.recording s ≡ bad n p → datagrams s port ≡ bad n p
  unfolding datagrams
  datagrams_stop n p e = stop _ _ e

  pub check_refused : (n p : ℕ) → bad n p ≡ checked_recording s → (record { number = n; place = p; bytes = 0; messages = 0 }, buffer) ≡ write_capture s port buffer
  unfolding checked_recording
  check_refused n p e = go (rule.recording s) refl
    where
      go : (o : Outcome (List rule.Message)) → rule.recording s ≡ o → (record { number = n; place = p; bytes = 0; messages = 0 }, buffer) ≡ write_capture s port buffer
      go (good ms) r = absurd (good≢bad (e ∙ step _ _ r refl))
      go (bad m q) r =
          let w : ◌≡◌ {A = Outcome (ℕ × ℕ)} (bad n p) (bad m q) = e ∙ stop _ _ r in
          let a : n ≡ m = cc in
          let b : p ≡ q = cc in
          rw (a, b) (refused-with m q (datagrams_stop m q r))

  module _ (k : Checked s) where
    datagrams-are : {o : Outcome (List Packet)} → items (datagram port) 0 0 s ≡ o → datagrams s port ≡ o
    unfolding datagrams
    datagrams-are e = step _ _ k.reads e

    pub weigh_refused : (n p : ℕ) → bad n p ≡ weighed s port → (record { number = n; place = p; bytes = 0; messages = 0 }, buffer) ≡ write_capture s port buffer
    unfolding weighed
    weigh_refused n p e = go (items (datagram port) 0 0 s) refl
      where
        go : (o : Outcome (List Packet)) → items (datagram port) 0 0 s ≡ o → (record { number = n; place = p; bytes = 0; messages = 0 }, buffer) ≡ write_capture s port buffer
        go (good ks) r = absurd (good≢bad (e ∙ step _ _ r refl))
        go (bad m q) r =
            let w : ◌≡◌ {A = Outcome CaptureWritten} (bad n p) (bad m q) = e ∙ stop _ _ r in
            let a : n ≡ m = cc in
            let b : p ≡ q = cc in
            rw (a, b) (refused-with m q (datagrams-are r))

    pub record Measured (t : CaptureWritten) : Type 0 where
      pub packs : List Packet
      pub reads : items (datagram port) 0 0 s ≡ good packs
      pub sums : sums_of packs ≡ t

    pub measured : (t : CaptureWritten) → good t ≡ weighed s port → Measured t
    unfolding weighed
    measured t e = let (ks, r, g) = stepped _ _ (sym e) in record { packs = ks; reads = r; sums = good_inj g }

    module _ (t : CaptureWritten) (w : Measured t) where
      long : length (file_of w.packs) ≡ t.bytes
      long = ap (λ (x : CaptureWritten). x.bytes) w.sums

      pub no_room : length buffer < t.bytes → (record { number = ROOM; place = t.bytes; bytes = 0; messages = 0 }, buffer) ≡ write_capture s port buffer
      no_room l = sym (write-roomless s port buffer w.packs (datagrams-are w.reads) (omega (arith, long)) ∙ ap (λ (x : ℕ). (record { number = ROOM; place = x; bytes = 0; messages = 0 }, buffer)) long)

      pub roomy : t.bytes ≤ length buffer → Roomy s port (length buffer)
      roomy l = record { packs = w.packs; reads = w.reads; room = omega (arith, long) }

      pub done-with : (after : List ℕ) → t.bytes ≤ length buffer → Laid s port buffer after → (record { number = 0; place = 0; bytes = t.bytes; messages = t.messages }, after) ≡ write_capture s port buffer
      done-with after l x =
          ap (λ (y : CaptureWritten). (record { number = 0; place = 0; bytes = y.bytes; messages = y.messages }, after)) (sym w.sums)
          ∙ ap (λ (y : List ℕ). (record { number = 0; place = 0; bytes = length (file_of w.packs); messages = length w.packs }, y)) (x.right w.packs w.reads)
          ∙ sym (write-is s port buffer w.packs (datagrams-are w.reads) (omega (arith, long)))
