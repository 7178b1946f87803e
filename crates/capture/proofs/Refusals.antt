-- Why reading and writing are refused: each reason in its order, and the answer that tells it.
use Prim.Native.Nat.{ℕ, ◌<◌}
use mathlib.Core.Path.{◌≡◌, ap, sym, subst}
use mathlib.Core.Logic.{⊎_elim}
use mathlib.Core.List.{List}
use native.Mathlib.Omega.{arith}
use borrow.Author.Tests.{ltb-true}
use lib.ListN.{length}
use Rattle.rules.specs.Outcome.{Outcome, good, bad, ◌>>=◌, LARGE, ROOM}
use Rattle.rules.specs.Bytes.{Bytes}
use Rattle.rules.specs.Message.{most_bytes, message, recording}
use Rattle.rules.specs.Buffer.{fitted}
use Rattle.rules.proofs.Outcomes.{stop, stepped, good_inj, good≢bad, refused_pass, refused-step, refused-only}
use Rattle.rules.proofs.Gives.{Gives, Numbered, gives_check, gives_items, numbered-message}
use Rattle.rules.proofs.Reasons.{recording-refused}
use Rattle.capture.specs.File.{Packet}
use Rattle.capture.specs.Reading.{Taken, taken_of, taken, recording_of, ReadAnswer, room_for_taken, read_stored, read_capture}
use Rattle.capture.specs.Writing.{datagrams, file_of, WriteAnswer, room_for_file, write_stored, write_capture}
use Rattle.capture.specs.Claims as claims
use Rattle.capture.specs.Claims.{ReadRefused, ReadRefusedExactly, PacketsRefused, WriteRefused, WriteRefusedExactly}
use Rattle.capture.proofs.Larges.{refused-first, first-refused}
use Rattle.capture.proofs.Cuts.{refused_why, why_refused}
use Rattle.capture.proofs.Answers.{read-roomless, write-roomless}

-- what does not fit is refused with the bytes needed
unfitted : (buffer s : List ℕ) {n p : ℕ} → fitted buffer s ≡ bad n p → (length buffer < length s) × (ROOM ≡ n) × (length s ≡ p)
unfolding fitted
unfitted buffer s e = ⊎_elim (λ z. (ltb-true _ _ z.0, z.1, z.2)) (λ z. absurd (good≢bad (sym z))) (refused_pass _ _ _ _ e)

-- ---- reading

module _ (file : List ℕ) (port : ℕ) (buffer : List ℕ) (n p : ℕ) (b : Bytes file) where
  refused-taken : (z : (n ≡ 0 → ⊥)) (o : Outcome Taken) → read_stored buffer o ≡ (record { number = n; place = p; bytes = 0; kept = 0; not_for_us = 0; cut_short = 0; bad_message = 0 }, buffer) → o ≡ bad n p
  unfolding read_stored
  refused-taken z (good t) e = absurd (z (sym (ap (λ (r : ReadAnswer × List ℕ). r.0.number) e)))
  refused-taken z (bad m q) e =
      let i : m ≡ n = ap (λ (r : ReadAnswer × List ℕ). r.0.number) e in
      let j : q ≡ p = ap (λ (r : ReadAnswer × List ℕ). r.0.place) e in
      rw (i, j)

  no_room-read : (t : Taken) → taken file port ≡ good t → room_for_taken buffer t ≡ bad n p → ReadRefused file port buffer n p
  unfolding taken room_for_taken
  no_room-read t g e =
      let (ks, k, q) = stepped _ _ g in
      let (h, i, j) = unfitted buffer (recording_of (taken_of port ks)) (refused-only _ _ (rw (← (good_inj q)) at e)) in
      subst (λ (x : ℕ). ReadRefused file port buffer x p) i (subst (ReadRefused file port buffer ROOM) j (claims.no_room k h))

  why_unread : (taken file port >>= room_for_taken buffer) ≡ bad n p → ReadRefused file port buffer n p
  unfolding taken
  why_unread e = ⊎_elim (λ y. claims.by-file (refused_why file n p b (refused-only _ _ y))) (λ y. no_room-read y.0 y.1 y.2) (refused-step _ _ e)

module _ (file : List ℕ) (port : ℕ) (buffer : List ℕ) where
  unread-told : {n p : ℕ} → ReadRefused file port buffer n p → read_capture file port buffer ≡ (record { number = n; place = p; bytes = 0; kept = 0; not_for_us = 0; cut_short = 0; bad_message = 0 }, buffer)
  unfolding read_capture read_stored taken
  unread-told (claims.by-file u) = ap (read_stored buffer) (stop _ _ (stop _ _ (why_refused file u)))
  unread-told (claims.no_room {ks = ks} e h) = read-roomless file port buffer ks e h

  unread-numbered : {n p : ℕ} → ReadRefused file port buffer n p → n ≡ 0 → ⊥
  unread-numbered (claims.by-file (claims.large l)) e = omega (arith, e)
  unread-numbered (claims.by-file (claims.header l h)) e = omega (arith, e)
  unread-numbered (claims.by-file (claims.cut l w i h)) e = omega (arith, e)
  unread-numbered (claims.no_room g l) e = omega (arith, e)

pub read-refused-exactly : ReadRefusedExactly
unfolding read_capture
read-refused-exactly = record {
  file = λ file n p b. (refused_why file n p b, why_refused file);
  answer = λ file port buffer n p b. (λ e. why_unread file port buffer n p b (refused-taken file port buffer n p b e.0 _ e.1), λ w. (unread-numbered file port buffer w, unread-told file port buffer w));
}

-- ---- writing

module _ (s : List ℕ) (port : ℕ) (b : Bytes s) where
  why_no_packets : (n p : ℕ) → datagrams s port ≡ bad n p → PacketsRefused s n p
  unfolding datagrams
  why_no_packets n p e =
      ⊎_elim
      (λ y. claims.checks ((recording-refused s n p).0 y))
      (λ y. let w = refused-first s port y.0 n p b y.1 e in subst (λ (x : ℕ). PacketsRefused s x p) (sym w.0) (claims.large y.1 w.1))
      (refused-step _ _ e)

  no_packets : {n p : ℕ} → PacketsRefused s n p → datagrams s port ≡ bad n p
  unfolding datagrams
  no_packets {n} {p} (claims.checks e) = stop _ _ ((recording-refused s n p).1 e)
  no_packets (claims.large {p = p} {ms = ms} r w) = first-refused s port ms p b r w

numbered-recording : (s : List ℕ) → Gives Numbered (recording s)
unfolding recording
numbered-recording s = gives_check _ LARGE most_bytes (omega arith) (gives_items message numbered-message 0 0 s)

module _ (s : List ℕ) (port : ℕ) (buffer : List ℕ) (n p : ℕ) (b : Bytes s) where
  refused-file : (z : (n ≡ 0 → ⊥)) (o : Outcome (List Packet)) → write_stored buffer o ≡ (record { number = n; place = p; bytes = 0; messages = 0 }, buffer) → o ≡ bad n p
  unfolding write_stored
  refused-file z (good ks) e = absurd (z (sym (ap (λ (r : WriteAnswer × List ℕ). r.0.number) e)))
  refused-file z (bad m q) e =
      let i : m ≡ n = ap (λ (r : WriteAnswer × List ℕ). r.0.number) e in
      let j : q ≡ p = ap (λ (r : WriteAnswer × List ℕ). r.0.place) e in
      rw (i, j)

  no_room-written : (ks : List Packet) → datagrams s port ≡ good ks → room_for_file buffer ks ≡ bad n p → WriteRefused s port buffer n p
  unfolding room_for_file
  no_room-written ks g e =
      let (h, i, j) = unfitted buffer (file_of ks) (refused-only _ _ e) in
      subst (λ (x : ℕ). WriteRefused s port buffer x p) i (subst (WriteRefused s port buffer ROOM) j (claims.no_room g h))

  why_unwritten : (datagrams s port >>= room_for_file buffer) ≡ bad n p → WriteRefused s port buffer n p
  why_unwritten e = ⊎_elim (λ y. claims.by-packets (why_no_packets s port b n p y)) (λ y. no_room-written y.0 y.1 y.2) (refused-step _ _ e)

module _ (s : List ℕ) (port : ℕ) (buffer : List ℕ) where
  unwritten-told : {n p : ℕ} → Bytes s → WriteRefused s port buffer n p → write_capture s port buffer ≡ (record { number = n; place = p; bytes = 0; messages = 0 }, buffer)
  unfolding write_capture write_stored
  unwritten-told b (claims.by-packets u) = ap (write_stored buffer) (stop _ _ (no_packets s port b u))
  unwritten-told b (claims.no_room {ks = ks} e h) = write-roomless s port buffer ks e h

  unwritten-numbered : {n p : ℕ} → WriteRefused s port buffer n p → n ≡ 0 → ⊥
  unwritten-numbered {n} {p} (claims.by-packets (claims.checks u)) e = omega (arith, e, (numbered-recording s).given n p ((recording-refused s n p).1 u))
  unwritten-numbered (claims.by-packets (claims.large r w)) e = omega (arith, e)
  unwritten-numbered (claims.no_room g l) e = omega (arith, e)

pub write-refused-exactly : WriteRefusedExactly
unfolding write_capture
write-refused-exactly = record {
  packets = λ s port n p b. (why_no_packets s port b n p, no_packets s port b);
  answer = λ s port buffer n p b. (λ e. why_unwritten s port buffer n p b (refused-file s port buffer n p b e.0 _ e.1), λ w. (unwritten-numbered s port buffer w, unwritten-told s port buffer b w));
}
