-- The answers: with room, without room, and what stays of the buffer.
use Prim.Native.Nat.{ℕ, ◌≤◌, ◌<◌}
use mathlib.Core.Path.{◌≡◌, refl, ap}
use mathlib.Core.List.{List}
use borrow.Author.Tests.{le-ltb, lt-ltb}
use lib.ListN.{length}
use lib.Seq.{sets}
use Rattle.rules.specs.Outcome.{Outcome, good, bad, ROOM}
use Rattle.rules.specs.Buffer.{fitted}
use Rattle.rules.specs.Claims.{Careful}
use Rattle.rules.proofs.Outcomes.{pass, halt, step, stop}
use Rattle.rules.proofs.Kept.{careful_sets, careful_none}
use Rattle.capture.specs.File.{Packet, packets}
use Rattle.capture.specs.Reading.{Taken, taken_of, taken, recording_of, room_for_taken, read_stored, read_capture}
use Rattle.capture.specs.Writing.{datagrams, file_of, room_for_file, write_stored, write_capture}
use Rattle.capture.specs.Claims.{read_answer}

module _ (file : List ℕ) (port : ℕ) (buffer : List ℕ) (ks : List Packet) (e : packets file ≡ good ks) where
  taken_is : taken file port ≡ good (taken_of port ks)
  unfolding taken
  taken_is = step _ _ e refl

  pub read_is : length (recording_of (taken_of port ks)) ≤ length buffer → read_capture file port buffer ≡ (read_answer (taken_of port ks), sets buffer 0 (recording_of (taken_of port ks)))
  unfolding read_capture read_stored room_for_taken fitted
  read_is l = ap (read_stored buffer) (step _ _ taken_is (step _ _ (pass _ _ _ _ (le-ltb (length buffer) (length (recording_of (taken_of port ks))) l) refl) refl))

  pub read-roomless : length buffer < length (recording_of (taken_of port ks))
      → read_capture file port buffer ≡ (record { number = ROOM; place = length (recording_of (taken_of port ks)); bytes = 0; kept = 0; not_for_us = 0; cut_short = 0; bad_message = 0 }, buffer)
  unfolding read_capture read_stored room_for_taken fitted
  read-roomless l = ap (read_stored buffer) (step _ _ taken_is (stop _ _ (halt _ _ _ _ (lt-ltb (length buffer) (length (recording_of (taken_of port ks))) l))))

module _ (s : List ℕ) (port : ℕ) (buffer : List ℕ) (ks : List Packet) (e : datagrams s port ≡ good ks) where
  pub write-is : length (file_of ks) ≤ length buffer → write_capture s port buffer ≡ (record { number = 0; place = 0; bytes = length (file_of ks); messages = length ks }, sets buffer 0 (file_of ks))
  unfolding write_capture write_stored room_for_file fitted
  write-is l = ap (write_stored buffer) (step _ _ e (step _ _ (pass _ _ _ _ (le-ltb (length buffer) (length (file_of ks)) l) refl) refl))

  pub write-roomless : length buffer < length (file_of ks) → write_capture s port buffer ≡ (record { number = ROOM; place = length (file_of ks); bytes = 0; messages = 0 }, buffer)
  unfolding write_capture write_stored room_for_file fitted
  write-roomless l = ap (write_stored buffer) (step _ _ e (stop _ _ (halt _ _ _ _ (lt-ltb (length buffer) (length (file_of ks)) l))))

pub careful-read : (b : List ℕ) (o : Outcome Taken) → Careful (read_stored b o).0.number (read_stored b o).0.bytes b (read_stored b o).1
unfolding read_stored
careful-read b (good t) = careful_sets b (recording_of t)
careful-read b (bad n p) = careful_none n b

pub careful-write : (b : List ℕ) (o : Outcome (List Packet)) → Careful (write_stored b o).0.number (write_stored b o).0.bytes b (write_stored b o).1
unfolding write_stored
careful-write b (good ks) = careful_sets b (file_of ks)
careful-write b (bad n p) = careful_none n b
