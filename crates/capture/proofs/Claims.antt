-- Each claim, proved by the laws.
use Prim.Native.Nat.{ℕ, ◌+◌, ◌≤◌}
use mathlib.Core.Path.{◌≡◌, refl, ap, sym, subst, ◌∙◌}
use mathlib.Core.List.{List, [], ◌∷◌, map}
use native.Mathlib.Omega.{arith}
use borrow.Author.Tests.{ltb-false}
use lib.ListN.{length, take, length-append}
use lib.Seq.{sets}
use Rattle.rules.specs.Outcome.{good, ◌>>=◌}
use Rattle.rules.specs.Bytes.{Bytes, put32, join}
use Rattle.rules.specs.Items.{All, all_nil, all_cons}
use Rattle.rules.specs.Message.{Message, recording}
use Rattle.rules.specs.Writer.{write}
use Rattle.rules.specs.Valid.{Valid}
use Rattle.rules.proofs.Outcomes.{passed, stepped}
use Rattle.rules.proofs.Kept.{take-sets}
use Rattle.rules.proofs.Released.{all_valid}
use Rattle.capture.specs.File.{big, little, Packet, packets, record_in, file_in}
use Rattle.capture.specs.Twins.{twin}
use Rattle.capture.specs.Frame.{frame_of}
use Rattle.capture.specs.Reading.{Taken, taken_of, taken, recording_of, ReadAnswer, room_for_taken, read_capture}
use Rattle.capture.specs.Writing.{packet_of, datagrams, file_of, room_for_file, WriteAnswer, write_capture}
use Rattle.capture.specs.Claims.{Fits, FileRead, FileOnly, OrdersAlike, TwinsAlike, TwinIs, read_answer, ReadWrites, CountsAddUp, RecordingValid, ReadNotLonger, TakenInOrder, one, TakenExactly, PortBehind, WriteWrites, OneEach, FileLength, ChecksumRight, TimeDown, WrittenRead, OtherPort, BuffersKept, RoomRefused, ReadRefusedExactly, WriteRefusedExactly}
use Rattle.capture.proofs.Frames.{checksum-right}
use Rattle.capture.proofs.Orders.{record_length, file-length, packets-again}
use Rattle.capture.proofs.Counting.{adds_up, in_order}
use Rattle.capture.proofs.Recorded as Recorded
use Rattle.capture.proofs.Classes as Classes
use Rattle.capture.proofs.Only as Only
use Rattle.capture.proofs.Refusals as Refusals
use Rattle.capture.proofs.Turning as Turning
use Rattle.capture.proofs.Turning.{packets-twin}
use Rattle.capture.proofs.Datagrams.{packet_for, lengths, Small, Carries, carries, taken_own, taken-other, all_fit}
use Rattle.capture.specs.Worked.{Worked}
use Rattle.capture.proofs.Worked.{worked_out}
use Rattle.capture.proofs.Answers.{read_is, read-roomless, write-is, write-roomless, careful-read, careful-write}

-- ---- files

pub file-read : FileRead
file-read o free ks twelve fs l = packets-again free twelve ks o fs l

pub file-only : FileOnly
file-only = Only.file-only

twin-length : (free free' : List ℕ) (ks : List Packet) → length free ≡ 12 → length free' ≡ 12 → length (file_in big free ks) ≡ length (file_in little free' ks)
twin-length free free' ks t t' = file-length free t ks big ∙ ap (λ (n : ℕ). 24 + n) (go ks) ∙ sym (file-length free' t' ks little)
  where
    go : (ls : List Packet) → length (join (map (record_in big) ls)) ≡ length (join (map (record_in little) ls))
    go [] = refl
    go (k ∷ ls) =
        omega (arith, length-append (record_in big k) (join (map (record_in big) ls)), length-append (record_in little k) (join (map (record_in little) ls)), record_length k big, record_length k little, go ls)

same_answer : (f g : List ℕ) (port : ℕ) (buffer : List ℕ) → packets f ≡ packets g → read_capture f port buffer ≡ read_capture g port buffer
unfolding read_capture taken
same_answer f g port buffer e = rw e

pub orders_alike : OrdersAlike
orders_alike free free' ks port buffer t t' fs l =
    same_answer (file_in big free ks) (file_in little free' ks) port buffer
    (packets-again free t ks big fs l ∙ sym (packets-again free' t' ks little fs (omega (arith, twin-length free free' ks t t'))))

pub twins_alike : TwinsAlike
twins_alike file port buffer b = same_answer (twin file) file port buffer (packets-twin file b)

pub twin-is : TwinIs
twin-is o zone accuracy snap ks fs = Turning.twin-is zone accuracy snap ks o fs

-- ---- reading

pub read_writes : ReadWrites
read_writes file port buffer ks e l =
    let q = read_is file port buffer ks e l in
    (ap (λ (r : ReadAnswer × List ℕ). r.0) q, ap (λ (r : ReadAnswer × List ℕ). take (length (recording_of (taken_of port ks))) r.1) q ∙ take-sets buffer (recording_of (taken_of port ks)) l)

pub counts-add_up : CountsAddUp
counts-add_up port ks = adds_up port ks

pub recording_valid : RecordingValid
recording_valid = Recorded.recording_valid

pub read_not_longer : ReadNotLonger
read_not_longer = Recorded.not_longer

pub taken_in_order : TakenInOrder
taken_in_order = in_order

pub taken-exactly : TakenExactly
taken-exactly = Classes.taken-exactly

pub port_behind : PortBehind
port_behind = Classes.port_behind

-- ---- writing

pub write_writes : WriteWrites
write_writes s port buffer ks e l =
    let q = write-is s port buffer ks e l in
    (ap (λ (r : WriteAnswer × List ℕ). r.0) q, ap (λ (r : WriteAnswer × List ℕ). take (length (file_of ks)) r.1) q ∙ take-sets buffer (file_of ks) l)

module _ (s : List ℕ) (port : ℕ) (ms : List Message) (ks : List Packet) (b : Bytes s) (r : recording s ≡ good ms) (e : datagrams s port ≡ good ks) where
  carried : Carries port ms ks
  unfolding recording datagrams
  carried =
      let (large, read) = passed _ _ _ _ r in
      let (ms', again, sent) = stepped _ _ e in
      carries port 0 0 s b read sent

  small : All Small ms
  unfolding recording
  small = let (large, read) = passed _ _ _ _ r in go (all_valid 0 0 s b (ltb-false _ _ large) read).valid carried.small
    where
      go : {l : List Message} → All Valid l → All (λ (m : Message). length (write m) ≤ 65507) l → All Small l
      go all_nil all_nil = all_nil
      go (all_cons v a) (all_cons w c) = all_cons (record { valid = v; most = w }) (go a c)

pub file-length-is : FileLength
unfolding file_of
file-length-is s port ms ks b r e =
    let c = carried s port ms ks b r e in
    rw (← c.is) (file-length (put32 0 (put32 0 (put32 65549 []))) refl (map (packet_for port) ms) big ∙ omega (arith, lengths port ms))

pub one_each : OneEach
one_each s port ms ks b r e = let c = carried s port ms ks b r e in (sym c.is, c.small)

pub checksum-is-right : ChecksumRight
unfolding frame_of
checksum-is-right port c l = checksum-right (length c) l

pub time_down : TimeDown
unfolding packet_of
time_down port m c = (refl, omega arith, omega arith)

-- ---- written and read again

pub written_read : WrittenRead
unfolding file_of recording_of
written_read s port ms ks buffer b h r e l room =
    let c = carried s port ms ks b r e in
    let w = small s port ms ks b r e in
    let p : packets (file_of ks) ≡ good ks = packets-again (put32 0 (put32 0 (put32 65549 []))) refl ks big (subst (All Fits) c.is (all_fit port h w)) l in
    let t : taken_of port ks ≡ one (map write ms) 0 0 0 = subst (λ (x : List Packet). taken_of port x ≡ one (map write ms) 0 0 0) c.is (taken_own port h w) in
    read_is (file_of ks) port buffer ks p (rw t room) ∙ ap (λ (x : Taken). (read_answer x, sets buffer 0 (recording_of x))) t

pub other_port : OtherPort
unfolding file_of recording_of
other_port s port other ms ks buffer b h d r e l =
    let c = carried s port ms ks b r e in
    let w = small s port ms ks b r e in
    let p : packets (file_of ks) ≡ good ks = packets-again (put32 0 (put32 0 (put32 65549 []))) refl ks big (subst (All Fits) c.is (all_fit port h w)) l in
    let t : taken_of other ks ≡ one [] (length ms) 0 0 = subst (λ (x : List Packet). taken_of other x ≡ one [] (length ms) 0 0) c.is (taken-other port h other d w) in
    read_is (file_of ks) other buffer ks p (rw t (omega arith)) ∙ ap (λ (x : Taken). (read_answer x, sets buffer 0 (recording_of x))) t

-- ---- refusals

pub buffers-kept : BuffersKept
unfolding read_capture write_capture
buffers-kept = record {
  read = λ file port buffer. careful-read buffer (taken file port >>= room_for_taken buffer);
  write = λ s port buffer. careful-write buffer (datagrams s port >>= room_for_file buffer);
}

pub room-refused : RoomRefused
room-refused = record { read = read-roomless; write = write-roomless }

pub read-refused-exactly : ReadRefusedExactly
read-refused-exactly = Refusals.read-refused-exactly

pub write-refused-exactly : WriteRefusedExactly
write-refused-exactly = Refusals.write-refused-exactly

-- ---- worked by hand

pub worked : Worked
worked = worked_out
