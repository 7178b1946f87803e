-- The demands as statements, to be read without any proof. proofs/Claims.antt proves each.
use Rattle.std.specs.Prelude.{ℕ, ◌+◌, ◌*◌, ◌≤◌, ◌<◌, ◌^◌, ◌≡◌, ◌↔◌, true, false, List, [], ◌∷◌, ◌++◌, map, length, take}
use Rattle.std.proofs.lemmas.List.Edits.{sets}
use Rattle.rules.specs.Outcome.{good, bad, LARGE, ROOM}
use Rattle.refusal.specs.Numbers.{CAPTURE}
use Rattle.rules.specs.Bytes.{Bytes, half, part, join}
use Rattle.rules.specs.Items.{All}
use Rattle.rules.specs.Message.{most_bytes, Message, message, recording}
use Rattle.rules.specs.Writer.{write}
use Rattle.rules.specs.Claims.{Careful, BadRecording}
use Rattle.capture.specs.File.{Order, big, little, word_in, record_header, header_good, Packet, packets, file_in}
use Rattle.capture.specs.Twins.{other, twin, free_in}
use Rattle.capture.specs.Frame.{udp_header, ip_of, ip_header, for_us, lengths_fit, data_of, ones_sum, frame_of}
use Rattle.capture.specs.Reading.{Taken, taken_of, recording_of, ReadAnswer, read_capture}
use Rattle.capture.specs.Writing.{most_data, packet_of, datagrams, file_of, write_capture}

-- ---- Files, in both byte orders

-- the numbers of a packet fit their fields
pub record Fits (k : Packet) : Type 0 where
  pub seconds : k.seconds < 2 ^ 32
  pub micros : k.micros < 2 ^ 32
  pub original : k.original < 2 ^ 32
  pub captured : length k.bytes < 2 ^ 32

-- A file of packets, in either byte order and whatever the free bytes of its header are, is read as these packets.
abbrev pub FileRead : Type 0
FileRead = (o : Order) (free : List ℕ) (ks : List Packet) → length free ≡ 12 → All Fits ks → length (file_in o free ks) ≤ most_bytes → packets (file_in o free ks) ≡ good ks

-- And nothing else is taken for a capture: a file that is read is a file of the packets that it is read as.
pub record FileOf (file : List ℕ) (ks : List Packet) : Type 0 where
  pub order : Order
  pub free : List ℕ
  pub twelve : length free ≡ 12
  pub fit : All Fits ks
  pub is : file ≡ file_in order free ks

abbrev pub FileOnly : Type 0
FileOnly = (file : List ℕ) (ks : List Packet) → Bytes file → packets file ≡ good ks → FileOf file ks

-- So files of the same packets in the two byte orders give one answer and one buffer.
abbrev pub OrdersAlike : Type 0
OrdersAlike = (free free' : List ℕ) (ks : List Packet) (port : ℕ) (buffer : List ℕ) → length free ≡ 12 → length free' ≡ 12 → All Fits ks → length (file_in big free ks) ≤ most_bytes
    → read_capture (file_in big free ks) port buffer ≡ read_capture (file_in little free' ks) port buffer

-- And so do any file and its twin, refusals included. The twin of a file of packets is the file of these packets in the other byte order.
abbrev pub TwinsAlike : Type 0
TwinsAlike = (file : List ℕ) (port : ℕ) (buffer : List ℕ) → Bytes file → read_capture (twin file) port buffer ≡ read_capture file port buffer

abbrev pub TwinIs : Type 0
TwinIs = (o : Order) (zone accuracy snap : ℕ) (ks : List Packet) → All Fits ks → twin (file_in o (free_in o zone accuracy snap) ks) ≡ file_in (other o) (free_in (other o) zone accuracy snap) ks

-- ---- Reading

-- the answer that tells of what was taken
abbrev pub read_answer : Taken → ReadAnswer
read_answer t = record {
  number = 0;
  place = 0;
  bytes = length (recording_of t);
  kept = length t.messages;
  not_for_us = t.not_for_us;
  cut_short = t.cut_short;
  bad_message = t.bad_message;
}

-- With room, what is reported is what was taken of the packets, and the buffer's first so many bytes are the recording.
abbrev pub ReadWrites : Type 0
ReadWrites = (file : List ℕ) (port : ℕ) (buffer : List ℕ) (ks : List Packet) → packets file ≡ good ks → length (recording_of (taken_of port ks)) ≤ length buffer
    → ((read_capture file port buffer).0 ≡ read_answer (taken_of port ks)) × (take (length (recording_of (taken_of port ks))) (read_capture file port buffer).1 ≡ recording_of (taken_of port ks))

-- The four counts, kept ones included, add up to the packets of the file.
abbrev pub CountsAddUp : Type 0
CountsAddUp = (port : ℕ) (ks : List Packet) → (read_answer (taken_of port ks)).kept + (read_answer (taken_of port ks)).not_for_us + (read_answer (taken_of port ks)).cut_short + (read_answer (taken_of port ks)).bad_message ≡ length ks

-- What is written is a valid recording: it is read as one message for each that was kept. It is never longer than its file.
abbrev pub RecordingValid : Type 0
RecordingValid = (file : List ℕ) (port : ℕ) (ks : List Packet) → packets file ≡ good ks
    → (ms : List Message) × (recording (recording_of (taken_of port ks)) ≡ good ms) × (length ms ≡ length (taken_of port ks).messages)

abbrev pub ReadNotLonger : Type 0
ReadNotLonger = (file : List ℕ) (port : ℕ) (ks : List Packet) → packets file ≡ good ks → length (recording_of (taken_of port ks)) ≤ length file

-- Packet by packet, in capture order: what is taken of packets and of more behind them is what is taken of each, joined.
abbrev pub joined : Taken → Taken → Taken
joined t u = record {
  messages = t.messages ++ u.messages;
  not_for_us = t.not_for_us + u.not_for_us;
  cut_short = t.cut_short + u.cut_short;
  bad_message = t.bad_message + u.bad_message;
}

abbrev pub TakenInOrder : Type 0
TakenInOrder = (port : ℕ) (ks ls : List Packet) → taken_of port (ks ++ ls) ≡ joined (taken_of port ks) (taken_of port ls)

-- A packet is kept exactly if it is seen to be for us, was not cut, its lengths fit and its data is one whole message; the recording gets that data.
-- Of the other packets those not seen to be for us come first, then those cut short; the rest are bad messages.
abbrev pub one : List (List ℕ) → ℕ → ℕ → ℕ → Taken
one cs a b c = record { messages = cs; not_for_us = a; cut_short = b; bad_message = c }

pub record OneKept (port : ℕ) (k : Packet) (c : List ℕ) : Type 0 where
  pub ours : for_us port k.bytes ≡ true
  pub uncut : length k.bytes ≡ k.original
  pub fits : lengths_fit (ip_of k.bytes) ≡ true
  pub content : data_of (ip_of k.bytes) ≡ c
  pub passes : (m : Message) × (message 0 c ≡ good (m, length c))

pub record TakenExactly : Type 0 where
  pub kept : (port : ℕ) (k : Packet) (c : List ℕ) → (taken_of port (k ∷ []) ≡ one (c ∷ []) 0 0 0) ↔ OneKept port k c
  pub not_for_us : (port : ℕ) (k : Packet) → (taken_of port (k ∷ []) ≡ one [] 1 0 0) ↔ (for_us port k.bytes ≡ false)
  pub cut_short : (port : ℕ) (k : Packet) → (taken_of port (k ∷ []) ≡ one [] 0 1 0) ↔ ((for_us port k.bytes ≡ true) × (length k.bytes ≡ k.original → ⊥))
  pub bad_message : (port : ℕ) (k : Packet) → (taken_of port (k ∷ []) ≡ one [] 0 0 1)
      ↔ ((for_us port k.bytes ≡ true) × (length k.bytes ≡ k.original) × ((c : List ℕ) → OneKept port k c → ⊥))

-- A port that is seen though the IP packet's own length ends before it, or within the UDP header, is that of a bad message: the lengths do not fit.
abbrev pub PortBehind : Type 0
PortBehind = (port : ℕ) (k : Packet) → for_us port k.bytes ≡ true → length k.bytes ≡ k.original → half (ip_of k.bytes) 2 < ip_header (ip_of k.bytes) + udp_header → taken_of port (k ∷ []) ≡ one [] 0 0 1

-- ---- Writing

-- With room, the file of the recording's packets is written.
abbrev pub WriteWrites : Type 0
WriteWrites = (s : List ℕ) (port : ℕ) (buffer : List ℕ) (ks : List Packet) → datagrams s port ≡ good ks → length (file_of ks) ≤ length buffer
    → ((write_capture s port buffer).0 ≡ record { number = 0; place = 0; bytes = length (file_of ks); messages = length ks }) × (take (length (file_of ks)) (write_capture s port buffer).1 ≡ file_of ks)

-- One packet for each message, in order: it carries the clean form, and has at most 65,507 bytes of it.
abbrev pub OneEach : Type 0
OneEach = (s : List ℕ) (port : ℕ) (ms : List Message) (ks : List Packet) → Bytes s → recording s ≡ good ms → datagrams s port ≡ good ks
    → (ks ≡ map (λ (m : Message). packet_of port m (write m)) ms) × All (λ (m : Message). length (write m) ≤ most_data) ms

-- The file has 24 bytes, and for each message 16, 42 and its clean form's.
abbrev pub FileLength : Type 0
FileLength = (s : List ℕ) (port : ℕ) (ms : List Message) (ks : List Packet) → Bytes s → recording s ≡ good ms → datagrams s port ≡ good ks
    → length (file_of ks) ≡ 24 + (16 + 42) * length ms + length (join (map write ms))

-- The IP header's checksum is right: the one's complement sum of its ten halves is all ones.
abbrev pub ChecksumRight : Type 0
ChecksumRight = (port : ℕ) (c : List ℕ) → length c ≤ most_data → ones_sum 10 0 (part 14 34 (frame_of port c)) ≡ 65535

-- The time of a packet is its message's, in microseconds rounded down.
abbrev pub TimeDown : Type 0
TimeDown = (port : ℕ) (m : Message) (c : List ℕ)
    → ((packet_of port m c).seconds ≡ m.seconds) × ((packet_of port m c).micros * 1000 ≤ m.nanos) × (m.nanos < (packet_of port m c).micros * 1000 + 1000)

-- At place p stands the first message whose clean form no datagram holds: those before it fit, and end there.
pub record FirstLarge (s : List ℕ) (ms : List Message) (p : ℕ) : Type 0 where
  pub before : List Message
  pub one : Message
  pub after : List Message
  pub split : ms ≡ before ++ (one ∷ after)
  pub fit : All (λ (m : Message). length (write m) ≤ most_data) before
  pub large : most_data < length (write one)
  pub front : recording (take p s) ≡ good before

-- ---- Written and read again

-- The same port: the clean messages, all kept and none under another count.
abbrev pub WrittenRead : Type 0
WrittenRead = (s : List ℕ) (port : ℕ) (ms : List Message) (ks : List Packet) (buffer : List ℕ) → Bytes s → port < 65536 → recording s ≡ good ms → datagrams s port ≡ good ks
    → length (file_of ks) ≤ most_bytes → length (join (map write ms)) ≤ length buffer
    → read_capture (file_of ks) port buffer ≡ (read_answer (one (map write ms) 0 0 0), sets buffer 0 (join (map write ms)))

-- Another port: none is kept, and every packet is counted as not seen to be for us.
abbrev pub OtherPort : Type 0
OtherPort = (s : List ℕ) (port other : ℕ) (ms : List Message) (ks : List Packet) (buffer : List ℕ) → Bytes s → port < 65536 → (port ≡ other → ⊥) → recording s ≡ good ms → datagrams s port ≡ good ks
    → length (file_of ks) ≤ most_bytes → read_capture (file_of ks) other buffer ≡ (read_answer (one [] (length ms) 0 0), buffer)

-- ---- Refusals

-- A refusal changes no byte, and what is written changes none behind it.
pub record BuffersKept : Type 0 where
  pub read : (file : List ℕ) (port : ℕ) (buffer : List ℕ) → Careful (read_capture file port buffer).0.number (read_capture file port buffer).0.bytes buffer (read_capture file port buffer).1
  pub write : (s : List ℕ) (port : ℕ) (buffer : List ℕ) → Careful (write_capture s port buffer).0.number (write_capture s port buffer).0.bytes buffer (write_capture s port buffer).1

-- Without room: ROOM, with the bytes needed as place.
pub record RoomRefused : Type 0 where
  pub read : (file : List ℕ) (port : ℕ) (buffer : List ℕ) (ks : List Packet) → packets file ≡ good ks → length buffer < length (recording_of (taken_of port ks))
      → read_capture file port buffer ≡ (record { number = ROOM; place = length (recording_of (taken_of port ks)); bytes = 0; kept = 0; not_for_us = 0; cut_short = 0; bad_message = 0 }, buffer)
  pub write : (s : List ℕ) (port : ℕ) (buffer : List ℕ) (ks : List Packet) → datagrams s port ≡ good ks → length buffer < length (file_of ks)
      → write_capture s port buffer ≡ (record { number = ROOM; place = length (file_of ks); bytes = 0; messages = 0 }, buffer)

-- Why and where a file is refused, in the order of the tests: it is too large; its header is good in neither byte order; or its end cuts a record. What is
-- before that record is a file of whole packets, and from its place on there are fewer bytes than its header and the captured ones that the header says.
pub data FileRefused (file : List ℕ) : ℕ → ℕ → Type 0 where
  large : most_bytes < length file → FileRefused file LARGE most_bytes
  header : length file ≤ most_bytes → ((o : Order) → header_good o file ≡ false) → FileRefused file CAPTURE 0
  cut : {p : ℕ} {ks : List Packet} → length file ≤ most_bytes → (before : FileOf (take p file) ks) → p < length file
      → length file < p + record_header + word_in before.order file (p + 8) → FileRefused file CAPTURE p

-- Why and where reading is refused: the file is; or it is not, and the buffer has no room for the recording.
pub data ReadRefused (file : List ℕ) (port : ℕ) (buffer : List ℕ) : ℕ → ℕ → Type 0 where
  by-file : {n p : ℕ} → FileRefused file n p → ReadRefused file port buffer n p
  no_room : {ks : List Packet} → packets file ≡ good ks → length buffer < length (recording_of (taken_of port ks)) → ReadRefused file port buffer ROOM (length (recording_of (taken_of port ks)))

-- Each refusal in reading is given exactly if its reason holds, at its place, and nothing else is reported with it. No reason has the number 0.
pub record ReadRefusedExactly : Type 0 where
  pub file : (file : List ℕ) (n p : ℕ) → Bytes file → (packets file ≡ bad n p) ↔ FileRefused file n p
  pub answer : (file : List ℕ) (port : ℕ) (buffer : List ℕ) (n p : ℕ) → Bytes file
      → ((n ≡ 0 → ⊥) × (read_capture file port buffer ≡ (record { number = n; place = p; bytes = 0; kept = 0; not_for_us = 0; cut_short = 0; bad_message = 0 }, buffer))) ↔ ReadRefused file port buffer n p

-- Why and where the packets of a recording are refused, in the order of the tests: it is refused as a recording, by its size or the first check that a message does not
-- pass; or all pass, and no datagram holds a clean form.
pub data PacketsRefused (s : List ℕ) : ℕ → ℕ → Type 0 where
  checks : {n p : ℕ} → BadRecording s n p → PacketsRefused s n p
  large : {p : ℕ} {ms : List Message} → recording s ≡ good ms → FirstLarge s ms p → PacketsRefused s LARGE p

-- Why and where writing is refused: the packets are; or they are not, and the buffer has no room for the file.
pub data WriteRefused (s : List ℕ) (port : ℕ) (buffer : List ℕ) : ℕ → ℕ → Type 0 where
  by-packets : {n p : ℕ} → PacketsRefused s n p → WriteRefused s port buffer n p
  no_room : {ks : List Packet} → datagrams s port ≡ good ks → length buffer < length (file_of ks) → WriteRefused s port buffer ROOM (length (file_of ks))

-- Each refusal in writing is given exactly if its reason holds, at its place, and nothing else is reported with it. No reason has the number 0.
pub record WriteRefusedExactly : Type 0 where
  pub packets : (s : List ℕ) (port n p : ℕ) → Bytes s → (datagrams s port ≡ bad n p) ↔ PacketsRefused s n p
  pub answer : (s : List ℕ) (port : ℕ) (buffer : List ℕ) (n p : ℕ) → Bytes s
      → ((n ≡ 0 → ⊥) × (write_capture s port buffer ≡ (record { number = n; place = p; bytes = 0; messages = 0 }, buffer))) ↔ WriteRefused s port buffer n p
