-- Request A7 as statements, to be read without any proof. proofs/Claims.antt proves each.
use Rattle.std.specs.Prelude.{ℕ, ◌≤◌, ◌<◌, ◌≡◌, ◌↔◌, ◌⊎◌, List, ◌++◌, length, take, drop}
use Rattle.std.proofs.lemmas.List.Edits.{sets}
use Rattle.rules.specs.Outcome.{good, bad, ◌>>◌, LARGE, ROOM}
use Rattle.refusal.specs.Numbers.{RADIO}
use Rattle.rules.specs.Bytes.{Bytes}
use Rattle.rules.specs.Items.{All}
use Rattle.rules.specs.Message.{most_bytes}
use Rattle.rules.specs.Buffer.{unwritten}
use Rattle.rules.specs.Claims.{Careful}
use Rattle.radio.specs.Row.{link_row, Says}
use Rattle.radio.specs.Tlv.{tlv_bytes, tlv, clean_tlv, FieldsFit, ValidTlv}
use Rattle.radio.specs.Radio.{radio_header, Radio, checked_head, radio, tlv_at, Steps, StepsTo, run_of, head_bytes, radio_bytes, tlv_writer, run_written, radio_writer, record_written, tlvs_fit, all_put, clean_radio, ValidRadio}
use Rattle.radio.specs.declared.Head.{Head}
use Rattle.radio.specs.declared.LinkMetric.{LinkMetric}
use Rattle.radio.specs.declared.Tlv.{Tlv}
use Rattle.radio.specs.declared.Tlv.TheVariants as tlvs

-- One statement covers all four TLV types.

-- A TLV written and read again is the same record, wherever it stands and whatever follows it.
abbrev pub TlvWrittenRead : Type 0
TlvWrittenRead = (t : Tlv) → ValidTlv t → (p : ℕ) (behind : List ℕ) → tlv p (tlv_bytes t ++ behind) ≡ good (t, length (tlv_bytes t))

-- A TLV read and written again is its own bytes, with reserved bits zero; and what is read is a valid record.
abbrev pub TlvReadWritten : Type 0
TlvReadWritten = (p : ℕ) (s : List ℕ) → Bytes s → (t : Tlv) (n : ℕ) → tlv p s ≡ good (t, n) → (tlv_bytes t ≡ clean_tlv t s) × ValidTlv t

-- The same of messages.
abbrev pub RadioWrittenRead : Type 0
RadioWrittenRead = (m : Radio) → ValidRadio m → radio (radio_bytes m) ≡ good m

abbrev pub RadioReadWritten : Type 0
RadioReadWritten = (s : List ℕ) → Bytes s → (m : Radio) → radio s ≡ good m → (clean_radio s ≡ good (radio_bytes m)) × ValidRadio m

-- Two messages have equal clean forms exactly if their records are equal.
abbrev pub RadioCleanExactly : Type 0
RadioCleanExactly = (s t : List ℕ) → Bytes s → Bytes t → (m l : Radio) → radio s ≡ good m → radio t ≡ good l → (clean_radio s ≡ clean_radio t) ↔ (m ≡ l)

-- The steps from the header's end on show every TLV of a message, and then the end.
abbrev pub StepsShowAll : Type 0
StepsShowAll = (s : List ℕ) (m : Radio) → radio s ≡ good m → Steps s radio_header m.tlvs

-- A message above the limit is refused as LARGE, at the limit.
abbrev pub RadioLarge : Type 0
RadioLarge = (s : List ℕ) → most_bytes < length s → radio s ≡ bad LARGE most_bytes

-- The place of RADIO, in both directions. A message within the limit is refused with RADIO alone: at 0 exactly if its header is against the rules, and
-- behind a good header exactly at the first bad TLV, which is where the steps from the header's end on are refused.
abbrev pub BadHead : List ℕ → ℕ → Type 0
BadHead s p = (checked_head s ≡ bad RADIO 0) × (p ≡ 0)

abbrev pub BadTlv : List ℕ → ℕ → Type 0
BadTlv s p = (checked_head s ≡ good tt) × StepsTo s radio_header p × (tlv_at s p ≡ bad RADIO p)

abbrev pub RadioPlace : Type 0
RadioPlace = (s : List ℕ) → length s ≤ most_bytes → (n p : ℕ) → (radio s ≡ bad n p) ↔ ((n ≡ RADIO) × (BadHead s p ⊎ BadTlv s p))

-- The writer refuses a run of TLVs exactly as reading refuses the message that has the run behind its header, with the same number and place.
abbrev pub RunPlace : Type 0
RunPlace = (h : Head) (run : List ℕ) (n p : ℕ) → (run_written h run ≡ bad n p) ↔ (radio (head_bytes h (length run) run) ≡ bad n p)

-- Records in: their TLVs, put one behind the other from place 10 of a buffer with room for the message, are refused where the record is, and else are
-- the run of TLVs; and that run, handed to the writer, is written as the record is.
abbrev pub RecordsPut : Type 0
RecordsPut = (m : Radio) (buffer : List ℕ) → length (radio_bytes m) ≤ most_bytes → length (radio_bytes m) ≤ length buffer
    → all_put radio_header m.tlvs buffer ≡ (tlvs_fit radio_header m.tlvs >> good (sets buffer radio_header (run_of m.tlvs)))

abbrev pub RecordsByRun : Type 0
RecordsByRun = (m : Radio) → All FieldsFit m.tlvs → (c : List ℕ) → record_written m ≡ good c → run_written m.head (run_of m.tlvs) ≡ good c

-- What the writer writes is a message that passes: the record of its run.
abbrev pub RunWrittenRead : Type 0
RunWrittenRead = (h : Head) → h.destination < 65536 → h.source < 65536 → h.sequence < 4294967296 → (run : List ℕ) → Bytes run → (c : List ℕ)
    → run_written h run ≡ good c → (m : Radio) × (radio c ≡ good m) × (m.head ≡ h)

-- A message that was read, its TLVs handed to the writer as they stand in its bytes, gives its clean form.
abbrev pub PartsWritten : Type 0
PartsWritten = (s : List ℕ) → Bytes s → (m : Radio) → radio s ≡ good m → run_written m.head (drop radio_header s) ≡ clean_radio s

-- With room the writer writes: the buffer's first so many bytes are the message. Without room it refuses: ROOM, with the bytes needed as place.
abbrev pub WriterWrites : Type 0
WriterWrites = (h : Head) (run buffer c : List ℕ) → run_written h run ≡ good c → length c ≤ length buffer
    → ((radio_writer h run buffer).0 ≡ record { number = 0; place = 0; bytes = length c }) × (take (length c) (radio_writer h run buffer).1 ≡ c)

abbrev pub RoomRefused : Type 0
RoomRefused = (h : Head) (run buffer c : List ℕ) → run_written h run ≡ good c → length buffer < length c → (radio_writer h run buffer).0 ≡ unwritten ROOM (length c)

-- A refusal changes no byte of the buffer, and what is written changes none behind it.
pub record BuffersKept : Type 0 where
  pub writer : (h : Head) (run buffer : List ℕ) → Careful (radio_writer h run buffer).0.number (radio_writer h run buffer).0.bytes buffer (radio_writer h run buffer).1
  pub tlv : (t : Tlv) (p : ℕ) (buffer : List ℕ) → ((tlv_writer t p buffer).0.number ≡ 0 → ⊥) → (tlv_writer t p buffer).1 ≡ buffer

-- Every double of a row is the exact quotient, with nothing rounded away: of any link metric whose numbers fit their fields.
abbrev pub RowExact : Type 0
RowExact = (m : LinkMetric) → FieldsFit (tlvs.LinkMetric m) → Says m (link_row m)

-- Two fields give equal doubles, or equal readings, only if they are equal.
abbrev pub RowApart : Type 0
RowApart = (m n : LinkMetric) → FieldsFit (tlvs.LinkMetric m) → FieldsFit (tlvs.LinkMetric n) → link_row m ≡ link_row n
    → (m.frequency ≡ n.frequency) × (m.rssi ≡ n.rssi) × (m.cinr ≡ n.cinr) × (m.errors ≡ n.errors)
