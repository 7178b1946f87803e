-- Request A7, and Chapter 24, 24.3.1: RF network messages, read TLV by TLV and written from a run of TLVs.
use Rattle.std.specs.Prelude.{ℕ, zero, ◌+◌, ◌≤◌, ◌<◌, ◌≡◌, true, false, not, List, [], ◌∷◌, ◌++◌, map, leb, ltb, eqb, length, take, drop}
use Rattle.std.proofs.Math.Option.{Option, none, some}
use Rattle.std.proofs.lemmas.List.Edits.{sets}
use Rattle.rules.specs.Outcome.{Outcome, good, bad, refuse, ◌>>◌, ◌>>=◌, LARGE, ROOM}
use Rattle.refusal.specs.Numbers.{RADIO}
use Rattle.rules.specs.Bytes.{half, word, put16, put32, join}
use Rattle.rules.specs.Items.{items, All}
use Rattle.rules.specs.Message.{most_bytes, not_large}
use Rattle.rules.specs.Buffer.{Written, unwritten, stored, fitted}
use Rattle.radio.specs.Tlv.{tlv_size, tlv_bytes, tlv_fits, tlv, clean_tlv, ValidTlv}
use Rattle.radio.specs.declared.Head.{Head}
use Rattle.radio.specs.declared.Tlv.{Tlv}

-- the bytes of a header: length, destination, source (16 bits each), sequence number (32)
abbrev pub radio_header : ℕ
radio_header = 10

-- the record of a message
pub record Radio : Type 0 where
  pub head : Head
  pub tlvs : List Tlv

unfoldable pub head_of : List ℕ → Head
head_of s = record { destination = half s 2; source = half s 4; sequence = word s 6 }

-- the header keeps the rules: it is whole, its length, counted behind the length field, ends the input, and something follows it
unfoldable pub checked_head : List ℕ → Outcome (Unit {0})
checked_head s = do
  refuse (ltb (length s) radio_header) RADIO 0
  refuse (not (eqb (2 + half s 0) (length s))) RADIO 0
  refuse (eqb (length s) radio_header) RADIO 0

-- the message that is the whole input
unfoldable pub radio : List ℕ → Outcome Radio
radio s = do
  not_large s
  checked_head s
  ts ← items tlv zero radio_header (drop radio_header s)
  good (record { head = head_of s; tlvs = ts })

-- what reading reports: the header's numbers, and how many TLVs there are
unfoldable pub radio_read : List ℕ → Outcome (Head × ℕ)
radio_read s = do
  m ← radio s
  good (m.head, length m.tlvs)

-- what stands at place p of a message: LARGE, the end, RADIO, or a TLV with the place behind it
unfoldable pub tlv_at : List ℕ → ℕ → Outcome (Option (Tlv × ℕ))
tlv_at s p = do
  not_large s
  elim (leb (length s) p) [
    | true ↦ good none
    | false ↦ do
      (t, n) ← tlv p (drop p s)
      good (some (t, p + n))
  ]

-- from place p on the steps show these TLVs, in order, and then the end
pub data Steps (s : List ℕ) : ℕ → List Tlv → Type 0 where
  ends : {p : ℕ} → length s ≤ p → Steps s p []
  shows : {p q : ℕ} {t : Tlv} {ts : List Tlv} → tlv_at s p ≡ good (some (t, q)) → Steps s q ts → Steps s p (t ∷ ts)

-- the steps from place p on come to place q
pub data StepsTo (s : List ℕ) : ℕ → ℕ → Type 0 where
  here : {p : ℕ} → StepsTo s p p
  on : {p q r : ℕ} {t : Tlv} → tlv_at s p ≡ good (some (t, q)) → StepsTo s q r → StepsTo s p r

-- TLVs one behind the other
abbrev pub run_of : List Tlv → List ℕ
run_of ts = join (map tlv_bytes ts)

-- the 10 bytes of a header in front of n bytes of TLVs
abbrev pub head_bytes : Head → ℕ → List ℕ → List ℕ
head_bytes h n t = put16 (8 + n) (put16 h.destination (put16 h.source (put32 h.sequence t)))

-- the bytes of a record
unfoldable pub radio_bytes : Radio → List ℕ
radio_bytes m = head_bytes m.head (length (run_of m.tlvs)) (run_of m.tlvs)

-- a TLV record put at place p of a buffer, for a message or a run of TLVs that is made piece by piece
unfoldable pub tlv_put : Tlv → ℕ → List ℕ → Outcome (List ℕ)
tlv_put t p buffer = do
  refuse (ltb most_bytes (p + tlv_size t)) LARGE most_bytes
  refuse (not (tlv_fits t)) RADIO p
  refuse (ltb (length buffer) (p + tlv_size t)) ROOM (p + tlv_size t)
  good (tlv_bytes t)

-- the answer, and the buffer after it
abbrev pub stored_at : List ℕ → ℕ → Outcome (List ℕ) → Written × List ℕ
stored_at buffer p (bad n q) = (unwritten n q, buffer)
stored_at buffer p (good s) = (record { number = 0; place = 0; bytes = length s }, sets buffer p s)

unfoldable pub tlv_writer : Tlv → ℕ → List ℕ → Written × List ℕ
tlv_writer t p buffer = stored_at buffer p (tlv_put t p buffer)

-- records put one behind the other, from place p on: the buffer after them
unfoldable pub all_put : ℕ → List Tlv → List ℕ → Outcome (List ℕ)
all_put p [] buffer = good buffer
all_put p (t ∷ ts) buffer = do
  c ← tlv_put t p buffer
  all_put (p + length c) ts (sets buffer p c)

-- a message from its header's numbers and a run of TLVs, whose reserved bits it does not look at; places are those in the message
unfoldable pub run_written : Head → List ℕ → Outcome (List ℕ)
run_written h run = do
  refuse (ltb most_bytes (radio_header + length run)) LARGE most_bytes
  refuse (eqb (length run) 0) RADIO 0
  ts ← items tlv zero radio_header run
  good (radio_bytes (record { head = h; tlvs = ts }))

unfoldable pub radio_writer : Head → List ℕ → List ℕ → Written × List ℕ
radio_writer h run buffer = stored buffer (run_written h run >>= fitted buffer)

-- a message from its record: the first TLV whose fields are out of their ranges is refused where it would stand
unfoldable pub tlvs_fit : ℕ → List Tlv → Outcome (Unit {0})
tlvs_fit p [] = good tt
tlvs_fit p (t ∷ ts) = do
  refuse (not (tlv_fits t)) RADIO p
  tlvs_fit (p + tlv_size t) ts

unfoldable pub record_written : Radio → Outcome (List ℕ)
record_written m = do
  refuse (ltb most_bytes (length (radio_bytes m))) LARGE most_bytes
  refuse (eqb (length m.tlvs) 0) RADIO 0
  tlvs_fit radio_header m.tlvs
  good (radio_bytes m)

-- the own bytes of a message, with reserved bits zero
unfoldable pub clean_piece : ℕ → List ℕ → Outcome (List ℕ × ℕ)
clean_piece p s = do
  (t, n) ← tlv p s
  good (clean_tlv t s, n)

unfoldable pub clean_radio : List ℕ → Outcome (List ℕ)
clean_radio s = do
  not_large s
  checked_head s
  cs ← items clean_piece zero radio_header (drop radio_header s)
  good (take radio_header s ++ join cs)

-- the records that a message can have
pub record ValidRadio (m : Radio) : Type 0 where
  pub destination : m.head.destination < 65536
  pub source : m.head.source < 65536
  pub sequence : m.head.sequence < 4294967296
  pub tlvs : All ValidTlv m.tlvs
  pub some : 1 ≤ length m.tlvs
  pub size : length (radio_bytes m) ≤ most_bytes
