-- Document 01, 'The message', and checks 1 to 10 of 'Refusal numbers', with document 02, A2: a header's numbers, the record of a message, and a recording.
use Rattle.std.specs.Prelude.{ℕ, zero, ◌+◌, ◌*◌, ◌/◌, ◌%◌, Bool, not, ◌||◌, List, [], map, ltb, eqb, length}
use Rattle.rules.specs.Outcome.{Outcome, good, refuse, ◌>>◌, ◌>>=◌, SHORT, VERSION, TYPE, LENGTH, CUT, TIME, FRAGMENT, STANDARD, LARGE, COUNT}
use Rattle.rules.specs.Bytes.{at, word, part, one_if_any}
use Rattle.rules.specs.Items.{items}
use Rattle.rules.specs.Options.{option_run_from, count_said, differs}
use Rattle.rules.specs.Packages.{Package, cut, package_of}

-- the bytes of a header, the most nanoseconds of a time, and the most bytes of an input
abbrev pub header_bytes : ℕ
header_bytes = 24

abbrev pub most_nanos : ℕ
most_nanos = 999999999

abbrev pub most_bytes : ℕ
most_bytes = 65536

-- LARGE: an input of more bytes is refused before anything else
abbrev pub not_large : List ℕ → Outcome (Unit {0})
not_large s = refuse (ltb most_bytes (length s)) LARGE most_bytes

-- the numbers of a header: words is the option word count W, kind the type, flags the flag bits 7 to 0, id the message id, sequence the sequence number, and size the length
pub record Head : Type 0 where
  pub version : ℕ
  pub words : ℕ
  pub kind : ℕ
  pub flags : ℕ
  pub id : ℕ
  pub sequence : ℕ
  pub size : ℕ
  pub seconds : ℕ
  pub nanos : ℕ

unfoldable pub head : List ℕ → Head
head s = record { version = at s 0 / 16; words = at s 0 % 16; kind = at s 1 % 16; flags = at s 3; id = word s 4; sequence = word s 8; size = word s 12; seconds = word s 16; nanos = word s 20 }

-- flag bit 7, all packages have the standard header; bits 5-4, the fragment; and whether bit 3 is 1, simulated
abbrev pub standard_bit : ℕ → ℕ
standard_bit flags = flags / 128 % 2

abbrev pub fragment_bits : ℕ → ℕ
fragment_bits flags = flags / 16 % 4

abbrev pub is_simulated : ℕ → Bool
is_simulated flags = eqb (flags / 8 % 2) 1

-- bits 6, 3, 2, 1 and 0, which a record keeps, each at its place: playback, simulated, not time locked, source error, end of data
abbrev pub record_bits : ℕ → ℕ
record_bits flags = flags / 64 % 2 * 64 + flags % 16

-- where the payload begins: behind header and option bytes
abbrev pub payload_start : Head → ℕ
payload_start h = header_bytes + 4 * h.words

-- the payload of the message with header h at the start of s
abbrev pub payload : List ℕ → Head → List ℕ
payload s h = part (payload_start h) h.size s

-- checks 1 to 6 of the message with header h at the start of s, which stands at place p
unfoldable pub checks_one_to_six : ℕ → List ℕ → Head → Outcome (Unit {0})
checks_one_to_six p s h = do
  refuse (ltb (length s) header_bytes) SHORT p
  refuse (not (eqb h.version 1)) VERSION p
  refuse (not (eqb h.kind 0)) TYPE p
  refuse (ltb h.size (payload_start h) || not (eqb (h.size % 4) 0)) LENGTH p
  refuse (ltb (length s) h.size) CUT p
  refuse (ltb most_nanos h.nanos) TIME p

-- checks 1 to 7: how long its option run is
unfoldable pub option_run_length : ℕ → List ℕ → Head → Outcome ℕ
option_run_length p s h = do
  checks_one_to_six p s h
  option_run_from [] zero (p + header_bytes) zero (part header_bytes (payload_start h) s)

-- checks 8 and 9
unfoldable pub checks_eight_and_nine : ℕ → List ℕ → Head → Outcome (Unit {0})
checks_eight_and_nine p s h = do
  refuse (not (eqb (fragment_bits h.flags) 0)) FRAGMENT p
  refuse (not (eqb (standard_bit h.flags) (one_if_any (payload s h)))) STANDARD p

-- checks 1 to 9: the length of its option run
unfoldable pub checks_one_to_nine : ℕ → List ℕ → Head → Outcome ℕ
checks_one_to_nine p s h = do
  n ← option_run_length p s h
  checks_eight_and_nine p s h
  good n

-- checks 1 to 10: also the pieces that its packages take
unfoldable pub checks_one_to_ten : ℕ → List ℕ → Head → Outcome (ℕ × List (List ℕ))
checks_one_to_ten p s h = do
  n ← checks_one_to_nine p s h
  cs ← cut (p + payload_start h) (payload s h)
  good (n, cs)

-- every check: 1 to 10, then COUNT, where its option 0x87 says another number than that of its packages
unfoldable pub every_check : ℕ → List ℕ → Head → Outcome (ℕ × List (List ℕ))
every_check p s h = do
  (n, cs) ← checks_one_to_ten p s h
  refuse (differs (count_said (part header_bytes (header_bytes + n) s)) (length cs)) COUNT p
  good (n, cs)

-- a message record; flags holds bits 6, 3, 2, 1 and 0, each at its place
pub record Message : Type 0 where
  pub flags : ℕ
  pub id : ℕ
  pub sequence : ℕ
  pub seconds : ℕ
  pub nanos : ℕ
  pub options : List ℕ
  pub packages : List Package

-- the record of the message at the start of s, with its option run's length and its packages' pieces
unfoldable pub record_of : List ℕ → Head → ℕ × List (List ℕ) → Message
record_of s h r = record { flags = record_bits h.flags; id = h.id; sequence = h.sequence; seconds = h.seconds; nanos = h.nanos; options = part header_bytes (header_bytes + r.0) s; packages = map package_of r.1 }

-- the message at the start of s, which stands at place p; and how long it is
unfoldable pub message : ℕ → List ℕ → Outcome (Message × ℕ)
message p s = do
  r ← every_check p s (head s)
  good (record_of s (head s) r, (head s).size)

-- the messages of a recording
unfoldable pub recording : List ℕ → Outcome (List Message)
recording s = do
  not_large s
  items message zero zero s
