-- The demands as statements, to be read without any proof. proofs/Claims.antt proves each, and all of them as one; docs/PROMISES.md says which function's promise makes it speak of the code.
use Rattle.std.specs.Prelude.{ℕ, ◌+◌, ◌*◌, ◌/◌, ◌%◌, ◌^◌, ◌≤◌, ◌<◌, ◌≡◌, ◌↔◌, ◌⊎◌, true, false, not, ◌&&◌, ◌||◌, List, [], ◌∷◌, ◌++◌, map, length, get_or, take, drop}
use Rattle.std.proofs.Math.Option.{none, some}
use Rattle.rules.specs.Outcome.{Outcome, good, bad, ◌>>◌, TIME, OPTION, PACKAGE, ROW, LARGE, ROOM, MARKER, BLOCKS, COUNT}
use Rattle.rules.specs.Bytes.{Bytes, word, pad, part, join}
use Rattle.rules.specs.Items.{items, All, Fills, count, passing}
use Rattle.rules.specs.Options.{most_option_bytes, option_fits, is_second, option_run_from, count_said, kind_of, WholeOption}
use Rattle.rules.specs.Packages.{Package, package_fits, cut, package_of, package_time, Piece}
use Rattle.rules.specs.Message.{header_bytes, most_nanos, most_bytes, not_large, Head, head, payload_start, payload, is_simulated, record_bits, checks_one_to_nine, checks_one_to_ten, Message, message, recording}
use Rattle.rules.specs.Reading.{header, option_run, MessageSpot, message_at, checked_recording}
use Rattle.rules.specs.Buffer.{Written, unwritten}
use Rattle.rules.specs.Walk.{PackageSpot, package_at, data_at, next_at, Walks}
use Rattle.rules.specs.Writer.{write, Draft, accepted, written, writer}
use Rattle.rules.specs.Clean.{clean_form, cleaner}
use Rattle.rules.specs.Valid.{Valid, DraftFits}
use Rattle.rules.specs.Sheet.{row_bytes, most_rows, Row, row_of, start_of, end_of, row_fits, row, sheet, sheet_rows}
use Rattle.rules.specs.Copy.{granted, Entry, granted_packages, released, copy_message, copy_messages, copy_bytes, refusal, released_of, measurement, copy, delivered}
use Rattle.rules.specs.Turns.{Copied, released_by, Holds}
use Rattle.rules.specs.Table.{Table}
use Rattle.rules.specs.Edges.{Edges}
use Rattle.rules.specs.Burst.{◌xor◌, bit, sequence_byte, sequence_bytes, randomized, randomizer, marker, block_size, most_blocks, opening, opener}

-- ---- Demand 1: a refusal changes no byte of the caller's buffers, and what is written changes none behind it.

-- `after` and `bytes` are the buffer and the number of bytes written that an entry point leaves behind
pub record Careful (number bytes : ℕ) (buffer after : List ℕ) : Type 0 where
  pub refused : (number ≡ 0 → ⊥) → after ≡ buffer
  pub behind : drop bytes after ≡ drop bytes buffer
  pub long : length after ≡ length buffer

pub record BuffersKept : Type 0 where
  pub writer : (d : Draft) (buffer : List ℕ) → Careful (writer d buffer).0.number (writer d buffer).0.bytes buffer (writer d buffer).1
  pub cleaner : (s buffer : List ℕ) → Careful (cleaner s buffer).0.number (cleaner s buffer).0.bytes buffer (cleaner s buffer).1
  pub copy : (recording sheet buffer : List ℕ) → Careful (copy recording sheet buffer).0.number (copy recording sheet buffer).0.bytes buffer (copy recording sheet buffer).1
  pub randomizer : (buffer : List ℕ) → ((randomizer buffer).0.number ≡ 0 → ⊥) → (randomizer buffer).1 ≡ buffer
  pub opener : (buffer : List ℕ) → ((opener buffer).0.number ≡ 0 → ⊥) → (opener buffer).1 ≡ buffer

-- ---- Demand 2: reading, writing, cleaning and copying equal document 01.

-- Whatever numbers of 32 bits and runs of bytes a caller hands over, the premises `Bytes` and `DraftFits` below hold of them.
pub record PremisesMet : Type 0 where
  pub bytes : (s : List ℕ) → ((k : ℕ) → get_or s k 0 < 256) → Bytes s
  pub draft : (d : Draft) → d.id < 2 ^ 32 → d.sequence < 2 ^ 32 → d.seconds < 2 ^ 32 → Bytes d.options → Bytes d.packages → DraftFits d

-- What the writer accepts, and what a reading gives, is a valid record. Written and read again it is the same record, wherever it stands and whatever follows it.
-- Read and written again gives the clean form; so do the parts of a message that was read, handed to the writer as they stand in its bytes.
pub record RoundTrips : Type 0 where
  pub accepted_valid : (d : Draft) → DraftFits d → (m : Message) → accepted d ≡ good m → Valid m
  pub read_valid : (p : ℕ) (s : List ℕ) → Bytes s → length s ≤ most_bytes → (m : Message) (n : ℕ) → message p s ≡ good (m, n) → Valid m
  pub written_read : (m : Message) → Valid m → (p : ℕ) (behind : List ℕ) → message p (write m ++ behind) ≡ good (m, length (write m))
  pub read-written : (s : List ℕ) → Bytes s → (m : Message) (n : ℕ) → message 0 s ≡ good (m, n) → clean_form s ≡ good (write m)
  pub parts-written : (s : List ℕ) → Bytes s → length s ≤ most_bytes → (m : Message) (n : ℕ) → message 0 s ≡ good (m, n)
      → written (record { flags = (head s).flags; id = (head s).id; sequence = (head s).sequence; seconds = (head s).seconds; nanos = (head s).nanos; options = option_run s; packages = payload s (head s) }) ≡ clean_form s

-- With room for c an entry point writes: the buffer's first so many bytes are c. Without room it refuses: ROOM, with the bytes needed as place.
pub record Writes (c : List ℕ) (entry : List ℕ → Written × List ℕ) : Type 0 where
  pub room : (buffer : List ℕ) → length c ≤ length buffer → ((entry buffer).0 ≡ record { number = 0; place = 0; bytes = length c }) × (take (length c) (entry buffer).1 ≡ c)
  pub short : (buffer : List ℕ) → length buffer < length c → (entry buffer).0 ≡ unwritten ROOM (length c)

-- So does the writer with the message of its draft, and the cleaner with the clean form.
pub record BuffersWritten : Type 0 where
  pub writer : (d : Draft) (c : List ℕ) → written d ≡ good c → Writes c (writer d)
  pub cleaner : (s c : List ℕ) → length s ≤ most_bytes → clean_form s ≡ good c → Writes c (cleaner s)

-- What follows the message changes nothing of its clean form. Cleaning twice changes nothing more, whatever follows the message. Two messages have equal clean
-- forms exactly if their records are equal.
pub record CleanExactly : Type 0 where
  pub alone : (s behind c : List ℕ) → clean_form s ≡ good c → clean_form (s ++ behind) ≡ good c
  pub twice : (s c behind : List ℕ) → Bytes s → length s ≤ most_bytes → Bytes behind → clean_form s ≡ good c → clean_form (c ++ behind) ≡ good c
  pub equal : (s t : List ℕ) → Bytes s → Bytes t → length s ≤ most_bytes → length t ≤ most_bytes → (m l : Message) (n k : ℕ)
      → message 0 s ≡ good (m, n) → message 0 t ≡ good (l, k) → (clean_form s ≡ clean_form t) ↔ (m ≡ l)

-- What is told of a message at its place is told of its record, which is read from there on. A message that is read, or refused, from its place on is told of,
-- or refused, at its place. A recording checked: how many messages it has, and how many packages, those of all messages joined.
pub record ReadingExactly : Type 0 where
  pub told : (s : List ℕ) (p : ℕ) (k : MessageSpot) → message_at s p ≡ good k → (m : Message) × (message p (drop p s) ≡ good (m, k.head.size))
      × (m ≡ record { flags = record_bits k.head.flags; id = k.head.id; sequence = k.head.sequence; seconds = k.head.seconds; nanos = k.head.nanos; options = part header_bytes (header_bytes + k.run) (drop p s); packages = m.packages })
      × (k.packages ≡ length m.packages) × (k.payload ≡ p + payload_start k.head) × (k.next ≡ p + k.head.size)
  pub read : (s : List ℕ) (p : ℕ) → length s ≤ most_bytes → (m : Message) (n : ℕ) → message p (drop p s) ≡ good (m, n) → (k : MessageSpot) × (message_at s p ≡ good k)
  pub refused : (s : List ℕ) (p : ℕ) → length s ≤ most_bytes → (n q : ℕ) → message p (drop p s) ≡ bad n q → message_at s p ≡ bad n q
  pub counted : (s : List ℕ) (ms : List Message) → recording s ≡ good ms → checked_recording s ≡ good (length ms, length (join (map (λ (m : Message). m.packages) ms)))

-- Where checks 1 to 9 pass, a payload is refused as PACKAGE exactly if no cut into packages fills it. The packages fill it in one way only: a run is cut into
-- these pieces exactly if they fill it. The place of that refusal is the first package that its header or the bytes left do not allow: whole packages fill what
-- is before it.
pub record PackageExactly : Type 0 where
  pub refused : (p : ℕ) (s : List ℕ) (n : ℕ) → checks_one_to_nine p s (head s) ≡ good n
      → ((q : ℕ) × (message p s ≡ bad PACKAGE q)) ↔ ((pieces : List (List ℕ)) → Fills Piece pieces (payload s (head s)) → ⊥)
  pub filled : (p : ℕ) (s : List ℕ) (pieces : List (List ℕ)) → (cut p s ≡ good pieces) ↔ Fills Piece pieces s
  pub place : (p : ℕ) (s : List ℕ) (n q : ℕ) → cut p s ≡ bad n q
      → (d : ℕ) × (q ≡ p + d) × (n ≡ PACKAGE) × (package_fits (drop d s) ≡ false) × ((pieces : List (List ℕ)) × Fills Piece pieces (take d s))

-- P holds of some element
pub data Some {A : Type 0} (P : A → Type 0) : List A → Type 0 where
  here : {a : A} {l : List A} → P a → Some P (a ∷ l)
  there : {a : A} {l : List A} → Some P l → Some P (a ∷ l)

-- A run of whole options, none of kind 0x00 and at most one each of the kinds 0x86 and 0x87.
abbrev pub WholeRun : List ℕ → Type 0
WholeRun run = (options : List (List ℕ)) × Fills WholeOption options run × (count 0x86 (map kind_of options) ≤ 1) × (count 0x87 (map kind_of options) ≤ 1)

-- A bare run, as the writer takes it, passes exactly if it is one, and so is the run of a header that passes. Option bytes are refused as OPTION, at the
-- first option that does not keep the rules or is a second one: whole options fill what is before it. A run says the number n exactly if its option 0x87
-- has it behind kind and length.
pub record OptionsExactly : Type 0 where
  pub bare : (run : List ℕ) → (option_run_from [] 0 0 0 run ≡ good (length run)) ↔ WholeRun run
  pub read : (s : List ℕ) (h : Head) (n : ℕ) → header s ≡ good (h, n) → WholeRun (option_run s)
  pub place : (p : ℕ) (o : List ℕ) (n q : ℕ) → option_run_from [] 0 p 0 o ≡ bad n q → (d : ℕ) × (q ≡ p + d) × (n ≡ OPTION)
      × ((options : List (List ℕ)) × Fills WholeOption options (take d o) × ((option_fits (drop d o) ≡ false) ⊎ (is_second (kind_of (drop d o)) (map kind_of options) ≡ true)))
  pub said : (run : List ℕ) (w : WholeRun run) (n : ℕ) → (count_said run ≡ some n) ↔ Some (λ (c : List ℕ). (kind_of c ≡ 0x87) × (word c 2 ≡ n)) w.0

-- A run says another number of packages than n.
abbrev pub SaysOther : List ℕ → ℕ → Type 0
SaysOther run n = (c : ℕ) × (count_said run ≡ some c) × (c ≡ n → ⊥)

-- The number that a message says, if it passes, is that of its packages. COUNT is given, at the message, exactly if checks 1 to 10 pass and the option run
-- says another. (When the writer gives it: `DraftRefused`.)
pub record CountExactly : Type 0 where
  pub right : (p : ℕ) (s : List ℕ) (m : Message) (n : ℕ) → message p s ≡ good (m, n) → (c : ℕ) → count_said m.options ≡ some c → c ≡ length m.packages
  pub read : (p : ℕ) (s : List ℕ) (q : ℕ) → (message p s ≡ bad COUNT q)
      ↔ ((q ≡ p) × ((r : ℕ × List (List ℕ)) × (checks_one_to_ten p s (head s) ≡ good r) × SaysOther (part header_bytes (header_bytes + r.0) s) (length r.1)))

-- A walk shows every package of the cut, in order, and then the end. Where a step shows no package, at the end or at a refusal, the walk has not moved and the
-- part shown is empty. A run that is too large is refused at every step; in any other the end is shown exactly at the run's end and behind it, and
-- PACKAGE is given exactly before that, where a package does not keep the rules, with its place.
pub record WalkExactly : Type 0 where
  pub shows : (s : List ℕ) → length s ≤ most_bytes → (pieces : List (List ℕ)) → cut 0 s ≡ good pieces → Walks s 0 (map package_of pieces)
  pub stays : (s : List ℕ) (i : ℕ) → ((k : PackageSpot) → package_at s i ≡ good (some k) → ⊥) → (next_at s i ≡ i) × (data_at s i ≡ [])
  pub large : (s : List ℕ) (i : ℕ) → most_bytes < length s → package_at s i ≡ bad LARGE most_bytes
  pub ended : (s : List ℕ) (i : ℕ) → length s ≤ most_bytes → (package_at s i ≡ good none) ↔ (length s ≤ i)
  pub refused : (s : List ℕ) (i n p : ℕ) → length s ≤ most_bytes → (package_at s i ≡ bad n p) ↔ ((n ≡ PACKAGE) × (p ≡ i) × (i < length s) × (package_fits (drop i s) ≡ false))

-- A package is granted exactly if, in some row, message id and package id lie in the ranges, ends included, and package time in the window, start included and end not;
-- and, where the row is for acquired data only, flag bit 3 of the message is 0. Each row is judged by itself.
abbrev pub InRanges : Message → Package → Row → Type 0
InRanges m k r = (r.first_message ≤ m.id) × (m.id ≤ r.last_message) × (r.first_package ≤ k.id) × (k.id ≤ r.last_package)
    × (start_of r ≤ package_time m.seconds m.nanos k.delta) × (package_time m.seconds m.nanos k.delta < end_of r) × (r.acquired_only ≡ true → m.flags / 8 % 2 ≡ 0)

abbrev pub GrantedExactly : Type 0
GrantedExactly = (rows : List Row) (m : Message) (k : Package) → (granted rows m k ≡ true) ↔ Some (InRanges m k) rows

-- A row keeps the rules exactly if in each pair of ids the first is at most the last, both times have nanoseconds within a second, the window starts before it
-- ends, and the spare bits are zero.
abbrev pub RowExactly : Type 0
RowExactly = (r : Row) → (row_fits r ≡ true) ↔ ((r.first_message ≤ r.last_message) × (r.first_package ≤ r.last_package) × (r.start_nanos ≤ most_nanos) × (r.end_nanos ≤ most_nanos) × (start_of r < end_of r) × (r.spare ≡ 0))

-- r with a window from start to end, in nanoseconds
abbrev pub over : ℕ → ℕ → Row → Row
over start end r = record { first_message = r.first_message; last_message = r.last_message; first_package = r.first_package; last_package = r.last_package; start_seconds = start / 10 ^ 9; start_nanos = start % 10 ^ 9; end_seconds = end / 10 ^ 9; end_nanos = end % 10 ^ 9; spare = r.spare; acquired_only = r.acquired_only }

-- Every row of a sheet that passes starts before it ends. Neighbouring orders never both grant a package, where no row of the one ends behind the seam and no row
-- of the other starts before it. Two rows that agree in all but time, the first ending where the second starts, grant together exactly what one row over both
-- windows grants.
pub record WindowsExactly : Type 0 where
  pub filled : (s : List ℕ) (rows : List Row) → sheet s ≡ good rows → All (λ (r : Row). start_of r < end_of r) rows
  pub once : (rows rows' : List Row) (seam : ℕ) → All (λ (r : Row). end_of r ≤ seam) rows → All (λ (r : Row). seam ≤ start_of r) rows'
      → (m : Message) (k : Package) → granted rows m k ≡ true → granted rows' m k ≡ true → ⊥
  pub whole : (r : Row) (a b c : ℕ) → a ≤ b → b ≤ c → (m : Message) (k : Package) → granted (over a b r ∷ over b c r ∷ []) m k ≡ granted (over a c r ∷ []) m k

-- What the lowest of a row's 256 bits does, row n without it being n / 2 * 2. While no message is simulated it changes nothing; set in every row, it leaves
-- what the rows without it release of the recording without its simulated messages.
pub record AcquiredOnly (ns : List ℕ) (ms : List Message) : Type 0 where
  pub kept : All (λ (m : Message). m.flags / 8 % 2 ≡ 0) ms → released (map row_of ns) ms ≡ released (map (λ n. row_of (n / 2 * 2)) ns) ms
  pub dropped : All (λ (n : ℕ). n % 2 ≡ 1) ns → released (map row_of ns) ms ≡ released (map (λ n. row_of (n / 2 * 2)) ns) (passing (λ (m : Message). not (is_simulated m.flags)) ms)

-- Each bit of the randomizer's sequence behind the first eight is the exclusive-or of those 8, 5, 3 and 1 places before it. The sequence repeats after 255 bits,
-- and its bytes after 255 bytes: for every k, byte k is entry k modulo 255 of one period. Randomizing takes every buffer within the limit, and twice gives the
-- buffer back; it exclusive-ors byte k with sequence byte k.
pub record RandomizerExactly : Type 0 where
  pub recurrence : (n : ℕ) → bit (8 + n) ≡ bit n xor bit (3 + n) xor bit (5 + n) xor bit (7 + n)
  pub period : (n : ℕ) → bit (n + 255) ≡ bit n
  pub entry : (k : ℕ) → sequence_byte k ≡ get_or (sequence_bytes 0 255) (k % 255) 0
  pub twice : (buffer : List ℕ) → length buffer ≤ most_bytes → ((randomizer buffer).0 ≡ record { number = 0; place = 0 }) × ((randomizer (randomizer buffer).1).1 ≡ buffer)
  pub byte : (buffer : List ℕ) (k : ℕ) → length buffer ≤ most_bytes → k < length buffer → get_or (randomizer buffer).1 k 0 ≡ get_or buffer k 0 xor sequence_byte k

-- A burst is opened exactly if it is the marker and 1 to 80 codeblocks of 768 bytes. The marker stays, and the sequence starts once behind it and runs on to the end.
abbrev pub BurstExactly : Type 0
BurstExactly = (s : List ℕ) → Bytes s → (blocks : ℕ) (after : List ℕ) → (opening s ≡ good (blocks, after)) ↔ ((take (length marker) s ≡ marker)
    × (1 ≤ blocks) × (blocks ≤ most_blocks) × (length s ≡ length marker + blocks * block_size) × (after ≡ marker ++ randomized 0 (drop (length marker) s)))

-- ---- Demands 1 and 2: why each entry point refuses, and at which place, in document 01's order.

-- Why and where a recording is refused: it is too large; or behind messages that pass, the next one does not.
pub data BadRecording (s : List ℕ) : ℕ → ℕ → Type 0 where
  large : most_bytes < length s → BadRecording s LARGE most_bytes
  bad-message : {q n p : ℕ} {before : List Message} → length s ≤ most_bytes → items message 0 0 (take q s) ≡ good before → q < length s → message q (drop q s) ≡ bad n p → BadRecording s n p

-- as many bytes as a sheet may have: whole rows, and no more than 32
abbrev pub SheetSize : List ℕ → Type 0
SheetSize s = (length s ≤ most_rows * row_bytes) × (length s % row_bytes ≡ 0)

-- Why and where a sheet is refused: its size; or behind rows that keep the rules, the next one does not.
pub data BadSheet (s : List ℕ) : ℕ → ℕ → Type 0 where
  bad-size : (SheetSize s → ⊥) → BadSheet s ROW (length s)
  bad-row : (i : ℕ) {before : List Row} → SheetSize s → items row 0 0 (take (i * row_bytes) s) ≡ good before → i * row_bytes < length s → row (i * row_bytes) (drop (i * row_bytes) s) ≡ bad ROW (i * row_bytes) → BadSheet s ROW (i * row_bytes)

-- Why and where a released list is refused: by the sheet; or the sheet passes, and by the recording.
pub data ReleaseRefused (recordingBytes sheetBytes : List ℕ) : ℕ → ℕ → Type 0 where
  by-sheet : {n p : ℕ} → BadSheet sheetBytes n p → ReleaseRefused recordingBytes sheetBytes n p
  by-recording : {n p : ℕ} {rows : List Row} → sheet sheetBytes ≡ good rows → BadRecording recordingBytes n p → ReleaseRefused recordingBytes sheetBytes n p

-- how many bytes the message of a draft takes
abbrev pub draft_bytes : Draft → ℕ
draft_bytes d = header_bytes + pad (length d.options) + length d.packages

-- what the writer asks of a draft before it looks at an option: the size of its message, its nanoseconds, and the size of its option run
abbrev pub DraftSizes : Draft → Type 0
DraftSizes d = (draft_bytes d ≤ most_bytes) × (d.nanos ≤ most_nanos) × (length d.options ≤ most_option_bytes)

-- Why and where a draft is refused, the first of these: its message is too large; its nanoseconds are a second or more; its option run is above 60 bytes;
-- an option is bad, or it is one of kind 0x00, which ends the run before its bytes end; a package is bad; or the run says another number of packages.
pub data DraftRefused (d : Draft) : ℕ → ℕ → Type 0 where
  large : most_bytes < draft_bytes d → DraftRefused d LARGE most_bytes
  bad-time : draft_bytes d ≤ most_bytes → most_nanos < d.nanos → DraftRefused d TIME 0
  long-run : draft_bytes d ≤ most_bytes → d.nanos ≤ most_nanos → most_option_bytes < length d.options → DraftRefused d OPTION most_option_bytes
  bad-option : {p : ℕ} → DraftSizes d → option_run_from [] 0 0 0 d.options ≡ bad OPTION p → DraftRefused d OPTION p
  zero-option : {p : ℕ} → DraftSizes d → option_run_from [] 0 0 0 d.options ≡ good p → p < length d.options → DraftRefused d OPTION p
  bad_package : {p : ℕ} → DraftSizes d → WholeRun d.options → cut 0 d.packages ≡ bad PACKAGE p → DraftRefused d PACKAGE p
  bad-count : {pieces : List (List ℕ)} → DraftSizes d → WholeRun d.options → Fills Piece pieces d.packages → SaysOther d.options (length pieces) → DraftRefused d COUNT 0

-- Why and where a burst is refused: it is too large; or it does not begin with the marker; or what is behind the marker is not 1 to 80 codeblocks.
pub data BurstRefused (s : List ℕ) : ℕ → ℕ → Type 0 where
  large : most_bytes < length s → BurstRefused s LARGE most_bytes
  unmarked : length s ≤ most_bytes → (take (length marker) s ≡ marker → ⊥) → BurstRefused s MARKER 0
  blocks : length s ≤ most_bytes → take (length marker) s ≡ marker → ((n : ℕ) → 1 ≤ n → n ≤ most_blocks → length s ≡ length marker + n * block_size → ⊥) → BurstRefused s BLOCKS (length s)

-- Why and where the cleaner refuses, but for want of room: its input is too large; or a check does not pass its first message.
pub data CleaningRefused (s : List ℕ) : ℕ → ℕ → Type 0 where
  large : most_bytes < length s → CleaningRefused s LARGE most_bytes
  bad-message : {n p : ℕ} → length s ≤ most_bytes → message 0 s ≡ bad n p → CleaningRefused s n p

-- Why and where something is refused that goes into a buffer: it is refused itself; or it is not, and the buffer has no room for its bytes.
pub data Unstored {A : Type 0} (Refused : ℕ → ℕ → Type 0) (o : Outcome A) (bytes_of : A → List ℕ) (buffer : List ℕ) : ℕ → ℕ → Type 0 where
  itself : {n p : ℕ} → Refused n p → Unstored Refused o bytes_of buffer n p
  no_room : {a : A} → o ≡ good a → length buffer < length (bytes_of a) → Unstored Refused o bytes_of buffer ROOM (length (bytes_of a))

-- Recordings, sheets, released lists, bursts and drafts are refused exactly so. A header alone is refused by checks 1 to 7 and no other: exactly where one of these
-- refuses its message, with that number and place. A copy, a draft's message and a clean form are refused exactly so, with nothing written and the buffer as it
-- was. No reason has the number 0.
pub record RefusalsExactly : Type 0 where
  pub header : (s : List ℕ) (n p : ℕ) → length s ≤ most_bytes → (header s ≡ bad n p) ↔ ((n ≤ OPTION) × (message 0 s ≡ bad n p))
  pub recording : (s : List ℕ) (n p : ℕ) → (recording s ≡ bad n p) ↔ BadRecording s n p
  pub checked : (s : List ℕ) (n p : ℕ) → (checked_recording s ≡ bad n p) ↔ BadRecording s n p
  pub sheet : (s : List ℕ) (n p : ℕ) → (sheet s ≡ bad n p) ↔ BadSheet s n p
  pub rows : (s : List ℕ) (n p : ℕ) → (sheet_rows s ≡ bad n p) ↔ BadSheet s n p
  pub opening : (s : List ℕ) → Bytes s → (n p : ℕ) → (opening s ≡ bad n p) ↔ BurstRefused s n p
  pub drafts : (d : Draft) (n p : ℕ) → (written d ≡ bad n p) ↔ DraftRefused d n p
  pub released : (recordingBytes sheetBytes : List ℕ) (n p : ℕ) → (released_of recordingBytes sheetBytes ≡ bad n p) ↔ ReleaseRefused recordingBytes sheetBytes n p
  pub measured : (recordingBytes sheetBytes : List ℕ) (n p : ℕ) → ((n ≡ 0 → ⊥) × (measurement recordingBytes sheetBytes ≡ refusal n p)) ↔ ReleaseRefused recordingBytes sheetBytes n p
  pub copied : (recordingBytes sheetBytes buffer : List ℕ) (n p : ℕ) → ((n ≡ 0 → ⊥) × (copy recordingBytes sheetBytes buffer ≡ (refusal n p, buffer)))
      ↔ Unstored (ReleaseRefused recordingBytes sheetBytes) (released_of recordingBytes sheetBytes) copy_bytes buffer n p
  pub writer : (d : Draft) (buffer : List ℕ) (n p : ℕ) → ((n ≡ 0 → ⊥) × (writer d buffer ≡ (unwritten n p, buffer))) ↔ Unstored (DraftRefused d) (written d) (λ c. c) buffer n p
  pub cleaner : (s buffer : List ℕ) (n p : ℕ) → ((n ≡ 0 → ⊥) × (cleaner s buffer ≡ (unwritten n p, buffer))) ↔ Unstored (CleaningRefused s) (not_large s >> clean_form s) (λ c. c) buffer n p

-- ---- Demand 3: the copy talks about nothing but what was released.

-- Equal released lists (or equal refusals in their place) give equal answers, counts, refusals and buffers, whatever else differs in recordings and sheets; and
-- equal measurements.
pub record SameCopies (recording recording' sheet sheet' : List ℕ) (same : released_of recording sheet ≡ released_of recording' sheet') : Type 0 where
  pub written : (buffer : List ℕ) → copy recording sheet buffer ≡ copy recording' sheet' buffer
  pub measured : measurement recording sheet ≡ measurement recording' sheet'

-- Released lists that differ, and room for both, give copies that differ.
abbrev pub DifferentCopies : Type 0
DifferentCopies = (recording recording' sheet sheet' buffer buffer' : List ℕ) → Bytes recording → Bytes recording' → (es es' : List Entry)
    → released_of recording sheet ≡ good es → released_of recording' sheet' ≡ good es' → length (copy_bytes es) ≤ length buffer → length (copy_bytes es') ≤ length buffer'
    → (es ≡ es' → ⊥) → delivered (copy recording sheet buffer) ≡ delivered (copy recording' sheet' buffer') → ⊥

-- The measurement is the released list's: the bytes of its copy, its entries, and their packages joined. With room, these are the copy's counts, and what is
-- delivered is the released list's copy. It is a recording that passes, with a message for each entry, and is never longer than the recording it was made from.
pub record CopyExactly (recordingBytes sheetBytes : List ℕ) (es : List Entry) (list : released_of recordingBytes sheetBytes ≡ good es) : Type 0 where
  pub measured : measurement recordingBytes sheetBytes ≡ record { number = 0; place = 0; bytes = length (copy_bytes es); messages = length es; packages = length (join (map (λ (e : Entry). e.packages) es)) }
  pub written : (buffer : List ℕ) → length (copy_bytes es) ≤ length buffer → ((copy recordingBytes sheetBytes buffer).0 ≡ measurement recordingBytes sheetBytes) × (delivered (copy recordingBytes sheetBytes buffer) ≡ copy_bytes es)
  pub read : Bytes recordingBytes → recording (copy_bytes es) ≡ good (copy_messages [] es)
  pub short : Bytes recordingBytes → length (copy_bytes es) ≤ length recordingBytes

-- Measured first, then written. Measuring never gives ROOM. A buffer of the measured bytes has room, and what writing reports, a refusal too, is what was
-- measured, number for number; a shorter one is ROOM, with the measured bytes as its place, and stays.
pub record MeasuredFirst (recording sheet : List ℕ) : Type 0 where
  pub roomless : (measurement recording sheet).number ≡ ROOM → ⊥
  pub enough : (buffer : List ℕ) → (measurement recording sheet).bytes ≤ length buffer → (copy recording sheet buffer).0 ≡ measurement recording sheet
  pub short : (buffer : List ℕ) → length buffer < (measurement recording sheet).bytes → copy recording sheet buffer ≡ (refusal ROOM (measurement recording sheet).bytes, buffer)

-- The sequence number of an entry's message is how many of the entries before it have its message id.
abbrev pub SequenceCounted : Type 0
SequenceCounted = (before : List Entry) (e : Entry) → copy_messages [] (before ++ (e ∷ [])) ≡ copy_messages [] before ++ (copy_message (count e.id (map (λ (x : Entry). x.id) before)) e ∷ [])

-- The released list goes message by message, and has of a message's packages exactly the granted ones, in order. A message with one has an entry
-- with its id, its time, bits 3, 2 and 1 of its flags and its granted packages; one without has none.
pub record ReleasedExactly (rows : List Row) : Type 0 where
  pub messages : (ms ns : List Message) → released rows (ms ++ ns) ≡ released rows ms ++ released rows ns
  pub packages : (m : Message) (ks : List Package) → granted_packages rows m ks ≡ passing (granted rows m) ks
  pub entry : (m : Message) (k : Package) (ks : List Package) → granted_packages rows m m.packages ≡ k ∷ ks
      → released rows (m ∷ []) ≡ record { id = m.id; seconds = m.seconds; nanos = m.nanos; flags = m.flags / 2 % 8 * 2; packages = k ∷ ks } ∷ []
  pub silent : (m : Message) → granted_packages rows m m.packages ≡ [] → released rows (m ∷ []) ≡ []

-- Each message of the copy has no options, playback set, and end of data not set.
abbrev pub CopyPlain : Type 0
CopyPlain = (rows : List Row) (ms : List Message) → All (λ (m : Message). (m.options ≡ []) × (m.flags / 64 % 2 ≡ 1) × (m.flags % 2 ≡ 0)) (copy_messages [] (released rows ms))

-- ---- Document 02, A14: two sheets in turn, and a row more.

-- c is the copy of a recording under one sheet, d that under another. Copied again under the other sheet, c releases exactly the packages of the recording that
-- both grant; so does d under the one. Either way gives the same released list, so by `SameCopies` the same answer and the same bytes in whatever buffer, and the
-- same measurement; and in two buffers the same copy. Under its own sheet c releases what the recording does, and comes out unchanged. One sheet with the rows of
-- both releases what either grants.
pub record InTurn (recordingBytes sheetBytes sheetBytes' c d : List ℕ) (rows rows' : List Row) (ms : List Message) : Type 0 where
  pub both : released_of c sheetBytes' ≡ good (released_by (λ m k. granted rows m k && granted rows' m k) ms)
  pub turned : released_of c sheetBytes' ≡ released_of d sheetBytes
  pub delivered : (e f : List ℕ) → Copied c sheetBytes' e → Copied d sheetBytes f → e ≡ f
  pub again : released_of c sheetBytes ≡ released_of recordingBytes sheetBytes
  pub own : (e : List ℕ) → Copied c sheetBytes e → e ≡ c
  pub joined : length (sheetBytes ++ sheetBytes') ≤ most_rows * row_bytes → released_of recordingBytes (sheetBytes ++ sheetBytes') ≡ good (released_by (λ m k. granted rows m k || granted rows' m k) ms)

abbrev pub TwoSheets : Type 0
TwoSheets = (recordingBytes sheetBytes sheetBytes' c d : List ℕ) → Bytes recordingBytes → Copied recordingBytes sheetBytes c → Copied recordingBytes sheetBytes' d
    → (rows rows' : List Row) (ms : List Message) → sheet sheetBytes ≡ good rows → sheet sheetBytes' ≡ good rows' → recording recordingBytes ≡ good ms → InTurn recordingBytes sheetBytes sheetBytes' c d rows rows' ms

-- A row added anywhere in a sheet takes no package out of the copy.
abbrev pub RowAdded : Type 0
RowAdded = (recordingBytes front row back c d : List ℕ) → Bytes recordingBytes → length front % row_bytes ≡ 0 → length row ≡ row_bytes
    → Copied recordingBytes (front ++ back) c → Copied recordingBytes (front ++ (row ++ back)) d → Holds d c

-- ---- What a promise allows: where `told` tells answers apart, any two answers that a promise `told r ≡ d` allows are identical.

abbrev pub TellsApart : {A B : Type 0} → (A → B) → Type 0
TellsApart {A} told = (a b : A) → told a ≡ told b → a ≡ b

abbrev pub OneOutcome : Type 1
OneOutcome = (A B : Type 0) (told : A → B) → TellsApart told → (d : B) (a b : A) → told a ≡ d → told b ≡ d → a ≡ b

-- ---- All of it: every statement above, P1 to P12, and the rules at their edges.

pub record Claims : Type 1 where
  pub buffers : BuffersKept × BuffersWritten
  pub reading : ReadingExactly × RefusalsExactly × OptionsExactly × CountExactly × PackageExactly × WalkExactly
  pub writing : PremisesMet × RoundTrips × CleanExactly
  pub granting : RowExactly × GrantedExactly × WindowsExactly × ((ns : List ℕ) (ms : List Message) → AcquiredOnly ns ms) × ((rows : List Row) → ReleasedExactly rows)
  pub copying : ((recordingBytes sheetBytes : List ℕ) (es : List Entry) (list : released_of recordingBytes sheetBytes ≡ good es) → CopyExactly recordingBytes sheetBytes es list) × ((recording sheet : List ℕ) → MeasuredFirst recording sheet) × SequenceCounted × CopyPlain × TwoSheets × RowAdded
  pub bursts : RandomizerExactly × BurstExactly
  pub silence : ((recording recording' sheet sheet' : List ℕ) (same : released_of recording sheet ≡ released_of recording' sheet') → SameCopies recording recording' sheet sheet' same) × DifferentCopies
  pub outcomes : OneOutcome
  pub numbers : Table × Edges
