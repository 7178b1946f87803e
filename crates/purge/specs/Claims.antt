-- The demands of A9 as statements, to be read without any proof. proofs/Claims.antt proves each; the promise of `purge` makes them speak of the code.
use Rattle.std.specs.Prelude.{ℕ, ◌-◌, ◌≤◌, ◌≡◌, true, false, List, [], ◌∷◌, ◌++◌, map, length, drop, replicate}
use Rattle.std.proofs.Math.Option.{some}
use Rattle.rules.specs.Outcome.{good, ROOM}
use Rattle.rules.specs.Bytes.{Bytes, at, put32, join}
use Rattle.rules.specs.Items.{All}
use Rattle.rules.specs.Options.{option_size, count_said}
use Rattle.rules.specs.Packages.{Package}
use Rattle.rules.specs.Message.{most_bytes, Message, message, recording}
use Rattle.rules.specs.Writer.{write}
use Rattle.rules.specs.Clean.{clean_form}
use Rattle.rules.specs.Valid.{Valid}
use Rattle.rules.specs.Sheet.{Row, sheet}
use Rattle.rules.specs.Copy.{granted, released, copy_messages, measurement, copy, delivered}
use Rattle.purge.specs.Parted.{packages_in, Parted}
use Rattle.purge.specs.Purge.{kept_packages, package_count, count_set, with_packages, kept_records, kept_bytes, kept_of, purge, in_use}

-- ---- what is done to the buffer

-- A refusal changes nothing.
abbrev pub RefusedUnchanged : Type 0
RefusedUnchanged = (buffer sheet : List ℕ) → ((purge buffer sheet).0.number ≡ 0 → ⊥) → (purge buffer sheet).1 ≡ buffer

-- What is refused, and where, is what measuring the copy refuses: ROW, LARGE, then the message checks. Nothing is then reported as used.
abbrev pub RefusedAsMeasured : Type 0
RefusedAsMeasured = (buffer sheet : List ℕ) → ((purge buffer sheet).0.number ≡ (measurement buffer sheet).number) × ((purge buffer sheet).0.place ≡ (measurement buffer sheet).place)
    × (((purge buffer sheet).0.number ≡ 0 → ⊥) → (purge buffer sheet).0.bytes ≡ 0)

-- What is kept always has room in the buffer, whose length stays; ROOM never occurs.
pub record NeverTooLong : Type 0 where
  pub used : (buffer sheet : List ℕ) → Bytes buffer → (purge buffer sheet).0.bytes ≤ length buffer
  pub long : (buffer sheet : List ℕ) → Bytes buffer → length (purge buffer sheet).1 ≡ length buffer
  pub room : (buffer sheet : List ℕ) → (purge buffer sheet).0.number ≡ ROOM → ⊥

-- Every freed byte is zero.
abbrev pub FreedZero : Type 0
FreedZero = (buffer sheet : List ℕ) (ks : List Message) → kept_of buffer sheet ≡ good ks
    → drop (purge buffer sheet).0.bytes (purge buffer sheet).1 ≡ replicate (length buffer - (purge buffer sheet).0.bytes) 0

-- Passing recordings of equal length whose kept records are equal give the same buffer and the same answer.
abbrev pub SamePurges : Type 0
SamePurges = (buffer buffer' sheet sheet' : List ℕ) (ks : List Message) → length buffer ≡ length buffer' → kept_of buffer sheet ≡ good ks → kept_of buffer' sheet' ≡ good ks → purge buffer sheet ≡ purge buffer' sheet'

-- Kept records that differ give buffers that differ, the zeros included.
abbrev pub DifferentPurges : Type 0
DifferentPurges = (buffer buffer' sheet sheet' : List ℕ) (ks ks' : List Message) → Bytes buffer → Bytes buffer' → kept_of buffer sheet ≡ good ks → kept_of buffer' sheet' ≡ good ks'
    → (ks ≡ ks' → ⊥) → (purge buffer sheet).1 ≡ (purge buffer' sheet').1 → ⊥

-- What is left passes every check, and is read as exactly the kept records.
abbrev pub LeftRead : Type 0
LeftRead = (buffer sheet : List ℕ) (ks : List Message) → Bytes buffer → kept_of buffer sheet ≡ good ks → recording (in_use (purge buffer sheet)) ≡ good ks

-- It is their clean forms, one behind the other: `write` of the rules is what reading and cleaning a message gives.
abbrev pub LeftClean : Type 0
LeftClean = (buffer sheet : List ℕ) (ks : List Message) → kept_of buffer sheet ≡ good ks
    → ((purge buffer sheet).0 ≡ record { number = 0; place = 0; bytes = length (join (map write ks)) }) × (in_use (purge buffer sheet) ≡ join (map write ks))

-- The freed bytes may be appended to: messages that are written behind what is left are read behind the kept records.
abbrev pub AppendedTo : Type 0
AppendedTo = (buffer sheet : List ℕ) (ks ms : List Message) → Bytes buffer → kept_of buffer sheet ≡ good ks → All Valid ms → length (in_use (purge buffer sheet) ++ kept_bytes ms) ≤ most_bytes
    → recording (in_use (purge buffer sheet) ++ kept_bytes ms) ≡ good (ks ++ ms)

-- What is left, purged again under the same sheet, stays as it is.
abbrev pub PurgedTwice : Type 0
PurgedTwice = (buffer sheet : List ℕ) (ks : List Message) → Bytes buffer → kept_of buffer sheet ≡ good ks
    → purge (in_use (purge buffer sheet)) sheet ≡ (record { number = 0; place = 0; bytes = (purge buffer sheet).0.bytes }, in_use (purge buffer sheet))

-- ---- what is kept

-- No granted package is left.
abbrev pub NoneGranted : List Row → Message → Type 0
NoneGranted rows k = All (λ (p : Package). granted rows k p ≡ false) k.packages

abbrev pub NothingGrantedLeft : Type 0
NothingGrantedLeft = (rows : List Row) (ms : List Message) → All (NoneGranted rows) (kept_records rows ms)

-- The kept records go message by message, and a message's packages one by one: exactly those that no row grants, in order. A message that keeps a package, or had none,
-- keeps its record with these packages and its count set; one that loses its last package goes.
pub record KeptExactly (rows : List Row) : Type 0 where
  pub messages : (ms ns : List Message) → kept_records rows (ms ++ ns) ≡ kept_records rows ms ++ kept_records rows ns
  pub packages : (m : Message) (ps qs : List Package) → kept_packages rows m (ps ++ qs) ≡ kept_packages rows m ps ++ kept_packages rows m qs
  pub taken : (m : Message) (p : Package) → granted rows m p ≡ true → kept_packages rows m (p ∷ []) ≡ []
  pub stays : (m : Message) (p : Package) → granted rows m p ≡ false → kept_packages rows m (p ∷ []) ≡ p ∷ []
  pub none : (m : Message) → m.packages ≡ [] → kept_records rows (m ∷ []) ≡ with_packages m [] ∷ []
  pub some : (m : Message) (k : Package) (ks : List Package) → kept_packages rows m m.packages ≡ k ∷ ks → kept_records rows (m ∷ []) ≡ with_packages m (k ∷ ks) ∷ []
  pub last : (m : Message) (p : Package) (ps : List Package) → m.packages ≡ p ∷ ps → kept_packages rows m m.packages ≡ [] → kept_records rows (m ∷ []) ≡ []

-- A record that is kept with these packages has them, and all else as it was, its options apart.
abbrev pub NumbersKept : Type 0
NumbersKept = (m : Message) (ps : List Package) → ((with_packages m ps).packages ≡ ps)
    × ((with_packages m ps).id ≡ m.id) × ((with_packages m ps).flags ≡ m.flags) × ((with_packages m ps).sequence ≡ m.sequence) × ((with_packages m ps).seconds ≡ m.seconds) × ((with_packages m ps).nanos ≡ m.nanos)

-- Options are kept: o' is the option run o with n as the number of each package count, and nothing else changed.
pub data CountsSet (n : ℕ) : List ℕ → List ℕ → Type 0 where
  none : CountsSet n [] []
  counted : {a b c d : ℕ} {o o' : List ℕ} → CountsSet n o o' → CountsSet n (package_count ∷ 6 ∷ a ∷ b ∷ c ∷ d ∷ o) (package_count ∷ 6 ∷ put32 n o')
  other : (c : List ℕ) {o o' : List ℕ} → (at c 0 ≡ package_count → ⊥) → option_size c ≡ length c → CountsSet n o o' → CountsSet n (c ++ o) (c ++ o')

abbrev pub OptionsKept : Type 0
OptionsKept = (m : Message) (n : ℕ) → Valid m → CountsSet n m.options (count_set n [] m.options)

-- The package count that is left says how many packages its message has.
abbrev pub CountIsRight : Message → Type 0
CountIsRight k = (c : ℕ) → count_said k.options ≡ some c → c ≡ length k.packages

abbrev pub CountsRight : Type 0
CountsRight = (buffer sheet : List ℕ) (ks : List Message) → Bytes buffer → kept_of buffer sheet ≡ good ks → All CountIsRight ks

-- Under a sheet without rows exactly the records that the recording is read as are kept, its refusals included; and the bytes of each are its message's clean form.
pub record NoRows : Type 0 where
  pub all : (buffer : List ℕ) → Bytes buffer → kept_of buffer [] ≡ recording buffer
  pub clean : (s : List ℕ) (m : Message) (n : ℕ) → Bytes s → length s ≤ most_bytes → message 0 s ≡ good (m, n) → clean_form s ≡ good (kept_bytes (kept_records [] (m ∷ [])))

-- ---- the copy and the purge

-- The copy and the purge part a recording: each of its packages is in exactly one of the two. So it is with what the two leave, read as recordings.
pub record PartsRecording : Type 0 where
  pub records : (rows : List Row) (ms : List Message) → Parted (packages_in ms) (packages_in (copy_messages [] (released rows ms))) (packages_in (kept_records rows ms))
  pub read : (bytes sheetBytes buffer : List ℕ) → Bytes bytes → (rows : List Row) → sheet sheetBytes ≡ good rows → (ms : List Message) → recording bytes ≡ good ms
      → (measurement bytes sheetBytes).bytes ≤ length buffer → (copied : List Message) × ((kept : List Message) × (recording (delivered (copy bytes sheetBytes buffer)) ≡ good copied)
      × (recording (in_use (purge bytes sheetBytes)) ≡ good kept) × Parted (packages_in ms) (packages_in copied) (packages_in kept))
