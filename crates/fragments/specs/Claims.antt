-- The demands as statements, to be read without any proof. proofs/Claims.antt proves each.
use Rattle.std.specs.Prelude.{ℕ, ◌+◌, ◌*◌, ◌%◌, ◌≤◌, ◌<◌, ◌≡◌, ◌↔◌, ◌⊎◌, List, [], ◌∷◌, ◌++◌, length, take, drop}
use Rattle.std.proofs.Math.Option.{some}
use Rattle.rules.specs.Outcome.{good, bad, LENGTH, OPTION, STANDARD, PACKAGE, LARGE, COUNT, ROOM}
use Rattle.refusal.specs.Numbers.{GAP}
use Rattle.rules.specs.Bytes.{Bytes, join}
use Rattle.rules.specs.Items.{items, All}
use Rattle.rules.specs.Options.{most_option_bytes, kind_of}
use Rattle.rules.specs.Message.{header_bytes, most_bytes, head, payload, Message, message}
use Rattle.rules.specs.Clean.{clean_form}
use Rattle.rules.specs.Buffer.{unwritten}
use Rattle.rules.specs.Claims.{Careful}
use Rattle.fragments.specs.Fragment.{WHOLE, FIRST, MIDDLE, LAST, Fragment, options_of, offset_option, offset_of, fragment, fragment_bytes, bytes_of, payloads_of, next_number}
use Rattle.fragments.specs.Cutting.{whole_of, fragment_with, cut_into, cutter}
use Rattle.fragments.specs.Joining.{clean_joined, joined, joiner}

-- ---- Which fragments are a whole set in order.

-- f stands in its place behind e
pub record Behind (e f : Fragment) : Type 0 where
  pub before : (e.bits ≡ FIRST) ⊎ (e.bits ≡ MIDDLE)
  pub bits : (f.bits ≡ MIDDLE) ⊎ (f.bits ≡ LAST)
  pub start : ℕ
  pub offset : offset_of e ≡ some start
  pub next : offset_of f ≡ some (start + length e.payload)
  pub number : f.sequence ≡ next_number e.sequence
  pub id : f.id ≡ e.id
  pub seconds : f.seconds ≡ e.seconds
  pub nanos : f.nanos ≡ e.nanos
  pub flags : f.flags ≡ e.flags

-- behind e, fs follow one behind the other, up to the last
pub data Follow : Fragment → List Fragment → Type 0 where
  end : {e : Fragment} → e.bits ≡ LAST → Follow e []
  next : {e f : Fragment} {fs : List Fragment} → Behind e f → Follow f fs → Follow e (f ∷ fs)

-- one whole message; or a first fragment with offset 0, and those that follow it
pub data WholeSet : List Fragment → Type 0 where
  one : {f : Fragment} → f.bits ≡ WHOLE → WholeSet (f ∷ [])
  many : {f : Fragment} {fs : List Fragment} → f.bits ≡ FIRST → offset_of f ≡ some 0 → Follow f fs → WholeSet (f ∷ fs)

-- ---- Cutting.

-- Every fragment, alone or with anything behind it, passes checks 1 to 7 and is read as what it is.
abbrev pub CutRead : Type 0
CutRead = (size : ℕ) (s : List ℕ) (fs : List Fragment) → Bytes s → cut_into size s ≡ good fs
    → All (λ (f : Fragment). (p : ℕ) (behind : List ℕ) → fragment p (fragment_bytes f ++ behind) ≡ good (f, length (fragment_bytes f))) fs

-- The fragments are a whole set in order.
abbrev pub CutInOrder : Type 0
CutInOrder = (size : ℕ) (s : List ℕ) (fs : List Fragment) → Bytes s → cut_into size s ≡ good fs → WholeSet fs

-- Each fragment of a message that is cut, by its place among them: id, time and other flags are the whole's. The first has the whole's own number, and 0x86 behind the original options;
-- a later one has the number that is so many on, bits for a middle or the last one, and 0x86 alone, with the bytes of payload before it.
abbrev pub bits_behind : List Fragment → ℕ
bits_behind [] = LAST
bits_behind (f ∷ fs) = MIDDLE

pub record Each (m : Message) (fs : List Fragment) : Type 0 where
  pub first : (f : Fragment) (after : List Fragment) → fs ≡ f ∷ after → f ≡ fragment_with (whole_of m) FIRST m.sequence (m.options ++ offset_option 0) f.payload
  pub later : (e f : Fragment) (before after : List Fragment) → fs ≡ e ∷ (before ++ (f ∷ after))
      → f ≡ fragment_with (whole_of m) (bits_behind after) ((m.sequence + 1 + length before) % 4294967296) (offset_option (length (payloads_of (e ∷ before)))) f.payload

abbrev pub CutEach : Type 0
CutEach = (size : ℕ) (s : List ℕ) (fs : List Fragment) (m : Message) (n : ℕ) → cut_into size s ≡ good fs → message 0 s ≡ good (m, n) → size < length (payloads_of fs) → Each m fs

-- Their payloads, one behind the other, are the payload of the clean form.
abbrev pub CutPayload : Type 0
CutPayload = (size : ℕ) (s c : List ℕ) (fs : List Fragment) → Bytes s → cut_into size s ≡ good fs → clean_form s ≡ good c → payloads_of fs ≡ payload c (head c)

-- A payload that fits is not cut: the one fragment is the clean form.
abbrev pub CutFits : Type 0
CutFits = (size : ℕ) (s : List ℕ) (fs : List Fragment) → Bytes s → cut_into size s ≡ good fs → length (payloads_of fs) ≤ size
    → (length fs ≡ 1) × (clean_form s ≡ good (bytes_of fs))

-- Otherwise each fragment has `size` bytes of payload, and the last what is left, which is not nothing.
pub data Filled (size : ℕ) : List Fragment → Type 0 where
  last : {f : Fragment} → 1 ≤ length f.payload → length f.payload ≤ size → Filled size (f ∷ [])
  full : {f g : Fragment} {fs : List Fragment} → length f.payload ≡ size → Filled size (g ∷ fs) → Filled size (f ∷ g ∷ fs)

abbrev pub CutFilled : Type 0
CutFilled = (size : ℕ) (s : List ℕ) (fs : List Fragment) → Bytes s → cut_into size s ≡ good fs → size < length (payloads_of fs) → Filled size fs

-- So their number is that of the payload's bytes divided by the size, rounded up.
abbrev pub CutCount : Type 0
CutCount = (size : ℕ) (s : List ℕ) (fs : List Fragment) → Bytes s → cut_into size s ≡ good fs → size < length (payloads_of fs)
    → (length (payloads_of fs) ≤ length fs * size) × (length fs * size < length (payloads_of fs) + size)

-- a size that may be given: a multiple of 4, from 4 up
pub record SizeAllowed (size : ℕ) : Type 0 where
  pub least : 4 ≤ size
  pub words : size % 4 ≡ 0

-- none of the options is 0x86
abbrev pub OffsetAbsent : List (List ℕ) → Type 0
OffsetAbsent options = All (λ (option : List ℕ). kind_of option ≡ 0x86 → ⊥) options

-- q is the place of the first 0x86 among the options, the first of which stands at place p
pub record OffsetAt (p : ℕ) (options : List (List ℕ)) (q : ℕ) : Type 0 where
  pub before : List (List ℕ)
  pub option : List ℕ
  pub behind : List (List ℕ)
  pub split : options ≡ before ++ (option ∷ behind)
  pub none : OffsetAbsent before
  pub kind : kind_of option ≡ 0x86
  pub place : q ≡ p + length (join before)

-- s is not too large, and its first message passes every check and has the record m
pub record FirstPasses (s : List ℕ) (m : Message) : Type 0 where
  pub small : length s ≤ most_bytes
  pub size : ℕ
  pub read : message 0 s ≡ good (m, size)

-- why cutting is refused, in the order of the tests, and at which place
pub data CutRefused (size : ℕ) (s : List ℕ) : ℕ → ℕ → Type 0 where
  large : most_bytes < length s → CutRefused size s LARGE most_bytes
  bad-message : {n p : ℕ} → length s ≤ most_bytes → message 0 s ≡ bad n p → CutRefused size s n p
  bad-size : {m : Message} → FirstPasses s m → (SizeAllowed size → ⊥) → CutRefused size s LENGTH 0
  has_offset : {m : Message} {p : ℕ} → FirstPasses s m → SizeAllowed size → OffsetAt header_bytes (options_of m.options) p → CutRefused size s OPTION p
  no_place : {m : Message} → FirstPasses s m → SizeAllowed size → OffsetAbsent (options_of m.options) → size < length (whole_of m).payload
      → most_option_bytes < length m.options + length (offset_option 0) → CutRefused size s OPTION header_bytes

-- Cutting is refused exactly so.
abbrev pub CutRefusedExactly : Type 0
CutRefusedExactly = (size : ℕ) (s : List ℕ) (n p : ℕ) → (cut_into size s ≡ bad n p) ↔ CutRefused size s n p

-- ---- Joining.

-- Joining what was cut, if it has at most 65,536 bytes, gives the clean form.
abbrev pub CutJoined : Type 0
CutJoined = (size : ℕ) (s : List ℕ) (fs : List Fragment) → Bytes s → cut_into size s ≡ good fs → length (bytes_of fs) ≤ most_bytes → joined (bytes_of fs) ≡ clean_form s

-- One whole message that passes is cleaned.
abbrev pub WholeJoined : Type 0
WholeJoined = (s : List ℕ) → Bytes s → length s ≤ most_bytes → (m : Message) → message 0 s ≡ good (m, length s) → joined s ≡ clean_form s

-- fs is the beginning of a whole set in order
abbrev pub Continued : List Fragment → Type 0
Continued fs = (more : List Fragment) × WholeSet (fs ++ more)

-- s is not too large; the fragments in its first q bytes, fs, each pass checks 1 to 7, and they are the beginning of a whole set in order
pub record InOrderTo (s : List ℕ) (q : ℕ) (fs : List Fragment) : Type 0 where
  pub small : length s ≤ most_bytes
  pub read : items fragment 0 0 (take q s) ≡ good fs
  pub continued : Continued fs

-- why joining is refused, and at which place: behind fragments in order, the next one does not pass checks 1 to 7, or does not continue them, or the last is missing;
-- or they are a whole set, and what they make up is refused, at place 0
pub data JoinRefused (s : List ℕ) : ℕ → ℕ → Type 0 where
  large : most_bytes < length s → JoinRefused s LARGE most_bytes
  bad-fragment : {q n p : ℕ} {fs : List Fragment} → InOrderTo s q fs → q < length s → fragment q (drop q s) ≡ bad n p → JoinRefused s n p
  gap : {q n : ℕ} {fs : List Fragment} {f : Fragment} → InOrderTo s q fs → fragment q (drop q s) ≡ good (f, n) → (Continued (fs ++ (f ∷ [])) → ⊥) → JoinRefused s GAP q
  last_missing : {fs : List Fragment} → InOrderTo s (length s) fs → (WholeSet fs → ⊥) → JoinRefused s GAP (length s)
  bad-whole : {n : ℕ} {fs : List Fragment} → InOrderTo s (length s) fs → WholeSet fs → clean_joined fs ≡ bad n 0 → JoinRefused s n 0

-- Joining is refused exactly so.
abbrev pub JoinRefusedExactly : Type 0
JoinRefusedExactly = (s : List ℕ) (n p : ℕ) → (joined s ≡ bad n p) ↔ JoinRefused s n p

-- Of fragments that are a whole set, joining gives the clean form of what they make up, or its refusal.
abbrev pub JoinWhole : Type 0
JoinWhole = (s : List ℕ) (fs : List Fragment) → InOrderTo s (length s) fs → WholeSet fs → joined s ≡ clean_joined fs

-- That refusal is STANDARD, PACKAGE or COUNT alone, at place 0.
abbrev pub JoinRefusals : Type 0
JoinRefusals = (s : List ℕ) (fs : List Fragment) (n q : ℕ) → Bytes s → InOrderTo s (length s) fs → WholeSet fs → joined s ≡ bad n q → ((n ≡ STANDARD) ⊎ (n ≡ PACKAGE) ⊎ (n ≡ COUNT)) × (q ≡ 0)

-- What is joined passes every check and is clean: it is its own clean form.
abbrev pub JoinClean : Type 0
JoinClean = (s c : List ℕ) → Bytes s → joined s ≡ good c → clean_form c ≡ good c

-- What is joined is never longer than the fragments.
abbrev pub JoinNotLonger : Type 0
JoinNotLonger = (s c : List ℕ) → Bytes s → joined s ≡ good c → length c ≤ length s

-- ---- Buffers: a refusal changes no byte, and what is written changes none behind it; with room the bytes are written, and without it ROOM says how many are needed.
pub record BuffersKept : Type 0 where
  pub cutter : (size : ℕ) (s buffer : List ℕ) → Careful (cutter size s buffer).0.number (cutter size s buffer).0.bytes buffer (cutter size s buffer).1
  pub joiner : (s buffer : List ℕ) → Careful (joiner s buffer).0.number (joiner s buffer).0.bytes buffer (joiner s buffer).1

pub record Writes : Type 0 where
  pub cutter : (size : ℕ) (s buffer : List ℕ) (fs : List Fragment) → cut_into size s ≡ good fs → length (bytes_of fs) ≤ length buffer
      → ((cutter size s buffer).0 ≡ record { number = 0; place = 0; bytes = length (bytes_of fs); fragments = length fs }) × (take (length (bytes_of fs)) (cutter size s buffer).1 ≡ bytes_of fs)
  pub joiner : (s buffer c : List ℕ) → joined s ≡ good c → length c ≤ length buffer
      → ((joiner s buffer).0 ≡ record { number = 0; place = 0; bytes = length c }) × (take (length c) (joiner s buffer).1 ≡ c)

-- What cannot be cut or joined is told so: its number and place, nothing written, and the buffer as it was.
pub record RefusalsTold : Type 0 where
  pub cutter : (size : ℕ) (s buffer : List ℕ) (n p : ℕ) → cut_into size s ≡ bad n p → cutter size s buffer ≡ (record { number = n; place = p; bytes = 0; fragments = 0 }, buffer)
  pub joiner : (s buffer : List ℕ) (n p : ℕ) → joined s ≡ bad n p → joiner s buffer ≡ (unwritten n p, buffer)

pub record RoomRefused : Type 0 where
  pub cutter : (size : ℕ) (s buffer : List ℕ) (fs : List Fragment) → cut_into size s ≡ good fs → length buffer < length (bytes_of fs)
      → (cutter size s buffer).0 ≡ record { number = ROOM; place = length (bytes_of fs); bytes = 0; fragments = 0 }
  pub joiner : (s buffer c : List ℕ) → joined s ≡ good c → length buffer < length c → (joiner s buffer).0 ≡ unwritten ROOM (length c)
