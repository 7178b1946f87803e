-- What document 02, A12 asks for, as statements to be read without any proof. proofs/Claims.antt proves each.
use Rattle.std.specs.Prelude.{ℕ, suc, ◌+◌, ◌-◌, ◌≤◌, ◌<◌, min, ◌≡◌, ◌↔◌, true, false, ◌&&◌, List, [], ◌∷◌, ◌++◌, leb, ltb, length, get_or, take, drop, replicate}
use Rattle.rules.specs.Outcome.{good, bad, LARGE, ROOM}
use Rattle.rules.specs.Bytes.{part}
use Rattle.rules.specs.Items.{items}
use Rattle.rules.specs.Message.{most_bytes, Message, message, recording}
use Rattle.rules.specs.Claims.{Careful}
use Rattle.refusal.specs.Numbers.{HOLES}
use Rattle.salvage.specs.Salvage.{skip_bytes, most_stretches, Piece, piece_at, kept_text, kept_count, Stretch, no_stretch, stretches_from, Salvage, salvaged, Answer, salvage}

-- The rule as a relation: the bytes s from place p on are these pieces, and each begins where the one before it ends. A message that passes every check is kept;
-- where none passes, 4 bytes are skipped, or what is left.
pub data Salvages : ℕ → List ℕ → List Piece → Type 0 where
  end : {p : ℕ} → Salvages p [] []
  keep : {p : ℕ} {c t : List ℕ} {qs : List Piece} (m : Message) → message p (c ++ t) ≡ good (m, length c) → Salvages (p + length c) t qs
      → Salvages p (c ++ t) (record { kept = true; place = p; text = c } ∷ qs)
  skip : {p : ℕ} {c t : List ℕ} {qs : List Piece} → 1 ≤ length c → length c ≡ min skip_bytes (length (c ++ t)) → ((m : Message) (n : ℕ) → message p (c ++ t) ≡ good (m, n) → ⊥)
      → Salvages (p + length c) t qs → Salvages p (c ++ t) (record { kept = false; place = p; text = c } ∷ qs)

-- The definition finds exactly these pieces, and every input has some.
pub record PiecesExactly : Type 0 where
  pub exactly : (s : List ℕ) (qs : List Piece) → (items piece_at 0 0 s ≡ good qs) ↔ Salvages 0 s qs
  pub always : (s : List ℕ) → (qs : List Piece) × Salvages 0 s qs

-- how many of the stretches have byte k
unfoldable pub holds : ℕ → Stretch → ℕ
holds k h = elim (leb h.start k && ltb k (h.start + h.size)) [ true ↦ 1 | false ↦ 0 ]

unfoldable pub times : ℕ → List Stretch → ℕ
times k [] = 0
times k (h ∷ hs) = holds k h + times k hs

-- where the kept messages stand
unfoldable pub kept_spans : List Piece → List Stretch
kept_spans [] = []
kept_spans (q ∷ qs) = elim q.kept [ true ↦ record { start = q.place; size = length q.text } ∷ kept_spans qs | false ↦ kept_spans qs ]

-- Kept messages and stretches together cover the input with no overlap: each byte of it is in exactly one of them, and no other byte in any.
pub record CoveredOnce : Type 0 where
  pub inside : (s : List ℕ) (qs : List Piece) → Salvages 0 s qs → (k : ℕ) → k < length s → times k (kept_spans qs) + times k (stretches_from [] qs) ≡ 1
  pub behind : (s : List ℕ) (qs : List Piece) → Salvages 0 s qs → (k : ℕ) → length s ≤ k → times k (kept_spans qs) + times k (stretches_from [] qs) ≡ 0

-- stretches from place p on, in order, none empty, each as long as it runs: at least one byte is between it and the next
pub data Apart : ℕ → List Stretch → Type 0 where
  none : {p : ℕ} → Apart p []
  next : {p : ℕ} {h : Stretch} {hs : List Stretch} → p ≤ h.start → 1 ≤ h.size → Apart (suc (h.start + h.size)) hs → Apart p (h ∷ hs)

abbrev pub StretchesRun : Type 0
StretchesRun = (s : List ℕ) (qs : List Piece) → Salvages 0 s qs → Apart 0 (stretches_from [] qs)

-- What is salvaged is the kept messages, unchanged and in order, their number and the stretches, at most 64 of them.
pub record Kept (s : List ℕ) (x : Salvage) : Type 0 where
  pub small : length s ≤ most_bytes
  pub pieces : List Piece
  pub salvages : Salvages 0 s pieces
  pub text : x.text ≡ kept_text pieces
  pub messages : x.messages ≡ kept_count pieces
  pub stretches : x.stretches ≡ stretches_from [] pieces
  pub few : length x.stretches ≤ most_stretches

abbrev pub SalvagedExactly : Type 0
SalvagedExactly = (s : List ℕ) (x : Salvage) → (salvaged s ≡ good x) ↔ Kept s x

-- the bytes of s from place p on that are in none of the stretches
unfoldable pub without : List Stretch → ℕ → List ℕ → List ℕ
without [] p s = drop p s
without (h ∷ hs) p s = part p h.start s ++ without hs (h.start + h.size) s

-- It is the input without its stretches.
abbrev pub OutputIsRest : Type 0
OutputIsRest = (s : List ℕ) (x : Salvage) → salvaged s ≡ good x → x.text ≡ without x.stretches 0 s

-- Why and where a salvage is refused, room apart: LARGE, or HOLES at the first byte of the 65th stretch.
pub data Refused (s : List ℕ) : ℕ → ℕ → Type 0 where
  large : most_bytes < length s → Refused s LARGE most_bytes
  holes : {qs : List Piece} → length s ≤ most_bytes → Salvages 0 s qs → most_stretches < length (stretches_from [] qs)
      → Refused s HOLES (get_or (stretches_from [] qs) most_stretches no_stretch).start

abbrev pub RefusedExactly : Type 0
RefusedExactly = (s : List ℕ) (n p : ℕ) → (salvaged s ≡ bad n p) ↔ Refused s n p

-- A recording that passes is kept whole, with no stretch.
abbrev pub PassingKept : Type 0
PassingKept = (s : List ℕ) (ms : List Message) → recording s ≡ good ms → salvaged s ≡ good (record { text = s; messages = length ms; stretches = [] })

-- What is salvaged passes as a recording, and salvaging it again changes nothing.
abbrev pub OutputPasses : Type 0
OutputPasses = (s : List ℕ) (x : Salvage) → salvaged s ≡ good x → (ms : List Message) × (recording x.text ≡ good ms) × (length ms ≡ x.messages)

abbrev pub SalvagedTwice : Type 0
SalvagedTwice = (s : List ℕ) (x : Salvage) → salvaged s ≡ good x → salvaged x.text ≡ good (record { text = x.text; messages = x.messages; stretches = [] })

-- What is reported of a salvage: its bytes, its messages, and 64 stretches, zero behind the last, with their number.
pub record Reported (x : Salvage) (a : Answer) : Type 0 where
  pub number : a.number ≡ 0
  pub place : a.place ≡ 0
  pub bytes : a.bytes ≡ length x.text
  pub messages : a.messages ≡ x.messages
  pub stretches : a.stretches ≡ x.stretches ++ replicate (most_stretches - length x.stretches) no_stretch
  pub count : a.count ≡ length x.stretches

-- What is reported beside number and place where a salvage is refused: nothing.
pub record NothingReported (a : Answer) : Type 0 where
  pub bytes : a.bytes ≡ 0
  pub messages : a.messages ≡ 0
  pub stretches : a.stretches ≡ replicate most_stretches no_stretch
  pub count : a.count ≡ 0

-- With room the messages are written and reported; without it the answer is ROOM with the bytes needed. Whatever else refuses does so with any buffer. A refusal
-- reports nothing more and leaves the buffer, and bytes behind what is written stay.
pub record Writes : Type 0 where
  pub room : (s buffer : List ℕ) (x : Salvage) → salvaged s ≡ good x → length x.text ≤ length buffer
      → Reported x (salvage s buffer).0 × (take (length x.text) (salvage s buffer).1 ≡ x.text)
  pub none : (s buffer : List ℕ) (x : Salvage) → salvaged s ≡ good x → length buffer < length x.text
      → ((salvage s buffer).0.number ≡ ROOM) × ((salvage s buffer).0.place ≡ length x.text)
  pub refused : (s buffer : List ℕ) (n p : ℕ) → salvaged s ≡ bad n p → ((salvage s buffer).0.number ≡ n) × ((salvage s buffer).0.place ≡ p)
  pub nothing : (s buffer : List ℕ) → ((salvage s buffer).0.number ≡ 0 → ⊥) → NothingReported (salvage s buffer).0
  pub kept : (s buffer : List ℕ) → Careful (salvage s buffer).0.number (salvage s buffer).0.bytes buffer (salvage s buffer).1
