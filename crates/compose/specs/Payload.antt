-- What is stored: a run of packages, cut and written; and the message of a draft.
use Rattle.std.specs.Prelude.{ℕ, zero, ◌+◌, ◌/◌, ◌≤◌, ◌<◌, ◌≡◌, List, [], ◌∷◌, map, true, false, eqb, length, take, drop}
use Rattle.std.proofs.lemmas.List.Edits.{sets}
use Rattle.rules.specs.Outcome.{Outcome, good, bad, PACKAGE}
use Rattle.rules.specs.Bytes.{half, put32, pad, part, join}
use Rattle.rules.specs.Packages.{cut, package_of, piece_of}
use Rattle.rules.specs.Message.{record_bits}
use Rattle.rules.specs.Writer.{write, Draft, drafted}
use Rattle.rules.specs.Buffer.{Written, stored, fitted}
use Rattle.compose.specs.declared.Record.{Record}
use Rattle.compose.specs.declared.Walked.{Walked}

-- the run is cut into pieces
pub record Cuts (s : List ℕ) : Type 0 where
  pub pieces : List (List ℕ)
  pub cuts : cut zero s ≡ good pieces

-- the packages of these pieces, written one behind the other
abbrev pub pieces_written : List (List ℕ) → List ℕ
pieces_written cs = join (map piece_of (map package_of cs))

-- the packages of a run that is cut so, written
unfoldable pub payload_of : Outcome (List (List ℕ)) → List ℕ
payload_of (good cs) = pieces_written cs
payload_of (bad n p) = []

-- both parts of a run, which meet at index m, are cut into pieces
pub record Halved (s : List ℕ) (m : ℕ) : Type 0 where
  pub within : m ≤ length s
  pub front : Cuts (take m s)
  pub back : Cuts (drop m s)

-- as far as a walk over a run came
pub record WalkedOver (s : List ℕ) (w : Walked) : Type 0 where
  pub pieces : List (List ℕ)
  pub inside : w.end ≤ length s
  pub many : w.all ≡ length pieces
  pub whole : length s ≤ w.end → cut zero s ≡ good pieces
  pub broken : w.end < length s → cut zero s ≡ bad PACKAGE w.end
  pub halved : length s ≤ w.end → Halved s w.mid

-- the package at index i of a run stands in a buffer that has the run from index k on
abbrev pub Lies : List ℕ → ℕ → List ℕ → ℕ → Type 0
Lies buffer k run i = take (pad (half (drop i run) 4)) (drop (k + i) buffer) ≡ take (pad (half (drop i run) 4)) (drop i run)

-- that package is stored there, clean, and the next one begins at index e of the run
pub record Moved (buffer : List ℕ) (k : ℕ) (run : List ℕ) (i : ℕ) (after : List ℕ) (e : ℕ) : Type 0 where
  pub end : i + pad (half (drop i run) 4) ≡ e
  pub bytes : after ≡ sets buffer (k + i) (piece_of (package_of (part i e run)))

-- the 24 bytes of a header: words, flags, id, sequence, size, seconds, nanos
abbrev pub header_of : ℕ → ℕ → ℕ → ℕ → ℕ → ℕ → ℕ → List ℕ
header_of w f i q z s n = (16 + w) ∷ 0 ∷ 0 ∷ f ∷ put32 i (put32 q (put32 z (put32 s (put32 n []))))

-- the flags of a message whose packages take so many bytes: those that a record keeps, and flag 7 where there are packages
abbrev pub flags_with : ℕ → ℕ → ℕ
flags_with flags payload = record_bits flags + elim (eqb payload 0) [ true ↦ 0 | false ↦ 128 ]

-- the header of a message with this record, an option run of so many bytes, and packages of so many
abbrev pub header_by : Record → ℕ → ℕ → List ℕ
header_by r run payload = header_of (pad run / 4) (flags_with r.flags payload) r.id.0 r.sequence (24 + pad run + payload) r.seconds r.nanos

-- the message of a draft whose run is cut so
unfoldable pub message_of : Draft → Outcome (List (List ℕ)) → List ℕ
message_of d (good cs) = write (drafted d cs)
message_of d (bad n p) = []

-- how many bytes it has
abbrev pub size_of : Draft → ℕ
size_of d = 24 + pad (length d.options) + length d.packages

-- a draft whose message has n bytes: nothing but ROOM can be refused any more
pub record Fit (d : Draft) (n : ℕ) : Type 0 where
  pub short : length d.options ≤ 60
  pub size : size_of d ≡ n
  pub small : n ≤ 65536
  pub cuts : Cuts d.packages

-- and there is room for it
pub record Ready (d : Draft) (buffer : List ℕ) : Type 0 where
  pub fit : Fit d (size_of d)
  pub room : size_of d ≤ length buffer

-- the answer then
unfoldable pub finished : Draft → List ℕ → Written × List ℕ
finished d buffer = stored buffer (fitted buffer (message_of d (cut zero d.packages)))

-- how many bytes an outcome has
unfoldable pub size_of_outcome : Outcome (List ℕ) → Outcome ℕ
size_of_outcome (good s) = good (length s)
size_of_outcome (bad n p) = bad n p
