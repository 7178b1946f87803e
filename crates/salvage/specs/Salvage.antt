-- Document 02, A12: what is kept of a damaged recording, and which stretches of it are skipped.
use Rattle.std.specs.Prelude.{ℕ, zero, suc, ◌+◌, ◌-◌, min, Bool, true, false, List, [], ◌∷◌, ◌++◌, ltb, eqb, length, get_or, take, replicate}
use Rattle.std.proofs.lemmas.List.Edits.{sets}
use Rattle.rules.specs.Outcome.{Outcome, good, bad, refuse, ◌>>◌, ◌>>=◌}
use Rattle.rules.specs.Items.{items}
use Rattle.rules.specs.Message.{Message, message, not_large}
use Rattle.rules.specs.Buffer.{fitted}
use Rattle.refusal.specs.Numbers.{HOLES}

-- the bytes that are skipped at a time, and the most stretches that are reported
abbrev pub skip_bytes : ℕ
skip_bytes = 4

abbrev pub most_stretches : ℕ
most_stretches = 64

-- a piece of the input, which is a kept message or is skipped: where it stands, and its bytes
pub record Piece : Type 0 where
  pub kept : Bool
  pub place : ℕ
  pub text : List ℕ

-- what a message read at the start of s, or its refusal, comes to; and how many bytes that takes
unfoldable pub piece_by : ℕ → List ℕ → Outcome (Message × ℕ) → Piece × ℕ
piece_by p s (good (m, n)) = (record { kept = true; place = p; text = take n s }, n)
piece_by p s (bad k q) = (record { kept = false; place = p; text = take skip_bytes s }, min skip_bytes (length s))

-- If a message at place p passes every check, keep it and move behind it; otherwise skip 4 bytes, or what is left.
unfoldable pub piece_at : ℕ → List ℕ → Outcome (Piece × ℕ)
piece_at p s = good (piece_by p s (message p s))

-- the kept messages, unchanged, one behind the other; and how many they are
unfoldable pub kept_text : List Piece → List ℕ
kept_text [] = []
kept_text (q ∷ qs) = elim q.kept [ true ↦ q.text ++ kept_text qs | false ↦ kept_text qs ]

unfoldable pub kept_count : List Piece → ℕ
kept_count [] = 0
kept_count (q ∷ qs) = elim q.kept [ true ↦ suc (kept_count qs) | false ↦ kept_count qs ]

-- a stretch that is skipped
pub record Stretch : Type 0 where
  pub start : ℕ
  pub size : ℕ

abbrev pub no_stretch : Stretch
no_stretch = record { start = 0; size = 0 }

-- n bytes are skipped at place p, behind the stretches hs: where the last of them ends at p, it runs on
unfoldable pub skipping : List Stretch → ℕ → ℕ → List Stretch
skipping [] p n = record { start = p; size = n } ∷ []
skipping (h ∷ []) p n = elim (eqb (h.start + h.size) p) [
  | true ↦ record { start = h.start; size = h.size + n } ∷ []
  | false ↦ h ∷ record { start = p; size = n } ∷ []
]
skipping (h ∷ g ∷ hs) p n = h ∷ skipping (g ∷ hs) p n

-- the stretches hs, and those of the pieces behind them
unfoldable pub stretches_from : List Stretch → List Piece → List Stretch
stretches_from hs [] = hs
stretches_from hs (q ∷ qs) = elim q.kept [ true ↦ stretches_from hs qs | false ↦ stretches_from (skipping hs q.place (length q.text)) qs ]

-- what a salvage comes to
pub record Salvage : Type 0 where
  pub text : List ℕ
  pub messages : ℕ
  pub stretches : List Stretch

unfoldable pub salvage_of : List Piece → Outcome Salvage
salvage_of qs = do
  let hs = stretches_from [] qs
  refuse (ltb most_stretches (length hs)) HOLES (get_or hs most_stretches no_stretch).start
  good (record { text = kept_text qs; messages = kept_count qs; stretches = hs })

unfoldable pub salvaged : List ℕ → Outcome Salvage
salvaged s = do
  not_large s
  qs ← items piece_at zero zero s
  salvage_of qs

-- a salvage, if the buffer has room for the messages that it keeps
unfoldable pub room_for : List ℕ → Salvage → Outcome Salvage
room_for buffer x = fitted buffer x.text >>= λ bytes. good x

-- what is reported: 64 stretches, zero behind the last, and how many of them are the input's
pub record Answer : Type 0 where
  pub number : ℕ
  pub place : ℕ
  pub bytes : ℕ
  pub messages : ℕ
  pub stretches : List Stretch
  pub count : ℕ

-- the answer, and the buffer after it
unfoldable pub answered : List ℕ → Outcome Salvage → Answer × List ℕ
answered buffer (bad n p) = (record { number = n; place = p; bytes = 0; messages = 0; stretches = replicate most_stretches no_stretch; count = 0 }, buffer)
answered buffer (good x) = (
  record {
    number = 0;
    place = 0;
    bytes = length x.text;
    messages = x.messages;
    stretches = x.stretches ++ replicate (most_stretches - length x.stretches) no_stretch;
    count = length x.stretches;
  },
  sets buffer 0 x.text,
)

unfoldable pub salvage : List ℕ → List ℕ → Answer × List ℕ
salvage s buffer = answered buffer (salvaged s >>= room_for buffer)
