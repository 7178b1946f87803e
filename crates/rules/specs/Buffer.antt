-- Document 01, 'Refusal numbers' and 'The released list and the copy': what is written into a lent buffer. A refusal changes no byte, and bytes behind what is written stay.
use Rattle.std.specs.Prelude.{ℕ, List, ltb, length}
use Rattle.std.proofs.lemmas.List.Edits.{sets}
use Rattle.rules.specs.Outcome.{Outcome, good, bad, refuse, ◌>>◌, ROOM}

-- s, if the buffer has room for it
unfoldable pub fitted : List ℕ → List ℕ → Outcome (List ℕ)
fitted buffer s = do
  refuse (ltb (length buffer) (length s)) ROOM (length s)
  good s

-- what writer and cleaner report: number and place, both 0 on success, and the bytes written, 0 on a refusal
pub record Written : Type 0 where
  pub number : ℕ
  pub place : ℕ
  pub bytes : ℕ

-- nothing written, and a number and a place
abbrev pub unwritten : ℕ → ℕ → Written
unwritten n p = record { number = n; place = p; bytes = 0 }

-- the answer, and the buffer after it
unfoldable pub stored : List ℕ → Outcome (List ℕ) → Written × List ℕ
stored buffer (bad n p) = (unwritten n p, buffer)
stored buffer (good s) = (record { number = 0; place = 0; bytes = length s }, sets buffer 0 s)
