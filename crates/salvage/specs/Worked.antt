-- Damaged recordings and what is kept of them at the edges of document 02, A12, on both sides: typed by hand from its sentences.
use Rattle.std.specs.Prelude.{ℕ, ◌≡◌, List, [], ◌∷◌, ◌++◌, length, take, replicate}
use Rattle.rules.specs.Outcome.{good, LARGE, ROOM}
use Rattle.rules.specs.Bytes.{join}
use Rattle.rules.specs.Table.{words, message_with, M, options_with}
use Rattle.rules.specs.Edges.{Gives, told}
use Rattle.refusal.specs.Numbers.{HOLES}
use Rattle.salvage.specs.Salvage.{Stretch, Salvage, salvaged, Answer, salvage}

-- a message without payload, 24 bytes
abbrev pub empty : List ℕ
empty = words (0x10000000 ∷ 0x00000007 ∷ 0x00000005 ∷ 0x00000018 ∷ 0x00000064 ∷ 0x00000000 ∷ [])

-- M with a version that is not 1
abbrev pub other : List ℕ
other = message_with 0x20000080 0x38 0 0x000D0000

-- 4 bytes that are no message, and an empty message behind them, so many times
abbrev pub holes : ℕ → List ℕ
holes n = join (replicate n (words (0xFFFFFFFF ∷ []) ++ empty))

abbrev pub stretch : ℕ → ℕ → Stretch
stretch a n = record { start = a; size = n }

-- what is kept, how many messages that is, and what was skipped
abbrev pub keeps : List ℕ → ℕ → List Stretch → Salvage
keeps s n hs = record { text = s; messages = n; stretches = hs }

abbrev pub refusal : ℕ → ℕ → Answer
refusal n p = record { number = n; place = p; bytes = 0; messages = 0; stretches = replicate 64 (stretch 0 0); count = 0 }

pub record Worked : Type 0 where
  pub number : HOLES ≡ 22
  -- nothing; one message, with dirty padding and reserved bytes, as it is; two of them
  pub whole : Gives salvaged (([], good (keeps [] 0 [])) ∷ (M, good (keeps M 1 [])) ∷ (M ++ empty, good (keeps (M ++ empty) 2 [])) ∷ [])
  -- damage of 4 bytes before a message, of 8 between two, of 2 behind one; a message of another version between two
  pub damaged : Gives salvaged (
      (words (0xDEADBEEF ∷ []) ++ M, good (keeps M 1 (stretch 0 4 ∷ []))) ∷ (M ++ words (0 ∷ 0xFFFFFFFF ∷ []) ++ empty, good (keeps (M ++ empty) 2 (stretch 56 8 ∷ [])))
      ∷ (words (0 ∷ []) ++ M ++ 0x10 ∷ 0x00 ∷ [], good (keeps M 1 (stretch 0 4 ∷ stretch 60 2 ∷ []))) ∷ (M ++ other ++ empty, good (keeps (M ++ empty) 2 (stretch 56 56 ∷ []))) ∷ [])
  -- fewer than 4 bytes; a message without its last byte; a message 2 bytes too late, which is lost; a message that says one package and has two
  pub lost : Gives salvaged (
      (0x10 ∷ [], good (keeps [] 0 (stretch 0 1 ∷ []))) ∷ (take 55 M, good (keeps [] 0 (stretch 0 55 ∷ []))) ∷ (0x10 ∷ 0x00 ∷ M, good (keeps [] 0 (stretch 0 58 ∷ [])))
      ∷ (options_with 0x87060000, good (keeps [] 0 (stretch 0 64 ∷ []))) ∷ [])
  -- messages inside a damaged one: it is skipped 4 bytes at a time, and not by its length
  pub inside : salvaged (words (0x20000080 ∷ 0x00000007 ∷ 0x00000005 ∷ 0x00000048 ∷ 0x00000064 ∷ 0x00000000 ∷ []) ++ empty ++ empty) ≡ good (keeps (empty ++ empty) 2 (stretch 0 24 ∷ []))
  -- 64 stretches; a 65th before a message, and one that is the last byte
  pub many : Gives (λ (s : List ℕ). told (salvaged s)) ((holes 64, (0, 0)) ∷ (holes 65, (HOLES, 1792)) ∷ (holes 64 ++ 0 ∷ [], (HOLES, 1792)) ∷ [])
  pub large : (s : List ℕ) → length s ≡ 65537 → told (salvaged s) ≡ (LARGE, 65536)
  -- a byte too few; just enough; one more, which stays. A 65th stretch is found before the buffer is too short.
  pub rooms : Gives (salvage (holes 1)) (
      (replicate 23 0xEE, (refusal ROOM 24, replicate 23 0xEE))
      ∷ (replicate 24 0xEE, (record { number = 0; place = 0; bytes = 24; messages = 1; stretches = stretch 0 4 ∷ replicate 63 (stretch 0 0); count = 1 }, empty))
      ∷ (replicate 25 0xEE, (record { number = 0; place = 0; bytes = 24; messages = 1; stretches = stretch 0 4 ∷ replicate 63 (stretch 0 0); count = 1 }, empty ++ 0xEE ∷ [])) ∷ [])
  pub first : salvage (holes 65) [] ≡ (refusal HOLES 1792, [])
