-- Document 01, 'Numbers to check by': P1 to P12 as one record.
use Rattle.std.specs.Prelude.{◌≡◌, List, [], ◌∷◌, ◌++◌, map, false, ℕ, length, drop, replicate}
use Rattle.rules.specs.Outcome.{good, bad, SHORT, VERSION, LENGTH, CUT, TIME, OPTION, PACKAGE, ROOM}
use Rattle.rules.specs.Bytes.{put32}
use Rattle.rules.specs.Message.{Message, recording}
use Rattle.rules.specs.Packages.{instant, package_time}
use Rattle.rules.specs.Reading.{header, option_run}
use Rattle.rules.specs.Sheet.{sheet}
use Rattle.rules.specs.Copy.{refusal, copy}
use Rattle.rules.specs.Burst.{sequence_byte}

-- numbers of 32 bits as bytes
abbrev pub words : List ℕ → List ℕ
words [] = []
words (x ∷ xs) = put32 x (words xs)

-- M, with its first word, length, nanoseconds and first package's L word open
abbrev pub message_with : ℕ → ℕ → ℕ → ℕ → List ℕ
message_with first size nanos l = words
    (first ∷ 0x00000007 ∷ 0x00000005 ∷ size ∷ 0x00000064 ∷ nanos ∷ 0x00000001 ∷ l ∷ 0x00000000 ∷ 0xAA112233 ∷ 0x00000002 ∷ 0x00105500 ∷ 0x0000000A ∷ 0xDEADBEEF ∷ [])

abbrev pub M : List ℕ
M = message_with 0x10000080 0x38 0 0x000D0000

-- M with two option words, of which the first is open, and W and length to suit
abbrev pub options_with : ℕ → List ℕ
options_with first = words (0x12000080 ∷ 0x00000007 ∷ 0x00000005 ∷ 0x00000040 ∷ 0x00000064 ∷ 0x00000000 ∷ first ∷ 0x000100FF ∷ []) ++ drop 24 M

abbrev pub R : List ℕ
R = words (0x00000007 ∷ 0x00000007 ∷ 0x00000001 ∷ 0x00000001 ∷ 0x00000064 ∷ 0x00000000 ∷ 0x00000194 ∷ 0x00000000 ∷ [])

pub record Table : Type 0 where
  pub P1 : (buffer : List ℕ) → copy [] R buffer ≡ (refusal 0 0, buffer)
  pub P2 : (s : List ℕ) → length s ≡ 23 → recording s ≡ bad SHORT 0
  pub P3 : recording (message_with 0x20000080 0x38 0 0x000D0000) ≡ bad VERSION 0
  pub P4 : recording (message_with 0x11000080 0x18 0 0x000D0000) ≡ bad LENGTH 0
  pub P5 : recording (message_with 0x10000080 0x3C 0 0x000D0000) ≡ bad CUT 0
  pub P6-refused : recording (message_with 0x10000080 0x38 0x3B9ACA00 0x000D0000) ≡ bad TIME 0
  pub P6-passes : (ms : List Message) × (recording (message_with 0x10000080 0x38 0x3B9AC9FF 0x000D0000) ≡ good ms)
  pub P7-run : option_run (options_with 0x87060000) ≡ 0x87 ∷ 0x06 ∷ 0x00 ∷ 0x00 ∷ 0x00 ∷ 0x01 ∷ []
  pub P7-refused : header (options_with 0x87050000) ≡ bad OPTION 24
  pub P8-11 : recording (message_with 0x10000080 0x38 0 0x000B0000) ≡ bad PACKAGE 24
  pub P8-33 : recording (message_with 0x10000080 0x38 0 0x00210000) ≡ bad PACKAGE 24
  pub P8-17 : recording (message_with 0x10000080 0x38 0 0x00110000) ≡ bad PACKAGE 44
  pub P8-16 : (ms : List Message) × (recording (message_with 0x10000080 0x38 0 0x00100000) ≡ good ms)
  pub P9 : sheet R ≡ good
      (record { first_message = 7; last_message = 7; first_package = 1; last_package = 1; start_seconds = 100; start_nanos = 0; end_seconds = 101; end_nanos = 0; spare = 0; acquired_only = false } ∷ [])
  pub P10 : copy M R (replicate 44 0xEE) ≡ (
    record { number = 0; place = 0; bytes = 40; messages = 1; packages = 1 },
    words (0x100000C0 ∷ 0x00000007 ∷ 0x00000000 ∷ 0x00000028 ∷ 0x00000064 ∷ 0x00000000 ∷ 0x00000001 ∷ 0x000D0000 ∷ 0x00000000 ∷ 0xAA000000 ∷ 0xEEEEEEEE ∷ []),
  )
  pub P10-room : copy M R (replicate 39 0xEE) ≡ (refusal ROOM 40, replicate 39 0xEE)
  pub P11 : package_time 100 999999999 4294967295 ≡ instant 105 294967294
  pub P12 : map sequence_byte (0 ∷ 1 ∷ 2 ∷ 3 ∷ 4 ∷ 255 ∷ 768 ∷ []) ≡ 0xFF ∷ 0x48 ∷ 0x0E ∷ 0xC0 ∷ 0x9A ∷ 0xFF ∷ 0xC0 ∷ []
