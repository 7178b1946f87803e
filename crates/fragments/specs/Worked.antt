-- Document 02, A11, worked out by hand: a message cut into three fragments and joined again, and what is refused.
use Rattle.std.specs.Prelude.{ℕ, ◌+◌, ◌<◌, ◌≡◌, List, [], ◌∷◌, ◌++◌, length, replicate}
use Rattle.rules.specs.Outcome.{SHORT, LENGTH, OPTION, STANDARD, PACKAGE, LARGE, ROOM, COUNT}
use Rattle.refusal.specs.Numbers.{GAP}
use Rattle.rules.specs.Message.{most_bytes}
use Rattle.rules.specs.Buffer.{Written, unwritten}
use Rattle.rules.specs.Table.{words}
use Rattle.fragments.specs.Cutting.{CutAnswer, cutter}
use Rattle.fragments.specs.Joining.{joiner}

-- Two packages in 32 bytes, with a count, an option byte behind an 0x00, reserved bits, a reserved byte and padding; its number is the last before 0.
abbrev pub dirty : List ℕ
dirty = words
    (0x12A05BCF ∷ 0x00000007 ∷ 0xFFFFFFFF ∷ 0x00000040 ∷ 0x00000064 ∷ 0x00000000 ∷ 0x87060000 ∷ 0x000200FF
    ∷ 0x00000001 ∷ 0x000D0000 ∷ 0x00000000 ∷ 0xAA112233 ∷ 0x00000002 ∷ 0x00105500 ∷ 0x0000000A ∷ 0xDEADBEEF ∷ [])

-- Its clean form.
abbrev pub cleaned : List ℕ
cleaned = words
    (0x120000CF ∷ 0x00000007 ∷ 0xFFFFFFFF ∷ 0x00000040 ∷ 0x00000064 ∷ 0x00000000 ∷ 0x87060000 ∷ 0x00020000
    ∷ 0x00000001 ∷ 0x000D0000 ∷ 0x00000000 ∷ 0xAA000000 ∷ 0x00000002 ∷ 0x00100000 ∷ 0x0000000A ∷ 0xDEADBEEF ∷ [])

-- Its fragments of 12 bytes, of 48, 44 and 40 bytes. In the first, the word with the count's end and 0x86, and the package's L, are open; in the second the first word, id, number,
-- seconds, and the option's two words.
abbrev pub first_with : ℕ → ℕ → List ℕ
first_with count l = words
    (0x130000DF ∷ 0x00000007 ∷ 0xFFFFFFFF ∷ 0x00000030 ∷ 0x00000064 ∷ 0x00000000 ∷ 0x87060000 ∷ count ∷ 0x00000000 ∷ 0x00000001 ∷ l ∷ 0x00000000 ∷ [])

abbrev pub second_with : ℕ → ℕ → ℕ → ℕ → ℕ → ℕ → List ℕ
second_with first id number seconds option offset = words
    (first ∷ id ∷ number ∷ 0x0000002C ∷ seconds ∷ 0x00000000 ∷ option ∷ offset ∷ 0xAA000000 ∷ 0x00000002 ∷ 0x00100000 ∷ [])

abbrev pub first : List ℕ
first = first_with 0x00028606 0x000D0000

abbrev pub second : List ℕ
second = second_with 0x120000EF 0x00000007 0x00000000 0x00000064 0x86060000 0x000C0000

abbrev pub third : List ℕ
third = words (0x120000FF ∷ 0x00000007 ∷ 0x00000001 ∷ 0x00000028 ∷ 0x00000064 ∷ 0x00000000 ∷ 0x86060000 ∷ 0x00180000 ∷ 0x0000000A ∷ 0xDEADBEEF ∷ [])

-- all three, with another second one
abbrev pub around : List ℕ → List ℕ
around x = first ++ (x ++ third)

-- A message with an option of one byte and 0x86 behind it; and one with as many options of one byte as are said, in 56 bytes.
abbrev pub with_offset : List ℕ
with_offset = words (0x12000080 ∷ 0x00000007 ∷ 0x00000005 ∷ 0x00000030 ∷ 0x00000064 ∷ 0x00000000 ∷ 0x01860600 ∷ 0x00000000 ∷ 0x00000001 ∷ 0x00100000 ∷ 0x00000000 ∷ 0x00000000 ∷ [])

abbrev pub full_of : List ℕ → List ℕ
full_of options = words (0x1E000080 ∷ 0x00000007 ∷ 0x00000005 ∷ 0x00000060 ∷ 0x00000064 ∷ 0x00000000 ∷ []) ++ (options ++ words (0x00000001 ∷ 0x00100000 ∷ 0x00000000 ∷ 0x00000000 ∷ []))

-- A first and a last fragment without payload, flag bit 7 open.
abbrev pub empty_with : ℕ → List ℕ
empty_with seven = words
    ((0x12000010 + seven) ∷ 0x00000007 ∷ 0x00000005 ∷ 0x00000020 ∷ 0x00000064 ∷ 0x00000000 ∷ 0x86060000 ∷ 0x00000000
    ∷ (0x12000030 + seven) ∷ 0x00000007 ∷ 0x00000006 ∷ 0x00000020 ∷ 0x00000064 ∷ 0x00000000 ∷ 0x86060000 ∷ 0x00000000 ∷ [])

abbrev pub wrote : ℕ → ℕ → CutAnswer
wrote n k = record { number = 0; place = 0; bytes = n; fragments = k }

abbrev pub uncut : ℕ → ℕ → CutAnswer
uncut n p = record { number = n; place = p; bytes = 0; fragments = 0 }

abbrev pub used : ℕ → Written
used n = record { number = 0; place = 0; bytes = n }

pub record WorkedCuts : Type 0 where
  pub three : cutter 12 dirty (replicate 140 9) ≡ (wrote 132 3, around second ++ replicate 8 9)
  pub fits : cutter 32 dirty (replicate 64 9) ≡ (wrote 64 1, cleaned)
  pub behind : cutter 32 (dirty ++ dirty) (replicate 64 9) ≡ (wrote 64 1, cleaned)
  pub room : cutter 12 dirty (replicate 131 9) ≡ (uncut ROOM 132, replicate 131 9)
  pub no_words : (b : List ℕ) → cutter 10 dirty b ≡ (uncut LENGTH 0, b)
  pub no_bytes : (b : List ℕ) → cutter 0 dirty b ≡ (uncut LENGTH 0, b)
  pub offset : (b : List ℕ) → cutter 16 with_offset b ≡ (uncut OPTION 25, b)
  pub size-first : (b : List ℕ) → cutter 2 with_offset b ≡ (uncut LENGTH 0, b)
  pub no_place : (b : List ℕ) → cutter 12 (full_of (replicate 55 1 ++ (0 ∷ []))) b ≡ (uncut OPTION 24, b)
  pub last-place : cutter 12 (full_of (replicate 54 1 ++ (0 ∷ 0 ∷ []))) [] ≡ (uncut ROOM 132, [])
  pub nothing : (b : List ℕ) → cutter 12 [] b ≡ (uncut SHORT 0, b)
  pub large : (s b : List ℕ) → most_bytes < length s → cutter 12 s b ≡ (uncut LARGE most_bytes, b)

pub record WorkedJoins : Type 0 where
  pub three : joiner (around second) (replicate 70 9) ≡ (used 64, cleaned ++ replicate 6 9)
  pub one : joiner dirty (replicate 64 9) ≡ (used 64, cleaned)
  pub empty : joiner (empty_with 0) (replicate 24 9) ≡ (used 24, words (0x10000000 ∷ 0x00000007 ∷ 0x00000005 ∷ 0x00000018 ∷ 0x00000064 ∷ 0x00000000 ∷ []))
  pub room : joiner (around second) (replicate 63 9) ≡ (unwritten ROOM 64, replicate 63 9)
  pub no_first : (b : List ℕ) → joiner (second ++ third) b ≡ (unwritten GAP 0, b)
  pub no_middle : (b : List ℕ) → joiner (first ++ third) b ≡ (unwritten GAP 48, b)
  pub no_last : (b : List ℕ) → joiner (first ++ second) b ≡ (unwritten GAP 92, b)
  pub twice : (b : List ℕ) → joiner (first ++ around second) b ≡ (unwritten GAP 48, b)
  pub swapped : (b : List ℕ) → joiner (first ++ (third ++ second)) b ≡ (unwritten GAP 48, b)
  pub another_id : (b : List ℕ) → joiner (around (second_with 0x120000EF 0x00000008 0x00000000 0x00000064 0x86060000 0x000C0000)) b ≡ (unwritten GAP 48, b)
  pub another_time : (b : List ℕ) → joiner (around (second_with 0x120000EF 0x00000007 0x00000000 0x00000065 0x86060000 0x000C0000)) b ≡ (unwritten GAP 48, b)
  pub another_flag : (b : List ℕ) → joiner (around (second_with 0x120000EE 0x00000007 0x00000000 0x00000064 0x86060000 0x000C0000)) b ≡ (unwritten GAP 48, b)
  pub another_number : (b : List ℕ) → joiner (around (second_with 0x120000EF 0x00000007 0x00000001 0x00000064 0x86060000 0x000C0000)) b ≡ (unwritten GAP 48, b)
  pub another_offset : (b : List ℕ) → joiner (around (second_with 0x120000EF 0x00000007 0x00000000 0x00000064 0x86060000 0x00030000)) b ≡ (unwritten GAP 48, b)
  pub no_offset : (b : List ℕ) → joiner (around (second_with 0x120000EF 0x00000007 0x00000000 0x00000064 0x85060000 0x000C0000)) b ≡ (unwritten GAP 48, b)
  pub reserved : joiner (around (second_with 0x12A05BEF 0x00000007 0x00000000 0x00000064 0x86060000 0x000C00FF)) (replicate 64 9) ≡ (used 64, cleaned)
  pub behind : (b : List ℕ) → joiner (around second ++ dirty) b ≡ (unwritten GAP 132, b)
  pub nothing : (b : List ℕ) → joiner [] b ≡ (unwritten GAP 0, b)
  pub gap-first : (b : List ℕ) → joiner (first ++ (third ++ (0 ∷ []))) b ≡ (unwritten GAP 48, b)
  pub short-first : (b : List ℕ) → joiner (first ++ (second ++ (0 ∷ []))) b ≡ (unwritten SHORT 92, b)
  pub standard : (b : List ℕ) → joiner (empty_with 0x80) b ≡ (unwritten STANDARD 0, b)
  pub bad_package : (b : List ℕ) → joiner (first_with 0x00028606 0x000B0000 ++ (second ++ third)) b ≡ (unwritten PACKAGE 0, b)
  pub count : (b : List ℕ) → joiner (first_with 0x00038606 0x000D0000 ++ (second ++ third)) b ≡ (unwritten COUNT 0, b)
  pub large : (s b : List ℕ) → most_bytes < length s → joiner s b ≡ (unwritten LARGE most_bytes, b)
