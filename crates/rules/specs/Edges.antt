-- The rules at their edges, on both sides and with their places: numbers to check by of our own, beside P1 to P12, typed from the sentences of document 01
-- and of document 02, A2, A4 and A8.
use Rattle.std.specs.Prelude.{ℕ, ◌+◌, ◌*◌, ◌/◌, ◌%◌, ◌^◌, ◌≡◌, true, List, [], ◌∷◌, ◌++◌, map, eqb, length, take, drop, set, replicate}
use Rattle.rules.specs.Outcome.{Outcome, good, bad, ◌>>=◌, SHORT, VERSION, TYPE, LENGTH, CUT, TIME, OPTION, FRAGMENT, STANDARD, PACKAGE, ROW, LARGE, ROOM, MARKER, BLOCKS, COUNT}
use Rattle.rules.specs.Bytes.{join}
use Rattle.rules.specs.Items.{passing}
use Rattle.rules.specs.Message.{Message, recording}
use Rattle.rules.specs.Reading.{header, option_start, message_at}
use Rattle.rules.specs.Walk.{package_at, start_at, next_at, data_at}
use Rattle.rules.specs.Writer.{Draft, written, writer}
use Rattle.rules.specs.Clean.{clean_form, cleaner}
use Rattle.rules.specs.Sheet.{Row, sheet, sheet_rows, shown_rows}
use Rattle.rules.specs.Copy.{released_of, copy, delivered}
use Rattle.rules.specs.Burst.{marker, opening, randomizer}
use Rattle.rules.specs.Table.{words, M, options_with, R}

-- ---- What is tried, and how it is told.

-- f gives, for each of these, what stands beside it
abbrev pub Gives : {A B : Type 0} → (A → B) → List (A × B) → Type 0
Gives f cases = map (λ c. f c.0) cases ≡ map (λ c. c.1) cases

-- a reading's number and place, both 0 where it passes
abbrev pub told : {A : Type 0} → Outcome A → ℕ × ℕ
told (good a) = (0, 0)
told (bad n p) = (n, p)

-- s with other bytes at these places; of two changes of one place the first counts
abbrev pub changed : List ℕ → List (ℕ × ℕ) → List ℕ
changed s [] = s
changed s (c ∷ cs) = set (changed s cs) c.0 c.1

-- a message with these flags, option bytes and payload; and how long its option run is
abbrev pub message_of : ℕ → List ℕ → List ℕ → List ℕ
message_of flags options payload = words ((0x10000000 + length options / 4 * 0x1000000 + flags) ∷ 7 ∷ 5 ∷ (24 + length options + length payload) ∷ 100 ∷ 0 ∷ []) ++ (options ++ payload)

abbrev pub run_of : List ℕ → Outcome ℕ
run_of options = header (message_of 0 options []) >>= λ r. good r.1

-- M with these option words
abbrev pub options_of : List ℕ → List ℕ
options_of ws = message_of 0x80 (words ws) (drop 24 M)

-- a draft with all flags set, and these nanoseconds, option run and packages
abbrev pub draft : ℕ → List ℕ → List ℕ → Draft
draft nanos options packages = record { flags = 0xFF; id = 7; sequence = 5; seconds = 100; nanos = nanos; options = options; packages = packages }

-- a row's bytes: message ids, package ids, start and end, each in seconds and nanoseconds, and spare bits
abbrev pub packed : ℕ → ℕ → ℕ → ℕ → ℕ → ℕ → ℕ → ℕ → ℕ → List ℕ
packed a b c d s n e m spare = words (a ∷ b ∷ c ∷ d ∷ s ∷ (n * 4 + e / 2 ^ 30) ∷ (e % 2 ^ 30 * 4 + m / 2 ^ 28) ∷ (m % 2 ^ 28 * 16 + spare) ∷ [])

-- every reading of an input
abbrev pub readings : List ℕ → List (ℕ × ℕ)
readings s =
    told (package_at s 0) ∷ told (recording s) ∷ told (header s) ∷ told (message_at s 0) ∷ told (released_of s R) ∷ told (opening s)
    ∷ ((cleaner s []).0.number, (cleaner s []).0.place) ∷ ((randomizer s).0.number, (randomizer s).0.place) ∷ []

-- M with an option word, which is refused as PACKAGE, and all but the first n of the changes that break checks 2 to 9, one each
abbrev pub broken : ℕ → List ℕ
broken n = changed (changed M ((0, 0x11) ∷ [])) (drop n ((0, 0x21) ∷ (1, 0x01) ∷ (15, 0x3A) ∷ (15, 0x3C) ∷ (20, 0x3C) ∷ (24, 0x80) ∷ (3, 0x10) ∷ (3, 0x00) ∷ []))

pub record Edges : Type 0 where
  -- ---- The message: every field of a header, reserved bits ignored.
  pub header_fields : header (words (0x10F0FF4F ∷ 0x01020304 ∷ 0x05060708 ∷ 0x00000018 ∷ 0x090A0B0C ∷ 0x0D0E0F10 ∷ [])) ≡ good
      (record { version = 1; words = 0; kind = 0; flags = 0x4F; id = 0x01020304; sequence = 0x05060708; size = 24; seconds = 0x090A0B0C; nanos = 0x0D0E0F10 }, 0)
  -- ---- Options: which of the lengths at an edge an option of each kind may have.
  pub lengths : Gives (λ (kinds : List ℕ). map (λ k. passing (λ n. eqb (told (run_of (k ∷ n ∷ replicate 58 0))).0 0) (0 ∷ 1 ∷ 2 ∷ 3 ∷ 5 ∷ 6 ∷ 7 ∷ 17 ∷ 18 ∷ 19 ∷ 32 ∷ 33 ∷ 60 ∷ 61 ∷ 255 ∷ [])) kinds) (
      (0x80 ∷ 0x81 ∷ 0x88 ∷ 0xFF ∷ [], replicate 4 (2 ∷ 3 ∷ 5 ∷ 6 ∷ 7 ∷ 17 ∷ 18 ∷ 19 ∷ 32 ∷ 33 ∷ 60 ∷ [])) ∷ (0x82 ∷ 0x83 ∷ 0x84 ∷ [], replicate 3 (3 ∷ 5 ∷ 6 ∷ 7 ∷ 17 ∷ 18 ∷ 19 ∷ 32 ∷ []))
      ∷ (0x85 ∷ [], (6 ∷ 18 ∷ []) ∷ []) ∷ (0x86 ∷ 0x87 ∷ [], replicate 2 (6 ∷ [])) ∷ [])
  -- where the option run begins, and a refused one; one-byte kinds; a kind at the last byte; options that end with the option bytes and behind them; what follows 0x00; a zero in data; the second option's place;
  -- 0x86 and 0x87, one each; a second one of either, of another kind, behind others; behind 0x00, in data, and behind a bad option
  pub starts : Gives option_start ((options_with 0x87060000, 24) ∷ (options_with 0x87050000, 0) ∷ [])
  pub runs : Gives (λ (ws : List ℕ). run_of (words ws)) (
      (0x017F017F ∷ [], good 4) ∷ (0x01010180 ∷ [], bad OPTION 27) ∷ (0x80040000 ∷ [], good 4) ∷ (0x80050000 ∷ [], bad OPTION 24) ∷ (0x01800400 ∷ [], bad OPTION 25) ∷ (0x010080FF ∷ [], good 1) ∷ (0x80030001 ∷ [], good 4) ∷ (0x80028202 ∷ [], bad OPTION 26)
      ∷ (0x87060000 ∷ 0x00008606 ∷ 0 ∷ [], good 12) ∷ (0x86060000 ∷ 0x00008606 ∷ 0 ∷ [], bad OPTION 30) ∷ (0x87060000 ∷ 0x00008706 ∷ 0 ∷ [], bad OPTION 30) ∷ (0x85060000 ∷ 0x00008506 ∷ 0 ∷ [], good 12) ∷ (0x88060000 ∷ 0x00008806 ∷ 0 ∷ [], good 12)
      ∷ (0x01870600 ∷ 0x00000086 ∷ 0x06000000 ∷ 0x00870600 ∷ 0 ∷ [], bad OPTION 37) ∷ (0x87060000 ∷ 0x00000087 ∷ 0x06000000 ∷ [], good 6) ∷ (0x87060000 ∷ 0x00008006 ∷ 0x87060000 ∷ [], good 12) ∷ (0x87060000 ∷ 0x00008202 ∷ 0x87060000 ∷ 0 ∷ [], bad OPTION 30) ∷ [])
  -- ---- Packages: every field of one; L and the bytes left; a walk over M's payload, at packages, at other places, at the end and behind it: number and place,
  -- where the data begin, where the walk then stands, and the data.
  pub package_fields : (recording (message_of 0x80 [] (words (0x01020304 ∷ 0x000E7788 ∷ 0x090A0B0C ∷ 0xAABBCCDD ∷ []))) >>= λ ms. good (map (λ (m : Message). m.packages) ms)) ≡
      good ((record { id = 0x01020304; status = 0x88; delta = 0x090A0B0C; content = 0xAA ∷ 0xBB ∷ [] } ∷ []) ∷ [])
  pub sizes : Gives (λ (ws : List ℕ). told (recording (message_of 0x80 [] (words ws)))) (
      (1 ∷ 0x000B0000 ∷ 0 ∷ [], (PACKAGE, 24)) ∷ (1 ∷ 0x000C0000 ∷ 0 ∷ [], (0, 0)) ∷ (1 ∷ 0x000D0000 ∷ 0 ∷ [], (PACKAGE, 24)) ∷ (1 ∷ 0x000C0000 ∷ [], (PACKAGE, 24)) ∷ (1 ∷ 0x000C0000 ∷ 0 ∷ 2 ∷ [], (PACKAGE, 36))
      ∷ (1 ∷ 0x000D0000 ∷ 0 ∷ 2 ∷ [], (0, 0)) ∷ (1 ∷ 0x00100000 ∷ 0 ∷ 2 ∷ [], (0, 0)) ∷ (1 ∷ 0x00110000 ∷ 0 ∷ 2 ∷ [], (PACKAGE, 24)) ∷ (1 ∷ 0x010D0000 ∷ 0 ∷ 2 ∷ [], (PACKAGE, 24)) ∷ [])
  pub steps : Gives {B = (ℕ × ℕ) × ℕ × ℕ × List ℕ} (λ (k : ℕ). (told (package_at (drop 24 M) k), start_at (drop 24 M) k, next_at (drop 24 M) k, data_at (drop 24 M) k)) (
      (0, ((0, 0), 12, 16, 0xAA ∷ [])) ∷ (4, ((PACKAGE, 4), 0, 4, [])) ∷ (16, ((0, 0), 28, 32, 0xDE ∷ 0xAD ∷ 0xBE ∷ 0xEF ∷ [])) ∷ (24, ((PACKAGE, 24), 0, 24, [])) ∷ (32, ((0, 0), 0, 32, [])) ∷ (33, ((0, 0), 0, 33, [])) ∷ [])
  -- ---- Writing and cleaning: flags, the fewest option words, reserved byte and padding; the same message, cleaned.
  pub bytes : Gives written (
      (draft 0 (0x01 ∷ []) (words (1 ∷ 0x000D7788 ∷ 9 ∷ 0xAABBCCDD ∷ [])), good (words (0x110000CF ∷ 7 ∷ 5 ∷ 0x2C ∷ 100 ∷ 0 ∷ 0x01000000 ∷ 1 ∷ 0x000D0088 ∷ 9 ∷ 0xAA000000 ∷ [])))
      ∷ (draft 0 [] [], good (words (0x1000004F ∷ 7 ∷ 5 ∷ 0x18 ∷ 100 ∷ 0 ∷ []))) ∷ [])
  pub clean : clean_form (words (0x12F0FFCF ∷ 7 ∷ 5 ∷ 0x30 ∷ 100 ∷ 0 ∷ 0x0100FFFF ∷ 0xFFFFFFFF ∷ 1 ∷ 0x000D7788 ∷ 9 ∷ 0xAABBCCDD ∷ 0xFFFFFFFF ∷ [])) ≡
      good (words (0x110000CF ∷ 7 ∷ 5 ∷ 0x2C ∷ 100 ∷ 0 ∷ 0x01000000 ∷ 1 ∷ 0x000D0088 ∷ 9 ∷ 0xAA000000 ∷ []))
  -- ---- The order sheet: every field of a row; R, ids, times, nanoseconds, the bit for acquired data only and the spare bits; sizes, and a second row, also of zeros; what is shown,
  -- the rows' last message ids and how many rows are the sheet's own.
  pub row_fields : sheet (packed 1 2 3 4 5 0x30000006 0xF0000007 0x30000008 1) ≡ good
      (record { first_message = 1; last_message = 2; first_package = 3; last_package = 4; start_seconds = 5; start_nanos = 0x30000006; end_seconds = 0xF0000007; end_nanos = 0x30000008; spare = 0; acquired_only = true } ∷ [])
  pub sheets : Gives (λ (s : List ℕ). told (sheet s)) (
      (R, (0, 0)) ∷ (packed 8 7 1 1 100 0 101 0 0, (ROW, 0)) ∷ (packed 7 7 2 1 100 0 101 0 0, (ROW, 0)) ∷ (packed 7 7 1 1 100 5 100 5 0, (ROW, 0)) ∷ (packed 7 7 1 1 100 5 100 6 0, (0, 0))
      ∷ (packed 7 7 1 1 101 0 100 999999999 0, (ROW, 0)) ∷ (packed 7 7 1 1 100 999999999 101 0 0, (0, 0)) ∷ (packed 7 7 1 1 100 1000000000 102 0 0, (ROW, 0)) ∷ (packed 7 7 1 1 100 0 101 999999999 0, (0, 0)) ∷ (packed 7 7 1 1 100 0 101 1000000000 0, (ROW, 0))
      ∷ (packed 7 7 1 1 100 0 101 0 1, (0, 0)) ∷ (packed 7 7 1 1 100 0 101 0 2, (ROW, 0)) ∷ (packed 7 7 1 1 100 0 101 0 4, (ROW, 0)) ∷ (packed 7 7 1 1 100 0 101 0 8, (ROW, 0))
      ∷ ([], (0, 0)) ∷ (take 31 R, (ROW, 31)) ∷ (join (replicate 32 R), (0, 0)) ∷ (join (replicate 33 R), (ROW, 1056)) ∷ (R ++ packed 8 7 1 1 100 0 101 0 0, (ROW, 32)) ∷ (R ++ replicate 32 0, (ROW, 32)) ∷ (packed 8 7 1 1 100 0 101 0 0 ++ take 1 R, (ROW, 33)) ∷ [])
  pub shown : Gives {B = List ℕ × ℕ} (λ (s : List ℕ). (map (λ (r : Row). r.last_message) (shown_rows (sheet_rows s)).0, (shown_rows (sheet_rows s)).1)) ((R, (7 ∷ replicate 31 0, 1)) ∷ (take 31 R, (replicate 32 0, 0)) ∷ [])
  -- how many of M's packages a row grants: the start of its window and not the end, both ends of its ranges of ids
  pub granted : Gives (λ (s : List ℕ). (copy M s (replicate 56 0)).0.packages) (
      (packed 7 7 2 2 100 0 100 10 0, 0) ∷ (packed 7 7 2 2 100 0 100 11 0, 1) ∷ (packed 7 7 2 2 100 10 100 11 0, 1) ∷ (packed 7 7 2 2 100 11 101 0 0, 0)
      ∷ (packed 6 7 1 2 100 0 101 0 0, 2) ∷ (packed 7 8 0 1 100 0 101 0 0, 1) ∷ (packed 8 8 1 2 100 0 101 0 0, 0) ∷ (packed 6 6 1 2 100 0 101 0 0, 0) ∷ (packed 7 7 3 3 100 0 101 0 0, 0) ∷ (packed 7 7 0 0 100 0 101 0 0, 0) ∷ [])
  -- where bit 3 is 0 and all other bits are 1, and where bit 3 is 1 and the others are 0: R, R for acquired data only, both in either order, and R beside such a row for package 2
  pub acquired : Gives (λ (s : List ℕ). map (λ flags. (copy (changed M ((3, flags) ∷ [])) s (replicate 56 0)).0.packages) (0xC7 ∷ 0x88 ∷ [])) (
      (R, 1 ∷ 1 ∷ []) ∷ (packed 7 7 1 1 100 0 101 0 1, 1 ∷ 0 ∷ []) ∷ (R ++ packed 7 7 1 1 100 0 101 0 1, 1 ∷ 1 ∷ []) ∷ (packed 7 7 1 1 100 0 101 0 1 ++ R, 1 ∷ 1 ∷ []) ∷ (R ++ packed 7 7 2 2 100 0 101 0 1, 2 ∷ 1 ∷ []) ∷ [])
  -- ---- The copy: bits 3, 2 and 1 as listed, bit 0 zero.
  pub flags : take 4 (delivered (copy (changed M ((3, 0x8F) ∷ [])) R (replicate 40 0))) ≡ 0x10 ∷ 0x00 ∷ 0x00 ∷ 0xCE ∷ []
  -- ---- Bursts: the marker, each of its bytes, and codeblocks.
  pub marked : marker ≡ words (0x034776C7 ∷ 0x272895B0 ∷ [])
  pub markers : map (λ k. told (opening (changed marker ((k, 0xFF) ∷ [])))) (0 ∷ 1 ∷ 2 ∷ 3 ∷ 4 ∷ 5 ∷ 6 ∷ 7 ∷ []) ≡ replicate 8 (MARKER, 0)
  pub blocks : Gives (λ (n : ℕ). told (opening (marker ++ replicate n 0))) ((0, (BLOCKS, 8)) ∷ (767, (BLOCKS, 775)) ∷ (768, (0, 0)) ∷ (769, (BLOCKS, 777)) ∷ (1536, (0, 0)) ∷ [])
  pub most : (s : List ℕ) → (length s ≡ 61440 → told (opening (marker ++ s)) ≡ (0, 0)) × (length s ≡ 62208 → told (opening (marker ++ s)) ≡ (BLOCKS, 62216))
  -- ---- Refusal numbers: the numbers; one byte of M changed.
  pub numbers : SHORT ∷ VERSION ∷ TYPE ∷ LENGTH ∷ CUT ∷ TIME ∷ OPTION ∷ FRAGMENT ∷ STANDARD ∷ PACKAGE ∷ ROW ∷ LARGE ∷ ROOM ∷ MARKER ∷ BLOCKS ∷ COUNT ∷ [] ≡ 1 ∷ 2 ∷ 3 ∷ 4 ∷ 5 ∷ 6 ∷ 7 ∷ 8 ∷ 9 ∷ 10 ∷ 11 ∷ 12 ∷ 13 ∷ 14 ∷ 15 ∷ 17 ∷ []
  pub checks : Gives (λ (c : ℕ × ℕ). told (recording (changed M (c ∷ [])))) (
      ((0, 0x00), (VERSION, 0)) ∷ ((1, 0x01), (TYPE, 0)) ∷ ((1, 0x08), (TYPE, 0)) ∷ ((15, 0x14), (LENGTH, 0)) ∷ ((15, 0x35), (LENGTH, 0)) ∷ ((15, 0x36), (LENGTH, 0)) ∷ ((12, 0x01), (CUT, 0)) ∷ ((20, 0x3C), (TIME, 0))
      ∷ ((3, 0x90), (FRAGMENT, 0)) ∷ ((3, 0xA0), (FRAGMENT, 0)) ∷ ((3, 0xB0), (FRAGMENT, 0)) ∷ ((3, 0x00), (STANDARD, 0)) ∷ ((3, 0xCF), (0, 0)) ∷ ((44, 0x01), (PACKAGE, 40)) ∷ [])
  -- bit 7 without payload, also with an option word; 24 bytes, 23, and 23 behind a message; the first bad message counts;
  -- the package count: right, above and below, as another number's bytes, behind 0x00, in data, of kind 0x86; without packages 0 and 1; in a fragment; PACKAGE before it, and it before the next message
  pub messages : Gives (λ (s : List ℕ). told (recording s)) (
      (message_of 0x80 [] [], (STANDARD, 0)) ∷ (message_of 0x80 (words (0 ∷ [])) [], (STANDARD, 0)) ∷ (message_of 0 (words (0 ∷ [])) [], (0, 0)) ∷ (message_of 0 [] [], (0, 0))
      ∷ (take 23 (broken 0), (SHORT, 0)) ∷ (message_of 0 [] [] ++ take 23 M, (SHORT, 24)) ∷ (broken 8 ++ broken 0, (PACKAGE, 28))
      ∷ (options_of (0x87060000 ∷ 0x00020000 ∷ []), (0, 0)) ∷ (options_of (0x87060000 ∷ 0x00030000 ∷ []), (COUNT, 0)) ∷ (options_of (0x87060000 ∷ 0x00010000 ∷ []), (COUNT, 0)) ∷ (options_of (0x87060200 ∷ 0 ∷ []), (COUNT, 0)) ∷ (options_of (0x87060001 ∷ 0x00020000 ∷ []), (COUNT, 0))
      ∷ (options_of (0x00870600 ∷ 0x00000300 ∷ []), (0, 0)) ∷ (options_of (0x80088706 ∷ 0x00000003 ∷ []), (0, 0)) ∷ (options_of (0x86060000 ∷ 0x00030000 ∷ []), (0, 0)) ∷ (message_of 0 (words (0x87060000 ∷ 0 ∷ [])) [], (0, 0)) ∷ (message_of 0 (words (0x87060000 ∷ 0x00010000 ∷ [])) [], (COUNT, 0))
      ∷ (changed (options_of (0x87060000 ∷ 0x00030000 ∷ [])) ((3, 0x90) ∷ []), (FRAGMENT, 0)) ∷ (changed (options_of (0x87060000 ∷ 0x00030000 ∷ [])) ((53, 0x11) ∷ []), (PACKAGE, 48)) ∷ (options_of (0x87060000 ∷ 0x00030000 ∷ []) ++ broken 0, (COUNT, 0)) ∷ (M ++ options_of (0x87060000 ∷ 0x00030000 ∷ []), (COUNT, 56)) ∷ [])
  -- checks 2 to 10 in order, in a second message: each broken together with all behind it; a header alone is read with 1 to 7
  pub order : Gives (λ (n : ℕ). told (recording (M ++ broken n))) (
      (0, (VERSION, 56)) ∷ (1, (TYPE, 56)) ∷ (2, (LENGTH, 56)) ∷ (3, (CUT, 56)) ∷ (4, (TIME, 56)) ∷ (5, (OPTION, 80)) ∷ (6, (FRAGMENT, 56)) ∷ (7, (STANDARD, 56)) ∷ (8, (PACKAGE, 84)) ∷ [])
  pub header_alone : Gives (λ (n : ℕ). told (header (broken n))) ((5, (OPTION, 24)) ∷ (6, (0, 0)) ∷ [])
  -- P7's message, of two packages, in every reading: a header alone does not count, and COUNT is found before ROOM
  pub counted : readings (options_with 0x87060000) ≡ (PACKAGE, 0) ∷ (COUNT, 0) ∷ (0, 0) ∷ (COUNT, 0) ∷ (COUNT, 0) ∷ (MARKER, 0) ∷ (COUNT, 0) ∷ (0, 0) ∷ []
  -- 65,536 bytes and one more, for every reading; ROW is found before LARGE
  pub fits : (s : List ℕ) → length s ≡ 65524 → readings (replicate 12 0 ++ s) ≡ (PACKAGE, 0) ∷ (VERSION, 0) ∷ (VERSION, 0) ∷ (VERSION, 0) ∷ (VERSION, 0) ∷ (MARKER, 0) ∷ (VERSION, 0) ∷ (0, 0) ∷ []
  pub large : (s : List ℕ) → length s ≡ 65525 → readings (replicate 12 0 ++ s) ≡ replicate 8 (LARGE, 65536)
  pub sheet_first : (s : List ℕ) → released_of s (take 31 R) ≡ bad ROW 31
  -- the writer: 60 bytes of options and 61, TIME before that, kind 0x00, a bad option before a bad package, a zero in data, a package without its padding; 65,536 bytes and one more
  pub drafts : Gives (λ (d : Draft). told (written d)) (
      (draft 999999999 (replicate 60 0x01) [], (0, 0)) ∷ (draft 1000000000 (replicate 61 0x01) [], (TIME, 0)) ∷ (draft 0 (0x82 ∷ replicate 60 0x02) (0 ∷ []), (OPTION, 60)) ∷ (draft 0 (0x01 ∷ 0x00 ∷ []) (0 ∷ []), (OPTION, 1))
      ∷ (draft 0 (0x01 ∷ 0x82 ∷ 0x02 ∷ []) (0 ∷ []), (OPTION, 1)) ∷ (draft 0 (0x80 ∷ 0x03 ∷ 0x00 ∷ []) [], (0, 0)) ∷ (draft 0 [] (words (1 ∷ 0x000C0000 ∷ 0 ∷ 2 ∷ [])), (PACKAGE, 12)) ∷ (draft 0 [] (words (1 ∷ 0x000D0000 ∷ 0 ∷ []) ++ (0xAA ∷ [])), (PACKAGE, 0)) ∷ [])
  -- the writer without room: the count right, wrong, and 0x87 twice; a bad package before it
  pub drafts_counted : Gives {B = ℕ × ℕ} (λ (d : Draft). ((writer d []).0.number, (writer d []).0.place)) (
      (draft 0 (0x87 ∷ 6 ∷ 0 ∷ 0 ∷ 0 ∷ 2 ∷ []) (drop 24 M), (ROOM, 64)) ∷ (draft 0 (0x87 ∷ 6 ∷ 0 ∷ 0 ∷ 0 ∷ 1 ∷ []) (drop 24 M), (COUNT, 0)) ∷ (draft 0 (0x87 ∷ 6 ∷ 0 ∷ 0 ∷ 0 ∷ 0 ∷ []) [], (ROOM, 32)) ∷ (draft 0 (0x87 ∷ 6 ∷ 0 ∷ 0 ∷ 0 ∷ 1 ∷ []) [], (COUNT, 0))
      ∷ (draft 0 (0x87 ∷ 6 ∷ 0 ∷ 0 ∷ 0 ∷ 2 ∷ 0x87 ∷ 6 ∷ 0 ∷ 0 ∷ 0 ∷ 2 ∷ []) (drop 24 M), (OPTION, 6)) ∷ (draft 0 (0x87 ∷ 6 ∷ 0 ∷ 0 ∷ 0 ∷ 1 ∷ []) (take 20 (drop 24 M)), (PACKAGE, 16)) ∷ [])
  pub drafts_large : (o q : List ℕ) → length o ≡ 1 → (length q ≡ 65508 → told (written (draft 1000000000 o q)) ≡ (TIME, 0)) × (length q ≡ 65509 → told (written (draft 1000000000 o q)) ≡ (LARGE, 65536))
