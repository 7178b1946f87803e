-- Lines, ranges and their answers at the edges of document 02, A1, on both sides and with the places of refusals: typed by hand from its sentences.
use Rattle.std.specs.Prelude.{ℕ, zero, suc, ◌≡◌, List, [], ◌∷◌, ◌++◌, length, replicate}
use Prim.Native.Char.{code}
use Prim.Native.String.{String, len, char_at}
use Rattle.rules.specs.Outcome.{good, LARGE, ROOM}
use Rattle.rules.specs.Bytes.{join}
use Rattle.rules.specs.Edges.{Gives, told}
use Rattle.refusal.specs.Numbers.{TEXT}
use Rattle.ids.specs.Reader.{Range, id_ranges, read_ids, shown_ranges}
use Rattle.ids.specs.Writer.{line_of, write_ids}

-- the bytes of a text, k of them from place i on
abbrev pub bytes_from : ℕ → ℕ → String → List ℕ
bytes_from zero i t = []
bytes_from (suc k) i t = code (char_at t i) ∷ bytes_from k (suc i) t

abbrev pub bytes : String → List ℕ
bytes t = bytes_from (len t) 0 t

-- an inclusive range
abbrev pub range : ℕ → ℕ → Range
range a b = record { first = a; last = b }

-- a text n times over, and another behind it
abbrev pub repeated : ℕ → String → String → List ℕ
repeated n s t = join (replicate n (bytes s)) ++ bytes t

pub record Worked : Type 0 where
  pub number : TEXT ≡ 16
  -- ---- Reading: one id, a range, a list; the least and the largest id; leading zeros, ten digits, equal ends.
  pub read : Gives (λ (t : String). id_ranges (bytes t)) (
      ("7", good (range 7 7 ∷ [])) ∷ ("7-9", good (range 7 9 ∷ [])) ∷ ("7-9,12", good (range 7 9 ∷ range 12 12 ∷ [])) ∷ ("12,7-9,7", good (range 12 12 ∷ range 7 9 ∷ range 7 7 ∷ []))
      ∷ ("0", good (range 0 0 ∷ [])) ∷ ("0-4294967295", good (range 0 4294967295 ∷ [])) ∷ ("007", good (range 7 7 ∷ [])) ∷ ("0000000007-0000000010", good (range 7 10 ∷ [])) ∷ ("7-7", good (range 7 7 ∷ [])) ∷ [])
  -- the byte that breaks the form: no item, an odd byte before, between and behind ids, the eleventh digit; and a line that stops too soon
  pub broken : Gives (λ (t : String). told (id_ranges (bytes t))) (
      (",7", (TEXT, 0)) ∷ ("-7", (TEXT, 0)) ∷ (" 7", (TEXT, 0)) ∷ ("+7", (TEXT, 0)) ∷ ("7 ", (TEXT, 1)) ∷ ("7\n", (TEXT, 1)) ∷ ("7/8", (TEXT, 1)) ∷ ("7:8", (TEXT, 1)) ∷ ("7,,8", (TEXT, 2)) ∷ ("7, 8", (TEXT, 2)) ∷ ("7,-8", (TEXT, 2)) ∷ ("7--8", (TEXT, 2)) ∷ ("7-,8", (TEXT, 2)) ∷ ("7-8-9", (TEXT, 3))
      ∷ ("12345678901", (TEXT, 10)) ∷ ("00000000007", (TEXT, 10)) ∷ ("7-12345678901", (TEXT, 12)) ∷ ("", (TEXT, 0)) ∷ ("7,", (TEXT, 2)) ∷ ("7-", (TEXT, 2)) ∷ ("7-9,12-", (TEXT, 7)) ∷ [])
  -- the first digit of the first item with a fault, whichever of its ids it is; and a broken form behind it, which comes first
  pub faulty : Gives (λ (t : String). told (id_ranges (bytes t))) (
      ("4294967296", (TEXT, 0)) ∷ ("9999999999", (TEXT, 0)) ∷ ("5,4294967296", (TEXT, 2)) ∷ ("5,3-4294967296", (TEXT, 2)) ∷ ("5,4294967296-3", (TEXT, 2)) ∷ ("5,10-9", (TEXT, 2)) ∷ ("8-7,4294967296", (TEXT, 0)) ∷ ("8-7,", (TEXT, 4)) ∷ ("4294967296,7-9x", (TEXT, 14)) ∷ [])
  -- 32 items and 33, the last of them good and inverted; an inverted one before; a form broken behind the 33rd
  pub items : Gives (λ (s : List ℕ). told (id_ranges s)) (
      (repeated 31 "7," "7", (0, 0)) ∷ (repeated 32 "7," "7", (TEXT, 64)) ∷ (repeated 32 "7," "8-7", (TEXT, 64)) ∷ (repeated 31 "7," "8-7,7", (TEXT, 62)) ∷ (repeated 32 "7," "7,", (TEXT, 66)) ∷ (repeated 40 "7," "7,,", (TEXT, 82)) ∷ [])
  pub large : (s : List ℕ) → length s ≡ 65537 → told (id_ranges s) ≡ (LARGE, 65536)
  -- what is handed out: the ranges and their number; zeros for a refused line
  pub shown : read_ids (bytes "7-9,12") ≡ good (range 7 9 ∷ range 12 12 ∷ replicate 30 (range 0 0), 2)
  pub refused : shown_ranges (read_ids (bytes "7-9,")) ≡ (replicate 32 (range 0 0), 0)
  -- ---- Writing: no leading zeros, a single id where both ends agree, the longest line's item.
  pub written : Gives line_of (
      (range 7 9 ∷ range 12 12 ∷ [], good (bytes "7-9,12")) ∷ (range 0 0 ∷ range 0 10 ∷ range 99 100 ∷ [], good (bytes "0,0-10,99-100")) ∷ (range 4294967294 4294967295 ∷ [], good (bytes "4294967294-4294967295")) ∷ (range 1000000000 1000000000 ∷ [], good (bytes "1000000000")) ∷ [])
  -- no range; the first inverted one by its index; 32 ranges and 33, the last good and inverted; an inverted one before the 33rd
  pub unwritten : Gives (λ (rs : List Range). told (line_of rs)) (
      ([], (TEXT, 0)) ∷ (range 1 0 ∷ [], (TEXT, 0)) ∷ (range 1 1 ∷ range 3 2 ∷ range 1 0 ∷ [], (TEXT, 1)) ∷ (replicate 32 (range 1 1), (0, 0)) ∷ (replicate 33 (range 1 1), (TEXT, 32)) ∷ (replicate 31 (range 1 1) ++ range 1 0 ∷ range 1 1 ∷ [], (TEXT, 31)) ∷ (replicate 32 (range 1 1) ++ range 1 0 ∷ range 1 0 ∷ [], (TEXT, 32)) ∷ [])
  -- a byte too few; just enough; one more, which stays
  pub rooms : Gives (write_ids (range 7 9 ∷ [])) (
      (0xEE ∷ 0xEE ∷ [], (record { number = ROOM; place = 3; bytes = 0 }, 0xEE ∷ 0xEE ∷ [])) ∷ (0xEE ∷ 0xEE ∷ 0xEE ∷ [], (record { number = 0; place = 0; bytes = 3 }, 0x37 ∷ 0x2D ∷ 0x39 ∷ []))
      ∷ (0xEE ∷ 0xEE ∷ 0xEE ∷ 0xEE ∷ [], (record { number = 0; place = 0; bytes = 3 }, 0x37 ∷ 0x2D ∷ 0x39 ∷ 0xEE ∷ [])) ∷ [])
