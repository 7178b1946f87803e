-- What document 02, A1, asks for, as statements to be read without any proof. proofs/Claims.antt proves each.
use Rattle.std.specs.Prelude.{ℕ, ◌+◌, ◌≤◌, ◌<◌, ◌^◌, ◌≡◌, ◌↔◌, ◌⊎◌, List, [], ◌∷◌, ◌++◌, map, length, take}
use Rattle.rules.specs.Outcome.{good, bad, LARGE}
use Rattle.rules.specs.Bytes.{at}
use Rattle.rules.specs.Items.{All}
use Rattle.rules.specs.Message.{most_bytes}
use Rattle.rules.specs.Claims.{Careful, Writes}
use Rattle.refusal.specs.Numbers.{TEXT}
use Rattle.ids.specs.Line.{hyphen, decimal, IsId, Item, Reads}
use Rattle.ids.specs.Reader.{Range, most_items, id_ranges}
use Rattle.ids.specs.Writer.{id_text, item_text, line_text, line_of, write_ids}

-- ---- Reading

-- Every line has at most one reading.
abbrev pub OneReading : Type 0
OneReading = (s : List ℕ) (is js : List Item) → Reads s is → Reads s js → is ≡ js

-- an item whose ids are below 2^32, the first not above the last; and the range that it says
pub record Fits (i : Item) : Type 0 where
  pub first : i.first < 2 ^ 32
  pub last : i.last < 2 ^ 32
  pub order : i.first ≤ i.last

abbrev pub range_of : Item → Range
range_of i = record { first = i.first; last = i.last }

-- the lines that are read, and into which ranges
pub record Accepted (s : List ℕ) (rs : List Range) : Type 0 where
  pub small : length s ≤ most_bytes
  pub items : List Item
  pub reads : Reads s items
  pub fit : All Fits items
  pub few : length items ≤ most_items
  pub ranges : map range_of items ≡ rs

-- Exactly these lines are read, and exactly into these ranges.
abbrev pub ReadExactly : Type 0
ReadExactly = (s : List ℕ) (rs : List Range) → (id_ranges s ≡ good rs) ↔ Accepted s rs

-- some line of good form begins with s
abbrev pub Begins : List ℕ → Type 0
Begins s = (t : List ℕ) × (is : List Item) × Reads (s ++ t) is

-- p is the first byte of s that breaks the form: what stands before it can be continued to a line, and with the byte it can not. Or p is the end of s, which
-- stops too soon
pub record Breaks (s : List ℕ) (p : ℕ) : Type 0 where
  pub before : Begins (take p s)
  pub inside : p ≤ length s
  pub here : p < length s → Begins (take (p + 1) s) → ⊥
  pub unread : (is : List Item) → Reads s is → ⊥

-- p is the first digit of the first item that has an id too large, is inverted or is the 33rd
pub record Faulty (is : List Item) (p : ℕ) : Type 0 where
  pub before : List Item
  pub item : Item
  pub behind : List Item
  pub split : is ≡ before ++ item ∷ behind
  pub fit : All Fits before
  pub few : length before ≤ most_items
  pub fault : (Fits item → ⊥) ⊎ (length before ≡ most_items)
  pub place : item.place ≡ p

-- why and where a line is refused
pub data Refused (s : List ℕ) : ℕ → ℕ → Type 0 where
  large : most_bytes < length s → Refused s LARGE most_bytes
  form : {p : ℕ} → length s ≤ most_bytes → Breaks s p → Refused s TEXT p
  fault : {p : ℕ} {is : List Item} → length s ≤ most_bytes → Reads s is → Faulty is p → Refused s TEXT p

-- Each refusal is given exactly if its reason holds, at its place.
abbrev pub RefusedExactly : Type 0
RefusedExactly = (s : List ℕ) (n p : ℕ) → (id_ranges s ≡ bad n p) ↔ Refused s n p

-- ---- Writing

-- an id in decimal: it says the id, and its first digit is 0 only where it is the only one
pub record Plain (n : ℕ) (s : List ℕ) : Type 0 where
  pub id : IsId s
  pub says : decimal 0 s ≡ n
  pub short : at s 0 ≡ 0x30 → length s ≡ 1

-- No leading zeros.
abbrev pub NoLeadingZeros : Type 0
NoLeadingZeros = (n : ℕ) → n < 2 ^ 32 → Plain n (id_text n)

-- A range whose ends agree is a single id, any other two with "-" between.
pub record SingleWhereEqual : Type 0 where
  pub single : (r : Range) → r.first ≡ r.last → item_text r ≡ id_text r.first
  pub range : (r : Range) → (r.first ≡ r.last → ⊥) → item_text r ≡ id_text r.first ++ hyphen ∷ id_text r.last

abbrev pub Ordered : Range → Type 0
Ordered r = r.first ≤ r.last

-- the ranges that may be written: 1 to 32, and none inverted
pub record Writable (rs : List Range) : Type 0 where
  pub some : 1 ≤ length rs
  pub few : length rs ≤ most_items
  pub ordered : All Ordered rs

-- Exactly these ranges are written.
abbrev pub WrittenExactly : Type 0
WrittenExactly = (rs : List Range) (s : List ℕ) → (line_of rs ≡ good s) ↔ (Writable rs × (line_text rs ≡ s))

-- p is the index of the first range that is inverted or the 33rd
pub record FirstBad (rs : List Range) (p : ℕ) : Type 0 where
  pub before : List Range
  pub range : Range
  pub behind : List Range
  pub split : rs ≡ before ++ range ∷ behind
  pub ordered : All Ordered before
  pub few : length before ≤ most_items
  pub fault : (Ordered range → ⊥) ⊎ (length before ≡ most_items)
  pub index : length before ≡ p

-- why ranges are not written, and at which index
pub data Unwritten : List Range → ℕ → ℕ → Type 0 where
  none : Unwritten [] TEXT 0
  bad-range : {rs : List Range} {p : ℕ} → FirstBad rs p → Unwritten rs TEXT p

abbrev pub UnwrittenExactly : Type 0
UnwrittenExactly = (rs : List Range) (n p : ℕ) → (line_of rs ≡ bad n p) ↔ Unwritten rs n p

-- With room the line is written; without it the answer is ROOM, with the bytes needed.
abbrev pub WriterWrites : Type 0
WriterWrites = (rs : List Range) (s : List ℕ) → line_of rs ≡ good s → Writes s (write_ids rs)

-- A refusal leaves the buffer, and bytes behind the line stay.
abbrev pub BufferKept : Type 0
BufferKept = (rs : List Range) (buffer : List ℕ) → Careful (write_ids rs buffer).0.number (write_ids rs buffer).0.bytes buffer (write_ids rs buffer).1

-- ---- Reading and writing

-- whatever a caller can hand over: ids of 32 bits
pub record RangeFits (r : Range) : Type 0 where
  pub first : r.first < 2 ^ 32
  pub last : r.last < 2 ^ 32

-- Reading what was written gives the same ranges.
abbrev pub WrittenRead : Type 0
WrittenRead = (rs : List Range) (s : List ℕ) → All RangeFits rs → line_of rs ≡ good s → id_ranges s ≡ good rs

-- What was read can be written, which gives the line's plain form; reading that gives the same ranges again.
abbrev pub ReadWritten : Type 0
ReadWritten = (s : List ℕ) (rs : List Range) → id_ranges s ≡ good rs → (line_of rs ≡ good (line_text rs)) × (id_ranges (line_text rs) ≡ good rs)

-- The plain form is the shortest: no line that is read into these ranges has fewer bytes.
abbrev pub PlainShortest : Type 0
PlainShortest = (s : List ℕ) (rs : List Range) → id_ranges s ≡ good rs → length (line_text rs) ≤ length s

-- What is written has at most 703 bytes, so that it is never LARGE.
abbrev pub LineShort : Type 0
LineShort = (rs : List Range) (s : List ℕ) → All RangeFits rs → line_of rs ≡ good s → length s ≤ 703
