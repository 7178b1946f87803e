-- Document 02, A1: reading a line of ids into ranges.
use Rattle.std.specs.Prelude.{ℕ, zero, suc, ◌+◌, ◌-◌, ◌^◌, Bool, true, false, not, ◌&&◌, ◌||◌, List, [], ◌∷◌, ◌++◌, leb, ltb, eqb, length, take, drop, replicate}
use Rattle.rules.specs.Outcome.{Outcome, good, bad, refuse, ◌>>◌, ◌>>=◌, ◌∷>◌}
use Rattle.rules.specs.Bytes.{at}
use Rattle.rules.specs.Message.{not_large}
use Rattle.refusal.specs.Numbers.{TEXT}
use Rattle.ids.specs.Line.{comma, hyphen, most_digits, decimal, Item}

-- the most items of a line
abbrev pub most_items : ℕ
most_items = 32

abbrev pub is_digit : ℕ → Bool
is_digit x = leb 0x30 x && leb x 0x39

-- how many digits stand at the start of s, k bytes of it looked at
unfoldable pub digits : ℕ → List ℕ → ℕ
digits zero s = 0
digits (suc k) [] = 0
digits (suc k) (x ∷ s) = elim (is_digit x) [ true ↦ suc (digits k s) | false ↦ 0 ]

-- the id at the start of s, which stands at place p; and how many bytes it has
unfoldable pub id_at : ℕ → List ℕ → Outcome (ℕ × ℕ)
id_at p s = do
  let n = digits most_digits s
  refuse (eqb n 0) TEXT p
  good (decimal 0 (take n s), n)

-- the item at the start of s, whose first id a has m bytes
unfoldable pub item_behind : ℕ → List ℕ → ℕ × ℕ → Outcome (Item × ℕ)
item_behind p s (a, m) = elim (eqb (at s m) hyphen) [
  | true ↦ do
    (b, n) ← id_at (p + m + 1) (drop (m + 1) s)
    good (record { place = p; first = a; last = b }, m + 1 + n)
  | false ↦ good (record { place = p; first = a; last = a }, m)
]

-- the item at the start of s, which stands at place p; and how many bytes it has
unfoldable pub item_at : ℕ → List ℕ → Outcome (Item × ℕ)
item_at p s = id_at p s >>= item_behind p s

-- `list_at k p s`, the items of a list: s stands at place p, and its first k bytes belong to the item before and its comma
unfoldable pub list_at : ℕ → ℕ → List ℕ → Outcome (List Item)
list_at k p [] = bad TEXT p
list_at (suc k) p (x ∷ xs) = list_at k (suc p) xs
list_at zero p (x ∷ xs) = do
  (i, n) ← item_at p (x ∷ xs)
  elim (leb (length (x ∷ xs)) n) [
    | true ↦ good (i ∷ [])
    | false ↦ do
      refuse (not (eqb (at (x ∷ xs) n) comma)) TEXT (p + n)
      i ∷> list_at n (suc p) xs
  ]

-- an inclusive range of ids
pub record Range : Type 0 where
  pub first : ℕ
  pub last : ℕ

-- the range that an item says, below 2^32 and not inverted
unfoldable pub item_fits : Item → Bool
item_fits i = ltb i.first (2 ^ 32) && ltb i.last (2 ^ 32) && leb i.first i.last

-- the ranges of a line's items, with n items before them: each must fit, and none may be the 33rd
unfoldable pub ranges_of : ℕ → List Item → Outcome (List Range)
ranges_of n [] = good []
ranges_of n (i ∷ is) = do
  refuse (not (item_fits i) || leb most_items n) TEXT i.place
  record { first = i.first; last = i.last } ∷> ranges_of (suc n) is

-- the ranges of a line: its form is looked at, to its end, before any number
unfoldable pub id_ranges : List ℕ → Outcome (List Range)
id_ranges s = do
  not_large s
  is ← list_at zero zero s
  ranges_of zero is

-- what reading hands out: as many ranges as a line can have, zero behind the last, and how many of them are the line's
abbrev pub no_range : Range
no_range = record { first = 0; last = 0 }

abbrev pub handed_out : List Range → List Range × ℕ
handed_out rs = (rs ++ replicate (most_items - length rs) no_range, length rs)

unfoldable pub read_ids : List ℕ → Outcome (List Range × ℕ)
read_ids s = do
  rs ← id_ranges s
  good (handed_out rs)

-- and what it shows: zero ranges, none of them the line's, where the line is refused
unfoldable pub shown_ranges : Outcome (List Range × ℕ) → List Range × ℕ
shown_ranges (good x) = x
shown_ranges (bad n p) = (replicate most_items no_range, 0)
