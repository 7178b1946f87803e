-- Document 02, A1: writing ranges as a line, with no leading zeros and a single id where both ends agree.
use Rattle.std.specs.Prelude.{ℕ, zero, suc, ◌+◌, ◌/◌, ◌%◌, true, false, ◌||◌, List, [], ◌∷◌, ◌++◌, leb, ltb, eqb}
use Rattle.rules.specs.Outcome.{Outcome, good, bad, refuse, ◌>>◌, ◌>>=◌}
use Rattle.rules.specs.Buffer.{Written, stored, fitted}
use Rattle.refusal.specs.Numbers.{TEXT}
use Rattle.ids.specs.Line.{comma, hyphen, most_digits}
use Rattle.ids.specs.Reader.{Range, most_items}

-- n in decimal, at most k digits of it, with no leading zeros
unfoldable pub spelled : ℕ → ℕ → List ℕ
spelled zero n = []
spelled (suc k) n = elim (ltb n 10) [ true ↦ (0x30 + n) ∷ [] | false ↦ spelled k (n / 10) ++ ((0x30 + n % 10) ∷ []) ]

-- an id has 10 digits at most
abbrev pub id_text : ℕ → List ℕ
id_text n = spelled most_digits n

unfoldable pub item_text : Range → List ℕ
item_text r = elim (eqb r.first r.last) [ true ↦ id_text r.first | false ↦ id_text r.first ++ hyphen ∷ id_text r.last ]

-- the items of a list with commas between
unfoldable pub line_text : List Range → List ℕ
line_text [] = []
line_text (r ∷ []) = item_text r
line_text (r ∷ q ∷ rs) = item_text r ++ comma ∷ line_text (q ∷ rs)

-- no range is inverted, and none is the 33rd; n ranges are before these
unfoldable pub ranges_kept : ℕ → List Range → Outcome (Unit {0})
ranges_kept n [] = good tt
ranges_kept n (r ∷ rs) = do
  refuse (ltb r.last r.first || leb most_items n) TEXT n
  ranges_kept (suc n) rs

-- the line of some ranges
unfoldable pub line_of : List Range → Outcome (List ℕ)
line_of [] = bad TEXT 0
line_of (r ∷ rs) = do
  ranges_kept zero (r ∷ rs)
  good (line_text (r ∷ rs))

-- the answer, and the buffer after it
unfoldable pub write_ids : List Range → List ℕ → Written × List ℕ
write_ids rs buffer = stored buffer (line_of rs >>= fitted buffer)
