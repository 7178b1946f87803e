-- What is answered between a line's beginning and its end, and before anything is written: the promises of the private functions.
use Rattle.std.specs.Prelude.{Result, ℕ, zero, suc, ◌+◌, ◌-◌, ◌*◌, ◌≤◌, ◌≡◌, Bool, not, List, [], ◌∷◌, ◌++◌, map, eqb, length, drop, set, replicate}
use Rattle.rules.specs.Outcome.{Outcome, good, bad, refuse, ◌>>◌, ◌>>=◌}
use Rattle.refusal.specs.Numbers.{TEXT, outcome_by}
use Rattle.refusal.specs.declared.Refusal.{Refusal}
use Rattle.ids.specs.Line.{comma, Item}
use Rattle.ids.specs.Reader.{Range, most_items, item_fits, list_at, ranges_of, handed_out}
use Rattle.ids.specs.Told.{range_in, ranges_in}
use Rattle.ids.specs.declared.IdRange.{IdRange}
use Rattle.ids.specs.declared.Item as code

-- an item read at place p
abbrev pub told_item : ℕ → Result code.Item Refusal → Outcome (Item × ℕ)
told_item p r = outcome_by (λ (i : code.Item). (record { place = p; first = i.first; last = i.last }, i.size)) r

-- what follows an item, u at place p: nothing, or a comma and a list
unfoldable pub rest_at : ℕ → List ℕ → Outcome (List Item)
rest_at p [] = good []
rest_at p (x ∷ u) = do
  refuse (not (eqb x comma)) TEXT p
  list_at zero (suc p) u

-- the form of what follows an item
unfoldable pub form_of : Outcome (List Item) → Outcome (Unit {0})
form_of (good is) = good tt
form_of (bad n p) = bad n p

-- the ranges `done`, and those of the items that follow
unfoldable pub read_on : List Range → Outcome (List Item) → Outcome (List Range × ℕ)
read_on done o = do
  is ← o
  rs ← ranges_of (length done) is
  good (handed_out (done ++ rs))

-- an item at place p is at fault: what follows it can only break the form
unfoldable pub fault_at : ℕ → Outcome (List Item) → Outcome (List Range × ℕ)
fault_at p o = do
  is ← o
  bad TEXT p

-- whether an item with these ids fits
abbrev pub pair_fits : ℕ → ℕ → Bool
pair_fits a b = item_fits (record { place = 0; first = a; last = b })

-- the 32 ranges that numbers stand for, first and last of each in turn; and such numbers with a range at index n
abbrev pub held_ranges : List ℕ → List Range
held_ranges numbers = map range_in (ranges_in most_items numbers)

abbrev pub with_range : List ℕ → ℕ → ℕ → ℕ → List ℕ
with_range l n a b = set (set l (2 * n) a) (2 * n + 1) b

-- the numbers of 32 ranges, of which n are read; the others are zero
pub record Held (numbers : List ℕ) (n : ℕ) : Type 0 where
  pub few : n ≤ most_items
  pub long : length numbers ≡ 2 * most_items
  pub behind : drop (2 * n) numbers ≡ replicate (2 * (most_items - n)) 0

-- what the readers come to, with the numbers after it
abbrev pub line_told : Result ℕ Refusal → List ℕ → Outcome (List Range × ℕ)
line_told r numbers = outcome_by (λ (n : ℕ). (held_ranges numbers, n)) r

-- a range of the code that is all zero
abbrev pub no_ids : IdRange
no_ids = record { first = 0; last = 0 }
