-- What the answers of reading and writing stand for.
use Rattle.std.specs.Prelude.{Result, ℕ, zero, suc, ◌-◌, List, [], ◌∷◌, ◌++◌, map, take, drop, replicate}
use Rattle.rules.specs.Outcome.{Outcome}
use Rattle.rules.specs.Bytes.{at}
use Rattle.refusal.specs.Numbers.{outcome_by}
use Rattle.refusal.specs.declared.Refusal.{Refusal}
use Rattle.ids.specs.Reader.{Range, most_items, no_range, shown_ranges}
use Rattle.ids.specs.declared.IdRange.{IdRange}
use Rattle.ids.specs.declared.Ids.{Ids}

-- a range of the code
abbrev pub range_in : IdRange → Range
range_in r = record { first = r.first; last = r.last }

-- the complete answer of reading a line
abbrev pub answer : Outcome (List Range × ℕ) → Outcome (List Range × ℕ) × (List Range × ℕ)
answer o = (o, shown_ranges o)

abbrev pub ids_in : Ids → List Range × ℕ
ids_in i = (map range_in i.ranges, i.count)

abbrev pub told : Result Ids Refusal → Outcome (List Range × ℕ) × (List Range × ℕ)
told r = answer (outcome_by ids_in r)

-- the n ranges that a caller hands over in an array of 32; what a 33rd and those behind it are does not matter, since the 33rd is refused
abbrev pub handed_over : ℕ → List IdRange → List Range
handed_over n ranges = map range_in (take n ranges) ++ replicate (n - most_items) no_range

-- the n ranges of which a caller hands over the ends, first and last in turn
unfoldable pub ranges_in : ℕ → List ℕ → List IdRange
ranges_in zero ends = []
ranges_in (suc n) ends = record { first = at ends 0; last = at ends 1 } ∷ ranges_in n (drop 2 ends)
