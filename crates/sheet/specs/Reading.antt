-- What a sheet's size and its rows are tested for, and what reading it tells.
use Rattle.std.specs.Prelude.{ℕ, ◌*◌, ◌%◌, Bool, not, ◌||◌, List, map, ltb, eqb, take, Result, Ok, Err}
use Rattle.rules.specs.Outcome.{Outcome, good}
use Rattle.rules.specs.Sheet as rules
use Rattle.refusal.specs.Numbers.{refused}
use Rattle.refusal.specs.declared.Refusal.{Refusal}
use Rattle.sheet.specs.declared.Sheet.{Sheet}
use Rattle.sheet.specs.Rows.{row_in}

-- the row at the start of s keeps the rules
abbrev pub first_fits : List ℕ → Bool
first_fits s = rules.row_fits (rules.row_of (rules.big_endian 0 (take rules.row_bytes s)))

-- a sheet of so many bytes does not have whole rows, or has too many
abbrev pub wrong_size : ℕ → Bool
wrong_size n = ltb (rules.most_rows * rules.row_bytes) n || not (eqb (n % rules.row_bytes) 0)

-- the complete answer
abbrev pub answer : Outcome (List rules.Row × ℕ) → Outcome (List rules.Row × ℕ) × (List rules.Row × ℕ)
answer o = (o, rules.shown_rows o)

-- the rows of a sheet, zero behind the last, and how many of them are the sheet's
abbrev pub rows_of : Sheet → List rules.Row × ℕ
rows_of s = (map row_in s.rows, s.count)

abbrev pub told : Result Sheet Refusal → Outcome (List rules.Row × ℕ) × (List rules.Row × ℕ)
told (Ok s) = (good (rows_of s), rows_of s)
told (Err r) = answer (refused r)
