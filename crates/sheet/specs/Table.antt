-- A sheet as a table of plain numbers, and of a table the rows that can grant something in one message.
use Rattle.std.specs.Prelude.{ℕ, ◌/◌, ◌%◌, ◌≡◌, Bool, true, false, not, ◌&&◌, ◌||◌, List, [], ◌∷◌, leb, ltb, eqb, length}
use Rattle.std.proofs.lemmas.List.Edits.{sets}
use Rattle.rules.specs.Outcome.{Outcome, good, bad, ◌>>=◌}
use Rattle.rules.specs.Sheet as rules
use Rattle.rules.specs.Sheet.{start_of, end_of}

abbrev pub one_if : Bool → ℕ
one_if true = 1
one_if false = 0

-- seven numbers for each row, one row behind the other: first and last message id, first and last package id, start and end of its window, and 1 where it
-- grants acquired data only
unfoldable pub table_of : List rules.Row → List ℕ
table_of [] = []
table_of (r ∷ rs) = r.first_message ∷ r.last_message ∷ r.first_package ∷ r.last_package ∷ start_of r ∷ end_of r ∷ one_if r.acquired_only ∷ table_of rs

-- the way back: the rows whose numbers a table has. Fewer than seven numbers are no row
unfoldable pub rows_in : List ℕ → List rules.Row
rows_in (a ∷ b ∷ c ∷ d ∷ s ∷ e ∷ acquired ∷ table) = record {
  first_message = a;
  last_message = b;
  first_package = c;
  last_package = d;
  start_seconds = s / 1000000000;
  start_nanos = s % 1000000000;
  end_seconds = e / 1000000000;
  end_nanos = e % 1000000000;
  spare = 0;
  acquired_only = eqb acquired 1;
} ∷ rows_in table
rows_in [] = []
rows_in (a ∷ []) = []
rows_in (a ∷ b ∷ []) = []
rows_in (a ∷ b ∷ c ∷ []) = []
rows_in (a ∷ b ∷ c ∷ d ∷ []) = []
rows_in (a ∷ b ∷ c ∷ d ∷ e ∷ []) = []
rows_in (a ∷ b ∷ c ∷ d ∷ e ∷ f ∷ []) = []

-- a row with these first and last message ids, and this last number, can grant something in a message with this id, simulated or not
abbrev pub reaches : ℕ → Bool → ℕ → ℕ → ℕ → Bool
reaches messageId simulated first last acquired = leb first messageId && leb messageId last && not (eqb acquired 1 && simulated)

-- of a table the rows that can grant something in a message with this id, simulated or not: of each its package ids and its window, four numbers. Fewer than
-- seven numbers are no row
unfoldable pub near_of : ℕ → Bool → List ℕ → List ℕ
near_of messageId simulated (first ∷ last ∷ a ∷ b ∷ c ∷ d ∷ acquired ∷ table) =
    elim (reaches messageId simulated first last acquired) [ true ↦ a ∷ b ∷ c ∷ d ∷ near_of messageId simulated table | false ↦ near_of messageId simulated table ]
near_of messageId simulated [] = []
near_of messageId simulated (a ∷ []) = []
near_of messageId simulated (a ∷ b ∷ []) = []
near_of messageId simulated (a ∷ b ∷ c ∷ []) = []
near_of messageId simulated (a ∷ b ∷ c ∷ d ∷ []) = []
near_of messageId simulated (a ∷ b ∷ c ∷ d ∷ e ∷ []) = []
near_of messageId simulated (a ∷ b ∷ c ∷ d ∷ e ∷ f ∷ []) = []

-- a package id lies in a near row's range, ends included, and a time in its window, start included and end not
abbrev pub within : ℕ → ℕ → ℕ → ℕ → ℕ → ℕ → Bool
within packageId time first last start end = leb first packageId && leb packageId last && leb start time && ltb time end

-- some near row has this package id and time. Fewer than four numbers are no near row
unfoldable pub near_grants : ℕ → ℕ → List ℕ → Bool
near_grants packageId time (first ∷ last ∷ start ∷ end ∷ near) = within packageId time first last start end || near_grants packageId time near
near_grants packageId time [] = false
near_grants packageId time (a ∷ []) = false
near_grants packageId time (a ∷ b ∷ []) = false
near_grants packageId time (a ∷ b ∷ c ∷ []) = false

-- how many rows a sheet has, or why it is refused
abbrev pub count_of_rows : Outcome (List rules.Row) → Outcome ℕ
count_of_rows o = o >>= λ rs. good (length rs)

-- a sheet that keeps the rules has rows
pub record Keeps (s : List ℕ) : Type 0 where
  pub rows : List rules.Row
  pub read : rules.sheet s ≡ good rows

-- the table after reading a sheet: its rows' numbers from place 0 on, or as it was where the sheet is refused
abbrev pub laid_out : Outcome (List rules.Row) → List ℕ → List ℕ
laid_out (good rs) table = sets table 0 (table_of rs)
laid_out (bad n p) table = table
