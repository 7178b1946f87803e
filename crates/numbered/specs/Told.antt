-- What measuring and copying tell.
use Rattle.std.specs.Prelude.{ℕ, ◌+◌, ◌≤◌, ◌≡◌, Bool, List, [], ◌++◌, map, length, take, Result, Ok, Err}
use Rattle.rules.specs.Outcome.{Outcome, good, ◌>>◌, ◌>>=◌}
use Rattle.rules.specs.Message.{not_large}
use Rattle.rules.specs.Sheet as rows
use Rattle.rules.specs.Copy.{Entry, released, packages_in}
use Rattle.refusal.specs.declared.Refusal.{Refusal}
use Rattle.refusal.specs.Numbers.{number_of, outcome_by, outcome_of}
use Rattle.numbered.specs.declared.Totals.{Totals}
use Rattle.numbered.specs.declared.Progress.{Progress}
use Rattle.numbered.specs.declared.Numbered.{Numbered}
use Rattle.numbered.specs.declared.Counted.{Counted}
use Rattle.numbered.specs.Numbering.{numbers_after, numbered_bytes, State, id_of}
use Rattle.numbered.specs.Quota.{Taken, taken_from, message_of, bytes_taken, ids_fit, Report, settled, measured_ids}
use Rattle.numbered.specs.Parts.{named, flags_in, Tells}

-- what the copy of a released list takes: its bytes do not depend on the numbers
abbrev pub totals : List Entry → Totals
totals es = record { bytes = length (numbered_bytes [] es); messages = length es; packages = packages_in es }

abbrev pub progress : ℕ → ℕ → Totals → Progress
progress handled consumed t = record { handled = handled; consumed = consumed; bytes = t.bytes; messages = t.messages; packages = t.packages }

-- what is taken and written, where these ids are known and there is room for so many more
unfoldable pub measured : List rows.Row → List ℕ → ℕ → List ℕ → ℕ → Outcome Progress
measured rs input quota known room = do
  not_large input
  ts ← taken_from input quota
  ids_fit (length known + room) rs (named known) ts
  good (progress (length ts) (bytes_taken ts) (totals (released rs (map message_of ts))))

abbrev pub told_measure : Result Progress Refusal → Outcome Progress
told_measure r = outcome_of r

abbrev pub progress_of : Counted → Progress
progress_of c = c.progress

-- where it is done, bits tell of each package that is taken whether it is granted
pub record MarkedBy {A : Type 0} (rs : List rows.Row) (input : List ℕ) (quota : ℕ) (marks : List ℕ) (r : Result A Refusal) : Type 0 where
  pub tells : (a : A) → r ≡ Ok a → (ts : List Taken) → taken_from input quota ≡ good ts → Tells marks (flags_in rs (map message_of ts))

-- r tells what is measured; where it is done and all ids were counted, the fresh ones are so many, and stand first
pub record Counts (rs : List rows.Row) (input : List ℕ) (quota : ℕ) (known : List ℕ) (room : ℕ) (fresh marks : List ℕ) (r : Result Counted Refusal) : Type 0 where
  pub marked : MarkedBy rs input quota marks r
  pub told : outcome_by progress_of r ≡ measured rs input quota known room
  pub small : (c : Counted) → r ≡ Ok c → c.progress.bytes ≤ 65536
  pub few : (c : Counted) → r ≡ Ok c → c.many ≤ room
  pub ids : (c : Counted) → r ≡ Ok c → room ≤ 64 → (ts : List Taken) → taken_from input quota ≡ good ts
      → map id_of (numbers_after (named known) (released rs (map message_of ts))) ≡ known ++ take c.many fresh

-- an answer's numbers
abbrev pub report : Result Progress Refusal → Report
report (Ok p) = record { number = 0; place = 0; handled = p.handled; consumed = p.consumed; bytes = p.bytes; messages = p.messages; packages = p.packages }
report (Err f) = record { number = number_of f.why; place = f.place; handled = 0; consumed = 0; bytes = 0; messages = 0; packages = 0 }

abbrev pub state_of : List ℕ → List ℕ → ℕ → State
state_of ids next held = record { ids = ids; next = next; held = held }

-- with ids, numbers and buffer after it
abbrev pub told : Numbered → List ℕ → List ℕ → List ℕ → Report × State × List ℕ
told r ids next s = (report r.answer, state_of ids next r.held, s)

-- with the ids after it
abbrev pub told_ids : Numbered → List ℕ → Report × List ℕ × ℕ
told_ids r ids = (report r.answer, ids, r.held)

-- x is what is measured under these rows, whatever the sheet is that has them
pub record MeasuredIds (rs : List rows.Row) (most : ℕ) (input : List ℕ) (quota : ℕ) (ids : List ℕ) (held : ℕ) (x : Report × List ℕ × ℕ) : Type 0 where
  pub right : (sheetBytes : List ℕ) → rows.sheet sheetBytes ≡ good rs → x ≡ measured_ids most input sheetBytes quota ids held

-- x is the copy under these rows, whatever the sheet is that has them
pub record Copied (rs : List rows.Row) (alone : Bool) (most : ℕ) (input : List ℕ) (quota : ℕ) (before : State) (buffer : List ℕ) (x : Report × State × List ℕ) : Type 0 where
  pub right : (sheetBytes : List ℕ) → rows.sheet sheetBytes ≡ good rs → x ≡ settled alone most input sheetBytes quota before buffer
