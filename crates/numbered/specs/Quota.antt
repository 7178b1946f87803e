-- Document 02, A10: the copy of the first so many messages of an input, or of all there are, numbered on from a state; and what it takes, measured alone (A3).
use Rattle.std.specs.Prelude.{ℕ, zero, suc, ◌+◌, ◌-◌, Bool, true, false, ◌&&◌, ◌||◌, List, [], ◌∷◌, map, leb, ltb, eqb, length, take, replicate}
use Rattle.std.proofs.lemmas.List.Edits.{sets}
use Rattle.rules.specs.Outcome.{Outcome, good, bad, refuse, ◌>>◌, ◌>>=◌, ◌∷>◌}
use Rattle.refusal.specs.Numbers.{IDS}
use Rattle.rules.specs.Items.{count}
use Rattle.rules.specs.Message.{most_bytes, not_large, Message, message}
use Rattle.rules.specs.Buffer.{fitted}
use Rattle.rules.specs.Sheet.{Row, sheet}
use Rattle.rules.specs.Copy as rules
use Rattle.rules.specs.Copy.{Entry, released, packages_in}
use Rattle.numbered.specs.Numbering.{Running, numbers_after, numbered_bytes, State, running_in, holding}

-- some number stands in the list twice
unfoldable pub some_twice : List ℕ → Bool
some_twice [] = false
some_twice (x ∷ xs) = ltb 0 (count x xs) || some_twice xs

-- the first `held` of ids cannot be held: they are more than may be, or one of them stands twice
unfoldable pub bad_ids : ℕ → List ℕ → ℕ → Bool
bad_ids most ids held = ltb most held || some_twice (take held ids)

abbrev pub bad_state : ℕ → State → Bool
bad_state most state = bad_ids most state.ids state.held

-- a message that is taken, with its place in the input and its length
pub record Taken : Type 0 where
  pub message : Message
  pub place : ℕ
  pub size : ℕ

unfoldable pub taken_at : ℕ → List ℕ → Outcome (Taken × ℕ)
taken_at p s = do
  (m, n) ← message p s
  good (record { message = m; place = p; size = n }, n)

-- As `items`, up to a quota: the first q items or all there are, if those pass. What is behind them is not looked at
unfoldable pub first_items : {A : Type 0} → (ℕ → List ℕ → Outcome (A × ℕ)) → ℕ → ℕ → ℕ → List ℕ → Outcome (List A)
first_items read q k p [] = good []
first_items read q (suc k) p (x ∷ xs) = first_items read q k (suc p) xs
first_items read zero zero p (x ∷ xs) = good []
first_items read (suc q) zero p (x ∷ xs) = do
  (a, n) ← read p (x ∷ xs)
  a ∷> first_items read q (n - 1) (suc p) xs

-- the messages that are taken from an input
unfoldable pub taken_from : List ℕ → ℕ → Outcome (List Taken)
taken_from input quota = first_items taken_at quota zero zero input

abbrev pub message_of : Taken → Message
message_of t = t.message

-- the bytes that they take
unfoldable pub bytes_taken : List Taken → ℕ
bytes_taken [] = 0
bytes_taken (t ∷ ts) = t.size + bytes_taken ts

-- IDS at the first message with which more ids are delivered than may be held
unfoldable pub ids_fit : ℕ → List Row → List Running → List Taken → Outcome (Unit {0})
ids_fit most rows ns [] = good tt
ids_fit most rows ns (t ∷ ts) = do
  let after = numbers_after ns (released rows (t.message ∷ []))
  refuse (ltb most (length after)) IDS t.place
  ids_fit most rows after ts

-- the messages that are taken and the entries that are delivered, or the refusal
unfoldable pub delivering : ℕ → List ℕ → List ℕ → ℕ → State → List ℕ → Outcome (List Taken × List Entry)
delivering most input sheetBytes quota state buffer = do
  refuse (bad_state most state) IDS 0
  rows ← sheet sheetBytes
  not_large input
  taken ← taken_from input quota
  ids_fit most rows (running_in state) taken
  let entries = released rows (map message_of taken)
  bytes ← fitted buffer (numbered_bytes (running_in state) entries)
  good (taken, entries)

-- the same, measured alone: neither ids nor room are looked at
unfoldable pub measuring : List ℕ → List ℕ → ℕ → Outcome (List Taken × List Entry)
measuring input sheetBytes quota = do
  rows ← sheet sheetBytes
  not_large input
  taken ← taken_from input quota
  good (taken, released rows (map message_of taken))

-- what is reported: number and place, both 0 on success; messages handled and bytes consumed; bytes, messages and packages written
pub record Report : Type 0 where
  pub number : ℕ
  pub place : ℕ
  pub handled : ℕ
  pub consumed : ℕ
  pub bytes : ℕ
  pub messages : ℕ
  pub packages : ℕ

-- the report, and the state and the buffer after it
unfoldable pub reported : State → List ℕ → Outcome (List Taken × List Entry) → Report × State × List ℕ
reported state buffer (bad n p) = (record { number = n; place = p; handled = 0; consumed = 0; bytes = 0; messages = 0; packages = 0 }, state, buffer)
reported state buffer (good (taken, entries)) =
    let bytes = numbered_bytes (running_in state) entries in (
      record { number = 0; place = 0; handled = length taken; consumed = bytes_taken taken; bytes = length bytes; messages = length entries; packages = packages_in entries },
      holding state (numbers_after (running_in state) entries),
      sets buffer 0 bytes,
    )

-- the copy of the first so many messages, where so many ids at most may be held: input, sheet, quota, state and buffer
unfoldable pub numbered_copy : ℕ → List ℕ → List ℕ → ℕ → State → List ℕ → Report × State × List ℕ
numbered_copy most input sheetBytes quota state buffer = reported state buffer (delivering most input sheetBytes quota state buffer)

-- measured alone, state and buffer are left as they are; otherwise the copy is written
unfoldable pub settled : Bool → ℕ → List ℕ → List ℕ → ℕ → State → List ℕ → Report × State × List ℕ
settled true most input sheetBytes quota state buffer = ((reported state buffer (measuring input sheetBytes quota)).0, state, buffer)
settled false most input sheetBytes quota state buffer = numbered_copy most input sheetBytes quota state buffer

-- a state with these ids, whose numbers are all 0
abbrev pub at_zero : List ℕ → ℕ → State
at_zero ids held = record { ids = ids; next = replicate (length ids) 0; held = held }

-- measured from ids alone, as if copied from numbers that are all 0 into a buffer with room for any copy: the report, and the ids that are then held
unfoldable pub measured_ids : ℕ → List ℕ → List ℕ → ℕ → List ℕ → ℕ → Report × List ℕ × ℕ
measured_ids most input sheetBytes quota ids held =
    let (r, after, buffer) = numbered_copy most input sheetBytes quota (at_zero ids held) (replicate most_bytes 0) in
    (r, after.ids, after.held)

-- what of a report the single copy reports, and its buffer
abbrev pub copy_of : Report → rules.Answer
copy_of r = record { number = r.number; place = r.place; bytes = r.bytes; messages = r.messages; packages = r.packages }

abbrev pub as_copy : Report × State × List ℕ → rules.Answer × List ℕ
as_copy (r, state, buffer) = (copy_of r, buffer)

-- the most ids that a state holds between calls; and the most entries that an input delivers, since a message with a package has 36 bytes at least
abbrev pub most_ids : ℕ
most_ids = 64

abbrev pub most_entries : ℕ
most_entries = 1820

abbrev pub shorter : ℕ → ℕ → ℕ
shorter m n = elim (leb m n) [ true ↦ m | false ↦ n ]

-- the most ids that may be held in so many places: 64; or as many as an input can deliver, where no id is held yet and there are places for all of them
abbrev pub most_in : ℕ → ℕ → ℕ
most_in places held = elim (eqb held 0 && leb most_entries places) [ true ↦ most_entries | false ↦ shorter places most_ids ]
