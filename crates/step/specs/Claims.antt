-- The demands of document 02, A10, as statements, to be read without any proof. proofs/Claims.antt proves each.
use Rattle.std.specs.Prelude.{ℕ, zero, ◌+◌, ◌%◌, ◌^◌, ◌≤◌, ◌<◌, ◌≡◌, true, false, ◌↔◌, ◌⊎◌, List, [], ◌∷◌, ◌++◌, map, length, get_or, take, drop}
use Rattle.rules.specs.Outcome.{Outcome, good, bad, ◌>>=◌, SHORT, CUT, LARGE, ROOM}
use Rattle.refusal.specs.Numbers.{IDS}
use Rattle.rules.specs.Bytes.{Bytes}
use Rattle.rules.specs.Items.{items, count}
use Rattle.rules.specs.Message.{most_bytes, Message, message}
use Rattle.rules.specs.Sheet.{Row, sheet}
use Rattle.rules.specs.Copy.{Entry, released, copy_message, copy_bytes, packages_in, released_of, copy}
use Rattle.rules.specs.Claims.{Careful, BadSheet}
use Rattle.numbered.specs.Numbering.{Running, next_number, numbers_after, numbered_messages, numbered_bytes, State, running_in}
use Rattle.numbered.specs.Quota.{most_ids, bad_state, Taken, taken_from, message_of, bytes_taken, Report, as_copy}
use Rattle.step.specs.Step.{step, measured_step, output, consumed}

-- the numbers of a state fit their places: whatever a caller can hand over
pub record StateFits (state : State) : Type 0 where
  pub ids : length state.ids ≡ most_ids
  pub next : length state.next ≡ most_ids
  pub below : (k : ℕ) → get_or state.next k 0 < 2 ^ 32

-- the released list of a recording of any length, by document 01's rule
unfoldable pub released_of_any : List ℕ → List ℕ → Outcome (List Entry)
released_of_any recordingBytes sheetBytes = do
  rows ← sheet sheetBytes
  ms ← items message zero zero recordingBytes
  good (released rows ms)

-- Of a recording that is not longer than an input may be it is document 01's, refusals included. At any length it is another only where document 01
-- refuses the recording as LARGE, and is itself never refused so. Behind a recording that passes, another one adds its list, or gives its refusal with
-- the place counted on.
pub record ReleasedAtAnyLength (recordingBytes sheetBytes : List ℕ) : Type 0 where
  pub within : length recordingBytes ≤ most_bytes → released_of_any recordingBytes sheetBytes ≡ released_of recordingBytes sheetBytes
  pub unless_large : (released_of recordingBytes sheetBytes ≡ bad LARGE most_bytes → ⊥) → released_of_any recordingBytes sheetBytes ≡ released_of recordingBytes sheetBytes
  pub never_large : (p : ℕ) → released_of_any recordingBytes sheetBytes ≡ bad LARGE p → ⊥
  pub joined : (behind : List ℕ) (es more : List Entry) → released_of_any recordingBytes sheetBytes ≡ good es → released_of_any behind sheetBytes ≡ good more
      → released_of_any (recordingBytes ++ behind) sheetBytes ≡ good (es ++ more)
  pub joined-refused : (behind : List ℕ) (es : List Entry) (n p : ℕ) → released_of_any recordingBytes sheetBytes ≡ good es → released_of_any behind sheetBytes ≡ bad n p
      → released_of_any (recordingBytes ++ behind) sheetBytes ≡ bad n (length recordingBytes + p)

-- what a report with nothing but a number and a place says
abbrev pub nothing : ℕ → ℕ → Report
nothing n p = record { number = n; place = p; handled = 0; consumed = 0; bytes = 0; messages = 0; packages = 0 }

-- ---- One step.

-- A refused step changes neither state nor buffer, and bytes behind what is written stay; so do the places of a state behind those held.
pub record StepKeeps : Type 0 where
  pub unused : (input sheet : List ℕ) (quota : ℕ) (state : State) (buffer : List ℕ) (k : ℕ) → (step input sheet quota state buffer).1.held ≤ k
      → (get_or (step input sheet quota state buffer).1.ids k 0 ≡ get_or state.ids k 0) × (get_or (step input sheet quota state buffer).1.next k 0 ≡ get_or state.next k 0)
  pub state : (input sheet : List ℕ) (quota : ℕ) (state : State) (buffer : List ℕ)
      → ((step input sheet quota state buffer).0.number ≡ 0 → ⊥) → (step input sheet quota state buffer).1 ≡ state
  pub buffer : (input sheet : List ℕ) (quota : ℕ) (state : State) (buffer : List ℕ)
      → Careful (step input sheet quota state buffer).0.number (step input sheet quota state buffer).0.bytes buffer (step input sheet quota state buffer).2

-- The messages handled are those that the definition takes from the input: the messages of the bytes consumed, as many as the quota or all there are.
-- What is written is the copy of these, numbered on from the state before, with the counts of their released list; and the state after is true.
pub record Handles (input sheetBytes : List ℕ) (quota : ℕ) (before after : State) (r : Report) (written : List ℕ) : Type 0 where
  pub messages : List Message
  pub read : items message zero zero (take r.consumed input) ≡ good messages
  pub handled : r.handled ≡ length messages
  pub within : r.handled ≤ quota
  pub all : r.handled < quota → r.consumed ≡ length input
  pub inside : r.consumed ≤ length input
  pub entries : List Entry
  pub list : released_of_any (take r.consumed input) sheetBytes ≡ good entries
  pub copied : written ≡ numbered_bytes (running_in before) entries
  pub bytes : r.bytes ≡ length written
  pub entries-written : r.messages ≡ length entries
  pub packages-written : r.packages ≡ packages_in entries
  pub numbers : running_in after ≡ numbers_after (running_in before) entries

abbrev pub StepHandles : Type 0
StepHandles = (input sheet : List ℕ) (quota : ℕ) (state : State) (buffer : List ℕ) → StateFits state → (step input sheet quota state buffer).0.number ≡ 0
    → Handles input sheet quota state (step input sheet quota state buffer).1 (step input sheet quota state buffer).0 (output (step input sheet quota state buffer))

-- What a step writes is never longer than what it consumed, so that a buffer as long as the input always has room.
abbrev pub StepNotLonger : Type 0
StepNotLonger = (input sheet : List ℕ) (quota : ℕ) (state : State) (buffer : List ℕ) → StateFits state → Bytes input → (step input sheet quota state buffer).0.number ≡ 0
    → (step input sheet quota state buffer).0.bytes ≤ (step input sheet quota state buffer).0.consumed

-- Quota 0 with a good state, sheet and size does nothing and reports 0.
abbrev pub QuotaZero : Type 0
QuotaZero = (input sheetBytes : List ℕ) (state : State) (buffer : List ℕ) → StateFits state → bad_state most_ids state ≡ false → (rows : List Row) → sheet sheetBytes ≡ good rows → length input ≤ most_bytes
    → step input sheetBytes 0 state buffer ≡ (nothing 0 0, state, buffer)

-- The next number of an id is the one before and one more for each entry delivered with it, modulo 2^32.
abbrev pub NumbersTrue : Type 0
NumbersTrue = (state : State) → StateFits state → (es : List Entry) (x : ℕ)
    → next_number x (numbers_after (running_in state) es) ≡ (next_number x (running_in state) + count x (map (λ (e : Entry). e.id) es)) % 2 ^ 32

-- The sequence number of an entry's message is the number that the state has next for its id (0 where it is not held), and one more for each of the entries
-- before it with that id, modulo 2^32.
-- The entries behind it are numbered on.
abbrev pub SequenceCountedOn : Type 0
SequenceCountedOn = (state : State) → StateFits state → (before : List Entry) (e : Entry) (behind : List Entry) → numbered_messages (running_in state) (before ++ e ∷ behind)
    ≡ numbered_messages (running_in state) before ++ copy_message ((next_number e.id (running_in state) + count e.id (map (λ (x : Entry). x.id) before)) % 2 ^ 32) e
    ∷ numbered_messages (numbers_after (running_in state) (before ++ e ∷ [])) behind

-- With room the step is done, with number and place 0: it handles the messages that are taken, and consumes their bytes.
abbrev pub StepDone : Type 0
StepDone = (input sheetBytes : List ℕ) (quota : ℕ) (state : State) (buffer : List ℕ) (rows : List Row) (taken : List Taken)
    → bad_state most_ids state ≡ false → sheet sheetBytes ≡ good rows → length input ≤ most_bytes → taken_from input quota ≡ good taken
    → length (numbers_after (running_in state) (released rows (map message_of taken))) ≤ most_ids
    → length (numbered_bytes (running_in state) (released rows (map message_of taken))) ≤ length buffer
    → ((step input sheetBytes quota state buffer).0.number ≡ 0) × ((step input sheetBytes quota state buffer).0.place ≡ 0) × ((step input sheetBytes quota state buffer).0.handled ≡ length taken) × ((step input sheetBytes quota state buffer).0.consumed ≡ bytes_taken taken)

-- The state handed back by a step that succeeds is one that the next step takes.
abbrev pub StateKept : Type 0
StateKept = (input sheet : List ℕ) (quota : ℕ) (state : State) (buffer : List ℕ) → StateFits state → (step input sheet quota state buffer).0.number ≡ 0
    → StateFits (step input sheet quota state buffer).1 × (bad_state most_ids (step input sheet quota state buffer).1 ≡ false)

-- Behind messages that pass, fewer than the quota, the next one does not.
pub record RefusedWithin (input : List ℕ) (quota n p : ℕ) : Type 0 where
  pub place : ℕ
  pub before : List Message
  pub read : items message zero zero (take place input) ≡ good before
  pub few : length before < quota
  pub inside : place < length input
  pub refused : message place (drop place input) ≡ bad n p

-- The messages within a quota are refused exactly so, and then as all messages of the input are.
pub record QuotaRefuses (input : List ℕ) (quota n p : ℕ) : Type 0 where
  pub exactly : (taken_from input quota ≡ bad n p) ↔ RefusedWithin input quota n p
  pub as_all : taken_from input quota ≡ bad n p → items message zero zero input ≡ bad n p

-- Of the messages taken, `one` at this place is the one with which more ids are delivered than a state can hold.
pub record TooMany (rows : List Row) (ns : List Running) (taken : List Taken) (place : ℕ) : Type 0 where
  pub before : List Taken
  pub one : Taken
  pub behind : List Taken
  pub taken-are : taken ≡ before ++ one ∷ behind
  pub is : one.place ≡ place
  pub few : length (numbers_after ns (released rows (map message_of before))) ≤ most_ids
  pub many : most_ids < length (numbers_after ns (released rows (map message_of (before ++ one ∷ []))))

-- what a step looks at before the messages: the state, the sheet and the size pass
pub record BeforeMessages (input sheetBytes : List ℕ) (state : State) (rows : List Row) : Type 0 where
  pub state-passes : bad_state most_ids state ≡ false
  pub sheet-passes : sheet sheetBytes ≡ good rows
  pub size-passes : length input ≤ most_bytes

-- Why and where a step is refused, each where what is looked at before it passes: the state, the sheet, the size, a message within the quota, a 65th id, and room
-- for what would be written.
pub data StepRefused (input sheetBytes : List ℕ) (quota : ℕ) (state : State) (buffer : List ℕ) : ℕ → ℕ → Type 0 where
  bad-state : bad_state most_ids state ≡ true → StepRefused input sheetBytes quota state buffer IDS 0
  bad-sheet : {n p : ℕ} → bad_state most_ids state ≡ false → BadSheet sheetBytes n p → StepRefused input sheetBytes quota state buffer n p
  large : {rows : List Row} → bad_state most_ids state ≡ false → sheet sheetBytes ≡ good rows → most_bytes < length input → StepRefused input sheetBytes quota state buffer LARGE most_bytes
  bad-message : {rows : List Row} {n p : ℕ} → BeforeMessages input sheetBytes state rows → RefusedWithin input quota n p → StepRefused input sheetBytes quota state buffer n p
  too_many : {rows : List Row} {taken : List Taken} {p : ℕ} → BeforeMessages input sheetBytes state rows → taken_from input quota ≡ good taken
      → TooMany rows (running_in state) taken p → StepRefused input sheetBytes quota state buffer IDS p
  no_room : {rows : List Row} {taken : List Taken} → BeforeMessages input sheetBytes state rows → taken_from input quota ≡ good taken
      → length (numbers_after (running_in state) (released rows (map message_of taken))) ≤ most_ids
      → length buffer < length (numbered_bytes (running_in state) (released rows (map message_of taken)))
      → StepRefused input sheetBytes quota state buffer ROOM (length (numbered_bytes (running_in state) (released rows (map message_of taken))))

-- A step is refused exactly so; and with any refusal nothing but number and place is reported, and state and buffer stay.
pub record StepRefusedExactly (input sheetBytes : List ℕ) (quota : ℕ) (state : State) (buffer : List ℕ) : Type 0 where
  pub exactly : (n p : ℕ) → ((n ≡ 0 → ⊥) × (step input sheetBytes quota state buffer ≡ (nothing n p, state, buffer))) ↔ StepRefused input sheetBytes quota state buffer n p
  pub any : ((step input sheetBytes quota state buffer).0.number ≡ 0 → ⊥)
      → step input sheetBytes quota state buffer ≡ (nothing (step input sheetBytes quota state buffer).0.number (step input sheetBytes quota state buffer).0.place, state, buffer)

-- With no id held and a quota above all, a step is the single copy, refusals included, unless the ids are too many.
abbrev pub FirstStepCopies : Type 0
FirstStepCopies = (input sheet : List ℕ) (quota : ℕ) (state : State) (buffer : List ℕ) → state.held ≡ 0 → length input ≤ quota
    → ((step input sheet quota state buffer).0.number ≡ IDS → ⊥) → as_copy (step input sheet quota state buffer) ≡ copy input sheet buffer

-- ---- One step measured alone.

-- A step from any numbers of the same ids reports the same, refusals included, and holds the same ids after it: where it is not refused for room,
-- and always where its buffer is as long as the input. So whoever measures a recording step by step learns what the steps will answer.
pub record SameIds (a b : State) : Type 0 where
  pub ids : a.ids ≡ b.ids
  pub held : a.held ≡ b.held

pub record MeasuredStep : Type 0 where
  pub with-room : (input sheet : List ℕ) (quota : ℕ) (state twin : State) (buffer : List ℕ) → StateFits state → SameIds state twin → Bytes input
      → ((step input sheet quota state buffer).0.number ≡ ROOM → ⊥)
      → ((step input sheet quota state buffer).0 ≡ (measured_step input sheet quota twin).0) × SameIds (step input sheet quota state buffer).1 (measured_step input sheet quota twin).1
  pub long-buffer : (input sheet : List ℕ) (quota : ℕ) (state twin : State) (buffer : List ℕ) → StateFits state → SameIds state twin → Bytes input
      → length input ≤ length buffer
      → ((step input sheet quota state buffer).0 ≡ (measured_step input sheet quota twin).0) × SameIds (step input sheet quota state buffer).1 (measured_step input sheet quota twin).1

-- ---- A run of steps under one sheet with no refusal: its first and its last state, all that was consumed, and the joined outputs.

pub data Run (sheetBytes : List ℕ) : State → State → List ℕ → List ℕ → Type 0 where
  rest : {state : State} → Run sheetBytes state state [] []
  next : {state end : State} {all joined : List ℕ} (input : List ℕ) (quota : ℕ) (buffer : List ℕ)
      → (step input sheetBytes quota state buffer).0.number ≡ 0
      → Run sheetBytes (step input sheetBytes quota state buffer).1 end all joined
      → Run sheetBytes state end (consumed input (step input sheetBytes quota state buffer) ++ all) (output (step input sheetBytes quota state buffer) ++ joined)

-- All that was consumed is whole messages that pass.
abbrev pub RunPasses : Type 0
RunPasses = (sheetBytes : List ℕ) (state end : State) (all joined : List ℕ) → StateFits state → Run sheetBytes state end all joined
    → (ms : List Message) × (items message zero zero all ≡ good ms)

-- The joined outputs are the copy, by document 01's rule at any length, of all consumed input, numbered on from the run's first state; and the last state is true.
abbrev pub RunCopies : Type 0
RunCopies = (sheetBytes : List ℕ) (state end : State) (all joined : List ℕ) → StateFits state → Run sheetBytes state end all joined
    → (es : List Entry) → released_of_any all sheetBytes ≡ good es
    → (joined ≡ numbered_bytes (running_in state) es) × (running_in end ≡ numbers_after (running_in state) es)

-- So a run of steps is as one step over all consumed input, where one can take it.
abbrev pub RunAsOne : Type 0
RunAsOne = (sheetBytes : List ℕ) (state end : State) (all joined : List ℕ) → StateFits state → Run sheetBytes state end all joined
    → (quota : ℕ) (buffer : List ℕ) → (step all sheetBytes quota state buffer).0.number ≡ 0 → (step all sheetBytes quota state buffer).0.consumed ≡ length all
    → (joined ≡ output (step all sheetBytes quota state buffer)) × (running_in end ≡ running_in (step all sheetBytes quota state buffer).1)

-- They are read as the messages of that copy, one behind the other.
abbrev pub RunRead : Type 0
RunRead = (sheetBytes : List ℕ) (state end : State) (all joined : List ℕ) → StateFits state → Bytes all → Run sheetBytes state end all joined
    → (es : List Entry) → released_of_any all sheetBytes ≡ good es → items message zero zero joined ≡ good (numbered_messages (running_in state) es)

-- From a state with no id held the joined outputs are the copy itself, byte for byte: in both a sequence number has 32 bits.
abbrev pub FirstRunCopies : Type 0
FirstRunCopies = (sheetBytes : List ℕ) (state end : State) (all joined : List ℕ) → StateFits state → state.held ≡ 0 → Run sheetBytes state end all joined
    → (es : List Entry) → released_of_any all sheetBytes ≡ good es → joined ≡ copy_bytes es

-- ---- Demand 3, of the joined outputs of two such runs from one first state, at any length.

-- Equal released lists of all consumed input (or equal refusals in their place) give equal joined outputs and equal numbers in the last state,
-- whatever else differs in recordings and sheets, and however they were cut into steps.
abbrev pub SameOutputs : Type 0
SameOutputs = (sheet sheet' : List ℕ) (state end end' : State) (all all' joined joined' : List ℕ) → StateFits state
    → Run sheet state end all joined → Run sheet' state end' all' joined'
    → released_of_any all sheet ≡ released_of_any all' sheet' → (joined ≡ joined') × (running_in end ≡ running_in end')

-- Released lists that differ give joined outputs that differ.
abbrev pub DifferentOutputs : Type 0
DifferentOutputs = (sheet sheet' : List ℕ) (state end end' : State) (all all' joined joined' : List ℕ) → StateFits state → Bytes all → Bytes all'
    → Run sheet state end all joined → Run sheet' state end' all' joined'
    → (es es' : List Entry) → released_of_any all sheet ≡ good es → released_of_any all' sheet' ≡ good es' → (es ≡ es' → ⊥) → joined ≡ joined' → ⊥

-- ---- What a program that reads a long recording window by window may rely on.

-- Where the messages of a window are refused with SHORT or CUT at place p, the bytes before p are whole messages that pass, and a step takes them from these bytes alone.
abbrev pub WindowCut : Type 0
WindowCut = (window : List ℕ) (quota n p : ℕ) → taken_from window quota ≡ bad n p → (n ≡ SHORT) ⊎ (n ≡ CUT)
    → (taken : List Taken) × (taken_from (take p window) quota ≡ good taken) × (bytes_taken taken ≡ p)

-- Any other refusal of a message is final: bytes that follow change nothing of it.
abbrev pub RefusalFinal : Type 0
RefusalFinal = (p : ℕ) (s behind : List ℕ) (n q : ℕ) → (n ≡ SHORT → ⊥) → (n ≡ CUT → ⊥) → message p s ≡ bad n q → message p (s ++ behind) ≡ bad n q
