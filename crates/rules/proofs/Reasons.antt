-- Why recordings, headers alone, cleaning, writing, sheets and copies are refused, and at which place.
use Prim.Native.Nat.{ℕ, ◌*◌, ◌/◌, ◌%◌, ◌≤◌, ◌<◌}
use mathlib.Core.Path.{◌≡◌, refl, ap, sym, ◌∙◌}
use mathlib.Core.Logic.{◌↔◌, ⊎_elim}
use mathlib.Core.Bool.{Bool, true, false, not, ◌||◌, false≢true}
use mathlib.Core.List.{List, ◌++◌}
use native.Mathlib.Nat.{zero-add}
use native.Mathlib.Omega.{arith}
use borrow.Author.Tests.{le-ltb, lt-ltb, ltb-true, ltb-false, eq-eqb, eqb-true, not-false}
use lib.Dec.{ltb, eqb}
use lib.ListN.{length, take, drop, length-append, length-drop, take-append-drop}
use lib.Seq.{length-take-le}
use Rattle.rules.specs.Outcome.{Outcome, good, bad, ◌>>=◌, ◌>>◌, OPTION, ROW, ROOM}
use Rattle.rules.specs.Items.{items}
use Rattle.rules.specs.Message.{not_large, head, option_run_length, checks_one_to_nine, checks_one_to_ten, every_check, Message, message, recording}
use Rattle.rules.specs.Reading.{header, checked_recording}
use Rattle.rules.specs.Buffer.{Written, unwritten, fitted, stored}
use Rattle.rules.specs.Writer.{Draft, written, writer}
use Rattle.rules.specs.Clean.{clean_form, cleaner}
use Rattle.rules.specs.Sheet.{Row, row, sheet, sheet_rows}
use Rattle.rules.specs.Copy.{Entry, copy_bytes, released_of, Answer, refusal, reported, measurement, room_for, filled, answered, copy}
use Rattle.rules.specs.Claims.{BadRecording, large, bad-message, BadSheet, SheetSize, bad-size, bad-row, ReleaseRefused, by-sheet, by-recording, DraftRefused, CleaningRefused, Unstored, itself, no_room}
use Rattle.rules.proofs.Outcomes.{pass, halt, step, stop, neither, good≢bad, refused-at, refused_pass, refused-step, refused-only}
use Rattle.rules.proofs.Stops.{Any, Owns, Stopped, stopped, refused-behind}
use Rattle.rules.proofs.Gives.{numbered-message, header-numbered, message_early}
use Rattle.rules.proofs.Writer.{draft-refused, draft-numbered}
use Rattle.rules.proofs.Nevers.{never_released}
use Rattle.rules.proofs.Alone as Alone
use Rattle.rules.proofs.Joined.{row-placed, row-size, row-front}

-- ---- a recording

message_owns : (p : ℕ) (s : List ℕ) (m : Message) (n : ℕ) → Any s → 1 ≤ length s → message p s ≡ good (m, n) → Owns message Any s m n
message_owns p s m n f l e = let o = Alone.own p s m n e in record { least = omega (arith, o.least); most = o.most; again = o.again; rest = tt; joined = λ t f. tt }

-- where messages are refused, and that they are refused there
pub messages_stopped : (s : List ℕ) {n p : ℕ} → items message 0 0 s ≡ bad n p → Stopped message Any 0 s n p
messages_stopped s e = stopped message Any tt message_owns 0 s tt e

pub messages-refused : (s : List ℕ) (place : ℕ) {ms : List Message} {n p : ℕ} → place < length s → items message 0 0 (take place s) ≡ good ms → message place (drop place s) ≡ bad n p → items message 0 0 s ≡ bad n p
messages-refused s place l e r = refused-behind message Any tt message_owns 0 s place l tt e (rw zero-add r)

recording-there : (s : List ℕ) {n p : ℕ} → recording s ≡ bad n p → BadRecording s n p
unfolding recording
recording-there s e =
    ⊎_elim
    (λ z. rw (← z.1, ← z.2) (large (ltb-true 65536 (length s) z.0)))
    (λ z. let w = messages_stopped s z.1 in bad-message (ltb-false 65536 (length s) z.0) w.passes w.inside (rw zero-add at w.refused))
    (refused-at _ _ _ _ e)

recording-back : (s : List ℕ) {n p : ℕ} → BadRecording s n p → recording s ≡ bad n p
unfolding recording
recording-back s (large l) = halt _ _ _ _ (lt-ltb 65536 (length s) l)
recording-back s (bad-message {q = q} l e h r) = pass _ _ _ _ (le-ltb 65536 (length s) l) (messages-refused s q h e r)

pub recording-refused : (s : List ℕ) (n p : ℕ) → (recording s ≡ bad n p) ↔ BadRecording s n p
recording-refused s n p = (recording-there s, recording-back s)

pub check_refused : (s : List ℕ) (n p : ℕ) → (checked_recording s ≡ bad n p) ↔ BadRecording s n p
unfolding checked_recording
check_refused s n p = (λ e. recording-there s (refused-only _ _ e), λ b. stop _ _ (recording-back s b))

-- ---- a header alone

-- a header's refusal is its message's
header_stops : (s : List ℕ) {n p : ℕ} → option_run_length 0 s (head s) ≡ bad n p → message 0 s ≡ bad n p
unfolding message every_check checks_one_to_ten checks_one_to_nine
header_stops s e = stop _ _ (stop _ _ (stop _ _ (stop _ _ e)))

pub header_refused : (s : List ℕ) (n p : ℕ) → length s ≤ 65536 → (header s ≡ bad n p) ↔ ((n ≤ OPTION) × (message 0 s ≡ bad n p))
unfolding header
header_refused s n p l =
    let small = le-ltb 65536 (length s) l in (
      λ e. let r = refused-only _ _ (sym (pass _ _ _ _ small refl) ∙ e) in ((header-numbered s).given n p r, header_stops s r),
      λ w. pass _ _ _ _ small (stop _ _ ((message_early s).given n p w.1 w.0)),
    )

-- ---- what goes into a buffer

module _ {A : Type 0} (Refused : ℕ → ℕ → Type 0) (o : Outcome A) (refused : (n p : ℕ) → (o ≡ bad n p) ↔ Refused n p) (bytes_of : A → List ℕ) (buffer : List ℕ) where
  -- what is made of the bytes is refused exactly where they have no room
  module _ {B : Type 0} (next : A → Outcome B) (only : (a : A) (n p : ℕ) → (next a ≡ bad n p) ↔ (fitted buffer (bytes_of a) ≡ bad n p)) where
    unstored_there : {n p : ℕ} → (o >>= next) ≡ bad n p → Unstored Refused o bytes_of buffer n p
    unfolding fitted
    unstored_there {n} {p} e =
        ⊎_elim (λ b. itself ((refused n p).0 b)) (λ g.
        ⊎_elim (λ z. rw (← z.1, ← z.2) (no_room g.1 (ltb-true (length buffer) (length (bytes_of g.0)) z.0))) (λ z. absurd (good≢bad (sym z)))
        (refused_pass _ _ _ _ ((only g.0 n p).0 g.2)))
        (refused-step _ _ e)

    unstored_back : {n p : ℕ} → Unstored Refused o bytes_of buffer n p → (o >>= next) ≡ bad n p
    unfolding fitted
    unstored_back {n} {p} (itself r) = stop _ _ ((refused n p).1 r)
    unstored_back (no_room {a = a} g l) = step _ _ g ((only a ROOM (length (bytes_of a))).1 (halt _ _ _ _ (lt-ltb (length buffer) (length (bytes_of a)) l)))

    unstored : (n p : ℕ) → ((o >>= next) ≡ bad n p) ↔ Unstored Refused o bytes_of buffer n p
    unstored n p = (unstored_there, unstored_back)

  -- no reason has the number 0, if none of those has
  numbered : ((n p : ℕ) → Refused n p → n ≡ 0 → ⊥) → {n p : ℕ} → Unstored Refused o bytes_of buffer n p → n ≡ 0 → ⊥
  numbered h {n} {p} (itself r) z = h n p r z
  numbered h (no_room g l) z = omega arith

-- an answer that tells success by 0 and a refusal by its number and place tells any other number of a refusal alone
told-bad : {A : Type 0} (number place : Outcome A → ℕ) → ((a : A) → number (good a) ≡ 0) → ((n p : ℕ) → (number (bad n p) ≡ n) × (place (bad n p) ≡ p))
    → (o : Outcome A) {n p : ℕ} → (n ≡ 0 → ⊥) → number o ≡ n → place o ≡ p → o ≡ bad n p
told-bad number place passes tells (bad m q) h e f = rw (← e, ← f, (tells m q).0, (tells m q).1)
told-bad number place passes tells (good a) h e f = absurd (h (sym e ∙ passes a))

-- ---- the cleaner and the writer

module _ (Refused : ℕ → ℕ → Type 0) (o : Outcome (List ℕ)) (refused : (n p : ℕ) → (o ≡ bad n p) ↔ Refused n p) (other : (n p : ℕ) → Refused n p → n ≡ 0 → ⊥) (buffer : List ℕ) where
  storing_refused : (n p : ℕ) → ((n ≡ 0 → ⊥) × (stored buffer (o >>= fitted buffer) ≡ (unwritten n p, buffer))) ↔ Unstored Refused o (λ c. c) buffer n p
  unfolding stored
  storing_refused n p =
      let exactly = unstored Refused o refused (λ c. c) buffer (fitted buffer) (λ c n p. (λ e. e, λ e. e)) n p in (
        λ e.
            exactly.0 (told-bad (λ (r : Outcome (List ℕ)). (stored buffer r).0.number) (λ (r : Outcome (List ℕ)). (stored buffer r).0.place) (λ c. refl) (λ n p. (refl, refl)) (o >>= fitted buffer) e.0
            (ap (λ (w : Written × List ℕ). w.0.number) e.1) (ap (λ (w : Written × List ℕ). w.0.place) e.1)),
        λ u. (numbered Refused o refused (λ c. c) buffer other u, ap (stored buffer) (exactly.1 u)),
      )

module _ (s : List ℕ) where
  cleaning_there : {n p : ℕ} → (not_large s >> clean_form s) ≡ bad n p → CleaningRefused s n p
  unfolding message clean_form
  cleaning_there e =
      ⊎_elim
      (λ z. rw (← z.1, ← z.2) (large (ltb-true 65536 (length s) z.0)))
      (λ z. bad-message (ltb-false 65536 (length s) z.0) (stop _ _ (refused-only _ _ z.1)))
      (refused-at _ _ _ _ e)

  cleaning_back : {n p : ℕ} → CleaningRefused s n p → (not_large s >> clean_form s) ≡ bad n p
  unfolding message clean_form
  cleaning_back (large l) = halt _ _ _ _ (lt-ltb 65536 (length s) l)
  cleaning_back (bad-message l e) = pass _ _ _ _ (le-ltb 65536 (length s) l) (stop _ _ (refused-only _ _ e))

  cleaning_numbered : {n p : ℕ} → CleaningRefused s n p → n ≡ 0 → ⊥
  cleaning_numbered (large l) z = omega arith
  cleaning_numbered (bad-message {n = n} {p = p} l e) z = omega (arith, (numbered-message 0 s).given n p e)

  pub cleaning_refused : (buffer : List ℕ) (n p : ℕ) → ((n ≡ 0 → ⊥) × (cleaner s buffer ≡ (unwritten n p, buffer))) ↔ Unstored (CleaningRefused s) (not_large s >> clean_form s) (λ c. c) buffer n p
  unfolding cleaner
  cleaning_refused buffer n p = storing_refused (CleaningRefused s) (not_large s >> clean_form s) (λ n p. (cleaning_there, cleaning_back)) (λ n p. cleaning_numbered) buffer n p

pub writing-refused : (d : Draft) (buffer : List ℕ) (n p : ℕ) → ((n ≡ 0 → ⊥) × (writer d buffer ≡ (unwritten n p, buffer))) ↔ Unstored (DraftRefused d) (written d) (λ c. c) buffer n p
unfolding writer
writing-refused d buffer n p = storing_refused (DraftRefused d) (written d) (draft-refused d) (λ n p. draft-numbered d) buffer n p

-- ---- a sheet

abbrev Whole : List ℕ → Type 0
Whole s = length s % 32 ≡ 0

row_owns : (p : ℕ) (s : List ℕ) (r : Row) (n : ℕ) → Whole s → 1 ≤ length s → row p s ≡ good (r, n) → Owns row Whole s r n
row_owns p s r n f l e =
    let k : n ≡ 32 = row-size p s e in
    let h : 32 ≤ length s = omega arith in
    let z : length (take 32 s) ≡ 32 = length-take-le 32 s h in
    record {
      least = omega arith;
      most = omega arith;
      again = λ q t. rw k (row-placed p q (take 32 s ++ t) (row-front p (take 32 s) (drop 32 s) t (omega arith) (ap (row p) (take-append-drop 32 s) ∙ rw k at e)));
      rest = rw k (omega (arith, length-drop 32 s));
      joined = λ t g. rw k (omega (arith, length-append (take 32 s) t));
    }

-- the test of a sheet's size
size_test : (s : List ℕ) → SheetSize s → (ltb 1024 (length s) || not (eqb (length s % 32) 0)) ≡ false
size_test s w = rw (le-ltb 1024 (length s) w.0, eq-eqb (length s % 32) 0 w.1)

no_size : (s : List ℕ) → (SheetSize s → ⊥) → (a : Bool) → ltb 1024 (length s) ≡ a → (b : Bool) → eqb (length s % 32) 0 ≡ b → (a || not b) ≡ true
no_size s h true x b y = refl
no_size s h false x true y = absurd (h (ltb-false 1024 (length s) x, eqb-true _ _ y))
no_size s h false x false y = refl

-- a row is refused as ROW, where it stands
row-refused : (p : ℕ) (s : List ℕ) {n q : ℕ} → row p s ≡ bad n q → (ROW ≡ n) × (p ≡ q)
unfolding row
row-refused p s e = ⊎_elim (λ z. (z.1, z.2)) (λ g. absurd (good≢bad (sym g))) (refused_pass _ _ _ _ e)

row_stopped : (s : List ℕ) (i : ℕ) {n p : ℕ} {before : List Row} → SheetSize s → items row 0 0 (take (i * 32) s) ≡ good before → i * 32 < length s → row (i * 32) (drop (i * 32) s) ≡ bad n p → BadSheet s n p
row_stopped s i w e h r = let (a, b) = row-refused (i * 32) (drop (i * 32) s) r in rw (← a, ← b) (bad-row i w e h (rw (← a, ← b) at r))

sheet-there : (s : List ℕ) {n p : ℕ} → sheet s ≡ bad n p → BadSheet s n p
unfolding sheet
sheet-there s e =
    ⊎_elim
    (λ z. rw (← z.1, ← z.2) (bad-size (λ w. false≢true (sym (size_test s w) ∙ z.0))))
    (λ z.
    let (a, b) = neither _ _ z.0 in
    let c : length s % 32 ≡ 0 = eqb-true _ _ (not-false _ b) in
    let w = stopped row Whole refl row_owns 0 s c z.1 in
    let k : w.place / 32 * 32 ≡ w.place = omega (arith, w.whole, length-take-le w.place s (omega (arith, w.inside))) in
    row_stopped s (w.place / 32) {before = w.before} (ltb-false 1024 (length s) a, c) (rw k w.passes) (rw k w.inside) (rw k (rw zero-add at w.refused)))
    (refused-at _ _ _ _ e)

sheet-back : (s : List ℕ) {n p : ℕ} → BadSheet s n p → sheet s ≡ bad n p
unfolding sheet
sheet-back s (bad-size h) = halt _ _ _ _ (no_size s h _ refl _ refl)
sheet-back s (bad-row i w e h r) =
    let y : length (take (i * 32) s) % 32 ≡ 0 = omega (arith, length-take-le (i * 32) s (omega arith)) in
    pass _ _ _ _ (size_test s w) (refused-behind row Whole refl row_owns 0 s (i * 32) h y e (rw zero-add r))

pub sheet-refused : (s : List ℕ) (n p : ℕ) → (sheet s ≡ bad n p) ↔ BadSheet s n p
sheet-refused s n p = (sheet-there s, sheet-back s)

pub rows-refused : (s : List ℕ) (n p : ℕ) → (sheet_rows s ≡ bad n p) ↔ BadSheet s n p
unfolding sheet_rows
rows-refused s n p = (λ e. sheet-there s (refused-only _ _ e), λ b. stop _ _ (sheet-back s b))

-- ---- a copy

reported-bad : (o : Outcome (List Entry)) {n p : ℕ} → (n ≡ 0 → ⊥) → reported o ≡ refusal n p → o ≡ bad n p
unfolding reported
reported-bad o h e =
    told-bad (λ (r : Outcome (List Entry)). (reported r).number) (λ (r : Outcome (List Entry)). (reported r).place) (λ es. refl) (λ n p. (refl, refl)) o h (ap (λ (a : Answer). a.number) e) (ap (λ (a : Answer). a.place) e)

module _ (recordingBytes sheetBytes : List ℕ) where
  released-there : {n p : ℕ} → released_of recordingBytes sheetBytes ≡ bad n p → ReleaseRefused recordingBytes sheetBytes n p
  unfolding released_of
  released-there e =
      ⊎_elim
      (λ b. by-sheet (sheet-there sheetBytes b))
      (λ g. by-recording g.1 (recording-there recordingBytes (refused-only _ _ g.2)))
      (refused-step _ _ e)

  released-back : {n p : ℕ} → ReleaseRefused recordingBytes sheetBytes n p → released_of recordingBytes sheetBytes ≡ bad n p
  unfolding released_of
  released-back (by-sheet b) = stop _ _ (sheet-back sheetBytes b)
  released-back (by-recording g b) = step _ _ g (stop _ _ (recording-back recordingBytes b))

  pub release_refused : (n p : ℕ) → (released_of recordingBytes sheetBytes ≡ bad n p) ↔ ReleaseRefused recordingBytes sheetBytes n p
  release_refused n p = (released-there, released-back)

  -- no reason has the number 0
  release_numbered : {n p : ℕ} → ReleaseRefused recordingBytes sheetBytes n p → n ≡ 0 → ⊥
  release_numbered {p = p} u z = (never_released 0 (λ n l o e. omega arith) recordingBytes sheetBytes).given p (rw z at (released-back u))

  pub measure_refused : (n p : ℕ) → ((n ≡ 0 → ⊥) × (measurement recordingBytes sheetBytes ≡ refusal n p)) ↔ ReleaseRefused recordingBytes sheetBytes n p
  unfolding measurement reported
  measure_refused n p = (λ e. released-there (reported-bad (released_of recordingBytes sheetBytes) e.0 e.1), λ u. (release_numbered u, ap reported (released-back u)))

  pub copy-refused : (buffer : List ℕ) (n p : ℕ) → ((n ≡ 0 → ⊥) × (copy recordingBytes sheetBytes buffer ≡ (refusal n p, buffer)))
      ↔ Unstored (ReleaseRefused recordingBytes sheetBytes) (released_of recordingBytes sheetBytes) copy_bytes buffer n p
  unfolding copy answered reported filled room_for
  copy-refused buffer n p =
      let exactly = unstored (ReleaseRefused recordingBytes sheetBytes) (released_of recordingBytes sheetBytes) release_refused copy_bytes buffer (room_for buffer) (λ es n p. (λ e. refused-only _ _ e, λ e. stop _ _ e)) n p in (
        λ e. exactly.0 (reported-bad (released_of recordingBytes sheetBytes >>= room_for buffer) e.0 (ap (λ (a : Answer × List ℕ). a.0) e.1)),
        λ u. (numbered (ReleaseRefused recordingBytes sheetBytes) (released_of recordingBytes sheetBytes) release_refused copy_bytes buffer (λ n p. release_numbered) u, ap (answered buffer) (exactly.1 u)),
      )
