-- Each claim, proved by the laws; and all of them as one.
use Prim.Native.Nat.{ℕ, ◌+◌, ◌≤◌}
use mathlib.Core.Path.{◌≡◌, refl, ap, sym, ◌∙◌}
use mathlib.Core.List.{List, [], ◌∷◌, map}
use native.Mathlib.Omega.{arith}
use borrow.Author.Tests.{le-ltb}
use lib.ListN.{length, length-append}
use Rattle.rules.specs.Outcome.{Outcome, good, ◌>>=◌, ◌>>◌, ROOM}
use Rattle.rules.specs.Bytes.{Bytes, part, join}
use Rattle.rules.specs.Message.{header_bytes, not_large, Head, head, payload, option_run_length, Message, message, recording, checks_one_to_nine, checks_one_to_ten, every_check}
use Rattle.rules.specs.Reading.{header, option_run, packages_of, checked_recording}
use Rattle.rules.specs.Buffer.{fitted, stored}
use Rattle.rules.specs.Writer.{Draft, written, writer}
use Rattle.rules.specs.Clean.{clean_form, cleaner}
use Rattle.rules.specs.Sheet.{Row}
use Rattle.rules.specs.Copy.{Entry, packages_in, Answer, released_of, reported, measurement, room_for, answered, copy}
use Rattle.rules.specs.Burst.{randomized, opening, randomizer, opener}
use Rattle.rules.specs.Claims.{BuffersKept, PremisesMet, RoundTrips, Writes, BuffersWritten, CleanExactly, ReadingExactly, WholeRun, OptionsExactly, CountExactly, PackageExactly, WalkExactly, RowExactly, GrantedExactly, WindowsExactly, AcquiredOnly, RandomizerExactly, BurstExactly, RefusalsExactly, SameCopies, DifferentCopies, CopyExactly, MeasuredFirst, SequenceCounted, ReleasedExactly, CopyPlain, TwoSheets, RowAdded, OneOutcome, Claims}
use Rattle.rules.proofs.Outcomes.{pass, passed, step, stepped, came_after, good_inj}
use Rattle.rules.proofs.Reasons.{recording-refused, check_refused, header_refused, cleaning_refused, writing-refused, sheet-refused, rows-refused, release_refused, measure_refused, copy-refused}
use Rattle.rules.proofs.Kept.{careful_stored, careful_answered, kept-randomized, kept-opened, writes, roomless}
use Rattle.rules.proofs.Cut as Cut
use Rattle.rules.proofs.Passed.{sound, passes}
use Rattle.rules.proofs.Alone as Alone
use Rattle.rules.proofs.RoundTrip as RoundTrip
use Rattle.rules.proofs.Writer.{accepts, accepted_valid, parts, parts-written, draft-refused}
use Rattle.rules.proofs.Refused.{exactly, count-read, count-right}
use Rattle.rules.proofs.Wholes.{whole-run-by, option_stopped, fault-at, said-by}
use Rattle.rules.proofs.Valids.{run-again}
use Rattle.rules.proofs.Walks.{walks_cut, stays, walk_large, ended, walk_refused}
use Rattle.rules.proofs.Granted as Granted
use Rattle.rules.proofs.Acquired as Acquired
use Rattle.rules.proofs.Sequence as Sequence
use Rattle.rules.proofs.Bursts.{randomizer-is, burst_exactly, burst_refused}
use Rattle.rules.specs.Table.{Table}
use Rattle.rules.proofs.Table.{table}
use Rattle.rules.specs.Edges.{Edges}
use Rattle.rules.proofs.Edges.{edges}
use Rattle.rules.proofs.Growing.{copy_messages_snoc, released-append, released-entry, released-none}
use Rattle.rules.proofs.Interference.{copy_is, delivered-is, same_copy, same_measurement, same_list, copy-short, copy-passes, copy-plain}
use Rattle.rules.proofs.Nevers.{never_released}
use Rattle.rules.proofs.Turns as Turns
use Rattle.rules.proofs.Measured.{measured-roomless, measured-enough, measured-short}
use Rattle.rules.proofs.Spots.{of_record, spot-read, spot-refused}
use native.Mathlib.Nat.{zero-add, add-zero}

-- ---- demand 1

pub buffers-kept : BuffersKept
unfolding writer cleaner copy randomizer opener
buffers-kept = record {
  writer = λ d buffer. careful_stored buffer (written d >>= fitted buffer);
  cleaner = λ s buffer. careful_stored buffer ((not_large s >> clean_form s) >>= fitted buffer);
  copy = λ recording sheet buffer. careful_answered buffer (released_of recording sheet >>= room_for buffer);
  randomizer = λ buffer. kept-randomized buffer (not_large buffer >> good (randomized 0 buffer));
  opener = λ buffer. kept-opened buffer (opening buffer);
}

-- ---- demand 2

pub premises_met : PremisesMet
premises_met = record {
  bytes = λ s b. record { below = b };
  draft = λ d i q t o p. record { id = i; sequence = q; seconds = t; options = o; packages = p };
}

-- the option run of a message that passes
run_is : (s : List ℕ) (n : ℕ) → header s ≡ good (head s, n) → option_run s ≡ part header_bytes (header_bytes + n) s
unfolding option_run
run_is s n e = rw (e, option_run)

-- the parts of a message as they stand in its bytes
abbrev parts_of : List ℕ → Draft
parts_of s = record { flags = (head s).flags; id = (head s).id; sequence = (head s).sequence; seconds = (head s).seconds; nanos = (head s).nanos; options = option_run s; packages = payload s (head s) }

parts_are : (s : List ℕ) (r : ℕ × List (List ℕ)) → length s ≤ 65536 → every_check 0 s (head s) ≡ good r → parts_of s ≡ parts s r
unfolding every_check checks_one_to_ten checks_one_to_nine header
parts_are s r l q =
    let (x, q, e) = stepped _ _ q in
    let (t, e) = passed _ _ _ _ e in
    let (n, p, q) = stepped _ _ q in
    let (m, o, p) = stepped _ _ p in
    let (f, p) = came_after _ _ p in
    let (cs, g, q) = stepped _ _ q in
    let h : header s ≡ good (head s, m) = pass _ _ _ _ (le-ltb 65536 (length s) l) (step _ _ o refl) in
    let z : m ≡ r.0 = good_inj p ∙ ap (λ (x : ℕ × List (List ℕ)). x.0) (good_inj q ∙ good_inj e) in
    rw (run_is s m h, z)

parts_give_clean : (s : List ℕ) → Bytes s → length s ≤ 65536 → (m : Message) (n : ℕ) → message 0 s ≡ good (m, n) → written (parts_of s) ≡ clean_form s
unfolding message clean_form
parts_give_clean s b l m n e =
    let (r, q, z) = stepped _ _ e in
    ap written (parts_are s r l q) ∙ parts-written 0 s r b l (passes 0 s (head s) r q) ∙ sym (step _ _ q refl)

pub round_trips : RoundTrips
round_trips = record {
  accepted_valid = λ d f m e. accepted_valid d f (accepts d e);
  read_valid = RoundTrip.read_valid;
  written_read = RoundTrip.written_read;
  read-written = RoundTrip.read-written;
  parts-written = parts_give_clean;
}

-- an outcome, stored: with room and without
stores : (c : List ℕ) (o : Outcome (List ℕ)) → o ≡ good c → Writes c (λ (buffer : List ℕ). stored buffer (o >>= fitted buffer))
stores c o e = record { room = λ buffer l. writes buffer c o e l; short = λ buffer l. roomless buffer c o e l }

pub buffers-written : BuffersWritten
unfolding writer cleaner
buffers-written = record {
  writer = λ d c e. stores c (written d) e;
  cleaner = λ s c h e. stores c (not_large s >> clean_form s) (pass _ _ _ _ (le-ltb 65536 (length s) h) e);
}

pub clean-exactly : CleanExactly
clean-exactly = record { alone = Alone.clean-alone; twice = RoundTrip.clean-twice; equal = RoundTrip.clean-exactly }

-- the packages of all messages, counted one by one and joined
messages-joined : (ms : List Message) → packages_of ms ≡ length (join (map (λ (m : Message). m.packages) ms))
unfolding packages_of
messages-joined [] = refl
messages-joined (m ∷ ms) = omega (arith, messages-joined ms, length-append m.packages (join (map (λ (m : Message). m.packages) ms)))

counts-checked : (s : List ℕ) (ms : List Message) → recording s ≡ good ms → checked_recording s ≡ good (length ms, length (join (map (λ (m : Message). m.packages) ms)))
unfolding checked_recording
counts-checked s ms e = step _ _ e (rw (← messages-joined ms))

pub reading-exactly : ReadingExactly
reading-exactly = record { told = of_record; read = spot-read; refused = spot-refused; counted = counts-checked }

pub package_exactly : PackageExactly
package_exactly = record {
  refused = exactly;
  filled = λ p s pieces. (λ e. Cut.sound 0 p s e, λ f. Cut.complete f p);
  place = λ p s n q e. let r = rw add-zero at (Cut.refused 0 p s e) in (r.d, r.place, r.number, r.unfit, (r.pieces, r.fills));
}

-- the option run of a header that passes is a run by itself
run-by-itself : (s : List ℕ) (h : Head) (n : ℕ) → header s ≡ good (h, n) → WholeRun (option_run s)
unfolding header option_run_length
run-by-itself s h n e =
    let (l, f) = passed _ _ _ _ e in
    let (k, o, f) = stepped _ _ f in
    let (a, o) = came_after _ _ o in
    let r : option_run s ≡ part header_bytes (header_bytes + k) s = run_is s k (e ∙ sym f) in
    rw r ((whole-run-by _).0 (run-again 0 s k (sound 0 s (head s) a) o))

pub options-exactly : OptionsExactly
options-exactly = record {
  bare = whole-run-by;
  read = run-by-itself;
  place = λ p o n q e. let w = option_stopped p o e in (w.before, w.place, w.number, (w.options, w.fills, fault-at p o w));
  said = λ run w n. said-by w.1 w.3 n;
}

pub count-exactly : CountExactly
count-exactly = record { right = count-right; read = count-read }

pub walk_exactly : WalkExactly
walk_exactly = record { shows = walks_cut; stays = stays; large = walk_large; ended = λ s i l. ended s l i; refused = λ s i n p l. walk_refused s l i n p }

pub row-exactly : RowExactly
row-exactly = Granted.row-exactly

pub granted-by-ranges : GrantedExactly
granted-by-ranges rows m k = Granted.granted-exactly m k rows

pub windows_exactly : WindowsExactly
windows_exactly = record {
  filled = Granted.no_empty_window;
  once = λ rows rows' seam ends starts m k. Granted.seam_once m k rows rows' seam ends starts;
  whole = λ r a b c l h m k. Granted.seam_whole m k r a b c l h;
}

pub acquired-only : (ns : List ℕ) (ms : List Message) → AcquiredOnly ns ms
acquired-only ns ms = record { kept = Acquired.kept ns ms; dropped = Acquired.dropped ns ms }

randomized-twice : (buffer : List ℕ) → length buffer ≤ 65536 → ((randomizer buffer).0 ≡ record { number = 0; place = 0 }) × ((randomizer (randomizer buffer).1).1 ≡ buffer)
randomized-twice buffer l =
    let e = randomizer-is buffer l in
    let again : (randomizer (randomized 0 buffer)).1 ≡ buffer = ap (λ (x : _). x.1) (randomizer-is (randomized 0 buffer) (omega (arith, Sequence.randomized-length 0 buffer))) ∙ Sequence.randomized-twice 0 buffer in
    (ap (λ (x : _). x.0) e, rw e again)

pub randomizer-exactly : RandomizerExactly
randomizer-exactly = record {
  recurrence = Sequence.recurrence;
  period = Sequence.bit-period;
  entry = Sequence.byte-entry;
  twice = randomized-twice;
  byte = λ buffer k l h. rw (randomizer-is buffer l) (rw zero-add at (Sequence.randomized-at 0 buffer k h));
}

pub burst_is : BurstExactly
burst_is = burst_exactly

pub refusals_exactly : RefusalsExactly
refusals_exactly = record {
  header = header_refused;
  recording = recording-refused;
  checked = check_refused;
  sheet = sheet-refused;
  rows = rows-refused;
  opening = burst_refused;
  drafts = draft-refused;
  released = release_refused;
  measured = measure_refused;
  copied = copy-refused;
  writer = writing-refused;
  cleaner = cleaning_refused;
}

pub table_holds : Table
table_holds = table

pub edges_hold : Edges
edges_hold = edges

-- ---- demand 3

pub same_copies : (recording recording' sheet sheet' : List ℕ) (same : released_of recording sheet ≡ released_of recording' sheet') → SameCopies recording recording' sheet sheet' same
same_copies recording recording' sheet sheet' same = record { written = same_copy recording recording' sheet sheet' same; measured = same_measurement recording recording' sheet sheet' same }

pub different_copies : DifferentCopies
different_copies recording recording' sheet sheet' buffer buffer' b b' es es' r r' l l' differ e =
    differ (same_list recording recording' sheet sheet' buffer buffer' b b' es es' r r' l l' e)

-- the packages of all entries, counted one by one and joined
entries-joined : (es : List Entry) → packages_in es ≡ length (join (map (λ (e : Entry). e.packages) es))
unfolding packages_in
entries-joined [] = refl
entries-joined (e ∷ es) = omega (arith, entries-joined es, length-append e.packages (join (map (λ (e : Entry). e.packages) es)))

pub copy-exactly : (recordingBytes sheetBytes : List ℕ) (es : List Entry) (list : released_of recordingBytes sheetBytes ≡ good es) → CopyExactly recordingBytes sheetBytes es list
unfolding measurement reported
copy-exactly recordingBytes sheetBytes es list = record {
  measured = rw (← entries-joined es) (ap reported list);
  written = λ buffer l. (
    ap (λ (a : Answer × List ℕ). a.0) (copy_is recordingBytes sheetBytes es list buffer l) ∙ sym (ap reported list),
    delivered-is recordingBytes sheetBytes es list buffer l,
  );
  read = λ b. copy-passes recordingBytes sheetBytes es b list;
  short = λ b. copy-short recordingBytes sheetBytes es b list;
}

pub measured-first : (recording sheet : List ℕ) → MeasuredFirst recording sheet
unfolding measurement copy answered
measured-first recording sheet =
    let o = released_of recording sheet in
    record { roomless = measured-roomless o (never_released ROOM (λ n l o. o) recording sheet); enough = measured-enough o; short = measured-short o }

pub sequence-counted : SequenceCounted
sequence-counted = copy_messages_snoc

pub released-exactly : (rows : List Row) → ReleasedExactly rows
released-exactly rows = record {
  messages = released-append rows;
  packages = Turns.passing-granted rows;
  entry = released-entry rows;
  silent = released-none rows;
}

pub copy-is-plain : CopyPlain
copy-is-plain = copy-plain

-- ---- two sheets in turn

pub two-sheets : TwoSheets
two-sheets r s t c d b h g rows rows' ms v w p = Turns.in_turn r b ms p s t c d h g rows rows' v w

pub row_added : RowAdded
row_added = Turns.row_added

-- ---- what a promise allows

pub one-outcome : OneOutcome
one-outcome A B told apart d a b p q = apart a b (p ∙ sym q)

-- ---- all of it

pub all_claims : Claims
all_claims = record {
  buffers = (buffers-kept, buffers-written);
  reading = (reading-exactly, refusals_exactly, options-exactly, count-exactly, package_exactly, walk_exactly);
  writing = (premises_met, round_trips, clean-exactly);
  granting = (row-exactly, granted-by-ranges, windows_exactly, acquired-only, released-exactly);
  copying = (copy-exactly, measured-first, sequence-counted, copy-is-plain, two-sheets, row_added);
  bursts = (randomizer-exactly, burst_is);
  silence = (same_copies, different_copies);
  outcomes = one-outcome;
  numbers = (table_holds, edges_hold);
}
