-- Each claim, proved by the laws.
use Prim.Native.Nat.{ℕ}
use mathlib.Core.Path.{◌≡◌, refl, ap, sym, ◌∙◌}
use mathlib.Core.List.{List}
use native.Mathlib.Omega.{arith}
use lib.ListN.{length, take}
use lib.Seq.{take_all}
use Rattle.rules.specs.Outcome.{Outcome, good, bad}
use Rattle.rules.specs.Items.{items}
use Rattle.rules.specs.Message.{message}
use Rattle.rules.specs.Copy.{Entry}
use Rattle.rules.proofs.Outcomes.{good_inj}
use Rattle.numbered.specs.Numbering.{Running, numbers_after, numbered_messages, numbered_bytes, State, running_in}
use Rattle.numbered.specs.Quota.{delivering, Report, numbered_copy}
use Rattle.numbered.proofs.Numbers.{next-after, after-append, numbered-append, numbered_injective}
use Rattle.numbered.proofs.First.{bytes-copied, no_numbers, first_copies}
use Rattle.step.specs.Claims.{released_of_any, ReleasedAtAnyLength, StepKeeps, StepHandles, StepNotLonger, QuotaZero, NumbersTrue, SequenceCountedOn, StepDone, StateKept, QuotaRefuses, StepRefusedExactly, FirstStepCopies, MeasuredStep, RunPasses, RunCopies, RunAsOne, RunRead, FirstRunCopies, SameOutputs, DifferentOutputs, WindowCut, RefusalFinal}
use Rattle.step.proofs.Released.{at-any-length}
use Rattle.step.proofs.States.{running_low}
use Rattle.step.proofs.Steps.{done, nothing_else, unused-reported, careful_reported, handles, fits_after, taken-after}
use Rattle.step.proofs.Ids.{room-enough, none-taken}
use Rattle.step.proofs.Runs as Runs
use Rattle.step.proofs.Measured.{measured-room, measured-long}
use Rattle.step.proofs.Windows.{cut-window}
use Rattle.step.proofs.Refusals.{within-quota, refused-exactly}
use Rattle.rules.proofs.Final.{final}
use Rattle.step.specs.Table.{Table}
use Rattle.step.proofs.Table.{table}

pub released-at-any-length : (recordingBytes sheetBytes : List ℕ) → ReleasedAtAnyLength recordingBytes sheetBytes
released-at-any-length = at-any-length

pub step_keeps : StepKeeps
unfolding numbered_copy
step_keeps = record {
  unused = λ input sheet quota state buffer. unused-reported state buffer (delivering 64 input sheet quota state buffer);
  state = λ input sheet quota state buffer h. ap (λ (a : Report × State × List ℕ). a.1) (nothing_else state buffer (delivering 64 input sheet quota state buffer) h);
  buffer = λ input sheet quota state buffer. careful_reported state buffer (delivering 64 input sheet quota state buffer);
}

pub step_handles : StepHandles
step_handles input sheet quota state buffer fits e = handles input sheet quota state buffer fits (done input sheet quota state buffer e)

pub step_not_longer : StepNotLonger
step_not_longer input sheet quota state buffer fits b e = Runs.not_longer input sheet quota state buffer fits b (done input sheet quota state buffer e)

pub quota-zero : QuotaZero
quota-zero = none-taken

pub numbers_true : NumbersTrue
numbers_true state fits es x = next-after x es (running_low state fits)

pub sequence-counted-on : SequenceCountedOn
unfolding numbers_after numbered_messages
sequence-counted-on state fits before e behind = rw (numbered-append, after-append, next-after e.id before (running_low state fits))

pub step-done : StepDone
step-done = room-enough

pub state-kept : StateKept
state-kept input sheet quota state buffer fits e =
    let d = done input sheet quota state buffer e in
    (fits_after input sheet quota state buffer fits d, taken-after input sheet quota state buffer fits d)

pub quota_refuses : (input : List ℕ) (quota n p : ℕ) → QuotaRefuses input quota n p
quota_refuses = within-quota

pub step-refused-exactly : (input sheetBytes : List ℕ) (quota : ℕ) (state : State) (buffer : List ℕ) → StepRefusedExactly input sheetBytes quota state buffer
step-refused-exactly = refused-exactly

pub first-step_copies : FirstStepCopies
first-step_copies input sheet quota state buffer none above not-ids = first_copies 64 input sheet quota state buffer none above not-ids

pub measured-step : MeasuredStep
measured-step = record {
  with-room = λ input sheet quota state twin buffer fits same bytes h. measured-room input sheet quota state buffer fits bytes h twin same;
  long-buffer = λ input sheet quota state twin buffer fits same bytes l. measured-long input sheet quota state buffer fits bytes l twin same;
}

pub table_holds : Table
table_holds = table

pub run-passes : RunPasses
run-passes sheetBytes state end all joined fits run = Runs.run-passes sheetBytes fits run

pub run_copies : RunCopies
run_copies sheetBytes state end all joined fits run = Runs.run_copies sheetBytes fits run

pub run_as_one : RunAsOne
run_as_one sheetBytes state end all joined fits run quota buffer e whole =
    let h = handles all sheetBytes quota state buffer fits (done all sheetBytes quota state buffer e) in
    let list : released_of_any all sheetBytes ≡ good h.entries = ap (λ (l : List ℕ). released_of_any l sheetBytes) (sym (ap (λ (k : ℕ). take k all) whole ∙ take_all (length all) all (omega arith))) ∙ h.list in
    let r = Runs.run_copies sheetBytes fits run h.entries list in
    (r.0 ∙ sym h.copied, r.1 ∙ sym h.numbers)

pub run-read : RunRead
run-read sheetBytes state end all joined fits b run es list = Runs.run-read sheetBytes fits run es list b

pub first-run_copies : FirstRunCopies
first-run_copies sheetBytes state end all joined fits none run es list =
    (Runs.run_copies sheetBytes fits run es list).0 ∙ ap (λ (ns : List Running). numbered_bytes ns es) (no_numbers state none) ∙ bytes-copied es

pub same_outputs : SameOutputs
same_outputs sheet sheet' state end end' all all' joined joined' fits run run' same = go (released_of_any all sheet) refl
  where
    go : (o : Outcome (List Entry)) → released_of_any all sheet ≡ o → (joined ≡ joined') × (running_in end ≡ running_in end')
    go (good es) e =
        let a = Runs.run_copies sheet fits run es e in
        let b = Runs.run_copies sheet' fits run' es (sym same ∙ e) in
        (a.0 ∙ sym b.0, a.1 ∙ sym b.1)
    go (bad n p) e =
        let a = Runs.run_none sheet fits run n p e in
        let b = Runs.run_none sheet' fits run' n p (sym same ∙ e) in
        (a.0 ∙ sym b.0, a.1 ∙ sym b.1)

pub different_outputs : DifferentOutputs
different_outputs sheet sheet' state end end' all all' joined joined' fits b b' run run' es es' list list' differ same =
    let a = Runs.run-read sheet fits run es list b in
    let a' = Runs.run-read sheet' fits run' es' list' b' in
    differ (numbered_injective (running_in state) es es' (good_inj (sym a ∙ ap (items message 0 0) same ∙ a')))

pub window-cut : WindowCut
window-cut = cut-window

pub refusal_final : RefusalFinal
refusal_final = final
