-- `numbered::copy_under` meets its contract: the messages refused, measured alone, no room, or the copy written.
use mathlib.Core.Path.{◌≡◌, sym, ap, subst, ◌∙◌}
use mathlib.Core.Bool.{Bool, false}
use mathlib.Core.List.{[]}
use Prim.Native.Nat.{ℕ, ◌-◌, ◌≤◌, ◌<◌}
use native.Mathlib.Omega.{arith}
use lib.ListN.{length, take}
use lib.Seq.{length-take-le}
use Rattle.rules.specs.Outcome.{good}
use Rattle.numbered.specs.declared.Progress.{Progress}
use Rattle.numbered.specs.Quota.{bad_ids}
use Rattle.sheet.specs.Table.{rows_in}
use Rattle.numbered.specs.Parts.{Single, known_of, room_of, refused_ids}
use Rattle.numbered.specs.Told.{measured, told_measure, state_of}
use Rattle.numbered.proofs.Marks.{tells_none}
use Rattle.numbered.proofs.Whole.{Asked, asked, held-most, messages-refused, measured-alone, consumed-inside, part-short, roomy, marked-part, room_missing, done, as_written}
use Rattle.refusal.proofs.Numbers.{passed_on}
use Rattle.numbered.proofs.copy_under.Goals as goal
use Rattle.numbered.proofs.copy_under.Goals.{After-measure_messages, Else-measured, In_ok-progress, Start}

asks : (s : Start) → Asked s.args.input.now [] s.args.quota s.args.ids.now s.args.next.now s.args.held s.args.out.now s.args.most s.requires.1 s.args.measured
asks s = let a = s.args in asked a.input.now [] a.quota a.ids.now a.next.now a.held a.out.now a.most s.requires.1 a.measured s.requires.0

-- the messages are measured
abbrev After : Type 0
After = After-measure_messages

told_is : (c : After) → told_measure c.measure_messages.result ≡ measured (rows_in c.args.table.now) c.args.input.now c.args.quota (take (known_of c.args.measured c.args.held) c.args.ids.now) (room_of c.args.measured c.args.most c.args.held)
told_is c =
    let a = c.args in
    c.measure_messages.ensures.0
    ∙ ap (λ (k : ℕ). measured (rows_in a.table.now) a.input.now a.quota (take k a.ids.now) c.room_of-room.result) c.known_of-known.ensures
    ∙ ap (λ (k : ℕ). measured (rows_in a.table.now) a.input.now a.quota (take (known_of a.measured a.held) a.ids.now) k) c.room_of-room.ensures

-- they pass
abbrev Fits : Type 0
Fits = In_ok-progress

abbrev size : Fits → Progress
size c = c.in_ok-progress.progress

sized : (c : Fits) → good (size c) ≡ measured (rows_in c.args.table.now) c.args.input.now c.args.quota (take (known_of c.args.measured c.args.held) c.args.ids.now) (room_of c.args.measured c.args.most c.args.held)
sized c = ap told_measure (sym c.in_ok-progress.was) ∙ told_is (goal.at.In_ok-progress c).After-measure_messages

-- and it is not measured alone
abbrev Writes : Type 0
Writes = Else-measured

held-good : (c : Writes) → bad_ids c.args.most c.args.ids.now c.args.held ≡ false
held-good c =
    let a = c.args in
    sym (ap (λ (b : Bool). refused_ids b a.most a.ids.now a.held) c.if-measured.false) ∙ c.requires.0

sized_on : (c : Writes) → good (size (goal.at.Else-measured c).In_ok-progress) ≡ measured (rows_in c.args.table.now) c.args.input.now c.args.quota (take c.args.held c.args.ids.now) (c.args.most - c.args.held)
sized_on c =
    let a = c.args in
    sized (goal.at.Else-measured c).In_ok-progress ∙ ap (λ (b : Bool). measured (rows_in a.table.now) a.input.now a.quota (take (known_of b a.held) a.ids.now) (room_of b a.most a.held)) c.if-measured.false

pub room_of-room-requires : goal.room_of-room-requires
room_of-room-requires c =
    let a = c.args in
    held-most a.input.now [] a.quota a.ids.now a.next.now a.held a.out.now a.most c.requires.1 a.measured c.requires.0

pub slice_bounds-measure_messages-end : goal.slice_bounds-measure_messages-end
slice_bounds-measure_messages-end c = omega (arith, c.known_of-known.ensures, (asks (goal.at.slice_bounds-measure_messages-end c).Start).inside)

pub slice_bounds-measure_messages-end-2 : goal.slice_bounds-measure_messages-end-2
slice_bounds-measure_messages-end-2 c = sym (length-take-le c.known_of-known.result c.args.ids.now (omega (arith, c.known_of-known.ensures, (asks (goal.at.slice_bounds-measure_messages-end-2 c).Start).inside)))

pub measure_messages-requires : goal.measure_messages-requires
measure_messages-requires c =
    let a = c.args in
    let k = asks (goal.at.measure_messages-requires c).Start in (
      subst (λ (x : ℕ). length (take x a.ids.now) ≤ 65536) (sym c.known_of-known.ensures) k.small,
      subst (λ (x : ℕ). Single (take x a.ids.now)) (sym c.known_of-known.ensures) k.single,
      subst (λ (x : ℕ). 64 < x → 1820 ≤ x) (sym c.room_of-room.ensures) k.wide,
      c.requires.2,
      tells_none 683,
    )

pub returns-then-measured : goal.returns-then-measured
returns-then-measured c =
    let a = c.args in
    record { right = λ sheetBytes valid. measured-alone a.input.now sheetBytes a.quota a.ids.now a.next.now a.held a.out.now a.most c.requires.1 (rows_in a.table.now) valid (size (goal.at.returns-then-measured c).In_ok-progress) c.if-measured.true (sized (goal.at.returns-then-measured c).In_ok-progress) }

pub returns-then-out-progress : goal.returns-then-out-progress
returns-then-out-progress c =
    let a = c.args in
    rw c.refuse.ensures (record {
      right = λ sheetBytes valid. as_written a.most a.input.now sheetBytes a.quota (state_of a.ids.now a.next.now a.held) a.out.now c.if-measured.false
          (room_missing a.input.now sheetBytes a.quota a.ids.now a.next.now a.held a.out.now a.most c.requires.1 (rows_in a.table.now) valid (size (goal.at.returns-then-out-progress c).In_ok-progress) (held-good (goal.at.returns-then-out-progress c).Else-measured) (sized_on (goal.at.returns-then-out-progress c).Else-measured) c.if-out-progress.true);
    })

pub slice_bounds-write_messages-end : goal.slice_bounds-write_messages-end
slice_bounds-write_messages-end c =
    let a = c.args in
    sym (length-take-le (size (goal.at.slice_bounds-write_messages-end c).In_ok-progress).consumed a.input.now (consumed-inside a.input.now [] a.quota a.ids.now a.next.now a.held a.out.now a.most c.requires.1 (rows_in a.table.now) (size (goal.at.slice_bounds-write_messages-end c).In_ok-progress) (held-good (goal.at.slice_bounds-write_messages-end c).Else-measured) (sized_on (goal.at.slice_bounds-write_messages-end c).Else-measured)))

pub write_messages-after-requires : goal.write_messages-after-requires
write_messages-after-requires c =
    let a = c.args in (
      part-short a.input.now [] a.quota a.ids.now a.next.now a.held a.out.now a.most c.requires.1 (rows_in a.table.now) (size (goal.at.write_messages-after-requires c).In_ok-progress) (held-good (goal.at.write_messages-after-requires c).Else-measured) (sized_on (goal.at.write_messages-after-requires c).Else-measured),
      roomy a.input.now [] a.quota a.ids.now a.next.now a.held a.out.now a.most c.requires.1 (rows_in a.table.now) (size (goal.at.write_messages-after-requires c).In_ok-progress) (held-good (goal.at.write_messages-after-requires c).Else-measured) (sized_on (goal.at.write_messages-after-requires c).Else-measured),
      marked-part a.input.now [] a.quota a.ids.now a.next.now a.held a.out.now a.most c.requires.1 (rows_in a.table.now) (size (goal.at.write_messages-after-requires c).In_ok-progress) (held-good (goal.at.write_messages-after-requires c).Else-measured) (sized_on (goal.at.write_messages-after-requires c).Else-measured) _ _ _ c.in_ok-progress.was c.measure_messages.ensures.1,
    )

pub returns-in_err-progress : goal.returns-in_err-progress
returns-in_err-progress c =
    let a = c.args in
    rw (passed_on _ _ c.from_residual.ensures.1) (record {
      right = λ sheetBytes valid. messages-refused a.input.now sheetBytes a.quota a.ids.now a.next.now a.held a.out.now a.most c.requires.1 (rows_in a.table.now) valid a.measured c.requires.0 _
          (ap told_measure (sym c.in_err-progress.was) ∙ told_is (goal.at.returns-in_err-progress c).After-measure_messages);
    })

pub returns : goal.returns
returns c =
    let a = c.args in
    record {
      right = λ sheetBytes valid. as_written a.most a.input.now sheetBytes a.quota (state_of a.ids.now a.next.now a.held) a.out.now c.if-measured.false
          (done a.input.now sheetBytes a.quota a.ids.now a.next.now a.held a.out.now a.most c.requires.1 (rows_in a.table.now) valid (size (goal.at.returns c).In_ok-progress) (held-good (goal.at.returns c).Else-measured) (sized_on (goal.at.returns c).Else-measured) c.if-out-progress.false _ _ _ _ c.write_messages-after.ensures);
    }
