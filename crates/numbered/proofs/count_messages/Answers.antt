-- `numbered::count_messages` meets its contract: in the loop the totals are those of the messages before `at`, their ids are counted and their packages marked.
use borrow.Author.Rules.{rules}
use mathlib.Core.Path.{◌≡◌, ap, ◌∙◌}
use native.Mathlib.Omega.{arith}
use Rattle.message.specs.declared.Message.{Message}
use Rattle.std.specs.Prelude.{Ok}
use Rattle.message.specs.Answers.{told_message}
use Rattle.rules.specs.Reading.{message_at}
use Rattle.numbered.specs.declared.Progress.{Progress}
use Rattle.numbered.specs.declared.Size.{Size}
use Rattle.sheet.specs.Table.{rows_in}
use Rattle.numbered.specs.Parts.{Measured, judged_as}
use Rattle.refusal.proofs.Numbers.{passed_on}
use Rattle.numbered.proofs.Entries.{Spots, spots}
use Rattle.numbered.proofs.Tally.{measure_start, measure_ended, measure_full, measure_refused, fresh-once, packages-few, measure_next, large}
use Rattle.numbered.proofs.count_messages.Goals as goal
use Rattle.numbered.proofs.count_messages.Goals.{In_ok-m}

-- a message was read
abbrev Read : Type 0
Read = In_ok-m

abbrev message : Read → Message
message c = c.in_ok-m.m

abbrev size : Read → Size
size c = c.in_ok-m.size

read : (c : Read) → told_message (Ok (message c)) ≡ message_at c.args.input.now c.loop-at.at
read c = c.in_ok-m.ensures.told

-- and measured
measures : (c : Read) → Measured (rows_in c.args.table.now) c.args.input.now c.loop-at.marks c.take_message.new.marks c.loop-at.passed (message c) (size c)
measures c = c.in_ok-m.ensures.measured

places : (c : Read) → Spots c.args.input.now c.loop-at.at (message c)
places c = spots c.args.input.now c.loop-at.invariant.0 c.loop-at.at (message c) (read c)

pub returns-then-input-gt65536 : goal.returns-then-input-gt65536
returns-then-input-gt65536 c =
    let a = c.args in
    large (rows_in a.table.now) a.input.now a.quota a.known.now a.room a.fresh.now a.marks.now _ c.refuse.ensures c.if-input-gt65536.true

pub loop-at-init : goal.loop-at-init
loop-at-init c =
    let a = c.args in
    (search rules, measure_start (rows_in a.table.now) a.input.now a.quota a.known.now a.room a.fresh.now a.marks.now (search rules) c.requires.1 (search rules) c.requires.4)

pub returns-then-handled-quota : goal.returns-then-handled-quota
returns-then-handled-quota c =
    let a = c.args in
    let v = c.loop-at in
    measure_full (rows_in a.table.now) a.input.now a.quota a.known.now a.room v.invariant.0 v.totals v.handled v.fresh v.seats v.marks v.passed v.at v.invariant.1 c.requires.2 _ (c.judged.ensures ∙ ap (λ (p : Progress). judged_as p v.seats a.room) c.taken_with.ensures) c.if-handled-quota.true

pub seat-seats-requires : goal.seat-seats-requires
seat-seats-requires c =
    let a = c.args in
    let v = c.loop-at in
    (c.requires.0, c.requires.1.once _, fresh-once (rows_in a.table.now) a.input.now a.quota a.known.now a.room v.invariant.0 v.totals v.handled v.fresh v.seats v.marks v.passed v.at v.invariant.1 _)

pub overflow_add-passed : goal.overflow_add-passed
overflow_add-passed c =
    let a = c.args in
    let v = c.loop-at in
    omega (arith, v.invariant.1.passed-few, v.invariant.1.tally.inside, v.invariant.0, (places (goal.at.overflow_add-passed c).In_ok-m).within, packages-few (rows_in a.table.now) a.input.now a.quota a.known.now a.room v.invariant.0 v.totals v.handled v.fresh v.seats v.marks v.passed v.at v.invariant.1 c.loop-at-test.true c.if-handled-quota.false (message (goal.at.overflow_add-passed c).In_ok-m) (read (goal.at.overflow_add-passed c).In_ok-m) _ (size (goal.at.overflow_add-passed c).In_ok-m) (measures (goal.at.overflow_add-passed c).In_ok-m))

pub loop-at-smaller : goal.loop-at-smaller
loop-at-smaller c = omega (arith, (places (goal.at.loop-at-smaller c).In_ok-m).on, (places (goal.at.loop-at-smaller c).In_ok-m).within)

pub loop-at-preserved : goal.loop-at-preserved
loop-at-preserved c =
    let a = c.args in
    let v = c.loop-at in
    (v.invariant.0, rw c.with_entry-totals.ensures (measure_next (rows_in a.table.now) a.input.now a.quota a.known.now a.room v.invariant.0 v.totals v.handled v.fresh v.seats v.marks v.passed v.at v.invariant.1 c.loop-at-test.true c.if-handled-quota.false (message (goal.at.loop-at-preserved c).In_ok-m) (read (goal.at.loop-at-preserved c).In_ok-m) _ (size (goal.at.loop-at-preserved c).In_ok-m) (measures (goal.at.loop-at-preserved c).In_ok-m) _ _ c.seat-seats.ensures (search rules)))

pub returns-in_err-m : goal.returns-in_err-m
returns-in_err-m c =
    let a = c.args in
    let v = c.loop-at in
    measure_refused (rows_in a.table.now) a.input.now a.quota a.known.now a.room v.invariant.0 v.totals v.handled v.fresh v.seats v.marks v.passed v.at v.invariant.1 c.loop-at-test.true c.if-handled-quota.false _ _ _ (passed_on _ _ c.from_residual.ensures.1) c.in_err-m.ensures.told

pub returns : goal.returns
returns c =
    let a = c.args in
    let v = c.loop-at in
    measure_ended (rows_in a.table.now) a.input.now a.quota a.known.now a.room v.invariant.0 v.totals v.handled v.fresh v.seats v.marks v.passed v.at v.invariant.1 c.requires.2 _ (c.judged-2.ensures ∙ ap (λ (p : Progress). judged_as p v.seats a.room) c.taken_with-2.ensures) (search rules)
