-- `capture::write_capture` meets its contract: a law for each answer.
use mathlib.Core.Path.{◌≡◌}
use borrow.Author.Rules.{rules}
use Rattle.rules.specs.Outcome.{good}
use Rattle.refusal.proofs.Numbers.{passed_on}
use Rattle.message.proofs.Messages.{too_large}
use Rattle.capture.specs.Told.{weighed}
use Rattle.capture.proofs.Laying.{Checked, checked, checked-by, check_refused, weigh_refused, measured, no_room, roomy, done-with}
use Rattle.capture.proofs.write_capture.Goals as goal
use Rattle.capture.proofs.write_capture.Goals.{In-Ok}

-- all messages were weighed
weight : (c : In-Ok) → good c.in-Ok.t ≡ weighed c.args.recording.now c.args.port
weight c = c.in-Ok.ensures.right c.args.port

-- so that all pass
passes : (c : In-Ok) → Checked c.args.recording.now
passes c = checked-by _ c.args.port _ (search rules) (weight c)

pub returns-then-recording-gt65536 : goal.returns-then-recording-gt65536
returns-then-recording-gt65536 c = rw c.refuse.ensures (check_refused c.args.recording.now c.args.port c.args.out.now _ _ (too_large _ c.if-recording-gt65536.true))

pub returns-then-out-t : goal.returns-then-out-t
returns-then-out-t c =
    let k = passes (goal.at.returns-then-out-t c).In-Ok in
    rw c.refuse-then-out-t.ensures (no_room c.args.recording.now c.args.port c.args.out.now k _ (measured c.args.recording.now c.args.port c.args.out.now k _ (weight (goal.at.returns-then-out-t c).In-Ok)) (search rules))

pub lay-requires : goal.lay-requires
lay-requires c =
    let k = passes (goal.at.lay-requires c).In-Ok in
    (k.small, roomy c.args.recording.now c.args.port c.args.out.now k _ (measured c.args.recording.now c.args.port c.args.out.now k _ (weight (goal.at.lay-requires c).In-Ok)) (search rules))

pub returns-in_err-check-in-Err : goal.returns-in_err-check-in-Err
returns-in_err-check-in-Err c = rw (passed_on _ _ c.from_residual.ensures.1) (check_refused c.args.recording.now c.args.port c.args.out.now _ _ c.in_err-check-in-Err.ensures)

pub returns-in_ok-check-in-Err : goal.returns-in_ok-check-in-Err
returns-in_ok-check-in-Err c =
    let k = checked c.args.recording.now _ _ c.in_ok-check-in-Err.ensures in
    weigh_refused c.args.recording.now c.args.port c.args.out.now k _ _ (c.in-Err.ensures.right c.args.port)

pub returns-else-out-t : goal.returns-else-out-t
returns-else-out-t c =
    let k = passes (goal.at.returns-else-out-t c).In-Ok in
    done-with c.args.recording.now c.args.port c.args.out.now k _ (measured c.args.recording.now c.args.port c.args.out.now k _ (weight (goal.at.returns-else-out-t c).In-Ok)) _ (search rules) c.lay.ensures
