-- `capture::read_capture` meets its contract: a law for each answer.
use Rattle.refusal.proofs.Numbers.{passed_on}
use Rattle.capture.proofs.Measuring.{Sized, sized, read-refused, read-no_room, few, read_done}
use borrow.Author.Rules.{rules}
use Rattle.capture.proofs.read_capture.Goals as goal
use Rattle.capture.proofs.read_capture.Goals.{In_ok-counts}

-- what was measured
known : (c : In_ok-counts) → Sized c.args.file.now c.args.port c.in_ok-counts.counts
known c = sized _ _ _ c.in_ok-counts.ensures.0

pub returns-in_err-counts : goal.returns-in_err-counts
returns-in_err-counts c = let a = c.args in rw (passed_on _ _ c.from_residual.ensures.1) (read-refused a.file.now a.port a.out.now _ _ c.in_err-counts.ensures.0)

pub returns-then-out-counts : goal.returns-then-out-counts
returns-then-out-counts c =
    let a = c.args in
    rw c.refuse.ensures (read-no_room a.file.now a.port a.out.now _ (known (goal.at.returns-then-out-counts c).In_ok-counts) (search rules))

pub store-requires : goal.store-requires
store-requires c =
    let a = c.args in
    few a.file.now a.port a.out.now _ (known (goal.at.store-requires c).In_ok-counts) _ c.in_ok-counts.ensures.1

pub returns : goal.returns
returns c =
    let a = c.args in
    read_done a.file.now a.port a.out.now _ (known (goal.at.returns c).In_ok-counts) _ c.in_ok-counts.ensures.1 _ (search rules) c.store.ensures
