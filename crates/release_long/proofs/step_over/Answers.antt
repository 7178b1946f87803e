-- `release_long::step_over` takes all of a part: the quota is above its bytes.
use Rattle.std.proofs.Common.{arith}
use Rattle.release_long.proofs.Keeping.{stepped_on_lem, measured-on}
use Rattle.release_long.proofs.step_over.Goals as goal

pub returns-then-writes : goal.returns-then-writes
returns-then-writes c = stepped_on_lem c.args.part.now c.args.sheet.now c.args.out.now _ c.args.state _ c.args.writes c.if-writes.true c.requires c.step.ensures

pub returns : goal.returns
returns c =
    measured-on c.args.part.now c.args.sheet.now c.args.state _ c.args.writes c.if-writes.false (record { below = λ k. omega (arith, c.type_inv.part k) }) c.requires c.measure.ensures
