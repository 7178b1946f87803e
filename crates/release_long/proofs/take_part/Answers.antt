-- `release_long::take_part` says what the step says.
use Rattle.release_long.proofs.Keeping.{stepped-onward}
use Rattle.release_long.proofs.take_part.Goals as goal

pub returns : goal.returns
returns c = stepped-onward c.args.sheet.now c.args.part.now c.args.writes _ c.step_over-stepped.result _ c.in_ok-progress.was c.step_over-stepped.ensures
