-- `compose::put_options` meets its contract: the run, and zeros behind it.
use Rattle.compose.proofs.Run.{options-stored}
use Rattle.compose.proofs.put_options.Goals as goal

pub returns : goal.returns
returns c =
    options-stored c.args.run.now c.args.out.now c.round_up.ensures c.put_part.ensures c.put_zeros.ensures
