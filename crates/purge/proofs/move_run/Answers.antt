-- `purge::move_run` meets its contract: the run, and zeros to whole words.
use Rattle.purge.proofs.Stores.{run_moved}
use Rattle.purge.proofs.move_run.Goals as goal

pub returns : goal.returns
returns c =
    run_moved c.args.s.now c.args.to c.args.from c.args.n c.requires.1 c.move_down.ensures c.round_up.ensures c.put_zeros.ensures
