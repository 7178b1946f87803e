-- `compose::store` meets its contract: header, options and packages, one behind the other.
use Rattle.compose.specs.Told.{draft_of}
use Rattle.compose.proofs.Whole.{whole-stored}
use Rattle.compose.proofs.store.Goals as goal

pub returns : goal.returns
returns c =
    whole-stored (draft_of c.args.r c.args.options.now c.args.packages.now) c.args.out.now c.requires.ready.fit.cuts c.round_up-front.ensures c.put_header.ensures c.put_options.ensures c.put_packages.ensures
