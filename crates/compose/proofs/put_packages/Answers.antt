-- `compose::put_packages` meets its contract: all bytes stored, then both parts made clean.
use mathlib.Core.Path.{sym}
use lib.Seq.{length-take-le}
use Rattle.compose.proofs.Run.{halves_ready, halves-stored}
use Rattle.compose.proofs.put_packages.Goals as goal

pub slice_bounds-clean_both-end : goal.slice_bounds-clean_both-end
slice_bounds-clean_both-end c = sym (length-take-le c.args.mid c.args.run.now c.requires.halved.within)

pub clean_both-requires : goal.clean_both-requires
clean_both-requires c = let both = halves_ready c.args.run.now c.args.out.now c.args.mid c.requires.run_in_bounds.0 c.requires.halved c.put_part.ensures c.requires.run_in_bounds.1 in record { cuts = both.0; back_len_bound = both.1 }

pub returns : goal.returns
returns c =
    halves-stored c.args.run.now c.args.out.now c.args.mid c.requires.run_in_bounds.0 c.requires.halved c.put_part.ensures c.clean_both.ensures
