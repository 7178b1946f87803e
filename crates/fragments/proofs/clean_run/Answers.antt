-- `fragments::clean_run` meets its contract: the packages before index i are cleaned.
use native.Mathlib.Omega.{arith}
use Rattle.fragments.proofs.Stores.{cleaning_start, cleaning_length, cleaning_fits, cleaning_less, cleaning_next, cleaning_ended}
use Rattle.fragments.proofs.clean_run.Goals as goal

pub loop-i-init : goal.loop-i-init
loop-i-init c = cleaning_start c.args.run.now

pub clean_next-i-requires : goal.clean_next-i-requires
clean_next-i-requires c = let l = c.loop-i in let k = cleaning_length c.args.run.now l.run l.i l.invariant in record { run_value = cleaning_fits c.args.run.now l.run l.i l.invariant c.requires.cuts (omega (arith, k)); i_in_bounds = (omega (arith, k, l.invariant.inside), omega (arith, k)) }

pub loop-i-smaller : goal.loop-i-smaller
loop-i-smaller c = let l = c.loop-i in let k = cleaning_length c.args.run.now l.run l.i l.invariant in cleaning_less c.args.run.now l.run l.i l.invariant c.requires.cuts (omega (arith, k)) c.clean_next-i.ensures

pub loop-i-preserved : goal.loop-i-preserved
loop-i-preserved c = let l = c.loop-i in let k = cleaning_length c.args.run.now l.run l.i l.invariant in cleaning_next c.args.run.now l.run l.i l.invariant c.requires.cuts (omega (arith, k)) c.clean_next-i.ensures

pub shape_of-run : goal.shape_of-run
shape_of-run c = cleaning_length c.args.run.now c.loop-i.run c.loop-i.i c.loop-i.invariant

pub returns : goal.returns
returns c = let k = cleaning_length c.args.run.now c.loop-i.run c.loop-i.i c.loop-i.invariant in cleaning_ended c.args.run.now c.loop-i.run c.loop-i.i c.loop-i.invariant (omega (arith, k))
