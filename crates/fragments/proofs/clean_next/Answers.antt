-- `fragments::clean_next` meets its contract: the part that was lent is the package's piece.
use native.Mathlib.Omega.{arith}
use Rattle.compose.proofs.Run.{fits-inside, rest-half}
use Rattle.fragments.proofs.Stores.{cleaned-at, piece-here}
use Rattle.fragments.proofs.clean_next.Goals as goal

pub slice_bounds-clean_package-end : goal.slice_bounds-clean_package-end
slice_bounds-clean_package-end c = omega (arith, fits-inside c.args.run.now c.args.i c.requires.i_in_bounds.0 c.requires.run_value, rest-half c.args.run.now c.args.i)

pub clean_package-requires : goal.clean_package-requires
clean_package-requires c = piece-here c.args.run.now c.args.i c.requires.run_value c.half_at.ensures c.round_up.ensures

pub returns : goal.returns
returns c = cleaned-at c.args.run.now c.clean_package.new.c c.args.i c.half_at.ensures c.round_up.ensures c.clean_package.ensures
