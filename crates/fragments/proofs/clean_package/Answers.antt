-- `fragments::clean_package` meets its contract: the reserved byte and the padding are zero.
use mathlib.Core.Path.{refl}
use native.Mathlib.Omega.{arith}
use Rattle.fragments.proofs.Stores.{package_cleaned}
use Rattle.fragments.proofs.clean_package.Goals as goal

pub overflow_sub-n : goal.overflow_sub-n
overflow_sub-n c = omega (arith, c.half_at-l.ensures, c.requires.least, c.requires.whole)

pub returns : goal.returns
returns c = package_cleaned c.args.c.now c.requires c.half_at-l.ensures refl c.put_byte.ensures c.put_zeros.ensures
