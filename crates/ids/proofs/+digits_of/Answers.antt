-- `ids::digits_of` meets its contract: a number of one digit, or one digit more than a tenth of it has.
use native.Mathlib.Omega.{arith}
use Rattle.ids.proofs.Writing.{one_digit, digit_more}
use Rattle.ids.proofs.+digits_of.Goals as goal

pub returns-then-n-lt10 : goal.returns-then-n-lt10
returns-then-n-lt10 t c = (one_digit c.args.n c.if-n-lt10.true, omega arith)

pub returns-else-n-lt10 : goal.returns-else-n-lt10
returns-else-n-lt10 t c = digit_more c.args.n _ c.ranges.n.fits c.if-n-lt10.false c.digits_of.ensures.0
