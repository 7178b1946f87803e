-- `radio::share` meets its contract: dividing the doubles gives the quotient.
use native.Mathlib.Omega.{arith}
use lib.Ieee.{of_bits}
use Rattle.radio.proofs.Quotients.{quotient_is}
use Rattle.radio.proofs.share.Goals as goal

-- src/lib.rt:144:1
pub returns : goal.returns
unfolding of_bits
returns c = quotient_is _ 8 (omega arith)
