-- `radio::megahertz` meets its contract: dividing the doubles gives the quotient.
use native.Mathlib.Omega.{arith}
use lib.Ieee.{of_bits}
use Rattle.radio.proofs.Quotients.{quotient_is}
use Rattle.radio.proofs.megahertz.Goals as goal

-- src/lib.rt:132:1
pub returns : goal.returns
unfolding of_bits
returns c = quotient_is _ 2 (omega arith)
