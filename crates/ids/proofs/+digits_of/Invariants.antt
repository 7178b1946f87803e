-- The measure of `ids::digits_of` is the number.
use Rattle.ids.proofs.+digits_of.Given as goal

abbrev pub decreases-digits_of : goal.decreases-digits_of
decreases-digits_of l = l.n
