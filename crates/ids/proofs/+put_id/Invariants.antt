-- The measure of `ids::put_id` is the number.
use Rattle.ids.proofs.+put_id.Given as goal

abbrev pub decreases-put_id : goal.decreases-put_id
decreases-put_id l = l.n
