-- `ids::digits_at` meets its contract: the n bytes that were looked at are digits, and say the value.
use Rattle.ids.proofs.Counting.{Counting}
use Rattle.ids.proofs.digits_at.Given as goal

abbrev pub invariant-loop-n : goal.invariant-loop-n
invariant-loop-n l = Counting l.s l.at l.value l.n
