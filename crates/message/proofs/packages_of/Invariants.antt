-- `message::packages_of` meets its contract: in the loop the packages before what is left are whole.
use lib.ListN.{length}
use Rattle.message.proofs.Left.{Left, gone}
use Rattle.message.proofs.Pieces.{Counting}
use Rattle.message.proofs.packages_of.Given as goal

abbrev pub invariant-loop-rest : goal.invariant-loop-rest
invariant-loop-rest l = Left l.q l.rest × Counting l.p l.q (gone l.q l.rest) l.n

abbrev pub decreases-loop-rest : goal.decreases-loop-rest
decreases-loop-rest l = length l.rest
