-- `numbered::see` meets its contract: in the loop the bits of the ids before this one are set.
use lib.ListN.{take}
use Rattle.numbered.specs.Parts.{Sees}
use Rattle.numbered.proofs.see.Given as goal

abbrev pub invariant-loop-id : goal.invariant-loop-id
invariant-loop-id l = Sees l.seen (take l.id-index l.ids)
