-- `numbered::see` meets its contract: in the loop the bits of the ids before i are set.
use borrow.Author.Rules.{rules}
use lib.ListN.{get_or}
use Rattle.numbered.proofs.Marks.{bit_put, see_next}
use Rattle.numbered.proofs.see.Goals as goal

pub loop-id-preserved : goal.loop-id-preserved
loop-id-preserved c =
    let a = c.args in
    let v = c.loop-id in
    let e = bit_put v.seen (get_or a.ids.now v.id-index 0) c.slot_of.ensures c.put_bit.ensures in
    rw e (see_next v.seen a.ids.now v.id-index v.invariant (search rules) (search rules))
