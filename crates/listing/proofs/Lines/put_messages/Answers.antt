-- In the loop of `listing::Lines::put_messages` each message lies in the recording.
use Rattle.std.proofs.Common.{arith, sym}
use Rattle.message.proofs.Agrees.{ordered}
use Rattle.listing.proofs.Lines.put_messages.Goals as goal

pub slice_bounds-payload-count : goal.slice_bounds-payload-count
slice_bounds-payload-count c = let w = ordered _ _ _ (sym c.in-Ok.ensures) in omega (arith, w.payload, w.next)

pub slice_bounds-payload-start : goal.slice_bounds-payload-start
slice_bounds-payload-start c = let w = ordered _ _ _ (sym c.in-Ok.ensures) in omega (arith, w.payload, w.next, w.most, w.small)

pub slice_bounds-payload-end : goal.slice_bounds-payload-end
slice_bounds-payload-end c = let w = ordered _ _ _ (sym c.in-Ok.ensures) in omega (arith, w.payload, w.next, w.most, w.small)

pub overflow_add-place : goal.overflow_add-place
overflow_add-place c = let w = ordered _ _ _ (sym c.in-Ok.ensures) in omega (arith, w.payload, w.next, w.most, w.small)

pub put_packages-requires : goal.put_packages-requires
put_packages-requires c = let w = ordered _ _ _ (sym c.in-Ok.ensures) in omega (arith, w.payload, w.next, w.most, w.small)
