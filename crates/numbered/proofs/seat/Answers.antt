-- `numbered::seat` meets its contract: nothing is counted, or the id is known or fresh already, or it is new.
use borrow.Author.Rules.{rules}
use native.Mathlib.Omega.{arith}
use Rattle.numbered.proofs.Seating.{seated_known, seated_fresh, seated_new}
use Rattle.numbered.proofs.seat.Goals as goal
use Rattle.numbered.proofs.seat.Goals.{then-many-room, else-many-room}

pub returns-then-place_of-known : goal.returns-then-place_of-known
returns-then-place_of-known c =
    let a = c.args in
    seated_known a.known.now a.fresh.now a.seats a.room a.id a.k (omega (arith, c.if-room-many.false, c.if-room-gt64.false)) a.packages c.place_of.result c.place_of.ensures c.if-place_of-known.true

pub returns-then-place_of-many : goal.returns-then-place_of-many
returns-then-place_of-many c =
    let a = c.args in
    seated_fresh a.known.now a.fresh.now a.seats a.room a.id a.k (omega (arith, c.if-room-many.false, c.if-room-gt64.false)) a.packages c.place_of-2.result c.place_of-2.ensures c.if-place_of-many.true

pub returns : goal.returns
returns c =
    let a = c.args in
    seated_new a.known.now a.fresh.now a.seats a.room a.id a.k (omega (arith, c.if-room-many.false, c.if-room-gt64.false)) a.packages c.place_of.result c.place_of-2.result
    c.if-packages-eq0.false c.if-room-gt64.false c.if-room-many.false c.place_of.ensures (λ z. omega (arith, c.if-place_of-known.false, z)) c.place_of-2.ensures (λ z. omega (arith, c.if-place_of-many.false, z)) (search rules) _
    (search rules)
    (λ h. elim c.if-many-room.branch [ then-many-room w ↦ w.fresh-is | else-many-room w ↦ absurd (omega (arith, w.if-many-room.false, h)) ])
