-- `capture::store` meets its contract: in the loop the messages of the spots before are stored.
use Prim.Native.Nat.{◌<◌}
use mathlib.Core.Path.{◌≡◌}
use native.Mathlib.Omega.{arith}
use lib.ListN.{length, take}
use lib.Seq.{length-take-le}
use Rattle.std.proofs.lemmas.List.{get_or-take}
use Rattle.capture.proofs.Spotting.{storing_next}
use Rattle.capture.proofs.store.Goals as goal
use Rattle.capture.proofs.store.Goals.{At-loop-spot}

-- there are as many spots as messages
many : (c : At-loop-spot) → length (take c.args.n c.args.spots.now) ≡ c.args.n
many c = length-take-le c.args.n c.args.spots.now (omega (arith, c.requires, c.told-spots))

pub loop-spot-preserved : goal.loop-spot-preserved
loop-spot-preserved c =
    let l = c.loop-spot in
    let a = c.args in
    let h : l.spot-index < a.n = omega (arith, many (goal.at.loop-spot-preserved c).At-loop-spot, c.loop-spot-test.true) in
    let e = get_or-take a.n a.spots.now l.spot-index 0 h in
    (l.invariant.0, storing_next a.file.now a.spots.now a.n a.out.now l.out l.to l.spot-index l.invariant.1 h _ _ (rw e at c.put_noted-to.ensures))
