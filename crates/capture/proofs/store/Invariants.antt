-- `capture::store` meets its contract: in the loop the messages of the spots before are stored.
use Prim.Native.Nat.{◌≤◌}
use Rattle.capture.proofs.Spotting.{Storing}
use Rattle.capture.proofs.store.Given as goal

abbrev pub invariant-loop-spot : goal.invariant-loop-spot
invariant-loop-spot l = (l.n ≤ 800) × Storing l.file l.spots l.n l.initial.out l.out l.to l.spot-index
