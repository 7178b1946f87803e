-- `radio::put_run` meets its contract: the TLVs before index i are stored, and they are i bytes.
use Prim.Native.Nat.{◌-◌}
use lib.ListN.{length}
use Rattle.radio.proofs.Storing.{Storing}
use Rattle.radio.proofs.put_run.Given as goal

abbrev pub invariant-loop-i : goal.invariant-loop-i
invariant-loop-i l = Storing l.run l.initial.out l.out l.i

abbrev pub decreases-loop-i : goal.decreases-loop-i
decreases-loop-i l = length l.run - l.i
