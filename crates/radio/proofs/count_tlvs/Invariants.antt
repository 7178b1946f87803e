-- `radio::count_tlvs` meets its contract: in the loop the TLVs before index i are whole.
use Prim.Native.Nat.{◌-◌}
use lib.ListN.{length}
use Rattle.radio.proofs.Storing.{Counting}
use Rattle.radio.proofs.count_tlvs.Given as goal

abbrev pub invariant-loop-i : goal.invariant-loop-i
invariant-loop-i l = Counting l.run l.i l.n

abbrev pub decreases-loop-i : goal.decreases-loop-i
decreases-loop-i l = length l.run - l.i
