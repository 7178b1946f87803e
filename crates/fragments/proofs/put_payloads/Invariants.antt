-- `fragments::put_payloads` meets its contract: the payloads before place `i` are stored.
use Prim.Native.Nat.{◌-◌}
use lib.ListN.{length}
use Rattle.fragments.proofs.Payloads.{Putting}
use Rattle.fragments.proofs.put_payloads.Given as goal

abbrev pub invariant-loop-i : goal.invariant-loop-i
invariant-loop-i l = Putting l.s l.initial.out l.out l.at l.i l.k

abbrev pub decreases-loop-i : goal.decreases-loop-i
decreases-loop-i l = length l.s - l.i
