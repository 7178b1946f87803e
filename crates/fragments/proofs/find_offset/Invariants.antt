-- `fragments::find_offset` meets its contract: the options before `i` are passed, none of them 0x86.
use Prim.Native.Nat.{◌-◌}
use lib.ListN.{length}
use Rattle.fragments.proofs.Finding.{Finding}
use Rattle.fragments.proofs.find_offset.Given as goal

abbrev pub invariant-loop-i : goal.invariant-loop-i
invariant-loop-i l = Finding l.run l.i

abbrev pub decreases-loop-i : goal.decreases-loop-i
decreases-loop-i l = length l.run - l.i
