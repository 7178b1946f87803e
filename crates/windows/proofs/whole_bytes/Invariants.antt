-- `windows::whole_bytes` meets its contract: in the loop the messages before `at` are whole by their lengths.
use Prim.Native.Nat.{◌-◌}
use lib.ListN.{length}
use Rattle.windows.proofs.Lengths.{Lengths}
use Rattle.windows.proofs.whole_bytes.Given as goal

abbrev pub invariant-loop-n : goal.invariant-loop-n
invariant-loop-n l = Lengths l.window l.at

abbrev pub decreases-loop-n : goal.decreases-loop-n
decreases-loop-n l = length l.window - l.at
