-- `message::count_said` meets its contract: in the loop nothing is said before `i`.
use Prim.Native.Nat.{◌-◌}
use lib.ListN.{length}
use Rattle.message.proofs.Opts.{Silent}
use Rattle.message.proofs.count_said.Given as goal

abbrev pub invariant-loop-i : goal.invariant-loop-i
invariant-loop-i l = Silent l.o l.i

abbrev pub decreases-loop-i : goal.decreases-loop-i
decreases-loop-i l = length l.o - l.i
