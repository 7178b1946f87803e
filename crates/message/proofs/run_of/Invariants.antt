-- `message::run_of` meets its contract: in the loop the options before `i` are whole, and `seen` tells which kinds they have.
use Prim.Native.Nat.{◌-◌}
use lib.ListN.{length}
use Rattle.message.proofs.Opts.{Running}
use Rattle.message.proofs.run_of.Given as goal

abbrev pub invariant-loop-i : goal.invariant-loop-i
invariant-loop-i l = Running l.p l.o l.i l.seen

abbrev pub decreases-loop-i : goal.decreases-loop-i
decreases-loop-i l = length l.o - l.i
