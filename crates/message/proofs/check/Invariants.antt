-- `message::check` meets its contract: in the loop the messages before `i` have passed.
use Prim.Native.Nat.{◌-◌}
use lib.ListN.{length}
use Rattle.message.proofs.Messages.{Checking}
use Rattle.message.proofs.check.Given as goal

abbrev pub invariant-loop-i : goal.invariant-loop-i
invariant-loop-i l = Checking l.s l.i l.messages l.packages

abbrev pub decreases-loop-i : goal.decreases-loop-i
decreases-loop-i l = length l.s - l.i
