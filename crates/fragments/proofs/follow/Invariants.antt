-- `fragments::follow` meets its contract: the fragments before `i` are read, each in its place.
use Prim.Native.Nat.{◌-◌, ◌<◌}
use lib.ListN.{length}
use Rattle.message.specs.Answers.{head_of_header}
use Rattle.fragments.proofs.Gathering.{Gathering}
use Rattle.fragments.proofs.follow.Given as goal

abbrev pub invariant-loop-i : goal.invariant-loop-i
invariant-loop-i l = Gathering l.s (head_of_header l.h) l.i l.last l.q l.o l.st × (l.st.state < 4294967296)

abbrev pub decreases-loop-i : goal.decreases-loop-i
decreases-loop-i l = length l.s - l.i
