-- `sheet::near_rows` meets its contract: in the loop the near ones of the rows before place i are stored.
use Prim.Native.Nat.{◌-◌}
use lib.ListN.{length}
use Rattle.sheet.proofs.Table.{Gathered}
use Rattle.sheet.proofs.near_rows.Given as goal

abbrev pub invariant-loop-i : goal.invariant-loop-i
invariant-loop-i l = Gathered l.id l.m.simulated l.table l.initial.near l.near l.n l.i

abbrev pub decreases-loop-i : goal.decreases-loop-i
decreases-loop-i l = length l.table - l.i
