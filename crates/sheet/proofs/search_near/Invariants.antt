-- `sheet::search_near` meets its contract: in the loop the near rows before place i are asked, and none of them grants.
use Prim.Native.Nat.{◌-◌}
use mathlib.Core.Bool.{false}
use lib.ListN.{length}
use Rattle.sheet.proofs.Table.{Asked}
use Rattle.sheet.proofs.search_near.Given as goal

abbrev pub invariant-loop-i : goal.invariant-loop-i
invariant-loop-i l = Asked l.p l.t l.near false l.i

abbrev pub decreases-loop-i : goal.decreases-loop-i
decreases-loop-i l = length l.near - l.i
