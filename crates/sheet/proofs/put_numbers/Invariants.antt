-- `sheet::put_numbers` meets its contract: in the loop the first i numbers are stored.
use mathlib.Core.Path.{◌≡◌}
use lib.ListN.{take}
use lib.Seq.{sets}
use Rattle.sheet.proofs.put_numbers.Given as goal

abbrev pub invariant-loop-i : goal.invariant-loop-i
invariant-loop-i l = l.table ≡ sets l.initial.table l.at (take l.i l.values)
