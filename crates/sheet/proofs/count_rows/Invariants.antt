-- `sheet::count_rows` meets its contract: in the loop the rows before row i keep the rules.
use mathlib.Core.List.{List}
use Prim.Native.Nat.{◌*◌}
use Rattle.rules.specs.Sheet as rules
use Rattle.sheet.proofs.Reading.{Through}
use Rattle.sheet.proofs.count_rows.Given as goal

abbrev pub invariant-loop-i : goal.invariant-loop-i
invariant-loop-i l = (done : List rules.Row) × Through l.s done (32 * l.i)
