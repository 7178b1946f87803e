-- `sheet::put_rows` meets its contract: in the loop the rows before row i are in the table.
use Rattle.sheet.proofs.Table.{Laid}
use Rattle.sheet.proofs.put_rows.Given as goal

abbrev pub invariant-loop-i : goal.invariant-loop-i
invariant-loop-i l = Laid l.s l.initial.table l.table l.i
