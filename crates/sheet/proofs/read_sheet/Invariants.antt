-- `sheet::read_sheet` meets its contract: in the loop the rows before row i are read.
use Rattle.sheet.proofs.Reading.{Reading}
use Rattle.sheet.proofs.read_sheet.Given as goal

abbrev pub invariant-loop-i : goal.invariant-loop-i
invariant-loop-i l = Reading l.s l.rows l.i
