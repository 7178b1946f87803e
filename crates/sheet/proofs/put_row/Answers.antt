-- `sheet::put_row` meets its contract: the seven numbers are the row's.
use Rattle.sheet.specs.Table.{table_of}
use Rattle.sheet.proofs.put_row.Goals as goal

pub returns : goal.returns
unfolding table_of
returns c = rw (c.put_numbers.ensures, c.nanos_of-2.ensures, c.nanos_of.ensures)
