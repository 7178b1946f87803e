-- `sheet::read_table` meets its contract: a sheet that keeps the rules is laid out, and one that does not leaves the table.
use Rattle.std.proofs.lemmas.Result.{err_from_is_err_and}
use Rattle.sheet.proofs.Reading.{keeps}
use Rattle.sheet.proofs.Table.{left}
use Rattle.sheet.proofs.read_table.Goals as goal

pub put_rows-requires : goal.put_rows-requires
put_rows-requires c = keeps _ c.in_ok-n.ensures

pub returns-in_err-n : goal.returns-in_err-n
returns-in_err-n c =
    let p = err_from_is_err_and c.from_residual.result c.from_residual.ensures.1 in
    rw (p.1, p.2) (c.in_err-n.ensures, left _ _ c.in_err-n.ensures)
