-- `sheet::put_rows` meets its contract: in the loop the rows before row i are in the table.
use native.Mathlib.Omega.{arith}
use Rattle.sheet.proofs.Table.{lay_start, lay_next, lay_end}
use Rattle.sheet.proofs.put_rows.Goals as goal

pub loop-i-init : goal.loop-i-init
loop-i-init c = lay_start _ _ c.requires

pub loop-i-preserved : goal.loop-i-preserved
loop-i-preserved c =
    let l = c.loop-i in
    rw (c.put_row.ensures, c.row_at.ensures)
    (lay_next _ _ _ _ l.invariant c.requires (record { below = λ k. (c.type_inv.s k).fits }) (omega arith))

pub returns : goal.returns
returns c = lay_end _ _ _ _ c.loop-i.invariant (omega arith)
