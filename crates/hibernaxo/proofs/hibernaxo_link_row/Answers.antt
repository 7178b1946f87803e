-- `hibernaxo::hibernaxo_link_row` meets its contract: what each reading is, and its double.
use mir.Facts.{to_z-of_z}
use Rattle.hibernaxo.proofs.hibernaxo_link_row.Goals as goal

pub returns : goal.returns
returns c = rw (c.kind_of.ensures, c.kind_of-2.ensures, c.kind_of-3.ensures, c.value_of.ensures, c.value_of-2.ensures, c.value_of-3.ensures, c.row_of-row.ensures, to_z-of_z c.ranges.rssi, to_z-of_z c.ranges.cinr)
