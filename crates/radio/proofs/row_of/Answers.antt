-- `radio::row_of` meets its contract: the four parts of a row.
use mir.Syntax.{w8}
use mir.Facts.{to_z-of_z}
use Rattle.radio.specs.Row.{link_row}
use borrow.Author.Rules.{rules}
use Rattle.radio.proofs.row_of.Goals as goal

pub returns : goal.returns
unfolding link_row
returns c =
    let m = c.args.m in
    let x = to_z-of_z {w = w8} {z = m.rssi} (record { sfits = search rules }) in
    let y = to_z-of_z {w = w8} {z = m.cinr} (record { sfits = search rules }) in
    rw (c.megahertz-frequency.ensures, c.level_of-rssi.ensures, c.level_of-cinr.ensures, c.rate_of-errors.ensures, x, y)
