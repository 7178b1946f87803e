-- `hibernaxo::metric_values` meets its contract: RSSI and CINR as their bytes.
use mir.Syntax.{w8}
use mir.Facts.{to_z-of_z}
use borrow.Author.Rules.{rules}
use Rattle.hibernaxo.proofs.metric_values.Goals as goal

pub returns : goal.returns
returns c =
    let m = c.args.t in
    let x = to_z-of_z {w = w8} {z = m.rssi} (record { sfits = search rules }) in
    let y = to_z-of_z {w = w8} {z = m.cinr} (record { sfits = search rules }) in
    rw (c.byte_of-rssi.ensures, c.byte_of-cinr.ensures, x, y)
