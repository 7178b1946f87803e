-- `radio::put_metric` meets its contract: six stores.
use native.Mathlib.Omega.{arith}
use mathlib.Core.Path.{ap, ◌∙◌}
use mir.Syntax.{w8}
use mir.Facts.{to_z-of_z}
use Rattle.radio.specs.Tlv.{unsigned}
use Rattle.radio.proofs.Storing.{metric_stored}
use Rattle.radio.proofs.Tlvs.{metric_ranges}
use Rattle.radio.proofs.put_metric.Goals as goal

pub overflow_add-from : goal.overflow_add-from
overflow_add-from c = record { fits = let (x, y) = metric_ranges _ c.requires in omega (arith, c.from.ensures) }

pub returns : goal.returns
returns c =
    let m = c.args.t in
    let x = to_z-of_z {w = w8} {z = m.rssi} (record { sfits = omega arith }) in
    let y = to_z-of_z {w = w8} {z = m.cinr} (record { sfits = omega arith }) in
    metric_stored _ m c.from.ensures (c.byte_of.ensures ∙ ap unsigned x) (c.byte_of-2.ensures ∙ ap unsigned y) c.put_half.ensures c.put_word.ensures c.put_half-2.ensures c.put_byte.ensures c.put_byte-2.ensures c.put_byte-3.ensures
