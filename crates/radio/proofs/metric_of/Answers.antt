-- `radio::metric_of` meets its contract: its six fields.
use Rattle.radio.proofs.Finding.{read-signed}
use Rattle.radio.specs.Tlv.{metric_of}
use Rattle.radio.proofs.metric_of.Goals as goal

pub returns : goal.returns
unfolding metric_of
returns c = rw (c.six_bits-seconds.ensures, c.word_at-w.ensures, c.half_at-frequency.ensures, c.signed_of-rssi.ensures, c.byte_at.ensures, c.signed_of-cinr.ensures, c.byte_at-2.ensures, c.byte_at-errors.ensures, read-signed _ (c.type_inv.s 8).fits, read-signed _ (c.type_inv.s 9).fits)
