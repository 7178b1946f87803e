-- The example, by computation.
use mathlib.Core.Path.{refl}
use lib.Count.{count_trailing_zeros}
use lib.Ieee.{round, size, span, climb, units, odd}
use Rattle.rules.specs.Outcome.{refuse, ◌>>◌, ◌>>=◌, ◌∷>◌}
use Rattle.rules.specs.Items.{items}
use Rattle.rules.specs.Bytes.{half, word}
use Rattle.radio.specs.Quotient.{quotient}
use Rattle.radio.specs.Row.{link_row, level_of, rate_of}
use Rattle.radio.specs.Tlv.{tlv, typed, keeps_rules, fixed_bytes, tlv_fits, opportunity_of, heartbeat_of, metric_of, report_of, signed, unsigned, tlv_bytes, clean_tlv}
use Rattle.radio.specs.Radio.{radio, radio_bytes, checked_head, head_of, record_written, tlvs_fit, clean_radio, clean_piece}
use Rattle.radio.specs.Example.{Example}

pub worked_out : Example
unfolding radio checked_head head_of items tlv typed keeps_rules fixed_bytes tlv_fits opportunity_of heartbeat_of metric_of report_of signed unsigned half word refuse ◌>>◌ ◌>>=◌ ◌∷>◌ clean_radio clean_piece clean_tlv record_written radio_bytes tlvs_fit tlv_bytes link_row level_of rate_of quotient round size span climb units odd count_trailing_zeros
worked_out = record {
  read = refl;
  cleaned = refl;
  written = refl;
  row = refl;
  wrong_size = refl;
  wrong-reserved = refl;
  late-micros = refl;
  late_stop = refl;
  other-version = refl;
  empty = refl;
}
