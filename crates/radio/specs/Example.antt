-- One message worked out by hand from the tables of 24.3, as bytes and as records: written and read again would hold of any layout, and this pins the one that is meant.
use Rattle.std.specs.Prelude.{ℕ, ◌≡◌, true, false, List, [], ◌∷◌, pos, negsuc}
use Rattle.std.specs.Float.{fin}
use Rattle.rules.specs.Outcome.{good, bad}
use Rattle.refusal.specs.Numbers.{RADIO}
use Rattle.radio.specs.Radio.{Radio, radio, clean_radio, record_written}
use Rattle.radio.specs.Row.{link_row}
use Rattle.radio.specs.declared.LinkMetric as metric
use Rattle.radio.specs.declared.LinkRow.{LinkRow}
use Rattle.radio.specs.declared.Reading.TheVariants.{Missing, Level, Rate}
use Rattle.radio.specs.declared.Tlv.TheVariants.{TxOp, Heartbeat, LinkMetric, QueueReport}

-- a header, and a TLV of each type; open are the length field's low byte, the TxOp's reserved byte, the low byte of its stop, the reserved bits of the two time stamps and the report's version
abbrev pub example_with : ℕ → ℕ → ℕ → ℕ → ℕ → ℕ → ℕ → List ℕ
example_with size txop stop stamp first second version =
    0x00 ∷ size ∷ 0x12 ∷ 0x34 ∷ 0x56 ∷ 0x78 ∷ 0x00 ∷ 0x00 ∷ 0x00 ∷ 0x07
    ∷ 0x01 ∷ 0x0D ∷ 0x23 ∷ 0x28 ∷ txop ∷ 0x01 ∷ 0x02 ∷ 0x05 ∷ 0x30 ∷ 0xD4 ∷ 0x0F ∷ 0x42 ∷ stop
    ∷ 0x05 ∷ 0x04 ∷ 0xFF ∷ 0xFE
    ∷ 0x06 ∷ 0x0B ∷ stamp ∷ 0xFF ∷ 0x42 ∷ 0x3F ∷ 0x23 ∷ 0x29 ∷ 0xC4 ∷ 0x80 ∷ 0x03
    ∷ 0x0A ∷ 0x1B ∷ first ∷ second ∷ 0x43 ∷ 0x45 ∷ 0x00 ∷ 0x00 ∷ 0x00 ∷ 0x11 ∷ version
    ∷ 0x00 ∷ 0x01 ∷ 0x00 ∷ 0x02 ∷ 0x00 ∷ 0x03 ∷ 0x00 ∷ 0x04 ∷ 0x00 ∷ 0x05 ∷ 0x00 ∷ 0x06 ∷ 0x00 ∷ 0x07 ∷ 0x00 ∷ 0x08 ∷ []

-- reserved bits set, and reserved bits zero
abbrev pub dirty : List ℕ
dirty = example_with 0x3F 0x80 0x3F 0xFF 0xEA 0xA1 0x00

abbrev pub clean : List ℕ
clean = example_with 0x3F 0x80 0x3F 0x03 0x2A 0x01 0x00

abbrev pub example_metric : metric.LinkMetric
example_metric = record { seconds = 63; micros = 999999; frequency = 9001; rssi = negsuc 59; cinr = negsuc 127; errors = 3 }

abbrev pub example : Radio
example = record {
  head = record { destination = 0x1234; source = 0x5678; sequence = 7 };
  tlvs =
      TxOp (record { frequency = 9000; id = 0x0102; timeout = 5; start = 200000; stop = 999999 })
      ∷ Heartbeat (record { timeout = 65534 })
      ∷ LinkMetric example_metric
      ∷ QueueReport (record { seconds = 42; micros = 82757; mission = 17; level0 = 1; level1 = 2; level2 = 3; level3 = 4; level4 = 5; level5 = 6; level6 = 7; level7 = 8 })
      ∷ [];
}

-- 9001 / 4 is 9001 · 2 ^ -2, -60 is -15 · 2 ^ 2, and 3 / 256 is 3 · 2 ^ -8
pub record Example : Type 0 where
  pub read : radio dirty ≡ good example
  pub cleaned : clean_radio dirty ≡ good clean
  pub written : record_written example ≡ good clean
  pub row : ◌≡◌ {A = LinkRow} (link_row example_metric) (record { frequency = fin false 9001 (negsuc 1); rssi = Level (fin true 15 (pos 2)); cinr = Missing; errors = Rate (fin false 3 (negsuc 7)) })
  pub wrong_size : radio (example_with 0x3E 0x80 0x3F 0x03 0x2A 0x01 0x00) ≡ bad RADIO 0
  pub wrong-reserved : radio (example_with 0x3F 0x00 0x3F 0x03 0x2A 0x01 0x00) ≡ bad RADIO 10
  pub late-micros : radio (example_with 0x3F 0x80 0x3F 0x03 0x2A 0x0F 0x00) ≡ bad RADIO 38
  pub late_stop : radio (example_with 0x3F 0x80 0x40 0x03 0x2A 0x01 0x00) ≡ bad RADIO 10
  pub other-version : radio (example_with 0x3F 0x80 0x3F 0x03 0x2A 0x01 0x01) ≡ bad RADIO 38
  pub empty : radio (0x00 ∷ 0x08 ∷ 0x12 ∷ 0x34 ∷ 0x56 ∷ 0x78 ∷ 0x00 ∷ 0x00 ∷ 0x00 ∷ 0x07 ∷ []) ≡ bad RADIO 0
