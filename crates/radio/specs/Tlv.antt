-- Request A7, and Chapter 24, 24.3.2: the TLVs of types 1, 5, 6 and 10, as bytes and as records.
use Rattle.std.specs.Prelude.{ℕ, ◌+◌, ◌-◌, ◌*◌, ◌/◌, ◌%◌, ◌<◌, ◌≡◌, Bool, true, false, not, ◌&&◌, List, [], ◌∷◌, ◌++◌, leb, ltb, eqb, ℤ, pos, negsuc, length}
use Rattle.std.specs.Int.Signed.{mag}
use Rattle.rules.specs.Outcome.{Outcome, good, bad, refuse, ◌>>◌, ◌>>=◌}
use Rattle.refusal.specs.Numbers.{RADIO}
use Rattle.rules.specs.Bytes.{at, half, word, put16, put32, part}
use Rattle.radio.specs.declared.TxOp as opportunity
use Rattle.radio.specs.declared.Heartbeat as heartbeat
use Rattle.radio.specs.declared.LinkMetric as metric
use Rattle.radio.specs.declared.QueueReport as report
use Rattle.radio.specs.declared.Tlv.{Tlv}
use Rattle.radio.specs.declared.Tlv.TheVariants.{TxOp, Heartbeat, LinkMetric, QueueReport}

-- a signed byte, and back: two's complement
unfoldable pub signed : ℕ → ℤ
signed b = elim (ltb b 128) [ true ↦ pos b | false ↦ negsuc (255 - b) ]

unfoldable pub unsigned : ℤ → ℕ
unsigned (pos n) = n
unsigned (negsuc n) = 255 - n

-- the length of each type, which its second byte says
abbrev pub tlv_size : Tlv → ℕ
tlv_size (TxOp t) = 13
tlv_size (Heartbeat h) = 4
tlv_size (LinkMetric m) = 11
tlv_size (QueueReport q) = 27

-- the bytes of a TLV: type, length, fields, and reserved bits zero; a TxOp's reserved byte is 80 hex, and a queue report's version 0
unfoldable pub tlv_bytes : Tlv → List ℕ
tlv_bytes (TxOp t) = 1 ∷ 13 ∷ put16 t.frequency (0x80 ∷ put16 t.id (t.timeout ∷ put32 (t.start * 4096 + t.stop / 256) (t.stop % 256 ∷ [])))
tlv_bytes (Heartbeat h) = 5 ∷ 4 ∷ put16 h.timeout []
tlv_bytes (LinkMetric m) = 6 ∷ 11 ∷ put32 (m.seconds * 1048576 + m.micros) (put16 m.frequency (unsigned m.rssi ∷ unsigned m.cinr ∷ m.errors ∷ []))
tlv_bytes (QueueReport q) =
    10 ∷ 27 ∷ put32 (q.seconds * 16777216 + q.micros) (put32 q.mission (0 ∷ put16 q.level0 (put16 q.level1 (put16 q.level2 (put16 q.level3
    (put16 q.level4 (put16 q.level5 (put16 q.level6 (put16 q.level7 [])))))))))

-- the fields that the bytes at the start of s have, for each type; reserved bits are ignored
unfoldable pub opportunity_of : List ℕ → opportunity.TxOp
opportunity_of s = record { frequency = half s 2; id = half s 5; timeout = at s 7; start = word s 8 / 4096; stop = word s 8 % 4096 * 256 + at s 12 }

unfoldable pub heartbeat_of : List ℕ → heartbeat.Heartbeat
heartbeat_of s = record { timeout = half s 2 }

unfoldable pub metric_of : List ℕ → metric.LinkMetric
metric_of s = record {
  seconds = word s 2 / 1048576 % 64;
  micros = word s 2 % 1048576;
  frequency = half s 6;
  rssi = signed (at s 8);
  cinr = signed (at s 9);
  errors = at s 10;
}

unfoldable pub report_of : List ℕ → report.QueueReport
report_of s = record {
  seconds = word s 2 / 16777216 % 64;
  micros = word s 2 % 1048576;
  mission = word s 6;
  level0 = half s 11;
  level1 = half s 13;
  level2 = half s 15;
  level3 = half s 17;
  level4 = half s 19;
  level5 = half s 21;
  level6 = half s 23;
  level7 = half s 25;
}

-- the record of the TLV at the start of s, which stands at place p, by its type
unfoldable pub typed : ℕ → List ℕ → Outcome Tlv
typed p s = elim (eqb (at s 0) 1) [
  | true ↦ good (TxOp (opportunity_of s))
  | false ↦ elim (eqb (at s 0) 5) [
    | true ↦ good (Heartbeat (heartbeat_of s))
    | false ↦ elim (eqb (at s 0) 6) [
      | true ↦ good (LinkMetric (metric_of s))
      | false ↦ elim (eqb (at s 0) 10) [ true ↦ good (QueueReport (report_of s)) | false ↦ bad RADIO p ]
    ]
  ]
]

-- sub-second fields go to 999,999, and seconds have 6 bits
abbrev pub most_micros : ℕ
most_micros = 999999

unfoldable pub tlv_fits : Tlv → Bool
tlv_fits (TxOp t) = leb t.start most_micros && leb t.stop most_micros
tlv_fits (Heartbeat h) = true
tlv_fits (LinkMetric m) = leb m.seconds 63 && leb m.micros most_micros
tlv_fits (QueueReport q) = leb q.seconds 63 && leb q.micros most_micros

-- the bytes that are neither a field nor reserved bits
unfoldable pub fixed_bytes : Tlv → List ℕ → Bool
fixed_bytes (TxOp t) s = eqb (at s 4) 0x80
fixed_bytes (Heartbeat h) s = true
fixed_bytes (LinkMetric m) s = true
fixed_bytes (QueueReport q) s = eqb (at s 10) 0

-- the TLV t at the start of s keeps the rules: its length, that it ends inside s, its fixed bytes and its fields
unfoldable pub keeps_rules : Tlv → List ℕ → Bool
keeps_rules t s = eqb (at s 1) (tlv_size t) && leb (tlv_size t) (length s) && fixed_bytes t s && tlv_fits t

-- the TLV at the start of s, which stands at place p; and how long it is
unfoldable pub tlv : ℕ → List ℕ → Outcome (Tlv × ℕ)
tlv p s = do
  t ← typed p s
  refuse (not (keeps_rules t s)) RADIO p
  good (t, tlv_size t)

-- the own bytes of the TLV t at the start of s, with its reserved bits zero
unfoldable pub clean_tlv : Tlv → List ℕ → List ℕ
clean_tlv (TxOp t) s = part 0 13 s
clean_tlv (Heartbeat h) s = part 0 4 s
clean_tlv (LinkMetric m) s = part 0 2 s ++ (at s 2 % 4 ∷ part 3 11 s)
clean_tlv (QueueReport q) s = part 0 2 s ++ (at s 2 % 64 ∷ at s 3 % 16 ∷ part 4 27 s)

-- numbers that fit the widths of their fields: whatever a caller can hand over
abbrev pub FieldsFit : Tlv → Type 0
FieldsFit (TxOp t) = (t.frequency < 65536) × (t.id < 65536) × (t.timeout < 256)
FieldsFit (Heartbeat h) = h.timeout < 65536
FieldsFit (LinkMetric m) = (m.frequency < 65536) × (mag m.rssi < 128) × (mag m.cinr < 128) × (m.errors < 256)
FieldsFit (QueueReport q) =
    (q.mission < 4294967296) × (q.level0 < 65536) × (q.level1 < 65536) × (q.level2 < 65536) × (q.level3 < 65536)
    × (q.level4 < 65536) × (q.level5 < 65536) × (q.level6 < 65536) × (q.level7 < 65536)

-- the records that a TLV can have
pub record ValidTlv (t : Tlv) : Type 0 where
  pub fields : FieldsFit t
  pub ranges : tlv_fits t ≡ true
