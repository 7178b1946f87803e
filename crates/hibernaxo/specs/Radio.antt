-- What the exports for radio messages hand back, by the rules' answer, and what TLV a caller hands over.
use Rattle.std.specs.Prelude.{ℕ, zero, suc, Bool, true, false, ◌&&◌, List, [], ◌∷◌, leb, eqb, replicate, Float, Some, None}
use Rattle.std.specs.Prelude as std
use Rattle.std.proofs.Math.Option.{Option, none, some}
use Rattle.std.specs.Float.{binary64}
use Rattle.std.specs.Float.Ieee.{of_bits}
use Rattle.rules.specs.Outcome.{Outcome, good, bad}
use Rattle.rules.specs.Bytes.{at}
use Rattle.rules.specs.Buffer.{Written, unwritten}
use Rattle.refusal.specs.Numbers.{RADIO}
use Rattle.radio.specs.Tlv.{signed, unsigned}
use Rattle.radio.specs.Radio.{tlv_writer}
use Rattle.radio.specs.declared.Head.{Head}
use Rattle.radio.specs.declared.TxOp as opportunity
use Rattle.radio.specs.declared.Heartbeat as heartbeat
use Rattle.radio.specs.declared.LinkMetric as metric
use Rattle.radio.specs.declared.QueueReport as report
use Rattle.radio.specs.declared.Tlv.{Tlv}
use Rattle.radio.specs.declared.Tlv.TheVariants.{TxOp, Heartbeat, LinkMetric, QueueReport}
use Rattle.radio.specs.declared.Reading.{Reading}
use Rattle.radio.specs.declared.Reading.TheVariants.{Missing, Level, Rate}
use Rattle.radio.specs.declared.LinkRow.{LinkRow}
use Rattle.hibernaxo.specs.Told.{refused_at}

-- a message read: the header's numbers, and how many TLVs it has
abbrev pub radio_told : Outcome (Head × ℕ) → ℕ × List ℕ
radio_told (bad n p) = (n, refused_at p 4)
radio_told (good (h, tlvs)) = (0, 0 ∷ h.destination ∷ h.source ∷ h.sequence ∷ tlvs ∷ [])

-- a TLV of each type that is shown: its type, the place behind it, its fields in the order of the chapter's tables, and zeros
abbrev pub opportunity_values : opportunity.TxOp → ℕ → List ℕ
opportunity_values t next = 0 ∷ 1 ∷ next ∷ t.frequency ∷ t.id ∷ t.timeout ∷ t.start ∷ t.stop ∷ replicate 6 0

abbrev pub heartbeat_values : heartbeat.Heartbeat → ℕ → List ℕ
heartbeat_values t next = 0 ∷ 5 ∷ next ∷ t.timeout ∷ replicate 10 0

abbrev pub metric_values : metric.LinkMetric → ℕ → List ℕ
metric_values t next = 0 ∷ 6 ∷ next ∷ t.seconds ∷ t.micros ∷ t.frequency ∷ unsigned t.rssi ∷ unsigned t.cinr ∷ t.errors ∷ replicate 5 0

abbrev pub report_values : report.QueueReport → ℕ → List ℕ
report_values t next =
    0 ∷ 10 ∷ next ∷ t.seconds ∷ t.micros ∷ t.mission ∷ t.level0 ∷ t.level1 ∷ t.level2 ∷ t.level3 ∷ t.level4 ∷ t.level5 ∷ t.level6 ∷ t.level7 ∷ []

abbrev pub tlv_values : Tlv → ℕ → List ℕ
tlv_values (TxOp t) next = opportunity_values t next
tlv_values (Heartbeat t) next = heartbeat_values t next
tlv_values (LinkMetric t) next = metric_values t next
tlv_values (QueueReport t) next = report_values t next

-- a step that stands at place i: the next place is i unless a TLV is shown
abbrev pub tlv_told : ℕ → Outcome (Option (Tlv × ℕ)) → ℕ × List ℕ
tlv_told i (bad n p) = (n, p ∷ 0 ∷ i ∷ replicate 11 0)
tlv_told i (good none) = (0, 0 ∷ 0 ∷ i ∷ replicate 11 0)
tlv_told i (good (some (t, next))) = (0, tlv_values t next)

-- of k fields from number i on, none is above its bound
unfoldable pub all_within : ℕ → ℕ → List ℕ → List ℕ → Bool
all_within zero i fields bounds = true
all_within (suc k) i fields bounds = leb (at fields i) (at bounds i) && all_within k (suc i) fields bounds

-- the largest numbers of 8, 16, 32 and 64 bits; the last where a field is not looked at
abbrev pub most8 : ℕ
most8 = 255

abbrev pub most16 : ℕ
most16 = 65535

abbrev pub most32 : ℕ
most32 = 4294967295

abbrev pub any : ℕ
any = 18446744073709551615

abbrev pub opportunity_bounds : List ℕ
opportunity_bounds = most16 ∷ most16 ∷ most8 ∷ most32 ∷ most32 ∷ replicate 6 any

abbrev pub heartbeat_bounds : List ℕ
heartbeat_bounds = most16 ∷ replicate 10 any

abbrev pub metric_bounds : List ℕ
metric_bounds = most8 ∷ most32 ∷ most16 ∷ most8 ∷ most8 ∷ most8 ∷ replicate 5 any

abbrev pub report_bounds : List ℕ
report_bounds = most8 ∷ most32 ∷ most32 ∷ replicate 8 most16

-- the TLV of each type that has these fields, if each fits its bits
unfoldable pub if_within : List ℕ → List ℕ → Tlv → std.Option Tlv
if_within fields bounds t = elim (all_within 11 0 fields bounds) [ true ↦ Some t | false ↦ None ]

unfoldable pub opportunity_in : List ℕ → std.Option Tlv
opportunity_in f = if_within f opportunity_bounds (TxOp (record { frequency = at f 0; id = at f 1; timeout = at f 2; start = at f 3; stop = at f 4 }))

unfoldable pub heartbeat_in : List ℕ → std.Option Tlv
heartbeat_in f = if_within f heartbeat_bounds (Heartbeat (record { timeout = at f 0 }))

unfoldable pub metric_in : List ℕ → std.Option Tlv
metric_in f = if_within f metric_bounds (LinkMetric (record { seconds = at f 0; micros = at f 1; frequency = at f 2; rssi = signed (at f 3); cinr = signed (at f 4); errors = at f 5 }))

unfoldable pub report_in : List ℕ → std.Option Tlv
report_in f = if_within f report_bounds (QueueReport (record {
  seconds = at f 0;
  micros = at f 1;
  mission = at f 2;
  level0 = at f 3;
  level1 = at f 4;
  level2 = at f 5;
  level3 = at f 6;
  level4 = at f 7;
  level5 = at f 8;
  level6 = at f 9;
  level7 = at f 10;
}))

-- by the type's number
unfoldable pub handed : ℕ → List ℕ → std.Option Tlv
handed kind f = elim (eqb kind 1) [
  | true ↦ opportunity_in f
  | false ↦ elim (eqb kind 5) [
    | true ↦ heartbeat_in f
    | false ↦ elim (eqb kind 6) [
      | true ↦ metric_in f
      | false ↦ elim (eqb kind 10) [ true ↦ report_in f | false ↦ None ]
    ]
  ]
]

-- put at place p of a buffer; what is no TLV is refused there
unfoldable pub handed_put : std.Option Tlv → ℕ → List ℕ → Written × List ℕ
handed_put (Some t) p buffer = tlv_writer t p buffer
handed_put None p buffer = (unwritten RADIO p, buffer)

-- a link metric's row: what each reading is, and its double, 0 where it is missing
abbrev pub kind_of : Reading → ℕ
kind_of Missing = 0
kind_of (Level x) = 1
kind_of (Rate x) = 2

abbrev pub value_of : Reading → Float
value_of Missing = of_bits binary64 0
value_of (Level x) = x
value_of (Rate x) = x

abbrev pub row_told : LinkRow → List ℕ × List Float
row_told r = (kind_of r.rssi ∷ kind_of r.cinr ∷ kind_of r.errors ∷ [], r.frequency ∷ value_of r.rssi ∷ value_of r.cinr ∷ value_of r.errors ∷ [])
