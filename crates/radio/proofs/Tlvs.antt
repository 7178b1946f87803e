-- TLVs: each type written and read again, and read and written again.
use Prim.Native.Nat.{ℕ, zero, suc, ◌+◌, ◌-◌, ◌*◌, ◌/◌, ◌%◌, ◌≤◌, ◌<◌}
use mathlib.Core.Path.{◌≡◌, refl, sym, ap, subst, ◌∙◌}
use mathlib.Core.Bool.{Bool, true, false, ◌&&◌}
use mathlib.Core.List.{List, [], ◌∷◌, ◌++◌}
use native.Mathlib.Omega.{arith}
use borrow.Author.Tests.{lt-ltb, le-ltb, le-leb, ltb-true, ltb-false, leb-true, eqb-true, not-false}
use lib.Dec.{leb, ltb, eqb}
use lib.IntN.{ℤ, pos, negsuc}
use lib.Signed.{mag}
use lib.ListN.{length, take, drop, length-append}
use lib.Seq.{drop-cons}
use Rattle.rules.specs.Outcome.{good, bad}
use Rattle.refusal.specs.Numbers.{RADIO}
use Rattle.rules.specs.Bytes.{Bytes, at, half, word, put16, put32}
use Rattle.rules.proofs.Outcomes.{step, pass, both, stepped, passed, good_inj, good≢bad}
use Rattle.rules.proofs.Numbers.{word-put32, half-put16, half_lt, word_lt}
use Rattle.radio.specs.Tlv.{signed, unsigned, tlv_size, tlv_bytes, opportunity_of, heartbeat_of, metric_of, report_of, typed, tlv_fits, fixed_bytes, keeps_rules, tlv, clean_tlv, FieldsFit, ValidTlv}
use Rattle.radio.specs.declared.TxOp as opportunity
use Rattle.radio.specs.declared.Heartbeat as heartbeat
use Rattle.radio.specs.declared.LinkMetric as metric
use Rattle.radio.specs.declared.QueueReport as report
use Rattle.radio.specs.declared.Tlv.{Tlv}
use Rattle.radio.specs.declared.Tlv.TheVariants.{TxOp, Heartbeat, LinkMetric, QueueReport}

-- ---- signed bytes

pub signed-again : (z : ℤ) → mag z < 128 → signed (unsigned z) ≡ z
unfolding signed unsigned
signed-again (pos n) h = rw (lt-ltb n 128 h, signed)
signed-again (negsuc n) h =
    let e : 255 - (255 - n) ≡ n = omega arith in
    rw (le-ltb (255 - n) 128 (omega arith), signed, e)

-- ---- written and read again

pub size_is : (t : Tlv) → length (tlv_bytes t) ≡ tlv_size t
unfolding tlv_bytes
size_is (TxOp t) = refl
size_is (Heartbeat h) = refl
size_is (LinkMetric m) = refl
size_is (QueueReport q) = refl

-- ranges of the fields
pub txop_ranges : (t : opportunity.TxOp) → tlv_fits (TxOp t) ≡ true → (t.start ≤ 999999) × (t.stop ≤ 999999)
unfolding tlv_fits
txop_ranges t e = let (a, b) = both (leb t.start 999999) (leb t.stop 999999) e in (leb-true _ _ a, leb-true _ _ b)

pub metric_ranges : (m : metric.LinkMetric) → tlv_fits (LinkMetric m) ≡ true → (m.seconds ≤ 63) × (m.micros ≤ 999999)
unfolding tlv_fits
metric_ranges m e = let (a, b) = both (leb m.seconds 63) (leb m.micros 999999) e in (leb-true _ _ a, leb-true _ _ b)

pub report-ranges : (q : report.QueueReport) → tlv_fits (QueueReport q) ≡ true → (q.seconds ≤ 63) × (q.micros ≤ 999999)
unfolding tlv_fits
report-ranges q e = let (a, b) = both (leb q.seconds 63) (leb q.micros 999999) e in (leb-true _ _ a, leb-true _ _ b)

-- of each type the numbers that stand in its bytes, b behind them, and the record that they make
module _ (b : List ℕ) where
  module _ (t : opportunity.TxOp) (v : ValidTlv (TxOp t)) where
    abbrev s1 : List ℕ
    s1 = tlv_bytes (TxOp t) ++ b

    opportunity_holds : (half s1 2 ≡ t.frequency) × (half s1 5 ≡ t.id) × (at s1 7 ≡ t.timeout) × (word s1 8 ≡ t.start * 4096 + t.stop / 256) × (at s1 12 ≡ t.stop % 256)
    unfolding tlv_bytes half word
    opportunity_holds =
        let (x, y) = txop_ranges t v.ranges in
        (half-put16 t.frequency [] v.fields.0, half-put16 t.id [] v.fields.1, refl, word-put32 (t.start * 4096 + t.stop / 256) [] (omega arith), refl)

    opportunity_again : opportunity_of s1 ≡ t
    unfolding opportunity_of
    opportunity_again =
        let (x, y) = txop_ranges t v.ranges in
        let e : (t.start * 4096 + t.stop / 256) / 4096 ≡ t.start = omega arith in
        let f : (t.start * 4096 + t.stop / 256) % 4096 * 256 + t.stop % 256 ≡ t.stop = omega arith in
        let h = opportunity_holds in
        rw (h.0, h.1, h.2, h.3, h.4, e, f)

  heartbeat_again : (h : heartbeat.Heartbeat) → ValidTlv (Heartbeat h) → heartbeat_of (tlv_bytes (Heartbeat h) ++ b) ≡ h
  unfolding heartbeat_of tlv_bytes
  heartbeat_again h v = let e : half (tlv_bytes (Heartbeat h) ++ b) 2 ≡ h.timeout = unfold half in half-put16 h.timeout [] v.fields in rw e

  module _ (m : metric.LinkMetric) (v : ValidTlv (LinkMetric m)) where
    abbrev s6 : List ℕ
    s6 = tlv_bytes (LinkMetric m) ++ b

    metric_holds : (word s6 2 ≡ m.seconds * 1048576 + m.micros) × (half s6 6 ≡ m.frequency) × (at s6 8 ≡ unsigned m.rssi) × (at s6 9 ≡ unsigned m.cinr) × (at s6 10 ≡ m.errors)
    unfolding tlv_bytes half word
    metric_holds =
        let (x, y) = metric_ranges m v.ranges in
        (word-put32 (m.seconds * 1048576 + m.micros) [] (omega arith), half-put16 m.frequency [] v.fields.0, refl, refl, refl)

    metric_again : metric_of s6 ≡ m
    unfolding metric_of
    metric_again =
        let (x, y) = metric_ranges m v.ranges in
        let e : (m.seconds * 1048576 + m.micros) / 1048576 % 64 ≡ m.seconds = omega arith in
        let f : (m.seconds * 1048576 + m.micros) % 1048576 ≡ m.micros = omega arith in
        let h = metric_holds in
        rw (h.0, h.1, h.2, h.3, h.4, e, f, signed-again m.rssi v.fields.1, signed-again m.cinr v.fields.2)

  module _ (q : report.QueueReport) (v : ValidTlv (QueueReport q)) where
    abbrev s10 : List ℕ
    s10 = tlv_bytes (QueueReport q) ++ b

    report-holds : (word s10 2 ≡ q.seconds * 16777216 + q.micros) × (word s10 6 ≡ q.mission)
    unfolding tlv_bytes word
    report-holds =
        let (x, y) = report-ranges q v.ranges in
        (word-put32 (q.seconds * 16777216 + q.micros) [] (omega arith), word-put32 q.mission [] v.fields.0)

    levels_hold : (half s10 11 ≡ q.level0) × (half s10 13 ≡ q.level1) × (half s10 15 ≡ q.level2) × (half s10 17 ≡ q.level3)
        × (half s10 19 ≡ q.level4) × (half s10 21 ≡ q.level5) × (half s10 23 ≡ q.level6) × (half s10 25 ≡ q.level7)
    unfolding tlv_bytes half
    levels_hold =
        let f = v.fields in
        (half-put16 q.level0 [] f.1, half-put16 q.level1 [] f.2, half-put16 q.level2 [] f.3, half-put16 q.level3 [] f.4, half-put16 q.level4 [] f.5, half-put16 q.level5 [] f.6, half-put16 q.level6 [] f.7, half-put16 q.level7 [] f.8)

    report-again : report_of s10 ≡ q
    unfolding report_of
    report-again =
        let (x, y) = report-ranges q v.ranges in
        let e : (q.seconds * 16777216 + q.micros) / 16777216 % 64 ≡ q.seconds = omega arith in
        let f : (q.seconds * 16777216 + q.micros) % 1048576 ≡ q.micros = omega arith in
        let l = levels_hold in
        rw (report-holds.0, report-holds.1, l.0, l.1, l.2, l.3, l.4, l.5, l.6, l.7, e, f)

  typed-again : (t : Tlv) → ValidTlv t → (p : ℕ) → typed p (tlv_bytes t ++ b) ≡ good t
  unfolding typed tlv_bytes
  typed-again (TxOp t) v p = ap (λ (x : opportunity.TxOp). good (TxOp x)) (opportunity_again t v)
  typed-again (Heartbeat h) v p = ap (λ (x : heartbeat.Heartbeat). good (Heartbeat x)) (heartbeat_again h v)
  typed-again (LinkMetric m) v p = ap (λ (x : metric.LinkMetric). good (LinkMetric x)) (metric_again m v)
  typed-again (QueueReport q) v p = ap (λ (x : report.QueueReport). good (QueueReport x)) (report-again q v)

  keeps_fixed : (t : Tlv) → (eqb (at (tlv_bytes t ++ b) 1) (tlv_size t) ≡ true) × (fixed_bytes t (tlv_bytes t ++ b) ≡ true)
  unfolding tlv_bytes fixed_bytes
  keeps_fixed (TxOp t) = (refl, refl)
  keeps_fixed (Heartbeat h) = (refl, refl)
  keeps_fixed (LinkMetric m) = (refl, refl)
  keeps_fixed (QueueReport q) = (refl, refl)

  keeps-again : (t : Tlv) → ValidTlv t → keeps_rules t (tlv_bytes t ++ b) ≡ true
  unfolding keeps_rules
  keeps-again t v =
      let (e, f) = keeps_fixed t in
      let g : leb (tlv_size t) (length (tlv_bytes t ++ b)) ≡ true = le-leb (tlv_size t) (length (tlv_bytes t ++ b)) (omega (arith, length-append (tlv_bytes t) b, size_is t)) in
      rw (e, f, g, v.ranges)

pub tlv-written-read : (t : Tlv) → ValidTlv t → (p : ℕ) (b : List ℕ) → tlv p (tlv_bytes t ++ b) ≡ good (t, length (tlv_bytes t))
unfolding tlv
tlv-written-read t v p b = step _ _ (typed-again b t v p) (pass _ _ _ _ (rw (keeps-again b t v)) (rw (size_is t)))

-- ---- read and written again

pub unsigned-again : (b : ℕ) → b < 256 → unsigned (signed b) ≡ b
unfolding signed unsigned
unsigned-again b h = go (ltb b 128) refl
  where
    go : (x : Bool) → ltb b 128 ≡ x → unsigned (signed b) ≡ b
    go true e = rw (e, signed)
    go false e = rw (e, signed) (omega arith)

pub signed-fits : (b : ℕ) → b < 256 → mag (signed b) < 128
unfolding signed
signed-fits b h = go (ltb b 128) refl
  where
    go : (x : Bool) → ltb b 128 ≡ x → mag (signed b) < 128
    go true e = rw (e, signed) (ltb-true b 128 e)
    go false e = rw (e, signed) (let l = ltb-false b 128 e in omega arith)

-- the bytes of a list from index k on, by their indices
abbrev pub reads : ℕ → ℕ → List ℕ → List ℕ
reads k zero s = []
reads k (suc n) s = at s k ∷ reads (suc k) n s

-- four bytes, and the numbers that stand in a list
four : (a b c d : ℕ) (t : List ℕ) → a < 256 → b < 256 → c < 256 → d < 256 → put32 (a * 16777216 + b * 65536 + c * 256 + d) t ≡ a ∷ b ∷ c ∷ d ∷ t
four a b c d t ha hb hc hd =
    let x = a * 16777216 + b * 65536 + c * 256 + d in
    let e3 : x / 16777216 % 256 ≡ a = omega arith in
    let f2 : x / 65536 ≡ a * 256 + b = omega arith in
    let e2 : x / 65536 % 256 ≡ b = omega arith in
    let f1 : x / 256 ≡ a * 65536 + b * 256 + c = omega arith in
    let e1 : x / 256 % 256 ≡ c = omega arith in
    let e0 : x % 256 ≡ d = omega arith in
    rw (e3, e2, e1, e0)

module _ (s : List ℕ) (h : Bytes s) where
  pub word_bytes : (k : ℕ) (t : List ℕ) → put32 (word s k) t ≡ at s k ∷ at s (k + 1) ∷ at s (k + 2) ∷ at s (k + 3) ∷ t
  unfolding word
  word_bytes k t = four (at s k) (at s (k + 1)) (at s (k + 2)) (at s (k + 3)) t (h.below k) (h.below (k + 1)) (h.below (k + 2)) (h.below (k + 3))

  pub half-bytes : (k : ℕ) (t : List ℕ) → put16 (half s k) t ≡ at s k ∷ at s (k + 1) ∷ t
  unfolding half
  half-bytes k t =
      let e : (at s k * 256 + at s (k + 1)) / 256 % 256 ≡ at s k = omega (arith, h.below k, h.below (k + 1)) in
      let f : (at s k * 256 + at s (k + 1)) % 256 ≡ at s (k + 1) = omega (arith, h.below (k + 1)) in
      rw (e, f)

  opportunity_bytes : at s 0 ≡ 1 → at s 1 ≡ 13 → at s 4 ≡ 128 → tlv_bytes (TxOp (opportunity_of s)) ≡ reads 0 13 s
  unfolding tlv_bytes opportunity_of
  opportunity_bytes e0 e1 e4 =
      let f : (word s 8 % 4096 * 256 + at s 12) / 256 ≡ word s 8 % 4096 = omega (arith, h.below 12) in
      let g : (word s 8 % 4096 * 256 + at s 12) % 256 ≡ at s 12 = omega (arith, h.below 12) in
      let i : word s 8 / 4096 * 4096 + word s 8 % 4096 ≡ word s 8 = omega arith in
      rw (f, g, i, word_bytes 8 (at s 12 ∷ []), half-bytes, half-bytes, e0, e1, e4)

  heartbeat_bytes : at s 0 ≡ 5 → at s 1 ≡ 4 → tlv_bytes (Heartbeat (heartbeat_of s)) ≡ reads 0 4 s
  unfolding tlv_bytes heartbeat_of
  heartbeat_bytes e0 e1 = rw (half-bytes 2 [], e0, e1)

  -- the time stamps, without their reserved bits
  metric_stamp : word s 2 / 1048576 % 64 * 1048576 + word s 2 % 1048576 ≡ at s 2 % 4 * 16777216 + at s 3 * 65536 + at s 4 * 256 + at s 5
  unfolding word
  metric_stamp =
      let a : (at s 2 * 16777216 + at s 3 * 65536 + at s 4 * 256 + at s 5) / 1048576 ≡ at s 2 * 16 + at s 3 / 16 = omega (arith, h.below 3, h.below 4, h.below 5) in
      let b : (at s 2 * 16 + at s 3 / 16) % 64 ≡ at s 2 % 4 * 16 + at s 3 / 16 = omega (arith, h.below 3) in
      let c : (at s 2 * 16777216 + at s 3 * 65536 + at s 4 * 256 + at s 5) % 1048576 ≡ at s 3 % 16 * 65536 + at s 4 * 256 + at s 5 = omega (arith, h.below 3, h.below 4, h.below 5) in
      rw (a, b, c) (omega arith)

  report_stamp : word s 2 / 16777216 % 64 * 16777216 + word s 2 % 1048576 ≡ at s 2 % 64 * 16777216 + at s 3 % 16 * 65536 + at s 4 * 256 + at s 5
  unfolding word
  report_stamp =
      let a : (at s 2 * 16777216 + at s 3 * 65536 + at s 4 * 256 + at s 5) / 16777216 ≡ at s 2 = omega (arith, h.below 3, h.below 4, h.below 5) in
      let c : (at s 2 * 16777216 + at s 3 * 65536 + at s 4 * 256 + at s 5) % 1048576 ≡ at s 3 % 16 * 65536 + at s 4 * 256 + at s 5 = omega (arith, h.below 3, h.below 4, h.below 5) in
      rw (a, c) (omega arith)

  metric_bytes : at s 0 ≡ 6 → at s 1 ≡ 11 → tlv_bytes (LinkMetric (metric_of s)) ≡ reads 0 2 s ++ (at s 2 % 4 ∷ reads 3 8 s)
  unfolding tlv_bytes metric_of
  metric_bytes e0 e1 =
      let t = put16 (half s 6) (at s 8 ∷ at s 9 ∷ at s 10 ∷ []) in
      rw (metric_stamp, unsigned-again (at s 8) (h.below 8), unsigned-again (at s 9) (h.below 9), four (at s 2 % 4) (at s 3) (at s 4) (at s 5) t (omega arith) (h.below 3) (h.below 4) (h.below 5), half-bytes 6 (at s 8 ∷ at s 9 ∷ at s 10 ∷ []), e0, e1)

  report-bytes : at s 0 ≡ 10 → at s 1 ≡ 27 → at s 10 ≡ 0 → tlv_bytes (QueueReport (report_of s)) ≡ reads 0 2 s ++ (at s 2 % 64 ∷ at s 3 % 16 ∷ reads 4 23 s)
  unfolding tlv_bytes report_of
  report-bytes e0 e1 e10 =
      let l = reads 11 16 s in
      let r : put16 (half s 11) (put16 (half s 13) (put16 (half s 15) (put16 (half s 17) (put16 (half s 19) (put16 (half s 21) (put16 (half s 23) (put16 (half s 25) []))))))) ≡ l = rw (half-bytes, half-bytes, half-bytes, half-bytes, half-bytes, half-bytes, half-bytes, half-bytes) in
      rw (r, report_stamp, word_bytes 6 (0 ∷ l), four (at s 2 % 64) (at s 3 % 16) (at s 4) (at s 5) (at s 6 ∷ at s 7 ∷ at s 8 ∷ at s 9 ∷ 0 ∷ l) (omega arith) (omega arith) (h.below 4) (h.below 5), e0, e1, e10)

-- the parts of a list, by their indices
pub part-reads : (s : List ℕ) (k n : ℕ) → k + n ≤ length s → take n (drop k s) ≡ reads k n s
part-reads s k zero l = refl
part-reads s k (suc n) l = rw (drop-cons s k 0 (omega arith), part-reads s (suc k) n (omega arith))

-- which type a TLV has, by its first byte
pub data Typed (s : List ℕ) : Tlv → Type 0 where
  one : at s 0 ≡ 1 → Typed s (TxOp (opportunity_of s))
  five : at s 0 ≡ 5 → Typed s (Heartbeat (heartbeat_of s))
  six : at s 0 ≡ 6 → Typed s (LinkMetric (metric_of s))
  ten : at s 0 ≡ 10 → Typed s (QueueReport (report_of s))

module _ (p : ℕ) (s : List ℕ) {t : Tlv} where
  is_ten : (b : Bool) → eqb (at s 0) 10 ≡ b → elim b [ true ↦ good (QueueReport (report_of s)) | false ↦ bad RADIO p ] ≡ good t → Typed s t
  is_ten true a e = subst (Typed s) (good_inj e) (ten (eqb-true _ _ a))
  is_ten false a e = absurd (good≢bad e)

  is-six : (b : Bool) → eqb (at s 0) 6 ≡ b → elim b [ true ↦ good (LinkMetric (metric_of s)) | false ↦ elim (eqb (at s 0) 10) [ true ↦ good (QueueReport (report_of s)) | false ↦ bad RADIO p ] ] ≡ good t → Typed s t
  is-six true a e = subst (Typed s) (good_inj e) (six (eqb-true _ _ a))
  is-six false a e = is_ten (eqb (at s 0) 10) refl e

  is_five : (b : Bool) → eqb (at s 0) 5 ≡ b
      → elim b [ true ↦ good (Heartbeat (heartbeat_of s)) | false ↦ elim (eqb (at s 0) 6) [ true ↦ good (LinkMetric (metric_of s)) | false ↦ elim (eqb (at s 0) 10) [ true ↦ good (QueueReport (report_of s)) | false ↦ bad RADIO p ] ] ] ≡ good t
      → Typed s t
  is_five true a e = subst (Typed s) (good_inj e) (five (eqb-true _ _ a))
  is_five false a e = is-six (eqb (at s 0) 6) refl e

  is_one : (b : Bool) → eqb (at s 0) 1 ≡ b
      → elim b [
        | true ↦ good (TxOp (opportunity_of s))
        | false ↦ elim (eqb (at s 0) 5) [ true ↦ good (Heartbeat (heartbeat_of s)) | false ↦ elim (eqb (at s 0) 6) [ true ↦ good (LinkMetric (metric_of s)) | false ↦ elim (eqb (at s 0) 10) [ true ↦ good (QueueReport (report_of s)) | false ↦ bad RADIO p ] ] ]
      ] ≡ good t
      → Typed s t
  is_one true a e = subst (Typed s) (good_inj e) (one (eqb-true _ _ a))
  is_one false a e = is_five (eqb (at s 0) 5) refl e

  pub typed-is : typed p s ≡ good t → Typed s t
  unfolding typed
  typed-is e = is_one (eqb (at s 0) 1) refl e

-- what a TLV that was read says
pub record Kept (s : List ℕ) (t : Tlv) : Type 0 where
  pub which : Typed s t
  pub size : at s 1 ≡ tlv_size t
  pub whole : tlv_size t ≤ length s
  pub fixed : fixed_bytes t s ≡ true
  pub ranges : tlv_fits t ≡ true

pub keeping : (t : Tlv) (s : List ℕ) → Typed s t → keeps_rules t s ≡ true → Kept s t
unfolding keeps_rules
keeping t s w e =
    let (a, r) = both (eqb (at s 1) (tlv_size t) && leb (tlv_size t) (length s) && fixed_bytes t s) (tlv_fits t) e in
    let (b, f) = both (eqb (at s 1) (tlv_size t) && leb (tlv_size t) (length s)) (fixed_bytes t s) a in
    let (c, d) = both (eqb (at s 1) (tlv_size t)) (leb (tlv_size t) (length s)) b in
    record { which = w; size = eqb-true _ _ c; whole = leb-true _ _ d; fixed = f; ranges = r }

pub tlv-kept : (p : ℕ) (s : List ℕ) (t : Tlv) (n : ℕ) → tlv p s ≡ good (t, n) → Kept s t × (n ≡ tlv_size t)
unfolding tlv
tlv-kept p s t n e =
    let (u, g, f) = stepped _ _ e in
    let (k, q) = passed _ _ _ _ f in
    let i : u ≡ t = ap (λ (r : Tlv × ℕ). r.0) (good_inj q) in
    let j : tlv_size u ≡ n = ap (λ (r : Tlv × ℕ). r.1) (good_inj q) in
    (subst (Kept s) i (keeping u s (typed-is p s g) (not-false _ k)), sym (rw i at j))

module _ (s : List ℕ) (h : Bytes s) where
  kept-clean : (t : Tlv) → Typed s t → Kept s t → tlv_bytes t ≡ clean_tlv t s
  unfolding clean_tlv fixed_bytes
  kept-clean t (one e) k = opportunity_bytes s h e k.size (eqb-true _ _ k.fixed) ∙ sym (part-reads s 0 13 k.whole)
  kept-clean t (five e) k = heartbeat_bytes s h e k.size ∙ sym (part-reads s 0 4 k.whole)
  kept-clean t (six e) k =
      let l : 11 ≤ length s = k.whole in
      metric_bytes s h e k.size ∙ rw (part-reads s 0 2 (omega arith), part-reads s 3 8 (omega arith))
  kept-clean t (ten e) k =
      let l : 27 ≤ length s = k.whole in
      report-bytes s h e k.size (eqb-true _ _ k.fixed) ∙ rw (part-reads s 0 2 (omega arith), part-reads s 4 23 (omega arith))

  kept-fields : (t : Tlv) → Typed s t → FieldsFit t
  unfolding opportunity_of heartbeat_of metric_of report_of
  kept-fields t (one e) = (half_lt s h 2, half_lt s h 5, h.below 7)
  kept-fields t (five e) = half_lt s h 2
  kept-fields t (six e) = (half_lt s h 6, signed-fits (at s 8) (h.below 8), signed-fits (at s 9) (h.below 9), h.below 10)
  kept-fields t (ten e) = (word_lt s h 6, half_lt s h 11, half_lt s h 13, half_lt s h 15, half_lt s h 17, half_lt s h 19, half_lt s h 21, half_lt s h 23, half_lt s h 25)

  pub tlv-read-written : (p : ℕ) (t : Tlv) (n : ℕ) → tlv p s ≡ good (t, n) → (tlv_bytes t ≡ clean_tlv t s) × ValidTlv t
  tlv-read-written p t n e =
      let (k, q) = tlv-kept p s t n e in
      (kept-clean t k.which k, record { fields = kept-fields t k.which; ranges = k.ranges })
