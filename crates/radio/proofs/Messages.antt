-- Messages: written and read again, read and written again, and shown TLV by TLV.
use Prim.Native.Nat.{ℕ, zero, suc, ◌+◌, ◌-◌, ◌*◌, ◌≤◌, ◌<◌}
use mathlib.Core.Path.{◌≡◌, refl, sym, ap, subst, ◌∙◌}
use mathlib.Core.Logic.{◌↔◌}
use mathlib.Core.Bool.{Bool, true, false, not}
use mathlib.Core.List.{List, [], ◌∷◌, ◌++◌, map}
use mathlib.Core.Option.{some}
use native.Mathlib.Nat.{add-suc, suc-add}
use native.Mathlib.Omega.{arith}
use borrow.Author.Tests.{le-ltb, lt-leb, ltb-false, eqb-true, eqb-false, eq-eqb, ne_eqb, not-false}
use lib.Arith.{lt_of_le-ne}
use lib.ListN.{length, take, drop, length-append, length-drop}
use lib.Seq.{drop-drop, sets, length-sets}
use Rattle.rules.specs.Outcome.{good, bad, refuse, ◌>>◌}
use Rattle.refusal.specs.Numbers.{RADIO}
use Rattle.rules.specs.Bytes.{Bytes, half, word, put16, put32}
use Rattle.rules.specs.Items.{items, All, all_nil, all_cons}
use Rattle.rules.proofs.Outcomes.{step, stop, pass, halt, stop_before, pass_last, after, stepped, passed, passed-last, came_after, front_of_lem, fronted, good_inj}
use Rattle.rules.proofs.Numbers.{word-put32, half-put16, half_lt, word_lt, bytes-tail, bytes_drop}
use Rattle.rules.proofs.Walk.{items-join}
use Rattle.rules.proofs.Loops.{sets-sets}
use Rattle.radio.specs.Tlv.{tlv_size, tlv_bytes, tlv_fits, tlv, FieldsFit, ValidTlv}
use Rattle.radio.specs.Radio.{Radio, head_of, checked_head, radio, tlv_at, Steps, ends, shows, run_of, radio_bytes, tlv_put, all_put, run_written, tlvs_fit, record_written, clean_piece, clean_radio, ValidRadio}
use Rattle.radio.specs.declared.Head.{Head}
use Rattle.radio.specs.declared.Tlv.{Tlv}
use Rattle.radio.specs.declared.Tlv.TheVariants.{TxOp, Heartbeat, LinkMetric, QueueReport}
use Rattle.radio.proofs.Tlvs.{size_is, tlv-written-read, tlv-kept, tlv-read-written, half-bytes, word_bytes, part-reads}

-- ---- the run of TLVs

pub least : (t : Tlv) → 4 ≤ tlv_size t
least (TxOp t) = omega arith
least (Heartbeat h) = omega arith
least (LinkMetric m) = omega arith
least (QueueReport q) = omega arith

pub run-read : (p : ℕ) {ts : List Tlv} → All ValidTlv ts → items tlv 0 p (run_of ts) ≡ good ts
run-read p v = items-join tlv tlv_bytes ValidTlv (λ t h. omega (arith, size_is t, least t)) (λ t h q b. tlv-written-read t h q b) p v

pub run-least : (ts : List Tlv) → 4 * length ts ≤ length (run_of ts)
run-least [] = omega arith
run-least (t ∷ ts) = omega (arith, length-append (tlv_bytes t) (run_of ts), size_is t, least t, run-least ts)

-- ---- written and read again

pub bytes-length : (m : Radio) → length (radio_bytes m) ≡ 10 + length (run_of m.tlvs)
unfolding radio_bytes
bytes-length m = omega arith

-- what a reading asks
pub record Asked (s : List ℕ) : Type 0 where
  pub small : length s ≤ 65536
  pub long : 10 < length s
  pub ended : 2 + half s 0 ≡ length s

pub head-passes : (s : List ℕ) → Asked s → checked_head s ≡ good tt
unfolding checked_head
head-passes s a =
    pass _ _ _ _ (le-ltb (length s) 10 (omega (arith, a.long)))
    (pass _ _ _ _ (rw (eq-eqb (2 + half s 0) (length s) a.ended))
    (pass_last _ _ _ (ne_eqb (length s) 10 (λ e. omega (arith, a.long)))))

pub head-asked : (s : List ℕ) → length s ≤ 65536 → checked_head s ≡ good tt → Asked s
unfolding checked_head
head-asked s l e =
    let (a, e) = passed _ _ _ _ e in
    let (b, e) = passed _ _ _ _ e in
    let c = passed-last _ _ _ e in
    let x : 10 ≤ length s = ltb-false (length s) 10 a in
    let y : length s ≡ 10 → ⊥ = eqb-false (length s) 10 c in
    record { small = l; long = lt_of_le-ne x (λ q. y (sym q)); ended = eqb-true _ _ (not-false _ b) }

pub radio-passes : (s : List ℕ) → Asked s → (ts : List Tlv) → items tlv 0 10 (drop 10 s) ≡ good ts → radio s ≡ good (record { head = head_of s; tlvs = ts })
unfolding radio
radio-passes s a ts e = pass _ _ _ _ (le-ltb 65536 (length s) a.small) (after _ _ (head-passes s a) (step _ _ e refl))

-- the header's numbers that stand in the bytes of a record
module _ (m : Radio) (v : ValidRadio m) where
  size-again : half (radio_bytes m) 0 ≡ 8 + length (run_of m.tlvs)
  unfolding radio_bytes half
  size-again = half-put16 (8 + length (run_of m.tlvs)) [] (let l = v.size in omega (arith, bytes-length m))

  head-again : head_of (radio_bytes m) ≡ m.head
  unfolding head_of
  head-again =
      let d : half (radio_bytes m) 2 ≡ m.head.destination = unfold radio_bytes half in half-put16 m.head.destination [] v.destination in
      let o : half (radio_bytes m) 4 ≡ m.head.source = unfold radio_bytes half in half-put16 m.head.source [] v.source in
      let q : word (radio_bytes m) 6 ≡ m.head.sequence = unfold radio_bytes word in word-put32 m.head.sequence [] v.sequence in
      rw (d, o, q)

  run-again : drop 10 (radio_bytes m) ≡ run_of m.tlvs
  unfolding radio_bytes
  run-again = refl

  pub radio-written-read : radio (radio_bytes m) ≡ good m
  radio-written-read =
      let a : Asked (radio_bytes m) = record { small = v.size; long = omega (arith, bytes-length m, run-least m.tlvs, v.some); ended = omega (arith, size-again, bytes-length m) } in
      radio-passes (radio_bytes m) a m.tlvs (rw run-again (run-read 10 v.tlvs)) ∙ rw head-again

-- ---- read and written again

-- what a reading that passed says
pub record ReadOf (s : List ℕ) (m : Radio) : Type 0 where
  pub asked : Asked s
  pub head : head_of s ≡ m.head
  pub run : items tlv 0 10 (drop 10 s) ≡ good m.tlvs

pub read_of : (s : List ℕ) (m : Radio) → radio s ≡ good m → ReadOf s m
unfolding radio
read_of s m e =
    let (a, e) = passed _ _ _ _ e in
    let (b, e) = came_after _ _ e in
    let (ts, f, g) = stepped _ _ e in
    record {
      asked = head-asked s (ltb-false _ _ a) b;
      head = ap (λ (x : Radio). x.head) (good_inj g);
      run = f ∙ ap (λ (x : Radio). good x.tlvs) (good_inj g);
    }

-- a run's TLVs, written, are as long as it is
one-longer : (p x : ℕ) (s : List ℕ) (r : Tlv × ℕ) → tlv p (x ∷ s) ≡ good r → (ts : List Tlv) → length (run_of ts) ≡ length s - (r.1 - 1) → length (run_of (r.0 ∷ ts)) ≡ suc (length s) - 0
one-longer p x s r e ts h =
    let (k, q) = tlv-kept p (x ∷ s) r.0 r.1 e in
    let l : tlv_size r.0 ≤ suc (length s) = k.whole in
    omega (arith, length-append (tlv_bytes r.0) (run_of ts), size_is r.0, q, least r.0)

pub run_long : (k p : ℕ) (s : List ℕ) {ts : List Tlv} → items tlv k p s ≡ good ts → length (run_of ts) ≡ length s - k
unfolding items
run_long k p [] {ts} e = let q : [] ≡ ts = cc in rw (← q) (omega arith)
run_long (suc k) p (x ∷ s) e = run_long k (suc p) s e ∙ omega arith
run_long zero p (x ∷ s) e =
    let (r, g, d) = stepped _ _ e in
    let (l, i, m) = fronted _ _ d in
    rw (← m) (one-longer p x s r g l (run_long (r.1 - 1) (suc p) s i))

-- its clean pieces, and the records
pub record RunOf (k p : ℕ) (s : List ℕ) (ts : List Tlv) : Type 0 where
  pub clean : items clean_piece k p s ≡ good (map tlv_bytes ts)
  pub valid : All ValidTlv ts

one_more_lem : (p x : ℕ) (s : List ℕ) → Bytes (x ∷ s) → (r : Tlv × ℕ) → tlv p (x ∷ s) ≡ good r → (ts : List Tlv) → RunOf (r.1 - 1) (suc p) s ts → RunOf 0 p (x ∷ s) (r.0 ∷ ts)
unfolding items clean_piece
one_more_lem p x s b r e ts w =
    let (c, v) = tlv-read-written (x ∷ s) b p r.0 r.1 e in
    record {
      clean = step _ _ (step _ _ e (ap (λ (z : List ℕ). good (z, r.1)) (sym c))) (front_of_lem _ _ w.clean);
      valid = all_cons v w.valid;
    }

pub run_of_lem : (k p : ℕ) (s : List ℕ) → Bytes s → {ts : List Tlv} → items tlv k p s ≡ good ts → RunOf k p s ts
unfolding items
run_of_lem k p [] b {ts} e = let q : [] ≡ ts = cc in rw (← q) (record { clean = refl; valid = all_nil })
run_of_lem (suc k) p (x ∷ s) b e = let w = run_of_lem k (suc p) s (bytes-tail b) e in record { clean = w.clean; valid = w.valid }
run_of_lem zero p (x ∷ s) b e =
    let (r, g, d) = stepped _ _ e in
    let (l, i, m) = fronted _ _ d in
    rw (← m) (one_more_lem p x s b r g l (run_of_lem (r.1 - 1) (suc p) s (bytes-tail b) i))

module _ (s : List ℕ) (b : Bytes s) (m : Radio) (e : radio s ≡ good m) where
  said : ReadOf s m
  said = read_of s m e

  of_run : RunOf 0 10 (drop 10 s) m.tlvs
  of_run = run_of_lem 0 10 (drop 10 s) (bytes_drop 10 s b) said.run

  run-size : 10 + length (run_of m.tlvs) ≡ length s
  run-size = omega (arith, run_long 0 10 (drop 10 s) said.run, length-drop 10 s, said.asked.long)

  -- the header's own bytes are those of its numbers
  own-head : (t : List ℕ) → put16 (half s 0) (put16 (half s 2) (put16 (half s 4) (put32 (word s 6) t))) ≡ take 10 s ++ t
  own-head t = rw (part-reads s 0 10 (let l = said.asked.long in omega arith), word_bytes s b 6 t, half-bytes s b, half-bytes s b, half-bytes s b)

  written-again : radio_bytes m ≡ take 10 s ++ run_of m.tlvs
  unfolding radio_bytes head_of
  written-again =
      let z : 8 + length (run_of m.tlvs) ≡ half s 0 = omega (arith, run-size, said.asked.ended) in
      let h : head_of s ≡ m.head = said.head in
      rw (← h, z) (own-head (run_of m.tlvs))

  pub radio-clean : clean_radio s ≡ good (radio_bytes m)
  unfolding clean_radio
  radio-clean =
      pass _ _ _ _ (le-ltb 65536 (length s) said.asked.small) (after _ _ (head-passes s said.asked) (step _ _ of_run.clean (rw written-again)))

  some-tlv : (ts : List Tlv) → 10 + length (run_of ts) ≡ length s → 1 ≤ length ts
  some-tlv [] h = let l = said.asked.long in absurd (omega arith)
  some-tlv (t ∷ ts) h = omega arith

  pub radio_valid : ValidRadio m
  unfolding head_of
  radio_valid =
      let h : head_of s ≡ m.head = said.head in
      record {
        destination = subst (λ (x : Head). x.destination < 65536) h (half_lt s b 2);
        source = subst (λ (x : Head). x.source < 65536) h (half_lt s b 4);
        sequence = subst (λ (x : Head). x.sequence < 4294967296) h (word_lt s b 6);
        tlvs = of_run.valid;
        some = some-tlv m.tlvs run-size;
        size = omega (arith, bytes-length m, run-size, said.asked.small);
      }

pub radio-exactly : (s t : List ℕ) → Bytes s → Bytes t → (m l : Radio) → radio s ≡ good m → radio t ≡ good l → (clean_radio s ≡ clean_radio t) ↔ (m ≡ l)
radio-exactly s t b c m l e f = (forth, back)
  where
    forth : clean_radio s ≡ clean_radio t → m ≡ l
    forth q =
        let w : radio_bytes m ≡ radio_bytes l = good_inj (sym (radio-clean s b m e) ∙ q ∙ radio-clean t c l f) in
        good_inj (sym (radio-written-read m (radio_valid s b m e)) ∙ ap radio w ∙ radio-written-read l (radio_valid t c l f))

    back : m ≡ l → clean_radio s ≡ clean_radio t
    back q = radio-clean s b m e ∙ ap (λ (x : Radio). good (radio_bytes x)) q ∙ sym (radio-clean t c l f)

-- ---- the steps

module _ (s : List ℕ) (small : length s ≤ 65536) where
  pub step-shows : (p : ℕ) → p < length s → (t : Tlv) (n : ℕ) → tlv p (drop p s) ≡ good (t, n) → tlv_at s p ≡ good (some (t, p + n))
  unfolding tlv_at
  step-shows p l t n e = pass _ _ _ _ (le-ltb 65536 (length s) small) (rw (lt-leb (length s) p l) (step _ _ e refl))

  pub inside : (p x : ℕ) (t : List ℕ) → x ∷ t ≡ drop p s → (p < length s) × (t ≡ drop (suc p) s)
  inside p x t d =
      let l : suc (length t) ≡ length (drop p s) = ap length d in
      let e : p + 1 ≡ suc p = omega arith in
      (omega (arith, length-drop p s), ap (drop 1) d ∙ rw (drop-drop 1 p s, e))

  one-shown : (p x : ℕ) (t : List ℕ) → x ∷ t ≡ drop p s → (r : Tlv × ℕ) → tlv p (x ∷ t) ≡ good r → (ts : List Tlv) → (r.1 - 1 ≤ length t → Steps s (suc p + (r.1 - 1)) ts) → Steps s (p + 0) (r.0 ∷ ts)
  one-shown p x t d r e ts w =
      let (k, q) = tlv-kept p (x ∷ t) r.0 r.1 e in
      let a : tlv_size r.0 ≤ suc (length t) = k.whole in
      let n : suc p + (r.1 - 1) ≡ p + r.1 = omega (arith, q, least r.0) in
      let z : p + 0 ≡ p = omega arith in
      rw z (shows (step-shows p (inside p x t d).0 r.0 r.1 (rw (← d) e)) (rw n at (w (omega (arith, q)))))

  pub steps : (k p : ℕ) (t : List ℕ) → t ≡ drop p s → k ≤ length t → {ts : List Tlv} → items tlv k p t ≡ good ts → Steps s (p + k) ts
  unfolding items
  steps k p [] d l {ts} e =
      let q : [] ≡ ts = cc in
      let z : 0 ≡ length (drop p s) = ap length d in
      rw (← q) (ends {p = p + k} (omega (arith, length-drop p s)))
  steps (suc k) p (x ∷ t) d l e = rw (add-suc, ← suc-add) (steps k (suc p) t (inside p x t d).1 (omega arith) e)
  steps zero p (x ∷ t) d l e =
      let (r, g, f) = stepped _ _ e in
      let (ts, i, m) = fronted _ _ f in
      rw (← m) (one-shown p x t d r g ts (λ a. steps (r.1 - 1) (suc p) t (inside p x t d).1 a i))

pub steps_show_all : (s : List ℕ) (m : Radio) → radio s ≡ good m → Steps s 10 m.tlvs
steps_show_all s m e = let w = read_of s m e in steps s w.asked.small 0 10 (drop 10 s) refl (omega arith) w.run

-- ---- the writer

-- what a run that was written says
pub record WrittenOf (h : Head) (run c : List ℕ) : Type 0 where
  pub small : 10 + length run ≤ 65536
  pub some : length run ≡ 0 → ⊥
  pub tlvs : List Tlv
  pub reads : items tlv 0 10 run ≡ good tlvs
  pub bytes : radio_bytes (record { head = h; tlvs = tlvs }) ≡ c

pub written_of : (h : Head) (run c : List ℕ) → run_written h run ≡ good c → WrittenOf h run c
unfolding run_written
written_of h run c e =
    let (a, e) = passed _ _ _ _ e in
    let (b, e) = passed _ _ _ _ e in
    let (ts, f, g) = stepped _ _ e in
    record { small = ltb-false _ _ a; some = eqb-false _ _ b; tlvs = ts; reads = f; bytes = good_inj g }

pub run_writes : (h : Head) (run : List ℕ) → 10 + length run ≤ 65536 → (length run ≡ 0 → ⊥) → (ts : List Tlv) → items tlv 0 10 run ≡ good ts → run_written h run ≡ good (radio_bytes (record { head = h; tlvs = ts }))
unfolding run_written
run_writes h run a b ts e = pass _ _ _ _ (le-ltb 65536 (10 + length run) a) (pass _ _ _ _ (ne_eqb (length run) 0 b) (step _ _ e refl))

pub parts-written : (s : List ℕ) → Bytes s → (m : Radio) → radio s ≡ good m → run_written m.head (drop 10 s) ≡ clean_radio s
parts-written s b m e =
    let w = read_of s m e in
    let l : length (drop 10 s) ≡ length s - 10 = length-drop 10 s in
    let x : 10 < length s = w.asked.long in
    let y : length s ≤ 65536 = w.asked.small in
    run_writes m.head (drop 10 s) (omega arith) (λ z. omega arith) m.tlvs w.run ∙ sym (radio-clean s b m e)

pub run-written-read : (h : Head) → h.destination < 65536 → h.source < 65536 → h.sequence < 4294967296 → (run : List ℕ) → Bytes run → (c : List ℕ)
    → run_written h run ≡ good c → (m : Radio) × (radio c ≡ good m) × (m.head ≡ h)
run-written-read h d o q run b c e =
    let w = written_of h run c e in
    let r = run_of_lem 0 10 run b w.reads in
    let m : Radio = record { head = h; tlvs = w.tlvs } in
    let z : length (run_of w.tlvs) ≡ length run = run_long 0 10 run w.reads ∙ omega arith in
    let v : ValidRadio m = record { destination = d; source = o; sequence = q; tlvs = r.valid; some = some_of w.tlvs (λ y. w.some (sym z ∙ y)); size = omega (arith, bytes-length m, w.small) } in
    (m, ap radio (sym w.bytes) ∙ radio-written-read m v, refl)
  where
    some_of : (ts : List Tlv) → (length (run_of ts) ≡ 0 → ⊥) → 1 ≤ length ts
    some_of [] n = absurd (n refl)
    some_of (t ∷ ts) n = omega arith

-- records, whose TLVs are put one behind the other
all_valid : (p : ℕ) (ts : List Tlv) → All FieldsFit ts → tlvs_fit p ts ≡ good tt → All ValidTlv ts
unfolding tlvs_fit
all_valid p [] a e = all_nil
all_valid p (t ∷ ts) (all_cons f a) e =
    let (b, e) = passed _ _ _ _ e in
    all_cons (record { fields = f; ranges = not-false _ b }) (all_valid (p + tlv_size t) ts a e)

pub records-by-run : (m : Radio) → All FieldsFit m.tlvs → (c : List ℕ) → record_written m ≡ good c → run_written m.head (run_of m.tlvs) ≡ good c
unfolding record_written
records-by-run m f c e =
    let (a, e) = passed _ _ _ _ e in
    let (b, e) = passed _ _ _ _ e in
    let (g, e) = came_after _ _ e in
    let x : length (radio_bytes m) ≤ 65536 = ltb-false _ _ a in
    let y : length m.tlvs ≡ 0 → ⊥ = eqb-false _ _ b in
    run_writes m.head (run_of m.tlvs) (omega (arith, bytes-length m)) (λ z. y (omega (arith, run-least m.tlvs))) m.tlvs (run-read 10 (all_valid 10 m.tlvs f g)) ∙ e

-- ---- records put one behind the other

put_one : (t : Tlv) (p : ℕ) (b : List ℕ) → p + tlv_size t ≤ 65536 → p + tlv_size t ≤ length b → tlv_fits t ≡ true → tlv_put t p b ≡ good (tlv_bytes t)
unfolding tlv_put
put_one t p b h l f = pass _ _ _ _ (le-ltb 65536 (p + tlv_size t) h) (pass _ _ _ _ (ap not f) (pass _ _ _ _ (le-ltb (length b) (p + tlv_size t) l) refl))

put_none : (t : Tlv) (p : ℕ) (b : List ℕ) → p + tlv_size t ≤ 65536 → tlv_fits t ≡ false → tlv_put t p b ≡ bad RADIO p
unfolding tlv_put
put_none t p b h f = pass _ _ _ _ (le-ltb 65536 (p + tlv_size t) h) (halt _ _ _ _ (ap not f))

pub all_put_lem : (p : ℕ) (ts : List Tlv) (b : List ℕ) → p + length (run_of ts) ≤ 65536 → p + length (run_of ts) ≤ length b → all_put p ts b ≡ (tlvs_fit p ts >> good (sets b p (run_of ts)))
unfolding all_put tlvs_fit
all_put_lem p [] b h l = sym (after _ _ refl refl)
all_put_lem p (t ∷ ts) b h l =
    let n : length (tlv_bytes t ++ run_of ts) ≡ tlv_size t + length (run_of ts) = length-append (tlv_bytes t) (run_of ts) ∙ ap (λ (k : ℕ). k + length (run_of ts)) (size_is t) in
    go (tlv_fits t) refl (omega arith) (omega arith)
    (all_put_lem (p + length (tlv_bytes t)) ts (sets b p (tlv_bytes t)) (omega (arith, size_is t)) (omega (arith, size_is t, length-sets b p (tlv_bytes t))))
  where
    go : (x : Bool) → tlv_fits t ≡ x → p + tlv_size t ≤ 65536 → p + tlv_size t ≤ length b
        → all_put (p + length (tlv_bytes t)) ts (sets b p (tlv_bytes t)) ≡ (tlvs_fit (p + length (tlv_bytes t)) ts >> good (sets (sets b p (tlv_bytes t)) (p + length (tlv_bytes t)) (run_of ts)))
        → all_put p (t ∷ ts) b ≡ (tlvs_fit p (t ∷ ts) >> good (sets b p (run_of (t ∷ ts))))
    go true f u v w =
        let e : (refuse (not (tlv_fits t)) RADIO p >> tlvs_fit (p + tlv_size t) ts) ≡ tlvs_fit (p + tlv_size t) ts = pass _ _ _ _ (ap not f) refl in
        step _ _ (put_one t p b u v f) w ∙ rw (sets-sets (tlv_bytes t) (run_of ts) b p, size_is t, e)
    go false f u v w = stop _ _ (put_none t p b u f) ∙ sym (stop_before _ _ (halt _ _ _ _ (ap not f)))

pub records_put : (m : Radio) (b : List ℕ) → length (radio_bytes m) ≤ 65536 → length (radio_bytes m) ≤ length b → all_put 10 m.tlvs b ≡ (tlvs_fit 10 m.tlvs >> good (sets b 10 (run_of m.tlvs)))
records_put m b h l = all_put_lem 10 m.tlvs b (omega (arith, bytes-length m)) (omega (arith, bytes-length m))
