-- What the code that writes stores, and the loops over a run of TLVs: laws over plain numbers and lists.
use Prim.Native.Nat.{ℕ, ◌+◌, ◌-◌, ◌*◌, ◌/◌, ◌%◌, ◌≤◌, ◌<◌}
use mathlib.Core.Path.{◌≡◌, refl, sym, ap, subst, ◌∙◌}
use mathlib.Core.Bool.{true, false, not}
use mathlib.Core.List.{List, [], ◌∷◌, ◌++◌, append-nil, append_assoc}
use native.Mathlib.Nat.{add_assoc, zero-add}
use native.Mathlib.Omega.{arith}
use borrow.Author.Tests.{eq-eqb, ne_eqb, le-ltb, lt-ltb}
use borrow.Rule.Slice.PartMut.{put_mid}
use lib.ListN.{length, take, drop, length-drop, length-append}
use lib.Seq.{sets, length-sets}
use Rattle.rules.specs.Outcome.{Outcome, good, bad, LARGE, ROOM}
use Rattle.refusal.specs.Numbers.{RADIO}
use Rattle.rules.specs.Bytes.{half, put16, put32}
use Rattle.rules.specs.Buffer.{stored, fitted}
use Rattle.rules.proofs.Outcomes.{pass, halt, halt_last, step, stop, after, stop_before, pass_last, stepped, good_inj, good≢bad, refused-only}
use Rattle.rules.proofs.Loops.{rest, Passing, passing-start, passing-next, passing-end, passing-bad, sets-sets}
use Rattle.compose.proofs.Stores.{sets-part}
use Rattle.compose.proofs.Answered.{answer}
use Rattle.radio.specs.Tlv.{unsigned, tlv_size, tlv_bytes, tlv_fits, tlv}
use Rattle.radio.specs.Radio.{head_of, checked_head, radio, radio_read, run_of, head_bytes, radio_bytes, tlv_put, stored_at, tlv_writer, run_written, radio_writer}
use Rattle.radio.specs.Told.{tlv_count, Here, Moved, Checked, run_outcome, report_front, four_levels}
use Rattle.radio.specs.declared.Head.{Head}
use Rattle.radio.specs.declared.TxOp as opportunity
use Rattle.radio.specs.declared.Heartbeat as heartbeat
use Rattle.radio.specs.declared.LinkMetric as metric
use Rattle.radio.specs.declared.QueueReport as report
use Rattle.radio.specs.declared.Tlv.{Tlv}
use Rattle.radio.specs.declared.Tlv.TheVariants.{TxOp, Heartbeat, LinkMetric, QueueReport}
use Rattle.radio.proofs.Tlvs.{size_is, tlv-kept}
use Rattle.radio.proofs.Messages.{least, run_long, run_writes}

-- ---- one TLV, by its stores

pub opportunity_stored : (b : List ℕ) (t : opportunity.TxOp) {b₁ b₂ b₃ b₄ b₅ b₆ b₇ : List ℕ} {l : ℕ} → l ≡ t.stop % 256
    → b₁ ≡ sets b 0 (put16 269 []) → b₂ ≡ sets b₁ 2 (put16 t.frequency []) → b₃ ≡ sets b₂ 4 (128 ∷ []) → b₄ ≡ sets b₃ 5 (put16 t.id [])
    → b₅ ≡ sets b₄ 7 (t.timeout ∷ []) → b₆ ≡ sets b₅ 8 (put32 (t.start * 4096 + t.stop / 256) []) → b₇ ≡ sets b₆ 12 (l ∷ [])
    → b₇ ≡ sets b 0 (tlv_bytes (TxOp t))
unfolding tlv_bytes
opportunity_stored b t e a₁ a₂ a₃ a₄ a₅ a₆ a₇ = a₇ ∙ rw (a₆, a₅, a₄, a₃, a₂, a₁, e)

pub heartbeat_stored : (b : List ℕ) (h : heartbeat.Heartbeat) {b₁ b₂ : List ℕ} → b₁ ≡ sets b 0 (put16 1284 []) → b₂ ≡ sets b₁ 2 (put16 h.timeout []) → b₂ ≡ sets b 0 (tlv_bytes (Heartbeat h))
unfolding tlv_bytes
heartbeat_stored b h a₁ a₂ = a₂ ∙ rw a₁

pub metric_stored : (b : List ℕ) (m : metric.LinkMetric) {b₁ b₂ b₃ b₄ b₅ b₆ : List ℕ} {s x y : ℕ} → s ≡ m.seconds → x ≡ unsigned m.rssi → y ≡ unsigned m.cinr
    → b₁ ≡ sets b 0 (put16 1547 []) → b₂ ≡ sets b₁ 2 (put32 (s * 1048576 + m.micros) []) → b₃ ≡ sets b₂ 6 (put16 m.frequency []) → b₄ ≡ sets b₃ 8 (x ∷ [])
    → b₅ ≡ sets b₄ 9 (y ∷ []) → b₆ ≡ sets b₅ 10 (m.errors ∷ []) → b₆ ≡ sets b 0 (tlv_bytes (LinkMetric m))
unfolding tlv_bytes
metric_stored b m es ex ey a₁ a₂ a₃ a₄ a₅ a₆ = a₆ ∙ rw (a₅, a₄, a₃, a₂, a₁, es, ex, ey)

pub report-stored : (b : List ℕ) (q : report.QueueReport) {b₁ b₂ b₃ : List ℕ} → b₁ ≡ sets b 0 (report_front q) → b₂ ≡ sets b₁ 11 (four_levels q.level0 q.level1 q.level2 q.level3)
    → b₃ ≡ sets b₂ 19 (four_levels q.level4 q.level5 q.level6 q.level7)
    → b₃ ≡ sets b 0 (tlv_bytes (QueueReport q))
unfolding tlv_bytes
report-stored b q a₁ a₂ a₃ = a₃ ∙ rw (a₂, a₁)

-- ---- a record put at a place

module _ (t : Tlv) (p : ℕ) (b : List ℕ) where
  pub put_large : 65536 < p + tlv_size t → answer LARGE 65536 0 b ≡ tlv_writer t p b
  unfolding tlv_writer tlv_put
  put_large l =
      let e : tlv_put t p b ≡ bad LARGE 65536 = halt _ _ _ _ (lt-ltb 65536 (p + tlv_size t) l) in
      sym (ap (stored_at b p) e)

  module _ (a : p + tlv_size t ≤ 65536) where
    pub put_bad : tlv_fits t ≡ false → answer RADIO p 0 b ≡ tlv_writer t p b
    unfolding tlv_writer tlv_put
    put_bad f =
        let e : tlv_put t p b ≡ bad RADIO p = pass _ _ _ _ (le-ltb 65536 (p + tlv_size t) a) (halt _ _ _ _ (ap not f)) in
        sym (ap (stored_at b p) e)

    module _ (f : tlv_fits t ≡ true) where
      no_room : length b < p + tlv_size t → answer ROOM (p + tlv_size t) 0 b ≡ tlv_writer t p b
      unfolding tlv_writer tlv_put
      no_room l =
          let e : tlv_put t p b ≡ bad ROOM (p + tlv_size t) = pass _ _ _ _ (le-ltb 65536 (p + tlv_size t) a) (pass _ _ _ _ (ap not f) (halt _ _ _ _ (lt-ltb (length b) (p + tlv_size t) l))) in
          sym (ap (stored_at b p) e)

      all_put_lem : p + tlv_size t ≤ length b → (c : List ℕ) → c ≡ sets b p (tlv_bytes t) → answer 0 0 (tlv_size t) c ≡ tlv_writer t p b
      unfolding tlv_writer tlv_put
      all_put_lem l c q =
          let e : tlv_put t p b ≡ good (tlv_bytes t) = pass _ _ _ _ (le-ltb 65536 (p + tlv_size t) a) (pass _ _ _ _ (ap not f) (pass _ _ _ _ (le-ltb (length b) (p + tlv_size t) l) refl)) in
          sym (ap (stored_at b p) e ∙ rw (size_is t, q))

      pub put_roomless : (n : ℕ) → n ≡ tlv_size t → length b < p + n → answer ROOM (p + n) 0 b ≡ tlv_writer t p b
      put_roomless n z l = rw z (no_room (omega arith))

      pub put_done : (n : ℕ) → n ≡ tlv_size t → p + n ≤ length b → (ys : List ℕ) → ys ≡ sets (take (length b - p) (drop p b)) 0 (tlv_bytes t)
          → answer 0 0 n (put_mid p (length b - p) b ys) ≡ tlv_writer t p b
      put_done n z l ys e = rw z (all_put_lem (omega arith) (put_mid p (length b - p) b ys) (sets-part b ys (tlv_bytes t) p e))

-- ---- the loop that counts

pub record Counting (s : List ℕ) (i n : ℕ) : Type 0 where
  pub done : List Tlv
  pub many : length done ≡ n
  pub few : 4 * n ≤ i
  pub inside : i ≤ length s
  pub doing : Passing tlv 10 s done i (10 + i)

pub start : (s : List ℕ) → Counting s 0 0
start s = record { done = []; many = refl; few = omega arith; inside = omega arith; doing = passing-start tlv 10 s }

pub record Onward (s : List ℕ) (i n k : ℕ) : Type 0 where
  pub least : 1 ≤ k
  pub most : k ≤ length s - i
  pub counting : Counting s (i + k) (n + 1)

module _ (s : List ℕ) (i n : ℕ) (c : Counting s i n) where
  pub next : (t : Tlv) (k : ℕ) → k ≡ tlv_size t → i < length s → good (t, tlv_size t) ≡ tlv (10 + i) (take (length s - i) (drop i s)) → Onward s i n k
  next t k z l e =
      let r : tlv (10 + i) (drop i s) ≡ good (t, tlv_size t) = sym (rw rest at e) in
      let (w, q) = tlv-kept (10 + i) (drop i s) t (tlv_size t) r in
      let g : tlv (10 + i) (drop i s) ≡ good (t, k) = r ∙ ap (λ (x : ℕ). good (t, x)) (sym z) in
      let h : 1 ≤ k = omega (arith, least t) in
      let m : k ≤ length s - i = omega (arith, w.whole, length-drop i s) in
      record {
        least = h;
        most = m;
        counting = record {
          done = c.done ++ (t ∷ []);
          many = omega (arith, length-append c.done (t ∷ []), c.many);
          few = omega (arith, least t, c.few);
          inside = omega arith;
          doing = rw (← add_assoc) (passing-next tlv 10 s c.done i (10 + i) t k c.doing l h g);
        };
      }

  pub stopped : {m q : ℕ} → i < length s → bad m q ≡ tlv (10 + i) (take (length s - i) (drop i s)) → bad m q ≡ tlv_count s
  unfolding tlv_count
  stopped l e = sym (stop _ _ (passing-bad tlv 10 s c.done i (10 + i) c.doing l (sym (rw rest at e))))

  pub ended : length s ≤ i → good n ≡ tlv_count s
  unfolding tlv_count
  ended l = sym (step _ _ (passing-end tlv 10 s c.done i (10 + i) c.doing l) (ap good c.many))

-- ---- reading a message

module _ (s : List ℕ) where
  abbrev Refuses : ℕ → ℕ → Type 0
  Refuses n p = bad n p ≡ radio_read s

  unread : {n p : ℕ} → radio s ≡ bad n p → Refuses n p
  unfolding radio_read
  unread e = sym (stop _ _ e)

  pub read-large : 65536 < length s → Refuses LARGE 65536
  unfolding radio
  read-large l = unread (halt _ _ _ _ (lt-ltb 65536 (length s) l))

  module _ (small : length s ≤ 65536) where
    bad-head : checked_head s ≡ bad RADIO 0 → Refuses RADIO 0
    unfolding radio
    bad-head e = unread (pass _ _ _ _ (le-ltb 65536 (length s) small) (stop_before _ _ e))

    pub read_short : length s < 10 → Refuses RADIO 0
    unfolding checked_head
    read_short l = bad-head (halt _ _ _ _ (lt-ltb (length s) 10 l))

    module _ (long : 10 ≤ length s) where
      pub read-other : {k : ℕ} → k ≡ half s 0 → (2 + k ≡ length s → ⊥) → Refuses RADIO 0
      unfolding checked_head
      read-other {k} e d = bad-head (pass _ _ _ _ (le-ltb (length s) 10 long) (halt _ _ _ _ (ap not (ne_eqb (2 + half s 0) (length s) (λ q. d (ap (λ (x : ℕ). 2 + x) e ∙ q))))))

      module _ {k : ℕ} (e : k ≡ half s 0) (q : 2 + k ≡ length s) where
        pub read-empty : length s ≡ 10 → Refuses RADIO 0
        unfolding checked_head
        read-empty l =
            bad-head
            (pass _ _ _ _ (le-ltb (length s) 10 long)
            (pass _ _ _ _ (ap not (eq-eqb (2 + half s 0) (length s) (ap (λ (x : ℕ). 2 + x) (sym e) ∙ q))) (halt_last _ _ _ (eq-eqb (length s) 10 l))))

        module _ (d : length s ≡ 10 → ⊥) where
          head-good : checked_head s ≡ good tt
          unfolding checked_head
          head-good =
              pass _ _ _ _ (le-ltb (length s) 10 long)
              (pass _ _ _ _ (ap not (eq-eqb (2 + half s 0) (length s) (ap (λ (x : ℕ). 2 + x) (sym e) ∙ q))) (pass_last _ _ _ (ne_eqb (length s) 10 d)))

          to-run : take (length s - 10) (drop 10 s) ≡ drop 10 s
          to-run = rest s 10

          pub read-refused : {n p : ℕ} → bad n p ≡ tlv_count (take (length s - 10) (drop 10 s)) → Refuses n p
          unfolding tlv_count radio
          read-refused c =
              unread (pass _ _ _ _ (le-ltb 65536 (length s) small) (after _ _ head-good (stop _ _ (refused-only _ _ (sym (rw to-run at c))))))

          pub read-good : {n : ℕ} {h : Head} → h ≡ head_of s → good n ≡ tlv_count (take (length s - 10) (drop 10 s)) → good (h, n) ≡ radio_read s
          unfolding tlv_count radio radio_read
          read-good {n} {h} eh c =
              let (ts, f, g) = stepped _ _ (sym (rw to-run at c)) in
              let z : length ts ≡ n = good_inj g in
              let w : radio s ≡ good (record { head = head_of s; tlvs = ts }) = pass _ _ _ _ (le-ltb 65536 (length s) small) (after _ _ head-good (step _ _ f refl)) in
              sym (step _ _ w (rw (z, eh)))

-- ---- the run of TLVs, stored

-- what stands at index i of a run, as the code reads it
module _ (run : List ℕ) (i : ℕ) where
  abbrev from : List ℕ
  from = take (length run - i) (drop i run)

  pub shown-here : (t : Tlv) → good (t, tlv_size t) ≡ tlv (10 + i) from → (tlv (10 + i) (drop i run) ≡ good (t, tlv_size t)) × (tlv_fits t ≡ true) × (tlv_size t ≤ length run - i)
  shown-here t e =
      let r : tlv (10 + i) (drop i run) ≡ good (t, tlv_size t) = sym (rw rest at e) in
      let (w, q) = tlv-kept (10 + i) (drop i run) t (tlv_size t) r in
      (r, w.ranges, omega (arith, w.whole, length-drop i run))

  pub moved : (b ys : List ℕ) (t : Tlv) (n : ℕ) → n ≡ tlv_size t → good (t, tlv_size t) ≡ tlv (10 + i) from → ys ≡ sets (take (length b - i) (drop i b)) 0 (tlv_bytes t)
      → Moved b run i (put_mid i (length b - i) b ys) (i + n)
  moved b ys t n z e s = record { shown = t; reads = (shown-here t e).0; end = ap (λ (k : ℕ). i + k) (sym z); bytes = sets-part b ys (tlv_bytes t) i s }

snoc_run : (ts : List Tlv) (t : Tlv) → run_of (ts ++ (t ∷ [])) ≡ run_of ts ++ tlv_bytes t
snoc_run [] t = append-nil (tlv_bytes t)
snoc_run (x ∷ ts) t = rw (snoc_run ts t, append_assoc)

pub record Storing (run b out : List ℕ) (i : ℕ) : Type 0 where
  pub done : List Tlv
  pub inside : i ≤ length run
  pub doing : Passing tlv 10 run done i (10 + i)
  pub long : length (run_of done) ≡ i
  pub kept : out ≡ sets b 0 (run_of done)

module _ (run b : List ℕ) where
  pub storing_start : Storing run b b 0
  storing_start = record { done = []; inside = omega arith; doing = passing-start tlv 10 run; long = refl; kept = refl }

  module _ (out : List ℕ) (i : ℕ) (w : Storing run b out i) where
    pub storing_length : length out ≡ length b
    storing_length = ap length w.kept ∙ length-sets b 0 (run_of w.done)

    pub storing_ended : length run ≤ i → out ≡ sets b 0 (run_outcome run)
    unfolding run_outcome
    storing_ended l = w.kept ∙ rw (passing-end tlv 10 run w.done i (10 + i) w.doing l)

    pub storing_here : Checked run → i < length run → Here run i
    storing_here c l = go (tlv (10 + i) (drop i run)) refl
      where
        go : (o : Outcome (Tlv × ℕ)) → tlv (10 + i) (drop i run) ≡ o → Here run i
        go (good r) e =
            let (k, q) = tlv-kept (10 + i) (drop i run) r.0 r.1 e in
            record { inside = l; small = omega (arith, c.small); shown = r.0; reads = e ∙ ap (λ (n : ℕ). good (r.0, n)) q }
        go (bad n p) e = absurd (good≢bad (sym (passing-bad tlv 10 run w.done i (10 + i) w.doing l e) ∙ c.reads))

    module _ (l : i < length run) {out' : List ℕ} {e : ℕ} (m : Moved out run i out' e) where
      moves : (1 ≤ tlv_size m.shown) × (i + tlv_size m.shown ≤ length run)
      moves =
          let (k, q) = tlv-kept (10 + i) (drop i run) m.shown (tlv_size m.shown) m.reads in
          (omega (arith, least m.shown), omega (arith, k.whole, length-drop i run))

      to_end : Storing run b out' (i + tlv_size m.shown)
      to_end = record {
        done = w.done ++ (m.shown ∷ []);
        inside = moves.1;
        doing = rw (← add_assoc) (passing-next tlv 10 run w.done i (10 + i) m.shown (tlv_size m.shown) w.doing l moves.0 m.reads);
        long = rw snoc_run (omega (arith, length-append (run_of w.done) (tlv_bytes m.shown), w.long, size_is m.shown));
        kept =
            let z : 0 + length (run_of w.done) ≡ i = zero-add (length (run_of w.done)) ∙ w.long in
            m.bytes ∙ rw (w.kept, snoc_run, ← sets-sets (run_of w.done) (tlv_bytes m.shown) b 0, z);
      }

      pub storing_next : Storing run b out' e
      storing_next = subst (Storing run b out') m.end to_end

-- ---- the writer

module _ (h : Head) (run b : List ℕ) where
  abbrev refuses_with : {n p : ℕ} → run_written h run ≡ bad n p → answer n p 0 b ≡ radio_writer h run b
  refuses_with e = unfold radio_writer stored in sym (ap (stored b) (stop _ _ e))

  pub write-large : 65526 < length run → answer LARGE 65536 0 b ≡ radio_writer h run b
  unfolding run_written
  write-large l = refuses_with (halt _ _ _ _ (lt-ltb 65536 (10 + length run) (omega arith)))

  module _ (a : length run ≤ 65526) where
    pub write-empty : length run ≡ 0 → answer RADIO 0 0 b ≡ radio_writer h run b
    unfolding run_written
    write-empty z = refuses_with (pass _ _ _ _ (le-ltb 65536 (10 + length run) (omega arith)) (halt _ _ _ _ (eq-eqb (length run) 0 z)))

    module _ (d : length run ≡ 0 → ⊥) where
      pub write-refused : {n p : ℕ} → bad n p ≡ tlv_count run → answer n p 0 b ≡ radio_writer h run b
      unfolding run_written tlv_count
      write-refused e =
          refuses_with
          (pass _ _ _ _ (le-ltb 65536 (10 + length run) (omega arith))
          (pass _ _ _ _ (ne_eqb (length run) 0 d) (stop _ _ (refused-only _ _ (sym e)))))

      pub write_checked : {n : ℕ} → good n ≡ tlv_count run → Checked run
      unfolding tlv_count
      write_checked e = let (ts, f, g) = stepped _ _ (sym e) in record { small = omega arith; some = d; tlvs = ts; reads = f }

  module _ (c : Checked run) where
    all : List ℕ
    all = radio_bytes (record { head = h; tlvs = c.tlvs })

    run_is : length (run_of c.tlvs) ≡ length run
    run_is = run_long 0 10 run c.reads ∙ omega arith

    all-long : length all ≡ 10 + length run
    unfolding all radio_bytes
    all-long = omega (arith, run_is)

    written : run_written h run ≡ good all
    unfolding all
    written = run_writes h run c.small c.some c.tlvs c.reads

    pub finish_roomless : length b < 10 + length run → answer ROOM (10 + length run) 0 b ≡ radio_writer h run b
    unfolding radio_writer stored fitted
    finish_roomless l = sym (ap (stored b) (step _ _ written (halt _ _ _ _ (lt-ltb (length b) (length all) (omega (arith, all-long))))) ∙ rw all-long)

    whole : sets (sets b 0 (head_bytes h (length run) [])) 10 (run_outcome run) ≡ sets b 0 all
    unfolding all radio_bytes run_outcome
    whole = sets-sets (head_bytes h (length run) []) (run_outcome run) b 0 ∙ rw (c.reads, run_is)

    pub finish_done : {b₁ ys : List ℕ} → 10 + length run ≤ length b → b₁ ≡ sets b 0 (head_bytes h (length run) []) → ys ≡ sets (take (length b₁ - 10) (drop 10 b₁)) 0 (run_outcome run)
        → answer 0 0 (10 + length run) (put_mid 10 (length b₁ - 10) b₁ ys) ≡ radio_writer h run b
    unfolding radio_writer stored fitted
    finish_done {b₁} {ys} l e f =
        let z : put_mid 10 (length b₁ - 10) b₁ ys ≡ sets b 0 all = sets-part b₁ ys (run_outcome run) 10 f ∙ ap (λ (x : List ℕ). sets x 10 (run_outcome run)) e ∙ whole in
        sym (ap (stored b) (step _ _ written (pass _ _ _ _ (le-ltb (length b) (length all) (omega (arith, all-long))) refl)) ∙ rw (all-long, ← z))
