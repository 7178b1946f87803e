-- Where a message is refused: a TLV keeps the rules or is refused where it stands, and the steps come to the first that is refused.
use Prim.Native.Nat.{ℕ, zero, suc, ◌+◌, ◌-◌, ◌≤◌, ◌<◌}
use mathlib.Core.Path.{◌≡◌, refl, sym, ap, subst, ◌∙◌}
use mathlib.Core.Logic.{◌↔◌, ◌⊎◌, inl, inr, ⊎_elim}
use mathlib.Core.Bool.{Bool, true, false, not}
use mathlib.Core.List.{List, [], ◌∷◌}
use mathlib.Core.Option.{Option, none, some}
use native.Mathlib.Nat.{add-suc, suc-add}
use native.Mathlib.Omega.{arith}
use borrow.Author.Tests.{lt-ltb, le-ltb, le-leb, lt-leb, ltb-true, ltb-false, eq-eqb, ne_eqb, eqb-true, eqb-false}
use lib.Arith.{lt_of_le-ne}
use lib.Dec.{ltb, eqb}
use lib.ListN.{length, drop}
use Rattle.rules.specs.Outcome.{Outcome, good, bad, refuse, LARGE}
use Rattle.refusal.specs.Numbers.{RADIO}
use Rattle.rules.specs.Bytes.{at, half}
use Rattle.rules.specs.Items.{items}
use Rattle.rules.proofs.Outcomes.{pass, halt, halt_last, step, stop, stop_before, after, refused_pass, refused-front, good_inj, good≢bad, bad_inj, none≢some, refused-only, refused-after}
use Rattle.rules.proofs.Numbers.{half-put16}
use Rattle.radio.specs.Tlv.{tlv_size, opportunity_of, heartbeat_of, metric_of, report_of, typed, keeps_rules, tlv}
use Rattle.radio.specs.Radio.{Radio, head_bytes, checked_head, radio, tlv_at, Steps, ends, shows, StepsTo, here, on, run_written}
use Rattle.radio.specs.Claims.{BadHead, BadTlv}
use Rattle.radio.specs.declared.Head.{Head}
use Rattle.radio.specs.declared.Tlv.{Tlv}
use Rattle.radio.specs.declared.Tlv.TheVariants.{TxOp, Heartbeat, LinkMetric, QueueReport}
use Rattle.radio.proofs.Tlvs.{tlv-kept}
use Rattle.radio.proofs.Messages.{least, Asked, head-passes, inside, step-shows, steps_show_all}

pub shown_inj : {A : Type 0} {a b : A} → ◌≡◌ {A = Outcome (Option A)} (good (some a)) (good (some b)) → a ≡ b
shown_inj e = cc

module _ (p : ℕ) (s : List ℕ) where
  Typing : Outcome Tlv → Type 0
  Typing o = ((t : Tlv) × (o ≡ good t)) ⊎ (o ≡ bad RADIO p)

  if_ten : (b : Bool) → Typing (elim b [ true ↦ good (QueueReport (report_of s)) | false ↦ bad RADIO p ])
  unfolding Typing
  if_ten true = inl (QueueReport (report_of s), refl)
  if_ten false = inr refl

  if_six : (b c : Bool) → Typing (elim b [ true ↦ good (LinkMetric (metric_of s)) | false ↦ elim c [ true ↦ good (QueueReport (report_of s)) | false ↦ bad RADIO p ] ])
  unfolding Typing
  if_six true c = inl (LinkMetric (metric_of s), refl)
  if_six false c = if_ten c

  if_five : (b c d : Bool)
      → Typing (elim b [ true ↦ good (Heartbeat (heartbeat_of s)) | false ↦ elim c [ true ↦ good (LinkMetric (metric_of s)) | false ↦ elim d [ true ↦ good (QueueReport (report_of s)) | false ↦ bad RADIO p ] ] ])
  unfolding Typing
  if_five true c d = inl (Heartbeat (heartbeat_of s), refl)
  if_five false c d = if_six c d

  if_one : (a b c d : Bool)
      → Typing (elim a [
        | true ↦ good (TxOp (opportunity_of s))
        | false ↦ elim b [ true ↦ good (Heartbeat (heartbeat_of s)) | false ↦ elim c [ true ↦ good (LinkMetric (metric_of s)) | false ↦ elim d [ true ↦ good (QueueReport (report_of s)) | false ↦ bad RADIO p ] ] ]
      ])
  unfolding Typing
  if_one true b c d = inl (TxOp (opportunity_of s), refl)
  if_one false b c d = if_five b c d

  typing : Typing (typed p s)
  unfolding typed
  typing = if_one (eqb (at s 0) 1) (eqb (at s 0) 5) (eqb (at s 0) 6) (eqb (at s 0) 10)

  -- a TLV that keeps the rules, or a refusal where it stands
  pub tlv_either : ((t : Tlv) × (tlv p s ≡ good (t, tlv_size t))) ⊎ (tlv p s ≡ bad RADIO p)
  unfolding Typing tlv
  tlv_either = ⊎_elim (λ w. go w.0 w.1 (keeps_rules w.0 s) refl) (λ e. inr (stop _ _ e)) typing
    where
      go : (t : Tlv) → typed p s ≡ good t → (b : Bool) → keeps_rules t s ≡ b → ((u : Tlv) × (tlv p s ≡ good (u, tlv_size u))) ⊎ (tlv p s ≡ bad RADIO p)
      go t e true k = inl (t, step _ _ e (pass _ _ _ _ (ap not k) refl))
      go t e false k = inr (step _ _ e (halt _ _ _ _ (ap not k)))

-- the steps from place p come to place q, and there a TLV is refused
pub record Stops (s : List ℕ) (p n q : ℕ) : Type 0 where
  pub number : n ≡ RADIO
  pub steps : StepsTo s p q
  pub refused : tlv_at s q ≡ bad RADIO q

module _ (s : List ℕ) (small : length s ≤ 65536) where
  refused-here : (p : ℕ) → p < length s → tlv p (drop p s) ≡ bad RADIO p → tlv_at s p ≡ bad RADIO p
  unfolding tlv_at
  refused-here p l e = pass _ _ _ _ (le-ltb 65536 (length s) small) (rw (lt-leb (length s) p l) (stop _ _ e))

  stops_here : (p x : ℕ) (t : List ℕ) → x ∷ t ≡ drop p s → tlv p (x ∷ t) ≡ bad RADIO p → {n q : ℕ} → items tlv 0 p (x ∷ t) ≡ bad n q → Stops s (p + 0) n q
  unfolding items
  stops_here p x t d e {n} {q} f =
      let w = bad_inj (sym (stop _ _ e) ∙ f) in
      let z : p + 0 ≡ p = omega arith in
      let r : tlv_at s p ≡ bad RADIO p = refused-here p (inside s small p x t d).0 (rw (← d) e) in
      record { number = sym w.0; steps = subst (λ (k : ℕ). StepsTo s (p + 0) k) (z ∙ w.1) here; refused = subst (λ (k : ℕ). tlv_at s k ≡ bad RADIO k) w.1 r }

  stops_on : (p x : ℕ) (t : List ℕ) → x ∷ t ≡ drop p s → (u : Tlv) → tlv p (x ∷ t) ≡ good (u, tlv_size u) → {n q : ℕ} → Stops s (suc p + (tlv_size u - 1)) n q → Stops s (p + 0) n q
  stops_on p x t d u e w =
      let k : suc p + (tlv_size u - 1) ≡ p + tlv_size u = omega (arith, least u) in
      let z : p + 0 ≡ p = omega arith in
      record { number = w.number; steps = rw z (on (step-shows s small p (inside s small p x t d).0 u (tlv_size u) (rw (← d) e)) (rw k at w.steps)); refused = w.refused }

  pub stops : (k p : ℕ) (t : List ℕ) → t ≡ drop p s → k ≤ length t → {n q : ℕ} → items tlv k p t ≡ bad n q → Stops s (p + k) n q
  unfolding items
  stops k p [] d l e = absurd (good≢bad (sym e))
  stops (suc k) p (x ∷ t) d l e = rw (add-suc, ← suc-add) (stops k (suc p) t (inside s small p x t d).1 (omega arith) e)
  stops zero p (x ∷ t) d l e =
      ⊎_elim
      (λ w.
      let (v, q) = tlv-kept p (x ∷ t) w.0 (tlv_size w.0) w.1 in
      let m : tlv_size w.0 ≤ suc (length t) = v.whole in
      stops_on p x t d w.0 w.1 (stops (tlv_size w.0 - 1) (suc p) t (inside s small p x t d).1 (omega (arith, least w.0)) (refused-front _ _ (sym (step _ _ w.1 refl) ∙ e))))
      (λ b. stops_here p x t d b e)
      (tlv_either p (x ∷ t))

-- ---- where a refused message was refused

refused-last : (b : Bool) (m r : ℕ) {n p : ℕ} → refuse b m r ≡ bad n p → (m ≡ n) × (r ≡ p)
unfolding refuse
refused-last true m r e = bad_inj e
refused-last false m r e = absurd (good≢bad (sym e))

head-place : (s : List ℕ) {n p : ℕ} → checked_head s ≡ bad n p → (RADIO ≡ n) × (0 ≡ p)
unfolding checked_head
head-place s e =
    ⊎_elim (λ w. (w.1, w.2)) (λ f. ⊎_elim (λ w. (w.1, w.2)) (λ g. refused-last _ _ _ g) (refused_pass _ _ _ _ f)) (refused_pass _ _ _ _ e)

module _ (s : List ℕ) (l : length s ≤ 65536) where
  bad-head : (n p : ℕ) → checked_head s ≡ bad n p → (n ≡ RADIO) × (BadHead s p ⊎ BadTlv s p)
  bad-head n p h =
      let w = head-place s h in
      let a : RADIO ≡ n = w.0 in
      let b : 0 ≡ p = w.1 in
      let q : checked_head s ≡ bad RADIO 0 = cc in
      (sym a, inl (q, sym b))

  refused_where : (n p : ℕ) → radio s ≡ bad n p → (n ≡ RADIO) × (BadHead s p ⊎ BadTlv s p)
  unfolding radio
  refused_where n p e =
      ⊎_elim (λ w. absurd (let k = ltb-true 65536 (length s) w.0 in omega arith))
      (λ f.
      ⊎_elim (bad-head n p)
      (λ o. let w = stops s l 0 10 (drop 10 s) refl (omega arith) (refused-only _ _ o.1) in (w.number, inr (o.0, w.steps, w.refused)))
      (refused-after _ _ f))
      (refused_pass _ _ _ _ e)

  at-end : (p : ℕ) → length s ≤ p → tlv_at s p ≡ good none
  unfolding tlv_at
  at-end p h = pass _ _ _ _ (le-ltb 65536 (length s) l) (rw (le-leb (length s) p h))

  -- the steps come to one refusal alone, and where they show every TLV to none
  next_same : (p : ℕ) {q r : ℕ} {t u : Tlv} → tlv_at s p ≡ good (some (t, q)) → tlv_at s p ≡ good (some (u, r)) → q ≡ r
  next_same p e f = ap (λ (x : Tlv × ℕ). x.1) (shown_inj (sym e ∙ f))

  same_stop : {q p r : ℕ} → StepsTo s q p → tlv_at s p ≡ bad RADIO p → StepsTo s q r → tlv_at s r ≡ bad RADIO r → p ≡ r
  same_stop here e here f = refl
  same_stop here e (on g w) f = absurd (good≢bad (sym e ∙ g))
  same_stop (on g w) e here f = absurd (good≢bad (sym f ∙ g))
  same_stop {q = q} (on g w) e (on {r = r} h v) f = same_stop w e (subst (λ (k : ℕ). StepsTo s k r) (next_same q h g) v) f

  no_stop : {q p : ℕ} {ts : List Tlv} → StepsTo s q p → Steps s q ts → tlv_at s p ≡ bad RADIO p → ⊥
  no_stop {q = q} here (ends h) e = good≢bad (sym e ∙ at-end q h)
  no_stop here (shows g w) e = good≢bad (sym e ∙ g)
  no_stop {q = q} (on g v) (ends h) e = none≢some (good_inj (sym (at-end q h) ∙ g))
  no_stop {q = q} (on g v) (shows {ts = ts} h w) e = no_stop v (subst (λ (k : ℕ). Steps s k ts) (next_same q h g) w) e

  refused-there : (p : ℕ) → BadTlv s p → (o : Outcome Radio) → radio s ≡ o → radio s ≡ bad RADIO p
  refused-there p b (good m) e = absurd (no_stop b.1 (steps_show_all s m e) b.2)
  refused-there p b (bad k q) e =
      let (w, v) = refused_where k q e in
      ⊎_elim (λ h. absurd (good≢bad (sym h.0 ∙ b.0))) (λ c. let z : q ≡ p = same_stop c.1 c.2 b.1 b.2 in e ∙ rw (w, z)) v

  pub refused-first : checked_head s ≡ bad RADIO 0 → radio s ≡ bad RADIO 0
  unfolding radio
  refused-first h = pass _ _ _ _ (le-ltb 65536 (length s) l) (stop_before _ _ h)

  pub radio-place : (n p : ℕ) → (radio s ≡ bad n p) ↔ ((n ≡ RADIO) × (BadHead s p ⊎ BadTlv s p))
  radio-place n p = (refused_where n p, λ w. ⊎_elim (λ h. refused-first h.0 ∙ rw (w.0, h.1)) (λ b. refused-there p b (radio s) refl ∙ rw w.0) w.1)

-- ---- where a run of TLVs is refused that is written

both-refuse : {A B : Type 0} (o : Outcome A) (r : Outcome B) {m q n p : ℕ} → o ≡ bad m q → r ≡ bad m q → (o ≡ bad n p) ↔ (r ≡ bad n p)
both-refuse o r x y = (λ e. let w = bad_inj (sym x ∙ e) in y ∙ rw (w.0, w.1), λ e. let w = bad_inj (sym y ∙ e) in x ∙ rw (w.0, w.1))

-- s is the message that has the run behind its header
module _ (h : Head) (run s : List ℕ) (behind : drop 10 s ≡ run) (long : length s ≡ 10 + length run) where
  written-large : 65536 < length s → run_written h run ≡ bad LARGE 65536
  unfolding run_written
  written-large l = halt _ _ _ _ (lt-ltb 65536 (10 + length run) (omega (arith, long)))

  read-large : 65536 < length s → radio s ≡ bad LARGE 65536
  unfolding radio
  read-large l = halt _ _ _ _ (lt-ltb 65536 (length s) l)

  module _ (l : length s ≤ 65536) (said : half s 0 ≡ 8 + length run) where
    written-empty : length run ≡ 0 → run_written h run ≡ bad RADIO 0
    unfolding run_written
    written-empty z = pass _ _ _ _ (le-ltb 65536 (10 + length run) (omega (arith, long))) (halt _ _ _ _ (eq-eqb (length run) 0 z))

    head-empty : length run ≡ 0 → checked_head s ≡ bad RADIO 0
    unfolding checked_head
    head-empty z =
        pass _ _ _ _ (le-ltb (length s) 10 (omega (arith, long)))
        (pass _ _ _ _ (ap not (eq-eqb (2 + half s 0) (length s) (omega (arith, long, said)))) (halt_last _ _ _ (eq-eqb (length s) 10 (omega (arith, long)))))

    module _ (some : length run ≡ 0 → ⊥) where
      asked : Asked s
      asked = record { small = l; long = lt_of_le-ne (omega (arith, long)) (λ e. some (omega (arith, long))); ended = omega (arith, long, said) }

      written_forth : {n p : ℕ} → run_written h run ≡ bad n p → items tlv 0 10 run ≡ bad n p
      unfolding run_written
      written_forth e =
          ⊎_elim (λ w. absurd (let k = ltb-true 65536 (10 + length run) w.0 in omega (arith, long)))
          (λ f. ⊎_elim (λ w. absurd (some (eqb-true (length run) 0 w.0))) (λ g. refused-only _ _ g) (refused_pass _ _ _ _ f))
          (refused_pass _ _ _ _ e)

      written_back : {n p : ℕ} → items tlv 0 10 run ≡ bad n p → run_written h run ≡ bad n p
      unfolding run_written
      written_back i = pass _ _ _ _ (le-ltb 65536 (10 + length run) (omega (arith, long))) (pass _ _ _ _ (ne_eqb (length run) 0 some) (stop _ _ i))

      read_forth : {n p : ℕ} → radio s ≡ bad n p → items tlv 0 10 (drop 10 s) ≡ bad n p
      unfolding radio
      read_forth e =
          ⊎_elim (λ w. absurd (let k = ltb-true 65536 (length s) w.0 in omega arith))
          (λ f.
          ⊎_elim (λ b. absurd (good≢bad (sym b ∙ head-passes s asked)))
          (λ o. refused-only _ _ o.1)
          (refused-after _ _ f))
          (refused_pass _ _ _ _ e)

      read_back : {n p : ℕ} → items tlv 0 10 (drop 10 s) ≡ bad n p → radio s ≡ bad n p
      unfolding radio
      read_back i = pass _ _ _ _ (le-ltb 65536 (length s) l) (after _ _ (head-passes s asked) (stop _ _ i))

      same_items : items tlv 0 10 (drop 10 s) ≡ items tlv 0 10 run
      same_items = ap (items tlv 0 10) behind

  run-refused : (length s ≤ 65536 → half s 0 ≡ 8 + length run) → (n p : ℕ) → (run_written h run ≡ bad n p) ↔ (radio s ≡ bad n p)
  run-refused said n p = by_size (ltb 65536 (length s)) refl
    where
      by_number : length s ≤ 65536 → (b : Bool) → eqb (length run) 0 ≡ b → (run_written h run ≡ bad n p) ↔ (radio s ≡ bad n p)
      by_number l true e = let z : length run ≡ 0 = eqb-true (length run) 0 e in both-refuse _ _ (written-empty l (said l) z) (refused-first s l (head-empty l (said l) z))
      by_number l false e =
          let z : length run ≡ 0 → ⊥ = eqb-false (length run) 0 e in
          let q = same_items l (said l) z in
          (λ r. read_back l (said l) z (q ∙ written_forth l (said l) z r), λ r. written_back l (said l) z (sym q ∙ read_forth l (said l) z r))

      by_size : (b : Bool) → ltb 65536 (length s) ≡ b → (run_written h run ≡ bad n p) ↔ (radio s ≡ bad n p)
      by_size true e = let k = ltb-true 65536 (length s) e in both-refuse _ _ (written-large k) (read-large k)
      by_size false e = by_number (ltb-false 65536 (length s) e) (eqb (length run) 0) refl

module _ (h : Head) (run : List ℕ) where
  joined-long : length (head_bytes h (length run) run) ≡ 10 + length run
  joined-long = omega arith

  joined_says : length (head_bytes h (length run) run) ≤ 65536 → half (head_bytes h (length run) run) 0 ≡ 8 + length run
  unfolding half
  joined_says l = half-put16 (8 + length run) [] (omega (arith, joined-long))

  pub run-place : (n p : ℕ) → (run_written h run ≡ bad n p) ↔ (radio (head_bytes h (length run) run) ≡ bad n p)
  run-place n p = run-refused h run (head_bytes h (length run) run) refl joined-long joined_says n p
