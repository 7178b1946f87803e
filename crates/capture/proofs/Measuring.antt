-- What reading a file comes to, by its byte order; and the answer.
use Prim.Native.Nat.{ℕ, ◌≤◌, ◌<◌}
use mathlib.Core.Path.{◌≡◌, refl, ap, sym, ◌∙◌}
use mathlib.Core.Bool.{Bool, true, false}
use mathlib.Core.List.{List}
use native.Mathlib.Omega.{arith}
use borrow.Author.Tests.{le-ltb, lt-ltb}
use lib.ListN.{length, drop}
use Rattle.rules.specs.Outcome.{Outcome, good, bad, LARGE, ROOM}
use Rattle.refusal.specs.Numbers.{CAPTURE}
use Rattle.rules.specs.Items.{items}
use Rattle.rules.proofs.Outcomes.{pass, halt, step, stop, stepped, good_inj, good≢bad}
use Rattle.capture.specs.File.{Order, big, little, header_good, order_of, Packet, packet, packets}
use Rattle.capture.specs.Reading.{Taken, taken_of, taken, recording_of, read_stored, read_capture}
use Rattle.capture.specs.Claims.{read_answer}
use Rattle.capture.specs.Told.{order_by, counts_of, counted_in, measured, Spots, SpotsIn, Spotted, Stored}
use Rattle.capture.specs.declared.Counts.{Counts}
use Rattle.capture.proofs.Answers.{read_is, read-roomless}

-- what the function that measures promises
abbrev Right : List ℕ → ℕ → List ℕ → Outcome Counts → Type 0
Right file port spots m = (m ≡ measured file port) × Spotted file port spots

module _ (file : List ℕ) (port : ℕ) (spots : List ℕ) where
  -- a file that is refused has no spots
  refused-right : (n p : ℕ) (m : Outcome Counts) → m ≡ bad n p → bad n p ≡ measured file port → Right file port spots m
  unfolding measured
  refused-right n p m i e = (i ∙ e, record { right = λ t q. absurd (good≢bad (e ∙ step _ _ q refl)) })

  pub measured-large : 65536 < length file → (m : Outcome Counts) → m ≡ bad LARGE 65536 → Right file port spots m
  unfolding measured taken packets
  measured-large l m i = refused-right _ _ m i (sym (stop _ _ (stop _ _ (halt _ _ _ _ (lt-ltb 65536 (length file) l)))))

  module _ (small : length file ≤ 65536) where
    measured_in : (o : Order) → order_of file ≡ good o → (m : Outcome Counts) → (m ≡ counted_in o file port) × SpotsIn o file port spots → Right file port spots m
    unfolding measured taken packets counted_in
    measured_in o e m (c, s) = go (items (packet o) 0 24 (drop 24 file)) refl
      where
        go : (r : Outcome (List Packet)) → items (packet o) 0 24 (drop 24 file) ≡ r → Right file port spots m
        go (good ks) q =
            let t : taken file port ≡ good (taken_of port ks) = step _ _ (pass _ _ _ _ (le-ltb 65536 (length file) small) (step _ _ e q)) refl in
            (c ∙ step _ _ q refl ∙ sym (step _ _ t refl), record { right = λ u g. let z : taken_of port ks ≡ u = good_inj (sym t ∙ g) in rw (← z) (s.right ks q) })
        go (bad n p) q =
            let b : bad n p ≡ measured file port = sym (stop _ _ (stop _ _ (pass _ _ _ _ (le-ltb 65536 (length file) small) (step _ _ e q)))) in
            refused-right n p m (c ∙ stop _ _ q) b

    ordered : (b : Bool) → b ≡ header_good big file → header_good (order_by b) file ≡ true → order_of file ≡ good (order_by b)
    unfolding order_of
    ordered true e g = rw (g, order_of)
    ordered false e g = rw (← e, g, order_of)

    pub measured-good : (b : Bool) → b ≡ header_good big file → header_good (order_by b) file ≡ true
        → (m : Outcome Counts) → (m ≡ counted_in (order_by b) file port) × SpotsIn (order_by b) file port spots → Right file port spots m
    measured-good b e g = measured_in (order_by b) (ordered b e g)

    pub measured-none : header_good big file ≡ false → header_good little file ≡ false → (m : Outcome Counts) → m ≡ bad CAPTURE 0 → Right file port spots m
    unfolding measured taken packets order_of
    measured-none b l m i = refused-right _ _ m i (sym (stop _ _ (stop _ _ (pass _ _ _ _ (le-ltb 65536 (length file) small) (stop _ _ (rw (b, l, order_of)))))))

-- ---- the answer

-- what a file that was measured is
pub record Sized (file : List ℕ) (port : ℕ) (t : Counts) : Type 0 where
  pub packs : List Packet
  pub reads : packets file ≡ good packs
  pub counts : counts_of (taken_of port packs) ≡ t

pub sized : (file : List ℕ) (port : ℕ) (t : Counts) → good t ≡ measured file port → Sized file port t
unfolding measured taken
sized file port t e =
    let (u, f, g) = stepped _ _ (sym e) in
    let (ks, p, q) = stepped _ _ f in
    record { packs = ks; reads = p; counts = ap counts_of (good_inj q) ∙ good_inj g }

module _ (file : List ℕ) (port : ℕ) (buffer : List ℕ) where
  -- a file that is refused
  pub read-refused : (n p : ℕ) → bad n p ≡ measured file port
      → (record { number = n; place = p; bytes = 0; kept = 0; not_for_us = 0; cut_short = 0; bad_message = 0 }, buffer) ≡ read_capture file port buffer
  unfolding read_capture read_stored measured
  read-refused n p e = go (taken file port) refl
    where
      go : (r : Outcome Taken) → taken file port ≡ r → (record { number = n; place = p; bytes = 0; kept = 0; not_for_us = 0; cut_short = 0; bad_message = 0 }, buffer) ≡ read_capture file port buffer
      go (good t) q = absurd (good≢bad (e ∙ step _ _ q refl))
      go (bad m s) q =
          let w : ◌≡◌ {A = Outcome Counts} (bad n p) (bad m s) = e ∙ stop _ _ q in
          let a : n ≡ m = cc in
          let b : p ≡ s = cc in
          rw (a, b) (sym (ap (read_stored buffer) (stop _ _ q)))

  module _ (t : Counts) (s : Sized file port t) where
    -- a file without room for its recording
    pub read-no_room : length buffer < t.bytes
        → (record { number = ROOM; place = t.bytes; bytes = 0; kept = 0; not_for_us = 0; cut_short = 0; bad_message = 0 }, buffer) ≡ read_capture file port buffer
    read-no_room l =
        let n : length (recording_of (taken_of port s.packs)) ≡ t.bytes = ap (λ (x : Counts). x.bytes) s.counts in
        sym (read-roomless file port buffer s.packs s.reads (omega (arith, n)) ∙ ap (λ (x : ℕ). (record { number = ROOM; place = x; bytes = 0; kept = 0; not_for_us = 0; cut_short = 0; bad_message = 0 }, buffer)) n)

    module _ (spots : List ℕ) (w : Spotted file port spots) where
      spots-here : Spots file spots (taken_of port s.packs).messages
      unfolding taken
      spots-here = w.right _ (step _ _ s.reads refl)

      pub few : t.kept ≤ 800
      few = let n : length (taken_of port s.packs).messages ≡ t.kept = ap (λ (x : Counts). x.kept) s.counts in omega (arith, n, spots-here.few)

      -- and one with room
      pub read_done : (after : List ℕ) → t.bytes ≤ length buffer → Stored file spots t.kept buffer after
          → (record { number = 0; place = 0; bytes = t.bytes; kept = t.kept; not_for_us = t.not_for_us; cut_short = t.cut_short; bad_message = t.bad_message }, after) ≡ read_capture file port buffer
      unfolding recording_of
      read_done after l d =
          let n : length (recording_of (taken_of port s.packs)) ≡ t.bytes = ap (λ (x : Counts). x.bytes) s.counts in
          let r = read_is file port buffer s.packs s.reads (omega (arith, n)) in
          ap (λ (x : Counts). (record { number = 0; place = 0; bytes = x.bytes; kept = x.kept; not_for_us = x.not_for_us; cut_short = x.cut_short; bad_message = x.bad_message }, after)) (sym s.counts)
          ∙ ap (λ (x : List ℕ). (read_answer (taken_of port s.packs), x)) (d.right _ (ap (λ (x : Counts). x.kept) s.counts) spots-here) ∙ sym r
