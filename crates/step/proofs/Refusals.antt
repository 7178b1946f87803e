-- Where the messages within a quota are refused, and where and why a step is.
use Prim.Native.Nat.{ℕ, ◌≤◌}
use mathlib.Core.Path.{◌≡◌, refl, ap, sym}
use mathlib.Core.Logic.{⊎_elim}
use mathlib.Core.List.{List, map}
use native.Mathlib.Omega.{arith}
use borrow.Author.Tests.{ltb-true, ltb-false, le-ltb, lt-ltb}
use lib.ListN.{length, length-map}
use Rattle.rules.specs.Outcome.{Outcome, good, bad, ◌>>◌, ◌>>=◌}
use Rattle.rules.specs.Buffer.{fitted}
use Rattle.rules.specs.Sheet.{Row}
use Rattle.rules.specs.Copy.{Entry, released}
use Rattle.rules.proofs.Outcomes.{step, stop, pass, halt, after, stop_before, refused-at, refused-step, refused-after, refused-only, good≢bad}
use Rattle.rules.proofs.Reasons.{messages-refused, sheet-refused}
use Rattle.numbered.specs.Numbering.{numbered_bytes, State, running_in}
use Rattle.numbered.specs.Quota.{Taken, taken_from, message_of, ids_fit, delivering, Report, reported, numbered_copy}
use Rattle.numbered.proofs.Ids.{ids-few, ids-good}
use Rattle.numbered.proofs.Stops.{stopped, refused-within}
use Rattle.step.specs.Step as spec
use Rattle.step.specs.Claims.{nothing, RefusedWithin, QuotaRefuses, BeforeMessages, StepRefused, bad-state, bad-sheet, large, bad-message, too_many, no_room, StepRefusedExactly}
use Rattle.step.proofs.States.{running_few}
use Rattle.step.proofs.Steps.{numbered_step, nothing_else}
use Rattle.step.proofs.Ids.{ids-many, many-ids}

-- ---- the messages within a quota

module _ (input : List ℕ) (quota n p : ℕ) where
  within : taken_from input quota ≡ bad n p → RefusedWithin input quota n p
  within e =
      let w = stopped input quota e in
      record { place = w.place; before = map message_of w.ts; read = w.read; few = omega (arith, w.few, length-map w.ts message_of); inside = w.inside; refused = w.refused }

  pub within-quota : QuotaRefuses input quota n p
  within-quota = record {
    exactly = (within, λ w. refused-within input w.place w.inside w.read w.refused quota w.few);
    as_all = λ e. let w = within e in messages-refused input w.place w.inside w.read w.refused;
  }

-- ---- a step

module _ (input sheetBytes : List ℕ) (quota : ℕ) (state : State) (buffer : List ℕ) where
  -- where state, sheet and size pass
  module _ {rows : List Row} (b : BeforeMessages input sheetBytes state rows) where
    abbrev entries : List Taken → List Entry
    entries ts = released rows (map message_of ts)

    abbrev on_messages : List Taken → Outcome (List Taken × List Entry)
    on_messages ts = ids_fit 64 rows (running_in state) ts >> (fitted buffer (numbered_bytes (running_in state) (entries ts)) >>= λ bytes. good (ts, entries ts))

    few-held : length (running_in state) ≤ 64
    few-held = running_few state b.state-passes

    module _ {n p : ℕ} where
      room-there : (ts : List Taken) → taken_from input quota ≡ good ts → on_messages ts ≡ bad n p → StepRefused input sheetBytes quota state buffer n p
      unfolding fitted
      room-there ts t e = ⊎_elim
          (λ i. let (number, many) = ids-many rows (running_in state) ts n p few-held i in rw number (too_many b t many))
          (λ i. ⊎_elim
          (λ z. rw (← z.1, ← z.2) (no_room b t (ids-few 64 rows (running_in state) ts few-held i.0) (ltb-true _ _ z.0)))
          (λ z. absurd (good≢bad (sym z.1)))
          (refused-at _ _ _ _ (refused-only _ _ i.1)))
          (refused-after _ _ e)

      messages-there : (taken_from input quota >>= on_messages) ≡ bad n p → StepRefused input sheetBytes quota state buffer n p
      messages-there e = ⊎_elim (λ t. bad-message b (within input quota n p t)) (λ t. room-there t.0 t.1 t.2) (refused-step _ _ e)

      messages-back : (taken_from input quota >>= on_messages) ≡ bad n p → delivering 64 input sheetBytes quota state buffer ≡ bad n p
      unfolding delivering
      messages-back e = pass _ _ _ _ b.state-passes (step _ _ b.sheet-passes (pass _ _ _ _ (le-ltb 65536 (length input) b.size-passes) e))

  refused-there : (n p : ℕ) → delivering 64 input sheetBytes quota state buffer ≡ bad n p → StepRefused input sheetBytes quota state buffer n p
  unfolding delivering
  refused-there n p e = ⊎_elim
      (λ z. rw (← z.1, ← z.2) (bad-state z.0))
      (λ z. ⊎_elim
      (λ v. bad-sheet z.0 ((sheet-refused sheetBytes n p).0 v))
      (λ v. ⊎_elim
      (λ l. rw (← l.1, ← l.2) (large z.0 v.1 (ltb-true _ _ l.0)))
      (λ l. messages-there (record { state-passes = z.0; sheet-passes = v.1; size-passes = ltb-false _ _ l.0 }) l.1)
      (refused-at _ _ _ _ v.2))
      (refused-step _ _ z.1))
      (refused-at _ _ _ _ e)

  refused-back : {n p : ℕ} → StepRefused input sheetBytes quota state buffer n p → delivering 64 input sheetBytes quota state buffer ≡ bad n p
  unfolding delivering fitted
  refused-back (bad-state b) = halt _ _ _ _ b
  refused-back (bad-sheet {n = n} {p = p} b w) = pass _ _ _ _ b (stop _ _ ((sheet-refused sheetBytes n p).1 w))
  refused-back (large b v l) = pass _ _ _ _ b (step _ _ v (halt _ _ _ _ (lt-ltb 65536 (length input) l)))
  refused-back (bad-message {n = n} {p = p} b w) = messages-back b (stop _ _ ((within-quota input quota n p).exactly.1 w))
  refused-back (too_many {rows = rows} {taken = ts} {p = p} b t w) = messages-back b (step _ _ t (stop_before _ _ (many-ids rows (running_in state) ts p w)))
  refused-back (no_room {rows = rows} {taken = ts} b t few l) = messages-back b (step _ _ t (after _ _ (ids-good 64 rows (running_in state) ts few) (stop _ _ (halt _ _ _ _ (lt-ltb _ _ l)))))

  -- what is reported
  there : (n p : ℕ) → (n ≡ 0 → ⊥) → spec.step input sheetBytes quota state buffer ≡ (nothing n p, state, buffer) → StepRefused input sheetBytes quota state buffer n p
  unfolding numbered_copy reported
  there n p some e = go (delivering 64 input sheetBytes quota state buffer) refl (ap (λ (a : Report × State × List ℕ). a.0.number) e) (ap (λ (a : Report × State × List ℕ). a.0.place) e)
    where
      go : (o : Outcome (List Taken × List Entry)) → delivering 64 input sheetBytes quota state buffer ≡ o → (reported state buffer o).0.number ≡ n → (reported state buffer o).0.place ≡ p
          → StepRefused input sheetBytes quota state buffer n p
      go (good r) q a b = absurd (some (sym a))
      go (bad m k) q a b = rw (← a, ← b) (refused-there m k q)

  back : (n p : ℕ) → StepRefused input sheetBytes quota state buffer n p → (n ≡ 0 → ⊥) × (spec.step input sheetBytes quota state buffer ≡ (nothing n p, state, buffer))
  unfolding numbered_copy reported
  back n p w =
      let e = refused-back w in
      (λ z. omega (arith, (numbered_step input sheetBytes quota state buffer).given n p e, z), ap (reported state buffer) e)

  pub refused-exactly : StepRefusedExactly input sheetBytes quota state buffer
  unfolding numbered_copy
  refused-exactly = record {
    exactly = λ n p. (λ h. there n p h.0 h.1, back n p);
    any = nothing_else state buffer (delivering 64 input sheetBytes quota state buffer);
  }
