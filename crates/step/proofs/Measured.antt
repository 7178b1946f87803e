-- A step measured alone: from any numbers of the same ids, a step with room reports the same and holds the same ids.
use Prim.Native.Nat.{ℕ, ◌≤◌, ◌<◌}
use mathlib.Core.Path.{◌≡◌, refl, ap, ap₂, sym, subst, ◌∙◌}
use mathlib.Core.Bool.{Bool, true, false}
use mathlib.Core.List.{List, map}
use native.Mathlib.Omega.{arith}
use borrow.Author.Tests.{ltb-true, ltb-false}
use lib.Dec.{ltb}
use lib.ListN.{length, replicate, length-replicate, length-map}
use lib.Seq.{sets}
use Rattle.rules.specs.Outcome.{Outcome, good, bad, ROOM}
use Rattle.rules.specs.Bytes.{Bytes}
use Rattle.rules.specs.Sheet.{Row, sheet}
use Rattle.rules.specs.Copy.{Entry, released, packages_in}
use Rattle.rules.proofs.Outcomes.{pass, halt, step, stop}
use Rattle.numbered.specs.Numbering.{numbers_after, numbered_bytes, State, running_in, id_of, holding}
use Rattle.numbered.specs.Quota.{bad_state, Taken, taken_from, message_of, bytes_taken, ids_fit, delivering, Report, reported, numbered_copy, measured_ids, at_zero}
use Rattle.numbered.proofs.Ids.{ids_same, after_same, refused-ids, refused-room, copy_done}
use Rattle.numbered.proofs.Entries.{bytes-length}
use Rattle.step.specs.Step as spec
use Rattle.step.specs.Claims.{StateFits, SameIds}
use Rattle.step.proofs.States.{running_ids}
use Rattle.step.proofs.Steps.{done, handles}
use Rattle.step.proofs.Runs.{not_longer}

-- reports that are the same, and ids
abbrev Alike : Report × State × List ℕ → Report × State × List ℕ → Type 0
Alike a b = (a.0 ≡ b.0) × SameIds a.1 b.1

module _ (input sheetBytes : List ℕ) (quota : ℕ) (state : State) (buffer : List ℕ) (fits : StateFits state) (bytes : Bytes input) where
  abbrev twin : State
  twin = at_zero state.ids state.held

  abbrev wide : List ℕ
  wide = replicate 65536 0

  abbrev mine : Report × State × List ℕ
  mine = spec.step input sheetBytes quota state buffer

  abbrev other : Report × State × List ℕ
  other = numbered_copy 64 input sheetBytes quota twin wide

  same_running : map id_of (running_in state) ≡ map id_of (running_in twin)
  same_running = running_ids state (fits.ids ∙ sym fits.next) ∙ sym (running_ids twin (sym (length-replicate {A = ℕ} (length state.ids) 0)))

  -- both are refused alike
  both-bad : (n p : ℕ) → mine ≡ reported state buffer (bad n p) → other ≡ reported twin wide (bad n p) → Alike mine other
  unfolding reported
  both-bad n p a b = (
    ap (λ (x : Report × State × List ℕ). x.0) a ∙ sym (ap (λ (x : Report × State × List ℕ). x.0) b),
    record {
      ids = ap (λ (x : Report × State × List ℕ). x.1.ids) a ∙ sym (ap (λ (x : Report × State × List ℕ). x.1.ids) b);
      held = ap (λ (x : Report × State × List ℕ). x.1.held) a ∙ sym (ap (λ (x : Report × State × List ℕ). x.1.held) b);
    },
  )

  module _ (rows : List Row) (taken : List Taken) (good-state : bad_state 64 state ≡ false) (valid : sheet sheetBytes ≡ good rows) (short : length input ≤ 65536) (read : taken_from input quota ≡ good taken) where
    abbrev es : List Entry
    es = released rows (map message_of taken)

    abbrev size : ℕ
    size = length (numbered_bytes (running_in state) es)

    fit_alike : ids_fit 64 rows (running_in twin) taken ≡ ids_fit 64 rows (running_in state) taken
    fit_alike = ids_same 64 rows (running_in twin) (running_in state) taken (sym same_running)

    ids-bad : (n p : ℕ) → ids_fit 64 rows (running_in state) taken ≡ bad n p → Alike mine other
    ids-bad n p e = both-bad n p (refused-ids 64 input sheetBytes quota state buffer rows taken good-state valid short read n p e) (refused-ids 64 input sheetBytes quota twin wide rows taken good-state valid short read n p (fit_alike ∙ e))

    module _ (ids : ids_fit 64 rows (running_in state) taken ≡ good tt) where
      -- what is written is not longer than the input
      not_long : size ≤ length input
      unfolding reported
      not_long =
          let out = numbered_bytes (running_in state) es in
          let is = copy_done 64 input sheetBytes quota state out rows taken good-state valid short read ids (omega arith) in
          let d = done input sheetBytes quota state out (ap (λ (x : Report × State × List ℕ). x.0.number) is) in
          omega (arith, not_longer input sheetBytes quota state out fits bytes d, (handles input sheetBytes quota state out fits d).inside, ap (λ (x : Report × State × List ℕ). x.0.bytes) is)

      no_room : length buffer < size → mine.0.number ≡ ROOM
      unfolding reported
      no_room l = ap (λ (x : Report × State × List ℕ). x.0.number) (refused-room 64 input sheetBytes quota state buffer rows taken good-state valid short read ids l)

      both-good : size ≤ length buffer → Alike mine other
      unfolding reported holding
      both-good l =
          let a = copy_done 64 input sheetBytes quota state buffer rows taken good-state valid short read ids l in
          let n = bytes-length (running_in state) (running_in twin) es in
          let b = copy_done 64 input sheetBytes quota twin wide rows taken good-state valid short read (fit_alike ∙ ids) (omega (arith, n, not_long, short, length-replicate {A = ℕ} 65536 0)) in
          let i : map id_of (numbers_after (running_in state) es) ≡ map id_of (numbers_after (running_in twin) es) = after_same (running_in state) (running_in twin) es same_running in (
            ap (λ (x : Report × State × List ℕ). x.0) a
                ∙ ap (λ (k : ℕ). record { number = 0; place = 0; handled = length taken; consumed = bytes_taken taken; bytes = k; messages = length es; packages = packages_in es }) n
                ∙ sym (ap (λ (x : Report × State × List ℕ). x.0) b),
            record {
              ids = ap (λ (x : Report × State × List ℕ). x.1.ids) a ∙ ap (sets state.ids 0) i ∙ sym (ap (λ (x : Report × State × List ℕ). x.1.ids) b);
              held = ap (λ (x : Report × State × List ℕ). x.1.held) a ∙ sym (length-map (numbers_after (running_in state) es) id_of) ∙ ap length i ∙ length-map (numbers_after (running_in twin) es) id_of
                  ∙ sym (ap (λ (x : Report × State × List ℕ). x.1.held) b);
            },
          )

  -- where messages that pass have room
  module _ (has_room : (rows : List Row) (taken : List Taken) (good-state : bad_state 64 state ≡ false) (valid : sheet sheetBytes ≡ good rows) (short : length input ≤ 65536) (read : taken_from input quota ≡ good taken)
      (ids : ids_fit 64 rows (running_in state) taken ≡ good tt) → length (numbered_bytes (running_in state) (released rows (map message_of taken))) ≤ length buffer) where
    fifth : (rows : List Row) (taken : List Taken) → bad_state 64 state ≡ false → sheet sheetBytes ≡ good rows → length input ≤ 65536 → taken_from input quota ≡ good taken
        → (o : Outcome (Unit {0})) → ids_fit 64 rows (running_in state) taken ≡ o → Alike mine other
    fifth rows taken g v l r (good tt) e = both-good rows taken g v l r e (has_room rows taken g v l r e)
    fifth rows taken g v l r (bad n p) e = ids-bad rows taken g v l r n p e

    fourth : (rows : List Row) → bad_state 64 state ≡ false → sheet sheetBytes ≡ good rows → ltb 65536 (length input) ≡ false → (o : Outcome (List Taken)) → taken_from input quota ≡ o → Alike mine other
    unfolding numbered_copy delivering
    fourth rows g v l (good ts) e = fifth rows ts g v (ltb-false _ _ l) e (ids_fit 64 rows (running_in state) ts) refl
    fourth rows g v l (bad n p) e = both-bad n p (ap (reported state buffer) (pass _ _ _ _ g (step _ _ v (pass _ _ _ _ l (stop _ _ e))))) (ap (reported twin wide) (pass _ _ _ _ g (step _ _ v (pass _ _ _ _ l (stop _ _ e)))))

    third : (rows : List Row) → bad_state 64 state ≡ false → sheet sheetBytes ≡ good rows → (b : Bool) → ltb 65536 (length input) ≡ b → Alike mine other
    unfolding numbered_copy delivering
    third rows g v false e = fourth rows g v e (taken_from input quota) refl
    third rows g v true e = both-bad 12 65536 (ap (reported state buffer) (pass _ _ _ _ g (step _ _ v (halt _ _ _ _ e)))) (ap (reported twin wide) (pass _ _ _ _ g (step _ _ v (halt _ _ _ _ e))))

    second : bad_state 64 state ≡ false → (o : Outcome (List Row)) → sheet sheetBytes ≡ o → Alike mine other
    unfolding numbered_copy delivering
    second g (good rows) e = third rows g e (ltb 65536 (length input)) refl
    second g (bad n p) e = both-bad n p (ap (reported state buffer) (pass _ _ _ _ g (stop _ _ e))) (ap (reported twin wide) (pass _ _ _ _ g (stop _ _ e)))

    first : (b : Bool) → bad_state 64 state ≡ b → Alike mine other
    unfolding numbered_copy delivering
    first false e = second e (sheet sheetBytes) refl
    first true e = both-bad _ _ (ap (reported state buffer) (halt _ _ _ _ e)) (ap (reported twin wide) (halt _ _ _ _ e))

    measured-with : (other-state : State) → SameIds state other-state
        → (mine.0 ≡ (spec.measured_step input sheetBytes quota other-state).0) × SameIds mine.1 (spec.measured_step input sheetBytes quota other-state).1
    unfolding measured_ids
    measured-with other-state s =
        let w = first (bad_state 64 state) refl in
        subst (λ (x : List ℕ × ℕ). (mine.0 ≡ (numbered_copy 64 input sheetBytes quota (at_zero x.0 x.1) (replicate 65536 0)).0) × SameIds mine.1 (record {
          ids = (numbered_copy 64 input sheetBytes quota (at_zero x.0 x.1) (replicate 65536 0)).1.ids;
          next = other-state.next;
          held = (numbered_copy 64 input sheetBytes quota (at_zero x.0 x.1) (replicate 65536 0)).1.held;
        })) (ap₂ (λ (a : List ℕ) (b : ℕ). (a, b)) s.ids s.held) (w.0, record { ids = w.1.ids; held = w.1.held })

  pub measured-room : (mine.0.number ≡ ROOM → ⊥) → (other-state : State) → SameIds state other-state
      → (mine.0 ≡ (spec.measured_step input sheetBytes quota other-state).0) × SameIds mine.1 (spec.measured_step input sheetBytes quota other-state).1
  measured-room h = measured-with (λ rows taken g v l r i. go rows taken g v l r i (ltb (length buffer) (length (numbered_bytes (running_in state) (released rows (map message_of taken))))) refl)
    where
      go : (rows : List Row) (taken : List Taken) → bad_state 64 state ≡ false → sheet sheetBytes ≡ good rows → length input ≤ 65536 → taken_from input quota ≡ good taken → ids_fit 64 rows (running_in state) taken ≡ good tt
          → (b : Bool) → ltb (length buffer) (length (numbered_bytes (running_in state) (released rows (map message_of taken)))) ≡ b → length (numbered_bytes (running_in state) (released rows (map message_of taken))) ≤ length buffer
      go rows taken g v l r i true e = absurd (h (no_room rows taken g v l r i (ltb-true _ _ e)))
      go rows taken g v l r i false e = ltb-false _ _ e

  pub measured-long : length input ≤ length buffer → (other-state : State) → SameIds state other-state
      → (mine.0 ≡ (spec.measured_step input sheetBytes quota other-state).0) × SameIds mine.1 (spec.measured_step input sheetBytes quota other-state).1
  measured-long l = measured-with (λ rows taken g v s r i. omega (arith, not_long rows taken g v s r i))
