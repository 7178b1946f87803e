-- When ids are too many, which steps are done, and which do nothing.
use Prim.Native.Nat.{ℕ, ◌≤◌, ◌<◌}
use mathlib.Core.Path.{◌≡◌, refl, ap, sym, ◌∙◌}
use mathlib.Core.Bool.{Bool, true, false}
use mathlib.Core.List.{List, [], ◌∷◌, ◌++◌, map}
use native.Mathlib.Omega.{arith}
use borrow.Author.Tests.{ltb-true, ltb-false, le-ltb, lt-ltb}
use lib.Dec.{ltb}
use lib.ListN.{length}
use Rattle.rules.specs.Outcome.{Outcome, good, bad}
use Rattle.refusal.specs.Numbers.{IDS}
use Rattle.rules.specs.Sheet.{Row, sheet}
use Rattle.rules.specs.Copy.{Entry, released, packages_in}
use Rattle.rules.proofs.Outcomes.{pass, halt, good≢bad}
use Rattle.numbered.specs.Numbering.{Running, numbers_after, numbered_messages, numbered_bytes, State, running_in}
use Rattle.numbered.specs.Quota.{bad_state, Taken, taken_at, first_items, taken_from, message_of, bytes_taken, ids_fit, reported}
use Rattle.numbered.proofs.States.{good-few}
use Rattle.numbered.proofs.Ids.{after-length, ids-none, ids-cons, ids-good, copy_done}
use Rattle.step.specs.Step as spec
use Rattle.step.specs.Claims.{StateFits, TooMany, nothing}
use Rattle.step.proofs.States.{holding_same}

many-cons : (rows : List Row) (ns : List Running) (t : Taken) (ts : List Taken) (p : ℕ) → TooMany rows (numbers_after ns (released rows (t.message ∷ []))) ts p → TooMany rows ns (t ∷ ts) p
many-cons rows ns t ts p w = record {
  before = t ∷ w.before;
  one = w.one;
  behind = w.behind;
  taken-are = ap (λ (l : List Taken). t ∷ l) w.taken-are;
  is = w.is;
  few = rw (ids-cons rows ns t w.before) w.few;
  many = rw (ids-cons rows ns t (w.before ++ w.one ∷ [])) w.many;
}

pub ids-many : (rows : List Row) (ns : List Running) (ts : List Taken) (n p : ℕ) → length ns ≤ 64 → ids_fit 64 rows ns ts ≡ bad n p → (n ≡ IDS) × TooMany rows ns ts p
unfolding ids_fit
ids-many rows ns [] n p l e = absurd (good≢bad (sym e))
ids-many rows ns (t ∷ ts) n p l e = go (ltb 64 (length after)) refl (λ m. ids-many rows after ts n p m)
  where
    after : List Running
    after = numbers_after ns (released rows (t.message ∷ []))

    go : (b : Bool) → ltb 64 (length after) ≡ b → (length after ≤ 64 → ids_fit 64 rows after ts ≡ bad n p → (n ≡ IDS) × TooMany rows after ts p) → (n ≡ IDS) × TooMany rows ns (t ∷ ts) p
    go true b h =
        let z : ◌≡◌ {A = Outcome (Unit {0})} (bad IDS t.place) (bad n p) = sym (halt _ _ _ _ b) ∙ e in
        (cc, record { before = []; one = t; behind = ts; taken-are = refl; is = cc; few = rw (ids-none rows ns) l; many = ltb-true _ _ b })
    go false b h =
        let r = h (ltb-false _ _ b) (sym (pass _ _ _ _ b refl) ∙ e) in
        (r.0, many-cons rows ns t ts p r.1)

fits_not : (rows : List Row) (ns : List Running) (before : List Taken) (one : Taken) (behind : List Taken) → length (numbers_after ns (released rows (map message_of before))) ≤ 64
    → 64 < length (numbers_after ns (released rows (map message_of (before ++ one ∷ [])))) → ids_fit 64 rows ns (before ++ one ∷ behind) ≡ bad IDS one.place
unfolding ids_fit
fits_not rows ns [] one behind few many = halt _ _ _ _ (lt-ltb 64 (length (numbers_after ns (released rows (one.message ∷ [])))) many)
fits_not rows ns (t ∷ before) one behind few many =
    let after = numbers_after ns (released rows (t.message ∷ [])) in
    let h : length (numbers_after after (released rows (map message_of before))) ≤ 64 = rw (ids-cons rows ns t before) at few in
    pass _ _ _ _ (le-ltb 64 (length after) (omega (arith, h, (after-length after (released rows (map message_of before))).least)))
    (fits_not rows after before one behind h (rw (ids-cons rows ns t (before ++ one ∷ [])) at many))

pub many-ids : (rows : List Row) (ns : List Running) (ts : List Taken) (p : ℕ) → TooMany rows ns ts p → ids_fit 64 rows ns ts ≡ bad IDS p
many-ids rows ns ts p w =
    ap (ids_fit 64 rows ns) w.taken-are ∙ fits_not rows ns w.before w.one w.behind w.few w.many ∙ ap (λ (k : ℕ). bad IDS k) w.is

-- ---- steps whose state, sheet, size and messages pass

module _ (input sheetBytes : List ℕ) (quota : ℕ) (state : State) (buffer : List ℕ) (rows : List Row) (taken : List Taken)
    (good-state : bad_state 64 state ≡ false) (valid : sheet sheetBytes ≡ good rows) (short : length input ≤ 65536) (read : taken_from input quota ≡ good taken) where
  abbrev ns : List Running
  ns = running_in state

  abbrev es : List Entry
  es = released rows (map message_of taken)

  abbrev bytes : List ℕ
  bytes = numbered_bytes ns es

  pub room-enough : length (numbers_after ns es) ≤ 64 → length bytes ≤ length buffer
      → ((spec.step input sheetBytes quota state buffer).0.number ≡ 0) × ((spec.step input sheetBytes quota state buffer).0.place ≡ 0) × ((spec.step input sheetBytes quota state buffer).0.handled ≡ length taken) × ((spec.step input sheetBytes quota state buffer).0.consumed ≡ bytes_taken taken)
  unfolding reported
  room-enough few l = rw (copy_done 64 input sheetBytes quota state buffer rows taken good-state valid short read (ids-good 64 rows ns taken few) l) (refl, refl, refl, refl)

-- ---- quota 0

none_first : (s : List ℕ) → first_items taken_at 0 0 0 s ≡ good []
unfolding first_items
none_first [] = refl
none_first (x ∷ s) = refl

pub none-taken : (input sheetBytes : List ℕ) (state : State) (buffer : List ℕ) → StateFits state → bad_state 64 state ≡ false → (rows : List Row) → sheet sheetBytes ≡ good rows → length input ≤ 65536
    → spec.step input sheetBytes 0 state buffer ≡ (nothing 0 0, state, buffer)
unfolding taken_from ids_fit reported released packages_in numbers_after numbered_bytes numbered_messages bytes_taken
none-taken input sheetBytes state buffer fits b rows v l =
    copy_done 64 input sheetBytes 0 state buffer rows [] b v l (none_first input) refl (omega arith)
    ∙ ap (λ (st : State). (nothing 0 0, st, buffer)) (holding_same state fits (good-few 64 state.ids state.held b))
