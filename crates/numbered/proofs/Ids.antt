-- Ids: how many are held behind entries, and when they are too many; and what the copy answers then.
use Prim.Native.Nat.{ℕ, suc, ◌+◌, ◌%◌, ◌^◌, ◌≤◌, ◌<◌}
use mathlib.Core.Path.{◌≡◌, refl, ap, sym, ◌∙◌}
use mathlib.Core.Logic.{⊎_elim}
use mathlib.Core.Bool.{Bool, true, false}
use mathlib.Core.List.{List, [], ◌∷◌, map}
use native.Mathlib.Omega.{arith}
use borrow.Author.Tests.{ltb-false, le-ltb, lt-ltb}
use lib.Dec.{eqb, ltb}
use lib.ListN.{length, length-map}
use Rattle.rules.specs.Outcome.{Outcome, good, bad, refuse, ◌>>◌, ROOM}
use Rattle.refusal.specs.Numbers.{IDS}
use Rattle.rules.specs.Buffer.{fitted}
use Rattle.rules.specs.Sheet.{Row, sheet}
use Rattle.rules.specs.Copy.{Entry, released}
use Rattle.rules.proofs.Outcomes.{pass, halt, passed, after, step, stop, stop_before, refused_pass, good≢bad}
use Rattle.rules.proofs.Growing.{released-append}
use Rattle.numbered.specs.Numbering.{Running, counted_on, numbers_after, numbered_bytes, State, running_in, id_of}
use Rattle.numbered.specs.Quota.{bad_state, Taken, taken_from, message_of, ids_fit, delivering, reported, numbered_copy}
use Rattle.numbered.proofs.Numbers.{after-append}

-- ---- how many ids there are

-- an entry adds an id, or none
pub record Grown (n m k : ℕ) : Type 0 where
  pub least : n ≤ m
  pub most : m ≤ n + k

counted-length : (x : ℕ) (ns : List Running) → Grown (length ns) (length (counted_on x ns)) 1
unfolding counted_on
counted-length x [] = record { least = omega arith; most = omega arith }
counted-length x (n ∷ ns) = go (eqb x n.id) (counted-length x ns)
  where
    go : (b : Bool) → Grown (length ns) (length (counted_on x ns)) 1
        → Grown (suc (length ns)) (length {A = Running} (elim b [ true ↦ record { id = n.id; next = (n.next + 1) % 2 ^ 32 } ∷ ns | false ↦ n ∷ counted_on x ns ])) 1
    go true h = record { least = omega arith; most = omega arith }
    go false h = record { least = omega (arith, h.least); most = omega (arith, h.most) }

pub after-length : (ns : List Running) (es : List Entry) → Grown (length ns) (length (numbers_after ns es)) (length es)
unfolding numbers_after
after-length ns [] = record { least = omega arith; most = omega arith }
after-length ns (e ∷ es) =
    let a = counted-length e.id ns in
    let b = after-length (counted_on e.id ns) es in
    record { least = omega (arith, a.least, b.least); most = omega (arith, a.most, b.most) }

-- ---- message by message

pub ids-none : (rows : List Row) (ns : List Running) → numbers_after ns (released rows []) ≡ ns
unfolding released numbers_after
ids-none rows ns = refl

-- the numbers behind one message and those behind it
pub ids-cons : (rows : List Row) (ns : List Running) (t : Taken) (ts : List Taken)
    → numbers_after ns (released rows (map message_of (t ∷ ts))) ≡ numbers_after (numbers_after ns (released rows (t.message ∷ []))) (released rows (map message_of ts))
ids-cons rows ns t ts = ap (numbers_after ns) (released-append rows (t.message ∷ []) (map message_of ts)) ∙ after-append ns (released rows (t.message ∷ [])) (released rows (map message_of ts))

pub ids-few : (most : ℕ) (rows : List Row) (ns : List Running) (ts : List Taken) → length ns ≤ most → ids_fit most rows ns ts ≡ good tt → length (numbers_after ns (released rows (map message_of ts))) ≤ most
unfolding ids_fit
ids-few most rows ns [] l e = rw (ids-none rows ns) l
ids-few most rows ns (t ∷ ts) l e =
    let (b, q) = passed _ _ _ _ e in
    rw (ids-cons rows ns t ts) (ids-few most rows (numbers_after ns (released rows (t.message ∷ []))) ts (ltb-false _ _ b) q)

pub ids-good : (most : ℕ) (rows : List Row) (ns : List Running) (ts : List Taken) → length (numbers_after ns (released rows (map message_of ts))) ≤ most → ids_fit most rows ns ts ≡ good tt
unfolding ids_fit
ids-good most rows ns [] l = refl
ids-good most rows ns (t ∷ ts) l =
    let after = numbers_after ns (released rows (t.message ∷ [])) in
    let m : length (numbers_after after (released rows (map message_of ts))) ≤ most = rw (ids-cons rows ns t ts) at l in
    pass _ _ _ _ (le-ltb most (length after) (omega (arith, m, (after-length after (released rows (map message_of ts))).least))) (ids-good most rows after ts m)

-- a refusal is IDS
pub ids-number : (most : ℕ) (rows : List Row) (ns : List Running) (ts : List Taken) (n p : ℕ) → ids_fit most rows ns ts ≡ bad n p → n ≡ IDS
unfolding ids_fit
ids-number most rows ns [] n p e = absurd (good≢bad (sym e))
ids-number most rows ns (t ∷ ts) n p e = ⊎_elim (λ w. sym w.1) (λ w. ids-number most rows (numbers_after ns (released rows (t.message ∷ []))) ts n p w) (refused_pass _ _ _ _ e)

-- ---- only the ids count

-- ids with one more, if it is not among them
seen_with : ℕ → List ℕ → List ℕ
seen_with x [] = x ∷ []
seen_with x (y ∷ l) = elim (eqb x y) [ true ↦ y ∷ l | false ↦ y ∷ seen_with x l ]

ids-counted : (x : ℕ) (ns : List Running) → map id_of (counted_on x ns) ≡ seen_with x (map id_of ns)
unfolding counted_on seen_with
ids-counted x [] = refl
ids-counted x (n ∷ ns) = go (eqb x n.id) (ids-counted x ns)
  where
    go : (b : Bool) → map id_of (counted_on x ns) ≡ seen_with x (map id_of ns)
        → map {A = Running} id_of (elim b [ true ↦ record { id = n.id; next = (n.next + 1) % 2 ^ 32 } ∷ ns | false ↦ n ∷ counted_on x ns ])
        ≡ elim b [ true ↦ n.id ∷ map id_of ns | false ↦ n.id ∷ seen_with x (map id_of ns) ]
    go true e = refl
    go false e = ap (λ (l : List ℕ). n.id ∷ l) e

pub after_same : (ns ks : List Running) (es : List Entry) → map id_of ns ≡ map id_of ks → map id_of (numbers_after ns es) ≡ map id_of (numbers_after ks es)
unfolding numbers_after
after_same ns ks [] e = e
after_same ns ks (x ∷ es) e = after_same (counted_on x.id ns) (counted_on x.id ks) es (ids-counted x.id ns ∙ ap (seen_with x.id) e ∙ sym (ids-counted x.id ks))

pub ids_same : (most : ℕ) (rows : List Row) (ns ks : List Running) (ts : List Taken) → map id_of ns ≡ map id_of ks → ids_fit most rows ns ts ≡ ids_fit most rows ks ts
unfolding ids_fit
ids_same most rows ns ks [] e = refl
ids_same most rows ns ks (t ∷ ts) e =
    let a = numbers_after ns (released rows (t.message ∷ [])) in
    let b = numbers_after ks (released rows (t.message ∷ [])) in
    let same : map id_of a ≡ map id_of b = after_same ns ks (released rows (t.message ∷ [])) e in
    let size : length a ≡ length b = sym (length-map a id_of) ∙ ap length same ∙ length-map b id_of in
    ap (λ (k : ℕ). refuse (ltb most k) IDS t.place >> ids_fit most rows a ts) size
    ∙ ap (λ (o : Outcome (Unit {0})). refuse (ltb most (length b)) IDS t.place >> o) (ids_same most rows a b ts same)

-- ---- copies whose ids, sheet, size and messages pass

module _ (most : ℕ) (input sheetBytes : List ℕ) (quota : ℕ) (state : State) (buffer : List ℕ) (rows : List Row) (taken : List Taken)
    (good-state : bad_state most state ≡ false) (valid : sheet sheetBytes ≡ good rows) (short : length input ≤ 65536) (read : taken_from input quota ≡ good taken) where
  abbrev ns : List Running
  ns = running_in state

  abbrev es : List Entry
  es = released rows (map message_of taken)

  abbrev bytes : List ℕ
  bytes = numbered_bytes ns es

  pub refused-ids : (n p : ℕ) → ids_fit most rows ns taken ≡ bad n p → numbered_copy most input sheetBytes quota state buffer ≡ reported state buffer (bad n p)
  unfolding numbered_copy delivering
  refused-ids n p e = ap (reported state buffer) (pass _ _ _ _ good-state (step _ _ valid (pass _ _ _ _ (le-ltb 65536 (length input) short) (step _ _ read (stop_before _ _ e)))))

  module _ (ids : ids_fit most rows ns taken ≡ good tt) where
    pub refused-room : length buffer < length bytes → numbered_copy most input sheetBytes quota state buffer ≡ reported state buffer (bad ROOM (length bytes))
    unfolding numbered_copy delivering fitted
    refused-room l = ap (reported state buffer)
        (pass _ _ _ _ good-state (step _ _ valid (pass _ _ _ _ (le-ltb 65536 (length input) short) (step _ _ read (after _ _ ids (stop _ _ (halt _ _ _ _ (lt-ltb (length buffer) (length bytes) l))))))))

    pub copy_done : length bytes ≤ length buffer → numbered_copy most input sheetBytes quota state buffer ≡ reported state buffer (good (taken, es))
    unfolding numbered_copy delivering fitted
    copy_done l = ap (reported state buffer)
        (pass _ _ _ _ good-state (step _ _ valid (pass _ _ _ _ (le-ltb 65536 (length input) short) (step _ _ read (after _ _ ids (step _ _ (pass _ _ _ _ (le-ltb (length buffer) (length bytes) l) refl) refl))))))
