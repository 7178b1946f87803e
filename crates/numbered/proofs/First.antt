-- With no id held and a quota above all, what is copied is the single copy, and what is measured is its measurement.
use Prim.Native.Nat.{ℕ, zero, suc, ◌-◌, ◌/◌, ◌%◌, ◌^◌, ◌≤◌}
use mathlib.Core.Path.{◌≡◌, refl, ap, ap₂, sym, ◌∙◌}
use mathlib.Core.Bool.{Bool, true, false}
use mathlib.Core.Logic.{◌↔◌}
use mathlib.Core.List.{List, [], ◌∷◌, map}
use native.Mathlib.Omega.{arith}
use borrow.Author.Tests.{ltb-false, le-ltb}
use lib.Dec.{ltb}
use lib.ListN.{length}
use lib.Seq.{sets}
use Rattle.rules.specs.Outcome.{Outcome, good, bad, ◌>>=◌, ◌∷>◌, LARGE, ROOM}
use Rattle.refusal.specs.Numbers.{IDS}
use Rattle.rules.specs.Bytes.{put32, join}
use Rattle.rules.specs.Items.{items, All, all_nil, count}
use Rattle.rules.specs.Message.{Message, message, recording}
use Rattle.rules.specs.Buffer.{fitted}
use Rattle.rules.specs.Writer.{write}
use Rattle.rules.specs.Sheet.{Row, sheet}
use Rattle.rules.specs.Copy as rules
use Rattle.rules.specs.Copy.{Entry, released, copy_message, copy_messages, copy_bytes, packages_in, released_of, room_for, filled, answered, measurement, copy}
use Rattle.rules.proofs.Outcomes.{step, stop, pass, halt, after, stop_before, good≢bad}
use Rattle.numbered.specs.Numbering.{Running, next_number, counted_on, numbered_messages, numbered_bytes, beside, State, running_in}
use Rattle.numbered.specs.Quota.{bad_ids, bad_state, some_twice, Taken, taken_at, first_items, taken_from, message_of, ids_fit, delivering, measuring, Report, reported, numbered_copy, settled, copy_of, as_copy}
use Rattle.numbered.proofs.Numbers.{Low, low-counted, next-counted, count-cons}
use Rattle.numbered.proofs.Ids.{ids-number, ids-good, after-length}
use Rattle.numbered.proofs.Messages.{few-released}

-- ---- all messages

on_messages : Outcome (List Taken) → Outcome (List Message)
on_messages (good ts) = good (map message_of ts)
on_messages (bad n p) = bad n p

on-front : (t : Taken) (o : Outcome (List Taken)) (o' : Outcome (List Message)) → on_messages o ≡ o' → on_messages (t ∷> o) ≡ (t.message ∷> o')
unfolding on_messages ◌∷>◌
on-front t (good ts) o' e = rw (← e)
on-front t (bad n p) o' e = rw (← e)

-- a quota of no fewer than the bytes takes all messages
all-taken : (q k p : ℕ) (s : List ℕ) → length s ≤ q → on_messages (first_items taken_at q k p s) ≡ items message k p s
unfolding on_messages first_items taken_at items ◌>>=◌
all-taken q k p [] l = refl
all-taken q (suc k) p (x ∷ s) l = all-taken q k (suc p) s (omega arith)
all-taken zero zero p (x ∷ s) l = absurd (omega arith)
all-taken (suc q) zero p (x ∷ s) l = go (message p (x ∷ s)) (λ k. all-taken q k (suc p) s (omega arith))
  where
    go : (o : Outcome (Message × ℕ)) → ((k : ℕ) → on_messages (first_items taken_at q k (suc p) s) ≡ items message k (suc p) s)
        → on_messages ((o >>= (λ (r : Message × ℕ). good (record { message = r.0; place = p; size = r.1 }, r.1))) >>= (λ (r : Taken × ℕ). r.0 ∷> first_items taken_at q (r.1 - 1) (suc p) s))
        ≡ (o >>= (λ (r : Message × ℕ). r.0 ∷> items message (r.1 - 1) (suc p) s))
    go (good r) h = on-front (record { message = r.0; place = p; size = r.1 }) _ _ (h (r.1 - 1))
    go (bad n j) h = refl

on-bad : (o : Outcome (List Taken)) {n p : ℕ} → on_messages o ≡ bad n p → o ≡ bad n p
unfolding on_messages
on-bad (good ts) e = absurd (good≢bad (sym e))
on-bad (bad n p) e = cc

-- and is refused as all are
all-refused : (q : ℕ) (s : List ℕ) {n p : ℕ} → length s ≤ q → (taken_from s q ≡ bad n p) ↔ (items message 0 0 s ≡ bad n p)
unfolding taken_from on_messages
all-refused q s l = (λ e. sym (all-taken q 0 0 s l) ∙ ap on_messages e, λ e. on-bad _ (all-taken q 0 0 s l ∙ e))

-- ---- the numbers count the earlier entries, in the 32 bits that a message has for them

-- of a sequence number no more is written
low_put : (n : ℕ) (t : List ℕ) → put32 (n % 2 ^ 32) t ≡ put32 n t
low_put n t =
    let a : n % 2 ^ 32 / 16777216 % 256 ≡ n / 16777216 % 256 = omega arith in
    let b : n % 2 ^ 32 / 65536 % 256 ≡ n / 65536 % 256 = omega arith in
    let c : n % 2 ^ 32 / 256 % 256 ≡ n / 256 % 256 = omega arith in
    let d : n % 2 ^ 32 % 256 ≡ n % 256 = omega arith in
    rw (a, b, c, d)

low-written : (n : ℕ) (e : Entry) → write (copy_message (n % 2 ^ 32) e) ≡ write (copy_message n e)
unfolding write copy_message
low-written n e = rw (low_put n)

numbered_copies : (ns : List Running) (seen : List ℕ) (es : List Entry) → All Low ns → ((x : ℕ) → next_number x ns ≡ count x seen % 2 ^ 32)
    → map write (numbered_messages ns es) ≡ map write (copy_messages seen es)
unfolding numbered_messages copy_messages
numbered_copies ns seen [] low h = refl
numbered_copies ns seen (e ∷ es) low h =
    let more : (x : ℕ) → next_number x (counted_on e.id ns) ≡ count x (e.id ∷ seen) % 2 ^ 32 = λ x.
    next-counted x e.id low ∙ omega (arith, h x, count-cons x e.id seen) in
    ap₂ (λ (b : List ℕ) (bs : List (List ℕ)). b ∷ bs)
    (ap (λ (n : ℕ). write (copy_message n e)) (h e.id) ∙ low-written (count e.id seen) e)
    (numbered_copies (counted_on e.id ns) (e.id ∷ seen) es (low-counted e.id low) more)

pub bytes-copied : (es : List Entry) → numbered_bytes [] es ≡ copy_bytes es
unfolding numbered_bytes copy_bytes next_number count
bytes-copied es = ap join (numbered_copies [] [] es all_nil (λ x. refl))

-- ---- the whole copy

pub no_numbers : (state : State) → state.held ≡ 0 → running_in state ≡ []
unfolding beside
no_numbers state none = rw none

module _ (most : ℕ) (input sheetBytes : List ℕ) (quota : ℕ) (state : State) (buffer : List ℕ) (none : state.held ≡ 0) (above : length input ≤ quota) where
  good_none : bad_state most state ≡ false
  unfolding bad_ids some_twice
  good_none = rw (none, le-ltb most 0 (omega arith))

  abbrev outcome : Outcome (List Entry)
  outcome = released_of input sheetBytes >>= room_for buffer

  same_refused : (n p : ℕ) → delivering most input sheetBytes quota state buffer ≡ bad n p → outcome ≡ bad n p → as_copy (numbered_copy most input sheetBytes quota state buffer) ≡ copy input sheetBytes buffer
  unfolding numbered_copy reported copy answered rules.reported filled
  same_refused n p e f = ap (λ (o : Outcome (List Taken × List Entry)). as_copy (reported state buffer o)) e ∙ sym (ap (answered buffer) f)

  same_done : (ts : List Taken) (es : List Entry) → delivering most input sheetBytes quota state buffer ≡ good (ts, es) → outcome ≡ good es → numbered_bytes (running_in state) es ≡ copy_bytes es
      → as_copy (numbered_copy most input sheetBytes quota state buffer) ≡ copy input sheetBytes buffer
  unfolding numbered_copy reported copy answered rules.reported filled
  same_done ts es e f b = ap (λ (o : Outcome (List Taken × List Entry)). as_copy (reported state buffer o)) e
      ∙ ap (λ (bytes : List ℕ). (record { number = 0; place = 0; bytes = length bytes; messages = length es; packages = packages_in es }, sets buffer 0 bytes)) b ∙ sym (ap (answered buffer) f)

  -- the refusal where the ids are too many
  crowded : (rows : List Row) (ts : List Taken) (p : ℕ) → sheet sheetBytes ≡ good rows → ltb 65536 (length input) ≡ false → taken_from input quota ≡ good ts → ids_fit most rows (running_in state) ts ≡ bad IDS p
      → delivering most input sheetBytes quota state buffer ≡ bad IDS p
  unfolding delivering
  crowded rows ts p v small t i = pass _ _ _ _ good_none (step _ _ v (pass _ _ _ _ small (step _ _ t (stop_before _ _ i))))

  -- sheet, size and messages pass
  module _ (rows : List Row) (v : sheet sheetBytes ≡ good rows) (small : ltb 65536 (length input) ≡ false) (ts : List Taken) (t : taken_from input quota ≡ good ts) where
    messages-are : items message 0 0 input ≡ good (map message_of ts)
    unfolding taken_from on_messages
    messages-are = sym (all-taken quota 0 0 input above) ∙ ap on_messages t

    list-is : released_of input sheetBytes ≡ good (released rows (map message_of ts))
    unfolding released_of recording
    list-is = step _ _ v (step _ _ (pass _ _ _ _ small messages-are) refl)

    bytes-are : numbered_bytes (running_in state) (released rows (map message_of ts)) ≡ copy_bytes (released rows (map message_of ts))
    bytes-are = ap (λ (ns : List Running). numbered_bytes ns (released rows (map message_of ts))) (no_numbers state none) ∙ bytes-copied (released rows (map message_of ts))

  module _ (fit : (rows : List Row) (ts : List Taken) (p : ℕ) → sheet sheetBytes ≡ good rows → ltb 65536 (length input) ≡ false → taken_from input quota ≡ good ts → ids_fit most rows (running_in state) ts ≡ bad IDS p → ⊥) where
    -- sheet and size pass
    module _ (rows : List Row) (v : sheet sheetBytes ≡ good rows) (small : ltb 65536 (length input) ≡ false) where
      -- and the messages
      module _ (ts : List Taken) (t : taken_from input quota ≡ good ts) where
        abbrev es : List Entry
        es = released rows (map message_of ts)

        module _ (i : ids_fit most rows (running_in state) ts ≡ good tt) where
          with-room : (b : Bool) → ltb (length buffer) (length (copy_bytes es)) ≡ b → as_copy (numbered_copy most input sheetBytes quota state buffer) ≡ copy input sheetBytes buffer
          unfolding delivering fitted room_for
          with-room true r =
              same_refused ROOM (length (copy_bytes es))
              (pass _ _ _ _ good_none (step _ _ v (pass _ _ _ _ small (step _ _ t (after _ _ i (stop _ _ (rw (bytes-are rows v small ts t) (halt _ _ _ _ r))))))))
              (step _ _ (list-is rows v small ts t) (stop _ _ (halt _ _ _ _ r)))
          with-room false r =
              same_done ts es
              (pass _ _ _ _ good_none (step _ _ v (pass _ _ _ _ small (step _ _ t (after _ _ i (step _ _ (pass _ _ _ _ (ap (λ (s : List ℕ). ltb (length buffer) (length s)) (bytes-are rows v small ts t) ∙ r) refl) refl))))))
              (step _ _ (list-is rows v small ts t) (step _ _ (pass _ _ _ _ r refl) refl))
              (bytes-are rows v small ts t)

        with-ids : (o : Outcome (Unit {0})) → ids_fit most rows (running_in state) ts ≡ o → as_copy (numbered_copy most input sheetBytes quota state buffer) ≡ copy input sheetBytes buffer
        unfolding delivering
        with-ids (good tt) i = with-room i (ltb (length buffer) (length (copy_bytes es))) refl
        with-ids (bad n p) i =
            let z = ids-number most rows (running_in state) ts n p i in
            absurd (fit rows ts p v small t (i ∙ ap (λ (k : ℕ). bad k p) z))

      with-messages : (o : Outcome (List Taken)) → taken_from input quota ≡ o → as_copy (numbered_copy most input sheetBytes quota state buffer) ≡ copy input sheetBytes buffer
      unfolding delivering released_of recording taken_from on_messages
      with-messages (good ts) t = with-ids ts t (ids_fit most rows (running_in state) ts) refl
      with-messages (bad n p) t =
          same_refused n p
          (pass _ _ _ _ good_none (step _ _ v (pass _ _ _ _ small (stop _ _ t))))
          (stop _ _ (step _ _ v (stop _ _ (pass _ _ _ _ small ((all-refused quota input above).0 t)))))

    with_size : (rows : List Row) → sheet sheetBytes ≡ good rows → (b : Bool) → ltb 65536 (length input) ≡ b → as_copy (numbered_copy most input sheetBytes quota state buffer) ≡ copy input sheetBytes buffer
    unfolding delivering released_of recording
    with_size rows v false l = with-messages rows v l (taken_from input quota) refl
    with_size rows v true l = same_refused LARGE 65536 (pass _ _ _ _ good_none (step _ _ v (halt _ _ _ _ l))) (stop _ _ (step _ _ v (stop _ _ (halt _ _ _ _ l))))

    with-sheet : (o : Outcome (List Row)) → sheet sheetBytes ≡ o → as_copy (numbered_copy most input sheetBytes quota state buffer) ≡ copy input sheetBytes buffer
    unfolding delivering released_of
    with-sheet (good rows) v = with_size rows v (ltb 65536 (length input)) refl
    with-sheet (bad n p) v = same_refused n p (pass _ _ _ _ good_none (stop _ _ v)) (stop _ _ (stop _ _ v))

    same_copy : as_copy (numbered_copy most input sheetBytes quota state buffer) ≡ copy input sheetBytes buffer
    same_copy = with-sheet (sheet sheetBytes) refl

  -- unless the ids are too many
  pub first_copies : ((numbered_copy most input sheetBytes quota state buffer).0.number ≡ IDS → ⊥) → as_copy (numbered_copy most input sheetBytes quota state buffer) ≡ copy input sheetBytes buffer
  unfolding numbered_copy reported
  first_copies not-ids = same_copy (λ rows ts p v small t i. not-ids (ap (λ (o : Outcome (List Taken × List Entry)). (reported state buffer o).0.number) (crowded rows ts p v small t i)))

  -- which they cannot be where there is room for as many as an input delivers
  pub all-copied : 1820 ≤ most → as_copy (numbered_copy most input sheetBytes quota state buffer) ≡ copy input sheetBytes buffer
  all-copied l = same_copy (λ rows ts p v small t i.
      let a = after-length (running_in state) (released rows (map message_of ts)) in
      let f = ids-good most rows (running_in state) ts (omega (arith, a.most, ap length (no_numbers state none), few-released rows input quota (ltb-false 65536 (length input) small) t, l)) in
      good≢bad (sym i ∙ f))

  -- ---- measured alone

  pub all-measured : copy_of (reported state buffer (measuring input sheetBytes quota)).0 ≡ measurement input sheetBytes
  unfolding measuring measurement released_of recording reported rules.reported
  all-measured = with_rows (sheet sheetBytes) refl
    where
      alike : (o : Outcome (List Taken × List Entry)) (l : Outcome (List Entry)) (n p : ℕ) → o ≡ bad n p → l ≡ bad n p → copy_of (reported state buffer o).0 ≡ rules.reported l
      alike o l n p e f = ap (λ (x : Outcome (List Taken × List Entry)). copy_of (reported state buffer x).0) e ∙ sym (ap rules.reported f)

      with-taken : (rows : List Row) → sheet sheetBytes ≡ good rows → ltb 65536 (length input) ≡ false → (o : Outcome (List Taken)) → taken_from input quota ≡ o
          → copy_of (reported state buffer (measuring input sheetBytes quota)).0 ≡ measurement input sheetBytes
      with-taken rows v small (good ts) t =
          ap (λ (x : Outcome (List Taken × List Entry)). copy_of (reported state buffer x).0) (step _ _ v (pass _ _ _ _ small (step _ _ t refl)))
          ∙ ap (λ (s : List ℕ). record { number = 0; place = 0; bytes = length s; messages = length (released rows (map message_of ts)); packages = packages_in (released rows (map message_of ts)) }) (bytes-are rows v small ts t)
          ∙ sym (ap rules.reported (list-is rows v small ts t))
      with-taken rows v small (bad n p) t = alike _ _ n p (step _ _ v (pass _ _ _ _ small (stop _ _ t))) (step _ _ v (stop _ _ (pass _ _ _ _ small ((all-refused quota input above).0 t))))

      with-large : (rows : List Row) → sheet sheetBytes ≡ good rows → (b : Bool) → ltb 65536 (length input) ≡ b → copy_of (reported state buffer (measuring input sheetBytes quota)).0 ≡ measurement input sheetBytes
      with-large rows v false l = with-taken rows v l (taken_from input quota) refl
      with-large rows v true l = alike _ _ LARGE 65536 (step _ _ v (halt _ _ _ _ l)) (step _ _ v (stop _ _ (halt _ _ _ _ l)))

      with_rows : (o : Outcome (List Row)) → sheet sheetBytes ≡ o → copy_of (reported state buffer (measuring input sheetBytes quota)).0 ≡ measurement input sheetBytes
      with_rows (good rows) v = with-large rows v (ltb 65536 (length input)) refl
      with_rows (bad n p) v = alike _ _ n p (stop _ _ v) (stop _ _ v)

  -- ---- and by what is settled

  pub measured-is : (x : Report × State × List ℕ) → x ≡ settled true most input sheetBytes quota state buffer → copy_of x.0 ≡ measurement input sheetBytes
  unfolding settled
  measured-is x e = ap (λ (y : Report × State × List ℕ). copy_of y.0) e ∙ all-measured

  pub copied_is : 1820 ≤ most → (x : Report × State × List ℕ) → x ≡ settled false most input sheetBytes quota state buffer → as_copy x ≡ copy input sheetBytes buffer
  unfolding settled
  copied_is l x e = ap as_copy e ∙ all-copied l
