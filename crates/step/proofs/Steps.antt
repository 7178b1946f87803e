-- One step: what it says where it is not refused.
use Prim.Native.Nat.{ℕ, zero, suc, ◌+◌, ◌-◌, ◌≤◌, ◌<◌}
use mathlib.Core.Path.{◌≡◌, refl, ap, sym, subst, ◌∙◌}
use mathlib.Core.Bool.{false}
use mathlib.Core.List.{List, [], ◌∷◌, map}
use native.Mathlib.Omega.{arith}
use borrow.Author.Tests.{ltb-false}
use lib.ListN.{length, get_or, take, set, length-map}
use lib.Seq.{sets, get_or-set_other}
use Rattle.rules.specs.Outcome.{Outcome, good, bad}
use Rattle.rules.specs.Items.{count}
use Rattle.rules.specs.Buffer.{fitted}
use Rattle.rules.specs.Sheet.{Row, sheet}
use Rattle.rules.specs.Copy.{Entry, released}
use Rattle.rules.specs.Claims.{Careful}
use Rattle.rules.proofs.Outcomes.{step, stepped, passed, came_after}
use Rattle.rules.proofs.Gives.{Gives, Numbered, gives_good, gives_check, gives_after, gives_step, gives_front, numbered-message, numbered-sheet}
use Rattle.rules.proofs.Kept.{careful_sets, careful_none, take-sets}
use Rattle.numbered.specs.Numbering.{Running, numbers_after, numbered_bytes, State, running_in, id_of, next_of, holding}
use Rattle.numbered.specs.Quota.{bad_state, Taken, taken_at, first_items, taken_from, message_of, ids_fit, delivering, Report, reported, numbered_copy}
use Rattle.numbered.proofs.Messages.{First, first_taken}
use Rattle.numbered.proofs.Numbers.{low-after}
use Rattle.numbered.proofs.Ids.{ids-few}
use Rattle.numbered.proofs.States.{good-few, good-single}
use Rattle.numbered.proofs.Twice.{twice-once}
use Rattle.numbered.proofs.Held.{once_after}
use Rattle.step.specs.Step as spec
use Rattle.step.specs.Step.{output}
use Rattle.step.specs.Claims.{StateFits, released_of_any, nothing, Handles}
use Rattle.step.proofs.States.{running_low, running_length, running_ids, running_holding, fits-holding, good-holding}

-- ---- no refusal has number 0

numbered-first : (q k p : ℕ) (s : List ℕ) → Gives Numbered (first_items taken_at q k p s)
unfolding first_items taken_at
numbered-first q k p [] = gives_good
numbered-first q (suc k) p (x ∷ s) = numbered-first q k (suc p) s
numbered-first zero zero p (x ∷ s) = gives_good
numbered-first (suc q) zero p (x ∷ s) = gives_step (gives_step (numbered-message p (x ∷ s)) (λ r. gives_good)) (λ r. gives_front _ _ (numbered-first q (r.1 - 1) (suc p) s))

numbered-ids : (rows : List Row) (ns : List Running) (ts : List Taken) → Gives Numbered (ids_fit 64 rows ns ts)
unfolding ids_fit
numbered-ids rows ns [] = gives_good
numbered-ids rows ns (t ∷ ts) = gives_check _ _ _ (omega arith) (numbered-ids rows (numbers_after ns (released rows (t.message ∷ []))) ts)

pub numbered_step : (input sheetBytes : List ℕ) (quota : ℕ) (state : State) (buffer : List ℕ) → Gives Numbered (delivering 64 input sheetBytes quota state buffer)
unfolding delivering taken_from fitted
numbered_step input sheetBytes quota state buffer =
    gives_check _ _ _ (omega arith) (gives_step (numbered-sheet sheetBytes) (λ rows. gives_check _ _ _ (omega arith)
    (gives_step (numbered-first quota 0 0 input) (λ ts. gives_after (numbered-ids rows (running_in state) ts)
    (gives_step (gives_check _ _ _ (omega arith) gives_good) (λ b. gives_good))))))

-- ---- what is known of a step that is not refused

module _ (input sheetBytes : List ℕ) (quota : ℕ) (state : State) (buffer : List ℕ) where
  pub record Done : Type 0 where
    pub rows : List Row
    pub taken : List Taken
    pub good-state : bad_state 64 state ≡ false
    pub valid : sheet sheetBytes ≡ good rows
    pub short : length input ≤ 65536
    pub read : taken_from input quota ≡ good taken
    pub ids : ids_fit 64 rows (running_in state) taken ≡ good tt
    pub room : length (numbered_bytes (running_in state) (released rows (map message_of taken))) ≤ length buffer
    pub is : spec.step input sheetBytes quota state buffer ≡ reported state buffer (good (taken, released rows (map message_of taken)))

  done-with : (r : List Taken × List Entry) → delivering 64 input sheetBytes quota state buffer ≡ good r → Done
  unfolding delivering fitted numbered_copy
  done-with r e =
      let all = e in
      let (b, e) = passed _ _ _ _ e in
      let (rows, v, e) = stepped _ _ e in
      let (l, e) = passed _ _ _ _ e in
      let (ts, t, e) = stepped _ _ e in
      let (i, e) = came_after _ _ e in
      let (bytes, f, e) = stepped _ _ e in
      let (room, f) = passed _ _ _ _ f in
      record {
        rows = rows;
        taken = ts;
        good-state = b;
        valid = v;
        short = ltb-false _ _ l;
        read = t;
        ids = i;
        room = ltb-false _ _ room;
        is = ap (reported state buffer) (all ∙ sym e);
      }

  pub done : (spec.step input sheetBytes quota state buffer).0.number ≡ 0 → Done
  unfolding numbered_copy reported
  done e = go (delivering 64 input sheetBytes quota state buffer) refl e
    where
      go : (o : Outcome (List Taken × List Entry)) → delivering 64 input sheetBytes quota state buffer ≡ o → (reported state buffer o).0.number ≡ 0 → Done
      go (good r) q z = done-with r q
      go (bad n p) q z = absurd (omega (arith, (numbered_step input sheetBytes quota state buffer).given n p q, z))

-- ---- what is behind stores at the start stays

set-behind : (l : List ℕ) (i v k : ℕ) → i < k → get_or (set l i v) k 0 ≡ get_or l k 0
set-behind l i v k h = get_or-set_other l i k v 0 (λ e. omega (arith, e))

sets_behind : (vs l : List ℕ) (i k : ℕ) → i + length vs ≤ k → get_or (sets l i vs) k 0 ≡ get_or l k 0
sets_behind [] l i k h = refl
sets_behind (v ∷ vs) l i k h = sets_behind vs (set l i v) (suc i) k (omega arith) ∙ set-behind l i v k (omega arith)

get_d_behind : (l vs : List ℕ) (k : ℕ) → length vs ≤ k → get_or (sets l 0 vs) k 0 ≡ get_or l k 0
get_d_behind l vs k h = sets_behind vs l 0 k (omega arith)

-- ---- a refused step

pub nothing_else : (state : State) (buffer : List ℕ) (o : Outcome (List Taken × List Entry)) → ((reported state buffer o).0.number ≡ 0 → ⊥)
    → reported state buffer o ≡ (nothing (reported state buffer o).0.number (reported state buffer o).0.place, state, buffer)
unfolding reported
nothing_else state buffer (good r) h = absurd (h refl)
nothing_else state buffer (bad n p) h = refl

pub careful_reported : (state : State) (buffer : List ℕ) (o : Outcome (List Taken × List Entry)) → Careful (reported state buffer o).0.number (reported state buffer o).0.bytes buffer (reported state buffer o).2
unfolding reported
careful_reported state buffer (good r) = careful_sets buffer (numbered_bytes (running_in state) r.1)
careful_reported state buffer (bad n p) = careful_none n buffer

-- places behind those held stay
pub unused-reported : (state : State) (buffer : List ℕ) (o : Outcome (List Taken × List Entry)) (k : ℕ) → (reported state buffer o).1.held ≤ k
    → (get_or (reported state buffer o).1.ids k 0 ≡ get_or state.ids k 0) × (get_or (reported state buffer o).1.next k 0 ≡ get_or state.next k 0)
unfolding reported holding
unused-reported state buffer (good r) k l =
    let ns = numbers_after (running_in state) r.1 in
    (get_d_behind state.ids (map id_of ns) k (omega (arith, l, length-map ns id_of)), get_d_behind state.next (map next_of ns) k (omega (arith, l, length-map ns next_of)))
unused-reported state buffer (bad n p) k l = (refl, refl)

-- ---- a step that is done

module _ (input sheetBytes : List ℕ) (quota : ℕ) (state : State) (buffer : List ℕ) (fits : StateFits state) (d : Done input sheetBytes quota state buffer) where
  abbrev entries : List Entry
  entries = released d.rows (map message_of d.taken)

  abbrev numbers : List Running
  numbers = numbers_after (running_in state) entries

  pub numbers-few : length numbers ≤ 64
  numbers-few =
      let h = good-few 64 state.ids state.held d.good-state in
      ids-few 64 d.rows (running_in state) d.taken (omega (arith, running_length state fits h, h)) d.ids

  took : First quota input d.taken
  took = first_taken input quota d.read

  -- the answer
  abbrev answer : Report × State × List ℕ
  answer = reported state buffer (good (d.taken, entries))

  handles_with : Handles input sheetBytes quota state answer.1 answer.0 (output answer)
  unfolding reported released_of_any
  handles_with =
      let w : take (length (numbered_bytes (running_in state) entries)) (sets buffer 0 (numbered_bytes (running_in state) entries)) ≡ numbered_bytes (running_in state) entries =
      take-sets buffer (numbered_bytes (running_in state) entries) d.room in
      record {
        messages = map message_of d.taken;
        read = took.read 0;
        handled = sym (length-map d.taken message_of);
        within = took.few;
        all = took.all;
        inside = took.inside;
        entries = entries;
        list = step _ _ d.valid (step _ _ (took.read 0) refl);
        copied = w;
        bytes = ap length (sym w);
        entries-written = refl;
        packages-written = refl;
        numbers = running_holding state fits numbers numbers-few;
      }

  pub handles : Handles input sheetBytes quota state (spec.step input sheetBytes quota state buffer).1 (spec.step input sheetBytes quota state buffer).0 (output (spec.step input sheetBytes quota state buffer))
  handles = subst (λ (a : Report × State × List ℕ). Handles input sheetBytes quota state a.1 a.0 (output a)) (sym d.is) handles_with

  pub state-after : (spec.step input sheetBytes quota state buffer).1 ≡ holding state numbers
  unfolding reported
  state-after = ap (λ (a : Report × State × List ℕ). a.1) d.is

  pub fits_after : StateFits (spec.step input sheetBytes quota state buffer).1
  fits_after = subst StateFits (sym state-after) (fits-holding state fits numbers numbers-few (low-after entries (running_low state fits)))

  -- the next step takes the state
  pub taken-after : bad_state 64 (spec.step input sheetBytes quota state buffer).1 ≡ false
  taken-after =
      let once : (y : ℕ) → count y (map id_of (running_in state)) ≤ 1 = λ y. rw (running_ids state (fits.ids ∙ sym fits.next)) (twice-once (take state.held state.ids) (good-single 64 state.ids state.held d.good-state) y) in
      subst (λ (s : State). bad_state 64 s ≡ false) (sym state-after) (good-holding state fits numbers numbers-few (once_after (running_in state) entries once))
