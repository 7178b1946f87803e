-- Runs of steps: the joined outputs are one copy, and tell the released lists apart.
use Prim.Native.Nat.{ℕ, ◌+◌, ◌≤◌}
use mathlib.Core.Path.{◌≡◌, refl, ap, ap₂, sym, subst, ◌∙◌}
use mathlib.Core.List.{List, [], ◌∷◌, ◌++◌, map}
use native.Mathlib.Omega.{arith}
use lib.ListN.{length, drop, length-append, take-append-drop}
use lib.Seq.{length-take-le}
use Rattle.rules.specs.Outcome.{good, bad}
use Rattle.rules.specs.Bytes.{Bytes, join}
use Rattle.rules.specs.Items.{items, All, all_nil}
use Rattle.rules.specs.Message.{Message, message}
use Rattle.rules.specs.Sheet.{Row, sheet}
use Rattle.rules.specs.Packages.{piece_of}
use Rattle.rules.specs.Writer.{write}
use Rattle.rules.specs.Valid.{Valid}
use Rattle.rules.specs.Copy.{Entry, released, copy_message}
use Rattle.rules.proofs.Outcomes.{step, stepped, good_inj, good≢bad}
use Rattle.rules.proofs.Numbers.{bytes_left, bytes-right}
use Rattle.rules.proofs.RoundTrip.{all-written-read}
use Rattle.rules.proofs.Released.{bulk, all_valid, entries}
use Rattle.rules.proofs.Growing.{released-append, all_append}
use Rattle.numbered.specs.Numbering.{Running, next_number, counted_on, numbers_after, numbered_messages, numbered_bytes, State, running_in}
use Rattle.numbered.specs.Quota.{Report}
use Rattle.step.specs.Step as spec
use Rattle.step.specs.Step.{output, consumed}
use Rattle.step.specs.Claims.{StateFits, released_of_any, Run, rest, next}
use Rattle.numbered.proofs.Messages.{messages-append}
use Rattle.numbered.proofs.Numbers.{after-append, bytes-append, valid_numbered}
use Rattle.step.proofs.States.{running_low}
use Rattle.step.proofs.Steps.{Done, done, handles, fits_after}

-- the released list of messages that pass under a sheet that does
list-is : (recordingBytes sheetBytes : List ℕ) (rows : List Row) (ms : List Message) → sheet sheetBytes ≡ good rows → items message 0 0 recordingBytes ≡ good ms → released_of_any recordingBytes sheetBytes ≡ good (released rows ms)
unfolding released_of_any
list-is recordingBytes sheetBytes rows ms v e = step _ _ v (step _ _ e refl)

module _ (sheetBytes : List ℕ) where
  -- what a run comes to
  pub record Ran (rows : List Row) (state end : State) (all joined : List ℕ) : Type 0 where
    pub messages : List Message
    pub read : items message 0 0 all ≡ good messages
    pub copied : joined ≡ numbered_bytes (running_in state) (released rows messages)
    pub numbers : running_in end ≡ numbers_after (running_in state) (released rows messages)
    pub valid : Bytes all → All Valid messages

  module _ (rows : List Row) (v : sheet sheetBytes ≡ good rows) where
    ran_rest : (state : State) → Ran rows state state [] []
    unfolding items released numbers_after numbered_bytes numbered_messages
    ran_rest state = record { messages = []; read = refl; copied = refl; numbers = refl; valid = λ b. all_nil }

    -- one step more in front
    module _ (input : List ℕ) (quota : ℕ) (state end : State) (buffer all joined : List ℕ) (fits : StateFits state) (d : Done input sheetBytes quota state buffer) where
      abbrev answer : Report × State × List ℕ
      answer = spec.step input sheetBytes quota state buffer

      ran_next : Ran rows answer.1 end all joined → Ran rows state end (consumed input answer ++ all) (output answer ++ joined)
      ran_next r =
          let h = handles input sheetBytes quota state buffer fits d in
          let es : h.entries ≡ released rows h.messages = good_inj (sym h.list ∙ list-is (consumed input answer) sheetBytes rows h.messages v h.read) in
          let ns : running_in answer.1 ≡ numbers_after (running_in state) (released rows h.messages) = h.numbers ∙ ap (numbers_after (running_in state)) es in
          let front : output answer ≡ numbered_bytes (running_in state) (released rows h.messages) = h.copied ∙ ap (numbered_bytes (running_in state)) es in
          let behind : joined ≡ numbered_bytes (numbers_after (running_in state) (released rows h.messages)) (released rows r.messages) = r.copied ∙ ap (λ (n : _). numbered_bytes n (released rows r.messages)) ns in
          record {
            messages = h.messages ++ r.messages;
            read = messages-append 0 0 0 (consumed input answer) all (omega arith) h.read r.read;
            copied = ap₂ (λ (a : List ℕ) (b : List ℕ). a ++ b) front behind ∙ sym (bytes-append (running_in state) (released rows h.messages) (released rows r.messages))
                ∙ ap (numbered_bytes (running_in state)) (sym (released-append rows h.messages r.messages));
            numbers = r.numbers ∙ ap (λ (n : _). numbers_after n (released rows r.messages)) ns ∙ sym (after-append (running_in state) (released rows h.messages) (released rows r.messages))
                ∙ ap (numbers_after (running_in state)) (sym (released-append rows h.messages r.messages));
            valid = λ b. all_append
                (all_valid 0 0 (consumed input answer) (bytes_left (consumed input answer) all b) (omega (arith, d.short, h.inside, length-take-le answer.0.consumed input h.inside)) h.read).valid
                (r.valid (bytes-right (consumed input answer) all b));
          }

    pub ran : {state end : State} {all joined : List ℕ} → StateFits state → Run sheetBytes state end all joined → Ran rows state end all joined
    ran {state} fits rest = ran_rest state
    ran {state} {end} fits (next {all = all} {joined = joined} input quota buffer e run) =
        let d = done input sheetBytes quota state buffer e in
        ran_next input quota state end buffer all joined fits d (ran (fits_after input sheetBytes quota state buffer fits d) run)

  -- all that was consumed passes
  pub run-passes : {state end : State} {all joined : List ℕ} → StateFits state → Run sheetBytes state end all joined → (ms : List Message) × (items message 0 0 all ≡ good ms)
  unfolding items
  run-passes fits rest = ([], refl)
  run-passes {state} {end} fits (next {all = all} {joined = joined} input quota buffer e run) =
      let d = done input sheetBytes quota state buffer e in
      let r = ran d.rows d.valid fits (next {end = end} {all = all} {joined = joined} input quota buffer e run) in
      (r.messages, r.read)

  module _ {state end : State} {all joined : List ℕ} (fits : StateFits state) where
    module _ (run : Run sheetBytes state end all joined) where
      module _ (es : List Entry) (list : released_of_any all sheetBytes ≡ good es) where
        record Listed : Type 0 where
          rows : List Row
          valid : sheet sheetBytes ≡ good rows
          is : Ran rows state end all joined
          same : released rows is.messages ≡ es

        listed : Listed
        unfolding released_of_any
        listed =
            let (rows, v, e) = stepped _ _ list in
            let r = ran rows v fits run in
            record { rows = rows; valid = v; is = r; same = good_inj (sym (list-is all sheetBytes rows r.messages v r.read) ∙ list) }

        pub run_copies : (joined ≡ numbered_bytes (running_in state) es) × (running_in end ≡ numbers_after (running_in state) es)
        run_copies =
            let l = listed in
            (l.is.copied ∙ ap (numbered_bytes (running_in state)) l.same, l.is.numbers ∙ ap (numbers_after (running_in state)) l.same)

        -- and is read as such
        pub run-read : Bytes all → items message 0 0 joined ≡ good (numbered_messages (running_in state) es)
        unfolding numbered_bytes
        run-read b =
            let l = listed in
            let v = (entries l.rows (l.is.valid b)).valid in
            ap (items message 0 0) run_copies.0
            ∙ all-written-read (subst (λ (x : List Entry). All Valid (numbered_messages (running_in state) x)) l.same (valid_numbered (running_low state fits) v)) 0

  -- where the sheet or what was consumed is refused, there was no step
  pub run_none : {state end : State} {all joined : List ℕ} → StateFits state → Run sheetBytes state end all joined → (n p : ℕ) → released_of_any all sheetBytes ≡ bad n p → (joined ≡ []) × (running_in end ≡ running_in state)
  run_none fits rest n p e = (refl, refl)
  run_none {state} {end} fits (next {all = all} {joined = joined} input quota buffer e run) n p q =
      let d = done input sheetBytes quota state buffer e in
      let r = ran d.rows d.valid fits (next {end = end} {all = all} {joined = joined} input quota buffer e run) in
      absurd (good≢bad (sym q ∙ list-is _ sheetBytes d.rows r.messages d.valid r.read))

-- ---- what is written is never longer than what was consumed

entry-size : (n : ℕ) (e : Entry) → length (write (copy_message n e)) ≡ 24 + length (join (map piece_of e.packages))
unfolding write copy_message
entry-size n e = omega arith

bytes-bulk : (ns : List Running) (es : List Entry) → length (numbered_bytes ns es) ≡ bulk (λ (e : Entry). e.packages) es
unfolding numbered_bytes numbered_messages
bytes-bulk ns [] = refl
bytes-bulk ns (e ∷ es) =
    length-append (write (copy_message (next_number e.id ns) e)) (numbered_bytes (counted_on e.id ns) es)
    ∙ omega (arith, entry-size (next_number e.id ns) e, bytes-bulk (counted_on e.id ns) es)

pub not_longer : (input sheetBytes : List ℕ) (quota : ℕ) (state : State) (buffer : List ℕ) → StateFits state → Bytes input → (d : Done input sheetBytes quota state buffer)
    → (spec.step input sheetBytes quota state buffer).0.bytes ≤ (spec.step input sheetBytes quota state buffer).0.consumed
unfolding released_of_any
not_longer input sheetBytes quota state buffer fits b d =
    let h = handles input sheetBytes quota state buffer fits d in
    let answer = spec.step input sheetBytes quota state buffer in
    let part : List ℕ = consumed input answer in
    let long : length part ≡ answer.0.consumed = length-take-le answer.0.consumed input h.inside in
    let w = all_valid 0 0 part (bytes_left part (drop answer.0.consumed input) (subst Bytes (sym (take-append-drop answer.0.consumed input)) b)) (omega (arith, long, h.inside, d.short)) h.read in
    let v = entries d.rows w.valid in
    let es : h.entries ≡ released d.rows h.messages = good_inj (sym h.list ∙ list-is part sheetBytes d.rows h.messages d.valid h.read) in
    let size : length (numbered_bytes (running_in state) h.entries) ≡ bulk (λ (e : Entry). e.packages) (released d.rows h.messages) = ap (λ (x : List Entry). length (numbered_bytes (running_in state) x)) es ∙ bytes-bulk (running_in state) (released d.rows h.messages) in
    omega (arith, h.bytes, ap length h.copied, size, v.small, w.small, long)
