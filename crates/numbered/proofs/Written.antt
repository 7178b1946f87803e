-- Writing the copy of a recording, numbered on: what the loop keeps.
use Prim.Native.Nat.{ℕ, ◌+◌, ◌-◌, ◌≤◌, ◌<◌}
use mathlib.Core.Path.{◌≡◌, refl, sym, ap, subst, ◌∙◌}
use mathlib.Core.Logic.{⊎_elim}
use mathlib.Core.Bool.{Bool}
use mathlib.Core.List.{List, [], ◌∷◌, ◌++◌, map, append-nil, append_assoc}
use native.Mathlib.Nat.{zero-add}
use native.Mathlib.Omega.{arith}
use lib.ListN.{length, take, drop, length-append}
use lib.Seq.{sets, length-take-le}
use Rattle.rules.specs.Outcome.{Outcome, good, bad}
use Rattle.rules.specs.Items.{count}
use Rattle.rules.specs.Packages as rules
use Rattle.rules.specs.Message as messages
use Rattle.rules.specs.Message.{Head, head, payload_start, every_check, message}
use Rattle.rules.specs.Sheet as rows
use Rattle.rules.specs.Copy.{Entry, with_entry_of, released}
use Rattle.rules.proofs.Outcomes.{stop, good_inj, good≢bad}
use Rattle.rules.proofs.Growing.{released-append}
use Rattle.rules.proofs.Loops.{Doing, doing_start, doing_end, doing_bad, sets-sets, done-part}
use Rattle.message.specs.declared.Message.{Message}
use Rattle.message.specs.declared.Header.{Header}
use Rattle.message.specs.Answers.{head_of_header, front_run, header_in, payload_from, next_from}
use Rattle.message.proofs.Fronts.{front-bad, front_stopped, Fronted, numbers-there, fronted_alone}
use Rattle.wire.specs.Bits.{with_bit}
use Rattle.numbered.specs.declared.Kept.{Kept}
use Rattle.numbered.specs.declared.Reached.{Reached}
use Rattle.numbered.specs.Numbering.{Running, next_number, counted_on, numbers_after, numbered_messages, numbered_bytes, beside, id_of}
use Rattle.numbered.specs.Parts.{message_by, payload_of, flags_of, flags_in, Marked, picked, StoredRun, head_bytes, slot_of, Sees, Ready, Entered, Delivered, Roomy, Wrote}
use Rattle.numbered.proofs.Marks.{flags_long, flags_joined, Shows, shows-part, picked-is, sees_same, sees_more, bit-long}
use Rattle.numbered.proofs.Stores.{sets-before}
use Rattle.numbered.proofs.Numbers.{after-append}
use Rattle.numbered.proofs.States.{beside-ids, beside-next, beside-length, sets_same}
use Rattle.numbered.proofs.Ids.{after-length}
use Rattle.numbered.proofs.Held.{Holds, ids-held, ids-long, next-long, counted_new, counted-ids, Settled, settled}
use Rattle.numbered.proofs.Entries.{entry_bytes, Met, no_message_lem, it, order, inside, behind, run_length, cut-is, ps, flags_grown, grown, bytes_grown, after_grown, one_more_lem, entry_length, payload-least}

-- a message with this front: how many packages it has is not looked at
abbrev whole : ℕ → Header → Message
whole k h = record { header = h; payload = payload_from k h; next = next_from k h; packages = 0 }

-- the front of a message that passes
met_front : (recordingBytes : List ℕ) (k : ℕ) (h : Header) → head_of_header h ≡ head (drop k recordingBytes)
    → (r : ℕ × List (List ℕ)) → every_check k (drop k recordingBytes) (head (drop k recordingBytes)) ≡ good r → Met recordingBytes k (whole k h)
met_front recordingBytes k h same r q =
    let s = sym same in
    record {
      r = r;
      read = q;
      flags = ap (λ (x : Head). x.flags) s;
      id = ap (λ (x : Head). x.id) s;
      seconds = ap (λ (x : Head). x.seconds) s;
      nanos = ap (λ (x : Head). x.nanos) s;
      payload = ap (λ (x : Head). k + payload_start x) s;
      next = ap (λ (x : Head). k + x.size) s;
    }

-- the bits of the ids held, with an id more
sees-counted : (seen : List ℕ) (ns : List Running) → Sees seen (map id_of ns) → length seen ≡ 512 → (x : ℕ) → Sees (with_bit seen (slot_of x)) (map id_of (counted_on x ns))
sees-counted seen ns s long x = ⊎_elim (λ e. rw e (sees_same seen (map id_of ns) s long x)) (λ e. rw e.1 (sees_more seen (map id_of ns) s long x)) (counted-ids x ns)

module _ (rs : List rows.Row) (recordingBytes ids₀ next₀ : List ℕ) (held₀ : ℕ) (before : List ℕ) where
  abbrev ns₀ : List Running
  ns₀ = beside (take held₀ ids₀) (take held₀ next₀)

  pub record Writing (after ids next seen : List ℕ) (reached : Reached) (k passed : ℕ) : Type 0 where
    pub done : List messages.Message
    pub doing : Doing message recordingBytes done k
    pub inside : k ≤ length recordingBytes
    pub holds : Holds ids₀ next₀ ids next reached.held (numbers_after ns₀ (released rs done))
    pub sees : Sees seen (map id_of (numbers_after ns₀ (released rs done)))
    pub long : length seen ≡ 512
    pub many : passed ≡ length (flags_in rs done)
    pub few : passed ≤ k
    pub ends : reached.to ≡ length (numbered_bytes ns₀ (released rs done))
    pub short : reached.to ≤ k
    pub stored : after ≡ sets before 0 (numbered_bytes ns₀ (released rs done))

  module _ (room : Roomy rs recordingBytes ids₀ next₀ held₀) where
    same_long : length (take held₀ ids₀) ≡ length (take held₀ next₀)
    same_long = length-take-le held₀ ids₀ room.ids-held ∙ sym (length-take-le held₀ next₀ room.next-held)

    first-held : Holds ids₀ next₀ ids₀ next₀ held₀ ns₀
    first-held =
        let i = beside-ids (take held₀ ids₀) (take held₀ next₀) same_long in
        let n = beside-next (take held₀ ids₀) (take held₀ next₀) same_long in
        record {
          ids-are = sym (ap (sets ids₀ 0) i ∙ sets_same held₀ ids₀ room.ids-held);
          next-are = sym (ap (sets next₀ 0) n ∙ sets_same held₀ next₀ room.next-held);
          held-is = sym (beside-length (take held₀ ids₀) (take held₀ next₀) same_long ∙ length-take-le held₀ ids₀ room.ids-held);
          once = λ y. rw i (room.once y);
        }

    pub write-start : (seen : List ℕ) → Sees seen (take held₀ ids₀) → length seen ≡ 512 → Writing before ids₀ next₀ seen (record { to = 0; held = held₀ }) 0 0
    unfolding released numbers_after numbered_bytes numbered_messages flags_in
    write-start seen s long = record {
      done = [];
      doing = doing_start message recordingBytes;
      inside = omega arith;
      holds = first-held;
      sees = rw (beside-ids (take held₀ ids₀) (take held₀ next₀) same_long) s;
      long = long;
      many = refl;
      few = omega arith;
      ends = refl;
      short = omega arith;
      stored = refl;
    }

    -- the numbers so far have room
    few : (done : List messages.Message) (k : ℕ) → Doing message recordingBytes done k → length (numbers_after ns₀ (released rs done)) ≤ length (numbers_after ns₀ (released rs room.messages))
    few done k doing =
        let (m, e) = done-part done _ (sym doing ∙ room.read) in
        rw (← e, released-append rs done m, after-append ns₀ (released rs done) (released rs m)) (after-length (numbers_after ns₀ (released rs done)) (released rs m)).least

    module _ (after ids next seen : List ℕ) (reached : Reached) (k passed : ℕ) (inv : Writing after ids next seen reached k passed) where
      abbrev es : List Entry
      es = released rs inv.done

      abbrev ns : List Running
      ns = numbers_after ns₀ es

      ids-few : length ns ≤ length ids₀
      ids-few = omega (arith, few inv.done k inv.doing, room.ids-room)

      next-few : length ns ≤ length next₀
      next-few = omega (arith, few inv.done k inv.doing, room.next-room)

      pub ids_same : length ids ≡ length ids₀
      ids_same = ids-long ids₀ next₀ ids next reached.held ns inv.holds ids-few next-few

      pub next_same : length next ≡ length next₀
      next_same = next-long ids₀ next₀ ids next reached.held ns inv.holds ids-few next-few

      pub write-ended : length recordingBytes ≤ k → Wrote rs recordingBytes ids₀ ids next₀ next held₀ reached.held before after
      write-ended l =
          let all = doing_end message recordingBytes inv.done k inv.doing l in
          record {
            numbers = ns;
            are = λ ms e. ap (λ (x : List messages.Message). numbers_after ns₀ (released rs x)) (good_inj (sym all ∙ e));
            bytes = λ ms e. inv.stored ∙ ap (λ (x : List messages.Message). sets before 0 (numbered_bytes ns₀ (released rs x))) (good_inj (sym all ∙ e));
            ids-after = inv.holds.ids-are;
            next-after = inv.holds.next-are;
            held_after = inv.holds.held-is;
          }

      module _ (short : length recordingBytes ≤ 65536) (l : k < length recordingBytes) where
        no_refusal : {n p : ℕ} → message k (drop k recordingBytes) ≡ bad n p → ⊥
        no_refusal b = good≢bad (sym (doing_bad message recordingBytes inv.done k inv.doing l b) ∙ room.read)

        -- checks 1 to 9 pass
        passes : (n : ℕ) × (good n ≡ front_run recordingBytes k)
        passes = go (front_run recordingBytes k) refl
          where
            go : (o : Outcome ℕ) → front_run recordingBytes k ≡ o → (n : ℕ) × (good n ≡ front_run recordingBytes k)
            go (good n) e = (n, sym e)
            go (bad n p) e = absurd (no_refusal (no_message_lem recordingBytes k short (front_stopped recordingBytes k (front-bad recordingBytes k (sym e)))))

        pub write-there : (h : Header) → h ≡ header_in recordingBytes k 0 → Fronted recordingBytes k h
        write-there h e = subst (Fronted recordingBytes k) (sym e) (fronted_alone recordingBytes k passes.0 passes.1)

        module _ (marks : List ℕ) (marked : Marked rs recordingBytes marks) (h : Header) (e : h ≡ header_in recordingBytes k 0) where
          abbrev m : Message
          m = whole k h

          g : Met recordingBytes k m
          unfolding message
          g = go (every_check k (drop k recordingBytes) (head (drop k recordingBytes))) refl
            where
              go : (o : Outcome (ℕ × List (List ℕ))) → every_check k (drop k recordingBytes) (head (drop k recordingBytes)) ≡ o → Met recordingBytes k m
              go (good r) q = met_front recordingBytes k h (ap head_of_header e ∙ numbers-there recordingBytes k passes.0 passes.1 0) r q
              go (bad n p) q = absurd (no_refusal (stop _ _ q))

          abbrev id : ℕ
          id = m.header.id.0

          abbrev run : List ℕ
          run = take (m.next - m.payload) (drop m.payload recordingBytes)

          abbrev done' : List messages.Message
          done' = inv.done ++ (it recordingBytes k m g ∷ [])

          doing' : Doing message recordingBytes done' m.next
          doing' = one_more_lem recordingBytes inv.done k inv.doing l m g

          -- the flags of its packages stand behind those of the messages before
          shows : Shows rs (message_by m.header) marks passed g.r.1
          shows =
              let (rest, a) = done-part done' _ (sym doing' ∙ room.read) in
              let fs = flags_of rs (message_by m.header) g.r.1 in
              let b : flags_in rs room.messages ≡ flags_in rs inv.done ++ (fs ++ flags_in rs rest) =
              ap (flags_in rs) (sym a) ∙ flags_joined rs done' rest ∙ ap (λ (l : List Bool). l ++ flags_in rs rest) (flags_grown recordingBytes k m g rs inv.done) ∙ append_assoc (flags_in rs inv.done) fs (flags_in rs rest) in
              shows-part rs (message_by m.header) marks passed (flags_in rs inv.done) (flags_in rs rest) g.r.1 inv.many (rw b at (marked.tells room.messages room.read))

          module _ (out : List ℕ) (r : Kept) (z : StoredRun (picked marks passed) run after out (reached.to + 24) r) where
            -- what is stored, with the granted packages as a variable
            record With (qs : List rules.Package) : Type 0 where
              grows : released rs done' ≡ es ++ with_entry_of (it recordingBytes k m g) qs []
              size : r.bytes ≡ length (payload_of qs)
              bytes : out ≡ sets after (reached.to + 24) (payload_of qs)

            with_it : With (ps recordingBytes k m g rs)
            with_it =
                let (a, b, c) = z.right g.r.1 (cut-is recordingBytes k m g) in
                let p = picked-is rs (message_by m.header) marks passed g.r.1 shows in
                record { grows = grown recordingBytes k m g rs inv.done; size = rw p at a; bytes = rw p at b }

            -- so many flags more
            many' : passed + r.all ≡ length (flags_in rs done')
            many' =
                let (a, b, c) = z.right g.r.1 (cut-is recordingBytes k m g) in
                let fs = flags_of rs (message_by m.header) g.r.1 in
                rw (flags_grown recordingBytes k m g rs inv.done) (omega (arith, c, inv.many, length-append (flags_in rs inv.done) fs, flags_long rs (message_by m.header) g.r.1))

            pub few' : passed + r.all ≤ m.next
            few' = omega (arith, z.few, inv.few, run_length recordingBytes k m g, order recordingBytes k m g, behind recordingBytes k m g)

            most : reached.to + (24 + r.bytes) ≤ m.next
            most = omega (arith, z.small, inv.short, run_length recordingBytes k m g, order recordingBytes k m g, behind recordingBytes k m g)

            pub fits : reached.to + (24 + r.bytes) ≤ 65536
            fits = omega (arith, most, inside recordingBytes k m g)

            -- with one entry more there is room for its id
            more-with : (q : rules.Package) (qs : List rules.Package) → With (q ∷ qs) → length (counted_on id ns) ≤ length (numbers_after ns₀ (released rs room.messages))
            more-with q qs w =
                let a : numbers_after ns₀ (released rs done') ≡ counted_on id ns = ap (numbers_after ns₀) w.grows ∙ after_grown recordingBytes k m g rs ns₀ es q qs in
                omega (arith, few done' m.next doing', ap length a)

            ready_with : (qs : List rules.Package) → With qs → (r.bytes ≡ 0 → ⊥) → Ready ids next seen reached.held id
            ready_with [] w h = absurd (h w.size)
            ready_with (q ∷ qs) w h =
                let b = more-with q qs w in
                let t = ids-held ids₀ next₀ ids next reached.held ns inv.holds ids-few next-few in
                let new : count id (take reached.held ids) ≡ 0 → length (counted_on id ns) ≡ length ns + 1 = λ c.
                let f = counted_new id ns (ap (count id) (sym t) ∙ c) in
                ap length f.behind ∙ length-append ns (record { id = id; next = 1 } ∷ []) in
                record {
                  sees = rw t inv.sees;
                  small = omega (arith, inv.holds.held-is, few inv.done k inv.doing, room.few);
                  ids-held = omega (arith, inv.holds.held-is, ids-few, ids_same);
                  next-held = omega (arith, inv.holds.held-is, next-few, next_same);
                  once = rw t (inv.holds.once id);
                  ids-room = λ c. omega (arith, new c, b, room.ids-room, ids_same, inv.holds.held-is);
                  next-room = λ c. omega (arith, new c, b, room.next-room, next_same, inv.holds.held-is);
                }

            pub ready : (r.bytes ≡ 0 → ⊥) → Ready ids next seen reached.held id
            ready h = ready_with (ps recordingBytes k m g rs) with_it h

            -- no entry
            none-with : With [] → Writing out ids next seen reached m.next (passed + r.all)
            unfolding with_entry_of
            none-with w =
                let s : released rs done' ≡ es = w.grows ∙ append-nil es in
                record {
                  done = done';
                  doing = doing';
                  inside = inside recordingBytes k m g;
                  holds = rw s inv.holds;
                  sees = rw s inv.sees;
                  long = inv.long;
                  many = many';
                  few = few';
                  ends = rw s inv.ends;
                  short = omega (arith, inv.short, order recordingBytes k m g, behind recordingBytes k m g);
                  stored = rw (s, w.bytes) inv.stored;
                }

            module _ (final ids' next' seen' : List ℕ) (reached' : Reached) where
              -- one entry
              module _ (d : Entered m.header r.bytes out final ids ids' next next' reached reached') (bit : seen' ≡ with_bit seen (slot_of id)) (q : rules.Package) (qs : List rules.Package) (w : With (q ∷ qs)) where
                place-settled : Settled ids₀ next₀ ids next reached.held ns inv.holds ids-few next-few id d.place d.spot
                    (omega (arith, more-with q qs w, room.ids-room)) (omega (arith, more-with q qs w, room.next-room))
                place-settled = settled ids₀ next₀ ids next reached.held ns inv.holds ids-few next-few id d.place d.spot
                    (omega (arith, more-with q qs w, room.ids-room)) (omega (arith, more-with q qs w, room.next-room))

                abbrev bytes : List ℕ
                bytes = entry_bytes m.header (next_number id ns) (q ∷ qs)

                entry : final ≡ sets after reached.to bytes
                unfolding entry_bytes head_bytes
                entry =
                    rw (d.head, w.bytes, w.size, place-settled.number)
                    (sets-before (head_bytes m.header (next_number id ns) (24 + length (payload_of (q ∷ qs)))) (payload_of (q ∷ qs)) after reached.to)

                one-with : Writing final ids' next' seen' reached' m.next (passed + r.all)
                one-with =
                    let n : numbered_bytes ns₀ (released rs done') ≡ numbered_bytes ns₀ es ++ bytes = ap (numbered_bytes ns₀) w.grows ∙ bytes_grown recordingBytes k m g rs ns₀ es (q ∷ qs) in
                    let a : numbers_after ns₀ (released rs done') ≡ counted_on id ns = ap (numbers_after ns₀) w.grows ∙ after_grown recordingBytes k m g rs ns₀ es q qs in
                    record {
                      done = done';
                      doing = doing';
                      inside = inside recordingBytes k m g;
                      holds = rw (a, d.named, d.counted, d.reached) place-settled.holds;
                      sees = rw (a, bit) (sees-counted seen ns inv.sees inv.long id);
                      long = rw bit (bit-long seen (slot_of id) ∙ inv.long);
                      many = many';
                      few = few';
                      ends = rw (d.reached, n, length-append, entry_length m.header (next_number id ns) q qs, ← w.size, inv.ends);
                      short = rw d.reached most;
                      stored = rw (n, entry, inv.stored, inv.ends) (rw zero-add at (sets-sets (numbered_bytes ns₀ es) bytes before 0));
                    }

              next-with : Delivered m.header r.bytes out final ids ids' next next' seen seen' reached reached' → (qs : List rules.Package) → With qs → Writing final ids' next' seen' reached' m.next (passed + r.all)
              next-with d [] w =
                  let (a, b, c, u, v) = d.none w.size in
                  rw (a, b, c, u, v) (none-with w)
              next-with d (q ∷ qs) w =
                  let some : (r.bytes ≡ 0 → ⊥) = λ h. omega (arith, w.size, payload-least q qs) in
                  one-with (d.one some) (d.bit some) q qs w

              pub write-next : Delivered m.header r.bytes out final ids ids' next next' seen seen' reached reached' → Writing final ids' next' seen' reached' m.next (passed + r.all)
              write-next d = next-with d (ps recordingBytes k m g rs) with_it
