-- The copy whole: a law for each of its answers.
use Prim.Native.Nat.{ℕ, ◌+◌, ◌-◌, ◌≤◌, ◌<◌}
use mathlib.Core.Path.{◌≡◌, refl, sym, ap, subst, ◌∙◌}
use mathlib.Core.Logic.{⊎_elim}
use mathlib.Core.Bool.{Bool, true, false, ◌&&◌, false≢true}
use mathlib.Core.List.{List, [], ◌++◌, map}
use native.Mathlib.Nat.{zero-add}
use native.Mathlib.Omega.{arith}
use borrow.Author.Tests.{ltb-false, le-ltb, eqb-true, leb-true, leb-false, eq-eqb, le-leb, lt-leb}
use lib.Dec.{leb, ltb, eqb}
use lib.ListN.{length, take, replicate, length-append, length-take, length-replicate, length-map}
use lib.Seq.{sets, length-take-le}
use Rattle.rules.specs.Outcome.{Outcome, good, bad, refuse, ◌>>◌}
use Rattle.rules.specs.Items.{items, count}
use Rattle.rules.specs.Message.{Message, message}
use Rattle.rules.specs.Sheet as rows
use Rattle.rules.specs.Copy.{Entry, released}
use Rattle.rules.proofs.Loops.{sets-sets}
use Rattle.rules.proofs.Outcomes.{pass, halt, step, stop, passed, came_after, stepped, good_inj, good≢bad, refused-step, refused-at, stop_before, refused-checks}
use Rattle.refusal.specs.declared.Refusal.{Refusal}
use Rattle.refusal.specs.declared.Why.TheVariants.{Room}
use Rattle.refusal.specs.Numbers.{IDS, number_of, refused}
use Rattle.numbered.specs.declared.Progress.{Progress}
use Rattle.std.specs.Prelude.{min, Result, Ok, Err}
use Rattle.numbered.specs.Numbering.{Running, numbers_after, numbered_bytes, State, running_in, id_of, next_of, holding}
use Rattle.numbered.specs.Quota.{bad_ids, Taken, taken_from, message_of, bytes_taken, ids_fit, delivering, measuring, Report, reported, numbered_copy, settled, shorter, most_in}
use Rattle.numbered.specs.Parts.{named, flags_in, Tells, Marked, Single, Roomy, Wrote, known_of, room_of, Most, refused_ids, Shut, answered}
use Rattle.numbered.specs.Told.{totals, progress, measured, MarkedBy, report, state_of, told}
use Rattle.numbered.proofs.Messages.{First, first_taken, few-released}
use Rattle.numbered.proofs.States.{beside-ids, beside-length, sets_same, good-few, good-single}
use Rattle.numbered.proofs.Twice.{twice-once}
use Rattle.numbered.proofs.Ids.{ids-few, ids-good, after_same, ids_same, after-length, refused-room, copy_done}
use Rattle.numbered.proofs.Seating.{named-ids}
use Rattle.numbered.proofs.Entries.{bytes-length}

-- ---- how many ids may be held

pub min_is : (m n : ℕ) → min m n ≡ shorter m n
min_is m n = go (leb m n) refl
  where
    go : (b : Bool) → leb m n ≡ b → min m n ≡ elim b [ true ↦ m | false ↦ n ]
    go true e = omega (arith, leb-true m n e)
    go false e = omega (arith, leb-false m n e)

pub shorter-least : (m n : ℕ) → (shorter m n ≤ m) × (shorter m n ≤ n)
shorter-least m n = go (leb m n) refl
  where
    go : (b : Bool) → leb m n ≡ b → (elim b [ true ↦ m | false ↦ n ] ≤ m) × (elim b [ true ↦ m | false ↦ n ] ≤ n)
    go true e = (omega arith, leb-true m n e)
    go false e = (omega (arith, leb-false m n e), omega arith)

shorter-both : (k m n : ℕ) → k ≤ m → k ≤ n → k ≤ shorter m n
shorter-both k m n a b = go (leb m n)
  where
    go : (c : Bool) → k ≤ elim c [ true ↦ m | false ↦ n ]
    go true = a
    go false = b

-- 64 at most in so many places beside as many numbers
pub most-ids : (ids : List ℕ) (held most : ℕ) → most ≤ length ids → most ≤ 64 → Most (shorter (length ids) (length {A = ℕ} (replicate (length ids) 0))) held most
most-ids ids held most l m = record {
  inside = shorter-both most (length ids) (length {A = ℕ} (replicate (length ids) 0)) l (omega (arith, length-replicate {A = ℕ} (length ids) 0));
  wide = λ f. absurd (omega arith);
  small = omega arith;
}

pub most_narrow : (places held : ℕ) → places < 1820 → shorter places 64 ≡ most_in places held
most_narrow places held l = go (eqb held 0)
  where
    go : (b : Bool) → shorter places 64 ≡ elim (b && leb 1820 places) [ true ↦ 1820 | false ↦ shorter places 64 ]
    go true = rw (lt-leb 1820 places l)
    go false = refl

pub most-wide : (places held : ℕ) → held ≡ 0 → 1820 ≤ places → 1820 ≡ most_in places held
most-wide places held e l = rw (eq-eqb held 0 e, le-leb 1820 places l, most_in)

-- room for all that an input can bring
pub most-all : (m n held : ℕ) → held ≡ 0 → 1820 ≤ m → 1820 ≤ n → 1820 ≤ most_in (shorter m n) held
most-all m n held e a b = go (leb m n) refl
  where
    longer : (c : Bool) → leb m n ≡ c → 1820 ≤ shorter m n
    longer true f = rw (f, shorter) a
    longer false f = rw (f, shorter) b

    go : (c : Bool) → leb m n ≡ c → 1820 ≤ most_in (shorter m n) held
    go c f = omega (arith, most-wide (shorter m n) held e (longer c f))

pub most-is : (places held : ℕ) → Most places held (most_in places held)
most-is places held = go (eqb held 0) refl (leb 1820 places) refl
  where
    go : (a : Bool) → eqb held 0 ≡ a → (b : Bool) → leb 1820 places ≡ b → Most places held (elim (a && b) [ true ↦ 1820 | false ↦ shorter places 64 ])
    go true e true f =
        let z = eqb-true held 0 e in
        record { inside = leb-true 1820 places f; wide = λ l. omega arith; small = omega arith }
    go true e false f = let (a, b) = shorter-least places 64 in record { inside = a; wide = λ l. absurd (omega arith); small = omega arith }
    go false e true f = let (a, b) = shorter-least places 64 in record { inside = a; wide = λ l. absurd (omega arith); small = omega arith }
    go false e false f = let (a, b) = shorter-least places 64 in record { inside = a; wide = λ l. absurd (omega arith); small = omega arith }

-- ---- every answer

module _ (input sheetBytes : List ℕ) (quota : ℕ) (ids next : List ℕ) (held : ℕ) (buffer : List ℕ) (most : ℕ) (w : Most (shorter (length ids) (length next)) held most) where
  abbrev state : State
  state = state_of ids next held

  abbrev outcome : Bool → Outcome (List Taken × List Entry)
  outcome true = measuring input sheetBytes quota
  outcome false = delivering most input sheetBytes quota state buffer

  -- a refusal of either
  refusal : (alone : Bool) (f : Refusal) → outcome alone ≡ bad (number_of f.why) f.place
      → told (record { answer = Err f; held = held }) ids next buffer ≡ settled alone most input sheetBytes quota state buffer
  unfolding settled numbered_copy reported
  refusal true f e = sym (ap (λ (o : Outcome (List Taken × List Entry)). ((reported state buffer o).0, state, buffer)) e)
  refusal false f e = sym (ap (reported state buffer) e)

  -- the ids or the sheet are refused
  pub shut : (alone : Bool) (f : Refusal) → Shut alone most ids held sheetBytes f → told (answered (Err f) held) ids next buffer ≡ settled alone most input sheetBytes quota state buffer
  unfolding measuring delivering
  shut alone f s = refusal alone f (go alone s.why)
    where
      go : (b : Bool) → (refuse (refused_ids b most ids held) IDS 0 >> rows.sheet sheetBytes) ≡ refused f → outcome b ≡ refused f
      go true e = ⊎_elim (λ l. absurd (false≢true l.0)) (λ l. stop _ _ l.1) (refused-at _ _ _ _ e)
      go false e = ⊎_elim (λ l. halt _ _ _ _ l.0 ∙ rw (l.1, l.2)) (λ l. pass _ _ _ _ l.0 (stop _ _ l.1)) (refused-at _ _ _ _ e)

  -- what is known of ids that can be held
  module _ (good-ids : bad_ids most ids held ≡ false) where
    held-few : held ≤ most
    held-few = good-few most ids held good-ids

    ids-many : most ≤ length ids
    ids-many = omega (arith, w.inside, (shorter-least (length ids) (length next)).0)

    next-many : most ≤ length next
    next-many = omega (arith, w.inside, (shorter-least (length ids) (length next)).1)

    ids-long : length (take held ids) ≡ held
    ids-long = length-take-le held ids (omega (arith, held-few, ids-many))

    next-long : length (take held next) ≡ held
    next-long = length-take-le held next (omega (arith, held-few, next-many))

    top-is : length (take held ids) + (most - held) ≡ most
    top-is = omega (arith, ids-long, held-few)

    -- the ids known are those of the running numbers
    same_ids : map id_of (named (take held ids)) ≡ map id_of (running_in state)
    same_ids = named-ids (take held ids) ∙ sym (beside-ids (take held ids) (take held next) (ids-long ∙ sym next-long))

    same_fit : (rs : List rows.Row) (ts : List Taken) → ids_fit (length (take held ids) + (most - held)) rs (named (take held ids)) ts ≡ ids_fit most rs (running_in state) ts
    same_fit rs ts = ap (λ (k : ℕ). ids_fit k rs (named (take held ids)) ts) top-is ∙ ids_same most rs (named (take held ids)) (running_in state) ts same_ids

  -- measured alone, the ids are never too many
  module _ (rs : List rows.Row) (short : length input ≤ 65536) (ts : List Taken) (t : taken_from input quota ≡ good ts) where
    never_many : ids_fit (length {A = ℕ} (take 0 ids) + 1820) rs (named (take 0 ids)) ts ≡ good tt
    unfolding named
    never_many = ids-good 1820 rs [] ts (omega (arith, (after-length [] (released rs (map message_of ts))).most, few-released rs input quota short t))

  -- what measuring asks
  pub record Asked (alone : Bool) : Type 0 where
    pub inside : known_of alone held ≤ length ids
    pub small : length (take (known_of alone held) ids) ≤ 65536
    pub single : Single (take (known_of alone held) ids)
    pub wide : 64 < room_of alone most held → 1820 ≤ room_of alone most held

  pub asked : (alone : Bool) → refused_ids alone most ids held ≡ false → Asked alone
  unfolding count
  asked true g = record { inside = omega arith; small = omega arith; single = record { once = λ x. omega arith }; wide = λ l. omega arith }
  asked false g = record {
    inside = omega (arith, held-few g, ids-many g);
    small = omega (arith, ids-long g, held-few g, w.small);
    single = record { once = twice-once (take held ids) (good-single most ids held g) };
    wide = w.wide;
  }

  pub held-most : (alone : Bool) → refused_ids alone most ids held ≡ false → alone ≡ false → held ≤ most
  held-most true g e = let z : ◌≡◌ {A = ℕ} 0 1 = cc in absurd (omega arith)
  held-most false g e = held-few g

  -- messages that pass
  module _ (rs : List rows.Row) (p : Progress) where
    pub record Measure (known : List ℕ) (room : ℕ) : Type 0 where
      pub taken : List Taken
      pub short : length input ≤ 65536
      pub read : taken_from input quota ≡ good taken
      pub ids-fit : ids_fit (length known + room) rs (named known) taken ≡ good tt
      pub sum : progress (length taken) (bytes_taken taken) (totals (released rs (map message_of taken))) ≡ p

    measure : (known : List ℕ) (room : ℕ) → good p ≡ measured rs input quota known room → Measure known room
    unfolding measured
    measure known room e =
        let (l, q) = passed _ _ _ _ (sym e) in
        let (ts, t, q) = stepped _ _ q in
        let (i, q) = came_after _ _ q in
        record { taken = ts; short = ltb-false _ _ l; read = t; ids-fit = i; sum = good_inj q }

    -- how many bytes its entries take, numbered on from anything
    bytes-are : (known : List ℕ) (room : ℕ) (m : Measure known room) → length (numbered_bytes (running_in state) (released rs (map message_of m.taken))) ≡ p.bytes
    bytes-are known room m = bytes-length (running_in state) [] (released rs (map message_of m.taken)) ∙ ap (λ (x : Progress). x.bytes) m.sum

    -- the report of what makes this progress
    report-is : (known : List ℕ) (room : ℕ) (m : Measure known room) → report (Ok p) ≡ (reported state buffer (good (m.taken, released rs (map message_of m.taken)))).0
    unfolding reported
    report-is known room m =
        ap (λ (x : Progress). report (Ok x)) (sym m.sum)
        ∙ ap (λ (b : ℕ). record { number = 0; place = 0; handled = length m.taken; consumed = bytes_taken m.taken; bytes = b; messages = (totals (released rs (map message_of m.taken))).messages; packages = (totals (released rs (map message_of m.taken))).packages })
        (sym (bytes-length (running_in state) [] (released rs (map message_of m.taken))))

    -- written too
    module _ (good-ids : bad_ids most ids held ≡ false) (e : good p ≡ measured rs input quota (take held ids) (most - held)) where
      abbrev m : Measure (take held ids) (most - held)
      m = measure (take held ids) (most - held) e

      abbrev es : List Entry
      es = released rs (map message_of m.taken)

      abbrev bytes : List ℕ
      bytes = numbered_bytes (running_in state) es

      abbrev numbers : List Running
      numbers = numbers_after (running_in state) es

      took : First quota input m.taken
      took = first_taken input quota m.read

      fit : ids_fit most rs (running_in state) m.taken ≡ good tt
      fit = sym (same_fit good-ids rs m.taken) ∙ m.ids-fit

      long : length bytes ≡ p.bytes
      long = bytes-are (take held ids) (most - held) m

      consumed-is : bytes_taken m.taken ≡ p.consumed
      consumed-is = ap (λ (x : Progress). x.consumed) m.sum

      pub consumed-inside : p.consumed ≤ length input
      consumed-inside = omega (arith, took.inside, consumed-is)

      pub part-short : length (take p.consumed input) ≤ 65536
      part-short = omega (arith, length-take p.consumed input, m.short)

      part-read : items message 0 0 (take p.consumed input) ≡ good (map message_of m.taken)
      part-read = ap (λ (k : ℕ). items message 0 0 (take k input)) (sym consumed-is) ∙ took.read 0

      running_few : length (running_in state) ≤ most
      running_few = omega (arith, beside-length (take held ids) (take held next) (ids-long good-ids ∙ sym (next-long good-ids)), ids-long good-ids, held-few good-ids)

      numbers-few : length numbers ≤ most
      numbers-few = ids-few most rs (running_in state) m.taken running_few fit

      pub roomy : Roomy rs (take p.consumed input) ids next held
      roomy = record {
        small = omega (arith, held-few good-ids, w.small);
        ids-held = omega (arith, held-few good-ids, ids-many good-ids);
        next-held = omega (arith, held-few good-ids, next-many good-ids);
        once = twice-once (take held ids) (good-single most ids held good-ids);
        messages = map message_of m.taken;
        read = part-read;
        ids-room = omega (arith, numbers-few, ids-many good-ids);
        next-room = omega (arith, numbers-few, next-many good-ids);
        few = omega (arith, numbers-few, w.small);
      }

      -- bits that tell of what is taken tell of what is written
      pub marked-part : {A : Type 0} (marks : List ℕ) (r : Result A Refusal) (a : A) → r ≡ Ok a → MarkedBy rs input quota marks r → Marked rs (take p.consumed input) marks
      marked-part marks r a d b = record { tells = λ ms q. subst (λ (x : List Message). Tells marks (flags_in rs x)) (good_inj (sym part-read ∙ q)) (b.tells a d m.taken m.read) }

  module _ (rs : List rows.Row) (valid : rows.sheet sheetBytes ≡ good rs) where
    -- messages that are refused
    bad-outcome : (alone : Bool) → refused_ids alone most ids held ≡ false → (n p : ℕ) → bad n p ≡ measured rs input quota (take (known_of alone held) ids) (room_of alone most held) → outcome alone ≡ bad n p
    unfolding measured measuring delivering
    bad-outcome alone g n p e = ⊎_elim (λ l. over alone g l.0 l.1 l.2) (λ l. ⊎_elim (λ b. refuses alone g l.0 b) (λ a. crowds alone g l.0 a.0 a.1 (refused-checks _ _ a.2)) (refused-step _ _ l.1)) (refused-at _ _ _ _ (sym e))
      where
        over : (alone : Bool) → refused_ids alone most ids held ≡ false → ltb 65536 (length input) ≡ true → 12 ≡ n → 65536 ≡ p → outcome alone ≡ bad n p
        over true g l a b = step _ _ valid (halt _ _ _ _ l) ∙ rw (a, b)
        over false g l a b = pass _ _ _ _ g (step _ _ valid (halt _ _ _ _ l)) ∙ rw (a, b)

        refuses : (alone : Bool) → refused_ids alone most ids held ≡ false → ltb 65536 (length input) ≡ false → taken_from input quota ≡ bad n p → outcome alone ≡ bad n p
        refuses true g l b = step _ _ valid (pass _ _ _ _ l (stop _ _ b))
        refuses false g l b = pass _ _ _ _ g (step _ _ valid (pass _ _ _ _ l (stop _ _ b)))

        crowds : (alone : Bool) → refused_ids alone most ids held ≡ false → ltb 65536 (length input) ≡ false → (ts : List Taken) → taken_from input quota ≡ good ts
            → ids_fit (length (take (known_of alone held) ids) + room_of alone most held) rs (named (take (known_of alone held) ids)) ts ≡ bad n p → outcome alone ≡ bad n p
        crowds true g l ts t i = absurd (good≢bad (sym i ∙ never_many rs (ltb-false _ _ l) ts t))
        crowds false g l ts t i = pass _ _ _ _ g (step _ _ valid (pass _ _ _ _ l (step _ _ t (stop_before _ _ (sym (same_fit g rs ts) ∙ i)))))

    pub messages-refused : (alone : Bool) → refused_ids alone most ids held ≡ false → (f : Refusal) → refused f ≡ measured rs input quota (take (known_of alone held) ids) (room_of alone most held)
        → told (record { answer = Err f; held = held }) ids next buffer ≡ settled alone most input sheetBytes quota state buffer
    messages-refused alone g f e = refusal alone f (bad-outcome alone g (number_of f.why) f.place e)

    module _ (p : Progress) where
      -- measured alone
      pub measured-alone : {alone : Bool} → alone ≡ true → good p ≡ measured rs input quota (take (known_of alone held) ids) (room_of alone most held)
          → told (record { answer = Ok p; held = held }) ids next buffer ≡ settled alone most input sheetBytes quota state buffer
      unfolding settled measuring
      measured-alone {alone} a e =
          let f : good p ≡ measured rs input quota (take 0 ids) 1820 = e ∙ ap (λ (b : Bool). measured rs input quota (take (known_of b held) ids) (room_of b most held)) a in
          let m = measure rs p (take 0 ids) 1820 f in
          let o : measuring input sheetBytes quota ≡ good (m.taken, released rs (map message_of m.taken)) = step _ _ valid (pass _ _ _ _ (le-ltb 65536 (length input) m.short) (step _ _ m.read refl)) in
          ap (λ (r : Report). (r, state, buffer)) (report-is rs p (take 0 ids) 1820 m ∙ sym (ap (λ (x : Outcome (List Taken × List Entry)). (reported state buffer x).0) o))
          ∙ ap (λ (b : Bool). settled b most input sheetBytes quota state buffer) (sym a)

      -- written too
      module _ (good-ids : bad_ids most ids held ≡ false) (e : good p ≡ measured rs input quota (take held ids) (most - held)) where
        pub room_missing : length buffer < p.bytes
            → told (record { answer = Err (record { why = Room; place = p.bytes }); held = held }) ids next buffer ≡ settled false most input sheetBytes quota state buffer
        unfolding settled reported
        room_missing l =
            ap (λ (k : ℕ). told (record { answer = Err (record { why = Room; place = k }); held = held }) ids next buffer) (sym (long rs p good-ids e))
            ∙ sym (refused-room most input sheetBytes quota state buffer rs (m rs p good-ids e).taken good-ids valid (m rs p good-ids e).short (m rs p good-ids e).read (fit rs p good-ids e) (omega (arith, long rs p good-ids e)))

        pub done : p.bytes ≤ length buffer → (ids' next' : List ℕ) (held' : ℕ) (out : List ℕ) → Wrote rs (take p.consumed input) ids ids' next next' held held' buffer out
            → told (record { answer = Ok p; held = held' }) ids' next' out ≡ settled false most input sheetBytes quota state buffer
        unfolding settled reported holding
        done l ids' next' held' out wrote =
            let n : wrote.numbers ≡ (numbers rs p good-ids e) = wrote.are (map message_of (m rs p good-ids e).taken) (part-read rs p good-ids e) in
            let i : ids' ≡ sets ids 0 (map id_of (numbers rs p good-ids e)) = wrote.ids-after ∙ ap (λ (z : List Running). sets ids 0 (map id_of z)) n in
            let x : next' ≡ sets next 0 (map next_of (numbers rs p good-ids e)) = wrote.next-after ∙ ap (λ (z : List Running). sets next 0 (map next_of z)) n in
            let h : held' ≡ length (numbers rs p good-ids e) = wrote.held_after ∙ ap length n in
            let st : state_of ids' next' held' ≡ state_of (sets ids 0 (map id_of (numbers rs p good-ids e))) (sets next 0 (map next_of (numbers rs p good-ids e))) (length (numbers rs p good-ids e)) =
            ap (λ (z : List ℕ). state_of z next' held') i ∙ ap (λ (z : List ℕ). state_of (sets ids 0 (map id_of (numbers rs p good-ids e))) z held') x ∙ ap (state_of (sets ids 0 (map id_of (numbers rs p good-ids e))) (sets next 0 (map next_of (numbers rs p good-ids e)))) h in
            let b : out ≡ sets buffer 0 (bytes rs p good-ids e) = wrote.bytes (map message_of (m rs p good-ids e).taken) (part-read rs p good-ids e) in
            ap (λ (r : Report). (r, state_of ids' next' held', out)) (report-is rs p (take held ids) (most - held) (m rs p good-ids e))
            ∙ ap (λ (s : State). ((reported state buffer (good ((m rs p good-ids e).taken, (es rs p good-ids e)))).0, s, out)) st
            ∙ ap (λ (o : List ℕ). ((reported state buffer (good ((m rs p good-ids e).taken, (es rs p good-ids e)))).0, holding state (numbers rs p good-ids e), o)) b
            ∙ sym (copy_done most input sheetBytes quota state buffer rs (m rs p good-ids e).taken good-ids valid (m rs p good-ids e).short (m rs p good-ids e).read (fit rs p good-ids e) (omega (arith, long rs p good-ids e)))

        -- measured from ids alone, as if written from any numbers: the fresh ids are stored behind those known
        module _ (room : p.bytes ≤ length buffer) (fresh : List ℕ) (many : ℕ) (few : many ≤ length fresh)
            (are : (ts : List Taken) → taken_from input quota ≡ good ts → map id_of (numbers_after (named (take held ids)) (released rs (map message_of ts))) ≡ take held ids ++ take many fresh) where
          abbrev entries : List Entry
          entries = es rs p good-ids e

          abbrev after-it : List Running
          after-it = numbers rs p good-ids e

          ids-are : map id_of after-it ≡ take held ids ++ take many fresh
          ids-are = after_same (running_in state) (named (take held ids)) entries (sym (same_ids good-ids)) ∙ are (m rs p good-ids e).taken (m rs p good-ids e).read

          stored-behind : sets ids held (take many fresh) ≡ sets ids 0 (take held ids ++ take many fresh)
          stored-behind =
              let k : 0 + length (take held ids) ≡ held = zero-add (length (take held ids)) ∙ ids-long good-ids in
              ap (λ (b : List ℕ). sets b held (take many fresh)) (sym (sets_same held ids (omega (arith, held-few good-ids, ids-many good-ids))))
              ∙ ap (λ (i : ℕ). sets (sets ids 0 (take held ids)) i (take many fresh)) (sym k) ∙ sets-sets (take held ids) (take many fresh) ids 0

          pub done-ids : (next' : List ℕ) × (out : List ℕ) × (told (record { answer = Ok p; held = held + many }) (sets ids held (take many fresh)) next' out ≡ settled false most input sheetBytes quota state buffer)
          done-ids = (
            sets next 0 (map next_of after-it),
            sets buffer 0 (bytes rs p good-ids e),
            done room (sets ids held (take many fresh)) (sets next 0 (map next_of after-it)) (held + many) (sets buffer 0 (bytes rs p good-ids e)) (record {
              numbers = after-it;
              are = λ ms q. ap (λ (x : List Message). numbers_after (running_in state) (released rs x)) (good_inj (sym (part-read rs p good-ids e) ∙ q));
              bytes = λ ms q. ap (λ (x : List Message). sets buffer 0 (numbered_bytes (running_in state) (released rs x))) (good_inj (sym (part-read rs p good-ids e) ∙ q));
              ids-after = stored-behind ∙ ap (sets ids 0) (sym ids-are);
              next-after = refl;
              held_after = omega (arith, length-map after-it id_of, ap length ids-are, length-append (take held ids) (take many fresh), ids-long good-ids, length-take-le many fresh few);
            }),
          )

-- whether it is measured alone
pub as_written : {alone : Bool} (most : ℕ) (input sheetBytes : List ℕ) (quota : ℕ) (state : State) (buffer : List ℕ) {x : Report × State × List ℕ}
    → alone ≡ false → x ≡ settled false most input sheetBytes quota state buffer → x ≡ settled alone most input sheetBytes quota state buffer
as_written most input sheetBytes quota state buffer a e = e ∙ ap (λ (b : Bool). settled b most input sheetBytes quota state buffer) (sym a)
