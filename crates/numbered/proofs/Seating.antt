-- Counting the ids that are not known: what one message does, and what the loop keeps.
use Prim.Native.Nat.{ℕ, ◌+◌, ◌≤◌, ◌<◌}
use mathlib.Core.Path.{◌≡◌, refl, sym, ap, subst, ◌∙◌}
use mathlib.Core.Logic.{⊎_elim}
use mathlib.Core.List.{List, [], ◌∷◌, ◌++◌, map, append-nil, append_assoc}
use native.Mathlib.Numerals.{add-one}
use native.Mathlib.Omega.{arith}
use borrow.Author.Tests.{le-ltb, lt-ltb}
use lib.ListN.{length, take, set, length-append, length-map}
use lib.Seq.{length-take-le, take-suc-set}
use Rattle.rules.specs.Outcome.{good, bad}
use Rattle.refusal.specs.Numbers.{IDS}
use Rattle.rules.specs.Items.{count}
use Rattle.rules.specs.Message as messages
use Rattle.rules.specs.Sheet as rows
use Rattle.rules.specs.Copy.{Entry, released}
use Rattle.rules.proofs.Outcomes.{pass, halt}
use Rattle.rules.proofs.Growing.{map-append, released-append}
use Rattle.numbered.specs.declared.Seats.{Seats}
use Rattle.numbered.specs.Numbering.{Running, counted_on, numbers_after, id_of}
use Rattle.numbered.specs.Quota.{Taken, message_of, ids_fit}
use Rattle.numbered.specs.Parts.{Place, Single, named, Sat, Seated}
use Rattle.numbered.proofs.Numbers.{after-append}
use Rattle.numbered.proofs.Seeking.{count-append, count-some}
use Rattle.numbered.proofs.Held.{counted_new, counted-ids, once-counted}

-- ---- one id

module _ (known fresh : List ℕ) (seats : Seats) (room id k : ℕ) where
  module _ (few : seats.many ≤ length fresh) where
    fresh-long : length (take seats.many fresh) ≡ seats.many
    fresh-long = length-take-le seats.many fresh few

    pub held-long : length (known ++ take seats.many fresh) ≡ length known + seats.many
    held-long = omega (arith, length-append known (take seats.many fresh), fresh-long)

    -- it is one of those held
    sat_old : (ns : List Running) → map id_of ns ≡ known ++ take seats.many fresh → 1 ≤ count id (known ++ take seats.many fresh) → seats.many ≤ room → Sat known fresh fresh seats seats room id k ns
    sat_old ns e some l = ⊎_elim
        (λ s. record { many = sym (sym (length-map (counted_on id ns) id_of) ∙ ap length (s ∙ e) ∙ held-long); ids = λ f. s ∙ e; over = λ o. absurd (omega arith) })
        (λ s. absurd (omega (arith, s.0, ap (count id) e)))
        (counted-ids id ns)

    old : (packages : ℕ) → 1 ≤ count id (known ++ take seats.many fresh) → Seated known fresh fresh seats seats room id packages k
    old packages some = record { long = refl; idle = λ l. refl; none = λ z. (refl, refl); full = λ l. (refl, refl); one = λ c h l ns e. sat_old ns e some l }

    pub seated_known : (packages place : ℕ) → Place known id place → place < length known → Seated known fresh fresh seats seats room id packages k
    seated_known packages place spot l = old packages (omega (arith, count-append id known (take seats.many fresh), count-some id known place l (spot.hit l)))

    pub seated_fresh : (packages place : ℕ) → Place (take seats.many fresh) id place → place < seats.many → Seated known fresh fresh seats seats room id packages k
    seated_fresh packages place spot l =
        let m : place < length (take seats.many fresh) = omega (arith, fresh-long) in
        old packages (omega (arith, count-append id known (take seats.many fresh), count-some id (take seats.many fresh) place m (spot.hit m)))

    -- it is new
    module _ (packages place here : ℕ) (some : (packages ≡ 0 → ⊥)) (count-them : room ≤ 64) (under : seats.many ≤ room) (known-spot : Place known id place) (far : (place < length known → ⊥))
        (spot : Place (take seats.many fresh) id here) (new : (here < seats.many → ⊥)) (long : length fresh ≡ 64)
        (fresh' : List ℕ) (same : length fresh' ≡ length fresh) (put : seats.many < room → fresh' ≡ set fresh seats.many id) where
      miss : count id (known ++ take seats.many fresh) ≡ 0
      miss = omega (arith, count-append id known (take seats.many fresh), known-spot.miss (omega (arith, known-spot.inside)), spot.miss (omega (arith, spot.inside, fresh-long)))

      sat_new : (ns : List Running) → map id_of ns ≡ known ++ take seats.many fresh → Sat known fresh fresh' seats (record { many = seats.many + 1; over = k }) room id k ns
      sat_new ns e =
          let behind : counted_on id ns ≡ ns ++ (record { id = id; next = 1 } ∷ []) = (counted_new id ns (ap (count id) e ∙ miss)).behind in
          let size : length ns ≡ length known + seats.many = sym (length-map ns id_of) ∙ ap length e ∙ held-long in
          record {
            many = omega (arith, size, ap length behind, length-append ns (record { id = id; next = 1 } ∷ []));
            ids = λ f.
                let stored : take (seats.many + 1) fresh' ≡ take seats.many fresh ++ (id ∷ []) =
                ap (take (seats.many + 1)) (put (omega arith)) ∙ ap (λ (i : ℕ). take i (set fresh seats.many id)) (add-one seats.many) ∙ take-suc-set fresh seats.many id (omega arith) in
                ap (map id_of) behind ∙ map-append id_of ns (record { id = id; next = 1 } ∷ []) ∙ ap (λ (l : List ℕ). l ++ (id ∷ [])) e
                ∙ append_assoc known (take seats.many fresh) (id ∷ []) ∙ ap (λ (l : List ℕ). known ++ l) (sym stored);
            over = λ o. refl;
          }

      pub seated_new : Seated known fresh fresh' seats (record { many = seats.many + 1; over = k }) room id packages k
      seated_new = record { long = same; idle = λ l. absurd (omega arith); none = λ z. absurd (some z); full = λ l. absurd (omega arith); one = λ c h l ns e. sat_new ns e }

-- ---- message by message

pub named-ids : (l : List ℕ) → map id_of (named l) ≡ l
unfolding named
named-ids [] = refl
named-ids (x ∷ l) = ap (λ (m : List ℕ). x ∷ m) (named-ids l)

module _ (rs : List rows.Row) (known : List ℕ) (room : ℕ) where
  -- the most that may be held, and the numbers behind the messages so far
  abbrev pub top : ℕ
  top = length known + room

  abbrev pub later : List Taken → List Running
  later done = numbers_after (named known) (released rs (map message_of done))

  later_more : (done : List Taken) (t : Taken) → later (done ++ (t ∷ [])) ≡ numbers_after (later done) (released rs (t.message ∷ []))
  later_more done t =
      ap (λ (ms : List messages.Message). numbers_after (named known) (released rs ms)) (map-append message_of done (t ∷ []))
      ∙ ap (numbers_after (named known)) (released-append rs (map message_of done) (t.message ∷ []))
      ∙ after-append (named known) (released rs (map message_of done)) (released rs (t.message ∷ []))

  -- the ids so far are known or fresh
  pub record Under (fresh : List ℕ) (many : ℕ) (done : List Taken) : Type 0 where
    pub held : map id_of (later done) ≡ known ++ take many fresh
    pub once : (x : ℕ) → count x (known ++ take many fresh) ≤ 1
    pub passed : (rest : List Taken) → ids_fit top rs (named known) (done ++ rest) ≡ ids_fit top rs (later done) rest

  pub record Seating (fresh : List ℕ) (seats : Seats) (done : List Taken) : Type 0 where
    pub under : seats.many ≤ room → Under fresh seats.many done
    pub over : room < seats.many → (rest : List Taken) → ids_fit top rs (named known) (done ++ rest) ≡ bad IDS seats.over

  pub seating_start : (fresh : List ℕ) → Single known → Seating fresh (record { many = 0; over = 0 }) []
  unfolding released numbers_after
  seating_start fresh single = record {
    under = λ l. record { held = named-ids known ∙ sym (append-nil known); once = λ x. subst (λ (s : List ℕ). count x s ≤ 1) (sym (append-nil known)) (single.once x); passed = λ rest. refl };
    over = λ l. absurd (omega arith);
  }

  module _ (fresh : List ℕ) (seats : Seats) (done : List Taken) (inv : Seating fresh seats done) where
    -- all messages are done
    pub seating_fits : seats.many ≤ room → ids_fit top rs (named known) done ≡ good tt
    unfolding ids_fit
    seating_fits l = ap (ids_fit top rs (named known)) (sym (append-nil done)) ∙ (inv.under l).passed []

    pub seating_over : room < seats.many → ids_fit top rs (named known) done ≡ bad IDS seats.over
    seating_over l = ap (ids_fit top rs (named known)) (sym (append-nil done)) ∙ inv.over l []

    -- one message more, at place k, with these granted packages
    module _ (count-them : room ≤ 64) (long : length fresh ≡ 64) (t : Taken) (id packages : ℕ) (fresh' : List ℕ) (seats' : Seats) (seated : Seated known fresh fresh' seats seats' room id packages t.place) where
      abbrev done' : List Taken
      done' = done ++ (t ∷ [])

      behind-done : (rest : List Taken) → ids_fit top rs (named known) (done' ++ rest) ≡ ids_fit top rs (named known) (done ++ (t ∷ rest))
      behind-done rest = ap (ids_fit top rs (named known)) (append_assoc done (t ∷ []) rest)

      -- too many already
      pub still_over : room < seats.many → Seating fresh' seats' done'
      still_over l =
          let (a, b) = seated.full l in
          let more : room < seats'.many = omega (arith, ap (λ (s : Seats). s.many) a) in
          record { under = λ m. absurd (omega arith); over = λ m rest. behind-done rest ∙ inv.over l (t ∷ rest) ∙ ap (λ (s : Seats). bad IDS s.over) (sym a) }

      module _ (l : seats.many ≤ room) where
        abbrev u : Under fresh seats.many done
        u = inv.under l

        long_so_far : length (later done) ≡ length known + seats.many
        long_so_far = sym (length-map (later done) id_of) ∙ ap length u.held ∙ held-long known fresh seats room id t.place (omega arith)

        -- the ids behind it: so many, and these
        pub record More : Type 0 where
          pub many : length known + seats'.many ≡ length (later done')
          pub ids : seats'.many ≤ room → map id_of (later done') ≡ known ++ take seats'.many fresh'
          pub once : seats'.many ≤ room → (x : ℕ) → count x (known ++ take seats'.many fresh') ≤ 1
          pub place : room < seats'.many → seats'.over ≡ t.place

        -- no entry
        pub more-none : released rs (t.message ∷ []) ≡ [] → packages ≡ 0 → More
        unfolding numbers_after
        more-none e z =
            let (a, b) = seated.none z in
            let same : later done' ≡ later done = later_more done t ∙ ap (numbers_after (later done)) e in
            let m : seats'.many ≡ seats.many = ap (λ (s : Seats). s.many) a in
            record {
              many = omega (arith, m, long_so_far, ap length same);
              ids = λ f. ap (map id_of) same ∙ u.held ∙ rw (m, b);
              once = λ f x. rw (m, b) (u.once x);
              place = λ f. absurd (omega arith);
            }

        -- one entry
        pub more-one : (e : Entry) → released rs (t.message ∷ []) ≡ e ∷ [] → e.id ≡ id → (packages ≡ 0 → ⊥) → More
        unfolding numbers_after
        more-one e q i h =
            let same : later done' ≡ counted_on id (later done) = later_more done t ∙ ap (numbers_after (later done)) q ∙ ap (λ (x : ℕ). counted_on x (later done)) i in
            let sat = seated.one count-them h l (later done) u.held in
            record {
              many = omega (arith, sat.many, ap length same);
              ids = λ f. ap (map id_of) same ∙ sat.ids f;
              once = λ f x. subst (λ (s : List ℕ). count x s ≤ 1) (sat.ids f) (once-counted id (later done) (λ y. rw u.held (u.once y)) x);
              place = sat.over;
            }

        pub more_seated : More → Seating fresh' seats' done'
        unfolding ids_fit
        more_seated w =
            let size : length (numbers_after (later done) (released rs (t.message ∷ []))) ≡ length known + seats'.many = ap length (sym (later_more done t)) ∙ sym w.many in
            record {
              under = λ f. record {
                held = w.ids f;
                once = w.once f;
                passed = λ rest. behind-done rest ∙ u.passed (t ∷ rest)
                    ∙ pass _ _ _ _ (le-ltb top (length (numbers_after (later done) (released rs (t.message ∷ [])))) (omega (arith, size))) (ap (λ (x : List Running). ids_fit top rs x rest) (sym (later_more done t)));
              };
              over = λ f rest. behind-done rest ∙ u.passed (t ∷ rest)
                  ∙ halt _ _ _ _ (lt-ltb top (length (numbers_after (later done) (released rs (t.message ∷ [])))) (omega (arith, size))) ∙ ap (bad IDS) (sym (w.place f));
            }
