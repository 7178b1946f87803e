-- Measuring the messages that are taken: what the loop keeps.
use Prim.Native.Nat.{ℕ, ◌+◌, ◌-◌, ◌*◌, ◌≤◌, ◌<◌}
use mathlib.Core.Path.{◌≡◌, refl, sym, ap, subst, ◌∙◌}
use mathlib.Core.Bool.{Bool, true, false}
use mathlib.Core.List.{List, [], ◌∷◌, ◌++◌, map}
use native.Mathlib.Omega.{arith}
use lib.Dec.{leb, ltb, eqb}
use lib.ListN.{length, take, drop, length-append, length-map}
use borrow.Author.Tests.{le-ltb, lt-ltb, ltb-true, ltb-false, leb-true, leb-false}
use Rattle.rules.specs.Outcome.{good, bad}
use Rattle.rules.specs.Message.{head}
use Rattle.rules.specs.Sheet as rows
use Rattle.rules.specs.Items.{count}
use Rattle.rules.specs.Packages as rules
use Rattle.rules.specs.Copy.{with_entry_of, released, packages_in}
use Rattle.rules.proofs.Growing.{map-append}
use Rattle.rules.proofs.Outcomes.{pass, halt, after, step, stop, stop_before, good_inj, good≢bad}
use Rattle.refusal.specs.declared.Refusal.{Refusal}
use Rattle.refusal.specs.declared.Why.TheVariants.{Large}
use Rattle.refusal.specs.Numbers.{IDS, number_of, refused, outcome_by, outcome_of}
use Rattle.message.specs.declared.Message.{Message}
use Rattle.std.specs.Prelude.{Result, Ok, Err}
use Rattle.message.specs.Answers.{told_message}
use Rattle.rules.specs.Reading.{message_at}
use Rattle.numbered.specs.declared.Size.{Size}
use Rattle.numbered.specs.declared.Totals.{Totals}
use Rattle.numbered.specs.declared.Counted.{Counted}
use Rattle.numbered.specs.declared.Seats.{Seats}
use Rattle.numbered.specs.Parts.{message_by, with_entry, Sized, flags_of, flags_in, Tells, Measured, entered, Single, named, Seated, judged_by, judged_as}
use Rattle.numbered.specs.Told.{totals, progress, measured, progress_of, Counts}
use Rattle.numbered.specs.Numbering.{numbers_after, numbered_messages, numbered_bytes, id_of}
use Rattle.numbered.specs.Quota.{Taken, taken_at, taken_from, message_of, bytes_taken, ids_fit}
use Rattle.numbered.proofs.Taking.{Taking, taking_start, taking_end, taking_full, taking_next, taking_bad}
use Rattle.numbered.proofs.Entries.{Met, met, no_message_lem, it, order, inside, behind, run_length, cut-is, it-is, it-passes, ps, id-is, flags_grown, grown, grown_one, totals_grown}
use Rattle.numbered.proofs.Marks.{flags_long, pieces-few}
use Rattle.numbered.proofs.Messages.{few-released}
use Rattle.numbered.proofs.Ids.{after-length, ids-good}
use Rattle.numbered.proofs.Seeking.{count-append}
use Rattle.numbered.proofs.Seating.{named-ids, Seating, seating_start, seating_fits, seating_over, More, more-none, more-one, still_over, more_seated}

pub record Bounded (t : Totals) (k : ℕ) : Type 0 where
  pub small : t.bytes ≤ k
  pub few : t.messages ≤ k
  pub fewer : t.packages ≤ k

bounded : (t : Totals) (s : Size) (k n : ℕ) → Bounded t k → k + 24 + s.bytes ≤ n → k + 24 + s.packages ≤ n → (b : Bool) → Bounded (entered t s b) n
bounded t s k n h a c true = record { small = omega (arith, h.small); few = omega (arith, h.few); fewer = omega (arith, h.fewer) }
bounded t s k n h a c false = record { small = omega (arith, h.small); few = omega (arith, h.few); fewer = omega (arith, h.fewer) }

-- a message of the input that is taken
abbrev pub taken : (input : List ℕ) (k : ℕ) (m : Message) → Met input k m → Taken
taken input k m g = record { message = it input k m g; place = k; size = (head (drop k input)).size }

pub taken_is : (input : List ℕ) (k : ℕ) (m : Message) (g : Met input k m) → taken_at k (drop k input) ≡ good (taken input k m g, (head (drop k input)).size)
unfolding taken_at
taken_is input k m g = step _ _ (it-is input k m g) refl

bytes_snoc : (ts : List Taken) (t : Taken) → bytes_taken (ts ++ (t ∷ [])) ≡ bytes_taken ts + t.size
unfolding bytes_taken
bytes_snoc [] t = omega arith
bytes_snoc (u ∷ ts) t = omega (arith, bytes_snoc ts t)

-- the messages done are those before index k, and their totals are t
pub record Tallying (rs : List rows.Row) (input : List ℕ) (quota : ℕ) (done : List Taken) (t : Totals) (handled k : ℕ) : Type 0 where
  pub doing : Taking input quota done k
  pub inside : k ≤ length input
  pub many : handled ≡ length done
  pub within : handled ≤ quota
  pub few : handled ≤ k
  pub consumed : k ≡ bytes_taken done
  pub bounds : Bounded t k
  pub so_far : t ≡ totals (released rs (map message_of done))

-- a refusal
module _ (rs : List rows.Row) (input : List ℕ) (quota : ℕ) (known : List ℕ) (room : ℕ) (fresh marks : List ℕ) (f : Refusal) (r : Result Counted Refusal) (is : r ≡ Err f) where
  not_done : (c : Counted) → r ≡ Ok c → ⊥
  not_done c e = good≢bad (ap outcome_of (sym is ∙ e))

  counts-refused : refused f ≡ measured rs input quota known room → Counts rs input quota known room fresh marks r
  counts-refused e = record {
    marked = record { tells = λ c d. absurd (not_done c d) };
    told = ap (outcome_by progress_of) is ∙ e;
    small = λ c d. absurd (not_done c d);
    few = λ c d. absurd (not_done c d);
    ids = λ c d. absurd (not_done c d);
  }

module _ (rs : List rows.Row) (input : List ℕ) (quota : ℕ) (known : List ℕ) (room : ℕ) where
  -- and their ids were counted, where they could become too many; of each of their packages it is marked whether it is granted
  pub record Measuring (t : Totals) (handled : ℕ) (fresh : List ℕ) (seats : Seats) (marks : List ℕ) (passed k : ℕ) : Type 0 where
    pub done : List Taken
    pub marked : Tells marks (flags_in rs (map message_of done))
    pub passed-are : length (flags_in rs (map message_of done)) ≡ passed
    pub passed-few : 12 * passed ≤ k
    pub marks_long : length marks ≡ 683
    pub tally : Tallying rs input quota done t handled k
    pub long : length fresh ≡ 64
    pub counted : room ≤ 64 → Seating rs known room fresh seats done
    pub idle : 64 < room → seats.many ≡ 0

  pub measure_start : (fresh marks : List ℕ) → length fresh ≡ 64 → Single known → length marks ≡ 683 → Tells marks []
      → Measuring (record { bytes = 0; messages = 0; packages = 0 }) 0 fresh (record { many = 0; over = 0 }) marks 0 0
  unfolding released numbered_bytes numbered_messages packages_in bytes_taken flags_in
  measure_start fresh marks long single marks_long none = record {
    done = [];
    marked = none;
    passed-are = refl;
    passed-few = omega arith;
    marks_long = marks_long;
    tally = record {
      doing = taking_start input quota;
      inside = omega arith;
      many = refl;
      within = omega arith;
      few = omega arith;
      consumed = refl;
      bounds = record { small = omega arith; few = omega arith; fewer = omega arith };
      so_far = refl;
    };
    long = long;
    counted = λ c. seating_start rs known room fresh single;
    idle = λ l. refl;
  }

  module _ (short : length input ≤ 65536) (t : Totals) (handled : ℕ) (fresh : List ℕ) (seats : Seats) (marks : List ℕ) (passed k : ℕ) (inv : Measuring t handled fresh seats marks passed k) where
    abbrev tally : Tallying rs input quota inv.done t handled k
    tally = inv.tally

    module _ (wide : 64 < room → 1820 ≤ room) (all : taken_from input quota ≡ good inv.done) where
      -- so few entries cannot bring too many ids
      few-entries : 1820 ≤ room → ids_fit (length known + room) rs (named known) inv.done ≡ good tt
      few-entries l =
          let a = after-length (named known) (released rs (map message_of inv.done)) in
          let n : length (named known) ≡ length known = sym (length-map (named known) id_of) ∙ ap length (named-ids known) in
          ids-good (length known + room) rs (named known) inv.done (omega (arith, a.most, n, few-released rs input quota short all))

      progress-is : progress (length inv.done) (bytes_taken inv.done) (totals (released rs (map message_of inv.done))) ≡ progress handled k t
      progress-is =
          ap (λ (h : ℕ). progress h (bytes_taken inv.done) (totals (released rs (map message_of inv.done)))) (sym tally.many)
          ∙ ap (λ (c : ℕ). progress handled c (totals (released rs (map message_of inv.done)))) (sym tally.consumed)
          ∙ ap (λ (x : Totals). progress handled k x) (sym tally.so_far)

      fits : ids_fit (length known + room) rs (named known) inv.done ≡ good tt → good (progress handled k t) ≡ measured rs input quota known room
      unfolding measured
      fits i = sym (pass _ _ _ _ (le-ltb 65536 (length input) short) (step _ _ all (after _ _ i (ap good progress-is))))

      crowded : room < seats.many → room ≤ 64 → bad IDS seats.over ≡ measured rs input quota known room
      unfolding measured
      crowded o c = sym (pass _ _ _ _ (le-ltb 65536 (length input) short) (step _ _ all (stop_before _ _ (seating_over rs known room fresh seats inv.done (inv.counted c) o))))

      -- whichever way the ids were counted
      counting : (b : Bool) → leb room 64 ≡ b → seats.many ≤ room → ids_fit (length known + room) rs (named known) inv.done ≡ good tt
      counting true c l = seating_fits rs known room fresh seats inv.done (inv.counted (leb-true room 64 c)) l
      counting false c l = few-entries (wide (leb-false room 64 c))

      judged_with : (b : Bool) → ltb room seats.many ≡ b → outcome_by progress_of (judged_as (progress handled k t) seats room) ≡ measured rs input quota known room
      judged_with true o =
          let over = ltb-true room seats.many o in
          ap (λ (b : Bool). outcome_by progress_of (judged_by (progress handled k t) seats b)) o ∙ crowded over (go (leb room 64) refl over)
        where
          go : (b : Bool) → leb room 64 ≡ b → room < seats.many → room ≤ 64
          go true c over = leb-true room 64 c
          go false c over = absurd (omega (arith, over, inv.idle (leb-false room 64 c)))
      judged_with false o = ap (λ (b : Bool). outcome_by progress_of (judged_by (progress handled k t) seats b)) o ∙ fits (counting (leb room 64) refl (ltb-false room seats.many o))

      -- where it is done, the ids are not too many
      judged_done : (c : Counted) → judged_as (progress handled k t) seats room ≡ Ok c → (seats.many ≤ room) × (record { progress = progress handled k t; many = seats.many } ≡ c)
      judged_done c e = go (ltb room seats.many) refl e
        where
          go : (b : Bool) → ltb room seats.many ≡ b → judged_by (progress handled k t) seats b ≡ Ok c → (seats.many ≤ room) × (record { progress = progress handled k t; many = seats.many } ≡ c)
          go true o q = absurd (good≢bad (ap outcome_of q))
          go false o q = (ltb-false room seats.many o, good_inj (ap outcome_of q))

      counts : Counts rs input quota known room fresh marks (judged_as (progress handled k t) seats room)
      counts = record {
        marked = record { tells = λ c e ts read. subst (λ (x : List Taken). Tells marks (flags_in rs (map message_of x))) (good_inj (sym all ∙ read)) inv.marked };
        told = judged_with (ltb room seats.many) refl;
        small = λ c e. omega (arith, ap (λ (x : Counted). x.progress.bytes) (judged_done c e).1, tally.bounds.small, tally.inside, short);
        few = λ c e. omega (arith, ap (λ (x : Counted). x.many) (judged_done c e).1, (judged_done c e).0);
        ids = λ c e l ts read.
            let (u, q) = judged_done c e in
            ap (λ (x : List Taken). map id_of (numbers_after (named known) (released rs (map message_of x)))) (good_inj (sym read ∙ all)) ∙ ((inv.counted l).under u).held ∙ ap (λ (x : Counted). known ++ take x.many fresh) q;
      }

    module _ (wide : 64 < room → 1820 ≤ room) (r : Result Counted Refusal) (is : r ≡ judged_as (progress handled k t) seats room) where
      pub measure_ended : length input ≤ k → Counts rs input quota known room fresh marks r
      measure_ended l = subst (Counts rs input quota known room fresh marks) (sym is) (counts wide (taking_end input quota inv.done k tally.doing l))

      pub measure_full : handled ≡ quota → Counts rs input quota known room fresh marks r
      measure_full e = subst (Counts rs input quota known room fresh marks) (sym is) (counts wide (taking_full input quota inv.done k tally.doing (sym tally.many ∙ e)))

    -- the id of a message more is once among those known, and among the fresh ones
    pub fresh-once : (x : ℕ) → room ≤ 64 → seats.many ≤ room → count x (take seats.many fresh) ≤ 1
    fresh-once x c l = omega (arith, ((inv.counted c).under l).once x, count-append x known (take seats.many fresh))

    module _ (l : k < length input) (more : (handled ≡ quota → ⊥)) where
      left : length inv.done < quota
      left = omega (arith, tally.many, tally.within)

      refused-told : (f : Refusal) → told_message (Err f) ≡ message_at input k → refused f ≡ measured rs input quota known room
      unfolding measured taken_at
      refused-told f e =
          let b : taken_from input quota ≡ bad (number_of f.why) f.place = taking_bad input quota inv.done k tally.doing l left (stop _ _ (no_message_lem input k short e)) in
          sym (pass _ _ _ _ (le-ltb 65536 (length input) short) (stop _ _ b))

      pub measure_refused : (marks' : List ℕ) (f : Refusal) (r : Result Counted Refusal) → r ≡ Err f → told_message (Err f) ≡ message_at input k → Counts rs input quota known room fresh marks' r
      measure_refused marks' f r a e = counts-refused rs input quota known room fresh marks' f r a (refused-told f e)

      module _ (m : Message) (e : told_message (Ok m) ≡ message_at input k) where
        abbrev g : Met input k m
        g = met input k m e

        abbrev one : Taken
        one = taken input k m g

        module _ (marks' : List ℕ) (s : Size) (y : Measured rs input marks marks' passed m s) where
          abbrev z : Sized rs (message_by m.header) (take (m.next - m.payload) (drop m.payload input)) s
          z = y.sized

          -- its flags
          marks_grown : flags_in rs (map message_of (inv.done ++ (one ∷ []))) ≡ flags_in rs (map message_of inv.done) ++ flags_of rs (message_by m.header) g.r.1
          marks_grown = ap (flags_in rs) (map-append message_of inv.done (one ∷ [])) ∙ flags_grown input k m g rs (map message_of inv.done)

          passed_grown : length (flags_in rs (map message_of (inv.done ++ (one ∷ [])))) ≡ passed + m.packages
          passed_grown =
              ap length marks_grown
              ∙ omega (arith, length-append (flags_in rs (map message_of inv.done)) (flags_of rs (message_by m.header) g.r.1), flags_long rs (message_by m.header) g.r.1, inv.passed-are, y.many g.r.1 (cut-is input k m g))

          -- a package takes 12 bytes at least
          pub packages-few : 12 * m.packages ≤ m.next - m.payload
          packages-few = omega (arith, y.many g.r.1 (cut-is input k m g), pieces-few _ g.r.1 (cut-is input k m g), run_length input k m g)

          tally-next : Tallying rs input quota (inv.done ++ (one ∷ [])) (with_entry t s) (handled + 1) m.next
          tally-next =
              let (b, p) = z.right g.r.1 (cut-is input k m g) in
              let ms : map message_of (inv.done ++ (one ∷ [])) ≡ map message_of inv.done ++ (it input k m g ∷ []) = map-append message_of inv.done (one ∷ []) in
              record {
                doing = subst (λ (i : ℕ). Taking input quota (inv.done ++ (one ∷ [])) i) g.next (taking_next input quota inv.done k tally.doing l left one (head (drop k input)).size (omega (arith, (it-passes input k m g).header.least)) (taken_is input k m g));
                inside = inside input k m g;
                many = omega (arith, tally.many, length-append inv.done (one ∷ []));
                within = omega (arith, tally.within);
                few = omega (arith, tally.few, order input k m g, behind input k m g);
                consumed = omega (arith, tally.consumed, bytes_snoc inv.done one, g.next);
                bounds = bounded t s k m.next tally.bounds
                    (omega (arith, z.small, run_length input k m g, order input k m g, behind input k m g))
                    (omega (arith, z.few, run_length input k m g, order input k m g, behind input k m g)) (eqb s.packages 0);
                so_far = rw (tally.so_far, ms, grown input k m g rs (map message_of inv.done)) (totals_grown input k m g rs (released rs (map message_of inv.done)) (ps input k m g rs) s b p);
              }

          module _ (fresh' : List ℕ) (seats' : Seats) (seated : Seated known fresh fresh' seats seats' room m.header.id.0 s.packages k) where
            -- with its granted packages as a variable
            more-with : (c : room ≤ 64) (u : seats.many ≤ room) (qs : List rules.Package) → released rs (it input k m g ∷ []) ≡ with_entry_of (it input k m g) qs [] → s.packages ≡ length qs
                → More rs known room fresh seats inv.done (inv.counted c) c inv.long one m.header.id.0 s.packages fresh' seats' seated u
            unfolding with_entry_of
            more-with c u [] e n = more-none rs known room fresh seats inv.done (inv.counted c) c inv.long one m.header.id.0 s.packages fresh' seats' seated u e n
            more-with c u (q ∷ qs) e n =
                more-one rs known room fresh seats inv.done (inv.counted c) c inv.long one m.header.id.0 s.packages fresh' seats' seated u _ e (id-is input k m g rs) (λ h. omega (arith, n))

            seating_next : (c : room ≤ 64) (b : Bool) → ltb room seats.many ≡ b → Seating rs known room fresh' seats' (inv.done ++ (one ∷ []))
            seating_next c true o = still_over rs known room fresh seats inv.done (inv.counted c) c inv.long one m.header.id.0 s.packages fresh' seats' seated (ltb-true room seats.many o)
            seating_next c false o =
                let u = ltb-false room seats.many o in
                more_seated rs known room fresh seats inv.done (inv.counted c) c inv.long one m.header.id.0 s.packages fresh' seats' seated u
                (more-with c u (ps input k m g rs) (grown_one input k m g rs) (z.right g.r.1 (cut-is input k m g)).1)

            pub measure_next : length marks' ≡ length marks → Measuring (with_entry t s) (handled + 1) fresh' seats' marks' (passed + m.packages) m.next
            measure_next same = record {
              done = inv.done ++ (one ∷ []);
              marked = rw marks_grown (y.marked g.r.1 (cut-is input k m g) (flags_in rs (map message_of inv.done)) inv.passed-are inv.marked);
              passed-are = passed_grown;
              passed-few = omega (arith, inv.passed-few, packages-few, order input k m g, behind input k m g);
              marks_long = same ∙ inv.marks_long;
              tally = tally-next;
              long = seated.long ∙ inv.long;
              counted = λ c. seating_next c (ltb room seats.many) refl;
              idle = λ w. ap (λ (x : Seats). x.many) (seated.idle w) ∙ inv.idle w;
            }

-- an input that is too long
pub large : (rs : List rows.Row) (input : List ℕ) (quota : ℕ) (known : List ℕ) (room : ℕ) (fresh marks : List ℕ) (r : Result Counted Refusal) → r ≡ Err (record { why = Large; place = 65536 }) → 65536 < length input
    → Counts rs input quota known room fresh marks r
unfolding measured
large rs input quota known room fresh marks r is l = counts-refused rs input quota known room fresh marks (record { why = Large; place = 65536 }) r is (sym (halt _ _ _ _ (lt-ltb 65536 (length input) l)))
