-- What the survey's loop over the input keeps.
use Prim.Native.Nat.{ℕ, zero, suc, ◌+◌, ◌-◌, ◌/◌, ◌≤◌, ◌<◌, min}
use mathlib.Core.Path.{◌≡◌, refl, sym, ap, ◌∙◌}
use mathlib.Core.Bool.{Bool, true, false}
use mathlib.Core.List.{List, [], ◌∷◌, ◌++◌, map, append-nil, append_assoc}
use native.Mathlib.Nat.{add-zero}
use native.Mathlib.Omega.{arith}
use native.Mathlib.Numerals.{add-one}
use borrow.Author.Tests.{le-ltb, lt-ltb, ltb-true, ltb-false, eqb-true, eqb-false, eq-eqb}
use lib.Dec.{ltb, eqb}
use lib.ListN.{length, get_or, take, drop, set, replicate, length-append, length-drop, length-take}
use lib.Seq.{get_or_at, set_at, set-set, length-take-le}
use Rattle.rules.specs.Outcome.{Outcome, good, bad}
use Rattle.rules.specs.Items.{items}
use Rattle.rules.specs.Reading.{MessageSpot, message_at}
use Rattle.rules.proofs.Outcomes.{pass, halt, step, good≢bad}
use Rattle.rules.proofs.Loops.{Doing, doing_start, doing_next, doing_end, ◌++>◌}
use Rattle.rules.proofs.Growing.{map-replicate}
use Rattle.rules.proofs.Spots.{of_record, spot-read}
use Rattle.rules.proofs.Alone.{message-inside}
use Rattle.std.specs.Prelude.{Ok, Err}
use Rattle.refusal.specs.Numbers.{refused, HOLES}
use Rattle.refusal.specs.declared.Refusal.{Refusal}
use Rattle.refusal.specs.declared.Why.TheVariants.{Large, Holes}
use Rattle.salvage.specs.Salvage as rule
use Rattle.salvage.specs.Salvage.{Piece, piece_at, kept_text, kept_count, skipping, stretches_from, salvage_of, salvaged, answered}
use Rattle.salvage.specs.Told.{stretch_in, no_stretch, stretch_of, report, surveyed, skips_end, slot_of, start_of}
use Rattle.salvage.specs.declared.Stretch.{Stretch}
use Rattle.salvage.proofs.Pieces.{kept_piece, lost_piece, Lost, piece-kept, piece-lost, Reading, reads, fails, reading, Found, found}
use Rattle.salvage.proofs.Skips.{first, goes_on, ends-here, ended, lost-byte}
use Rattle.salvage.proofs.Growing.{kept_append, count-append, stretches-append, Stays, stays_on, Tail, empty, ends, Slot, slot}

-- a message at place p, behind which the next offset is x
pub record KeptAt (s : List ℕ) (p x : ℕ) : Type 0 where
  pub size : ℕ
  pub next : x ≡ p + size
  pub least : 24 ≤ size
  pub inside : p + size ≤ length s
  pub read : piece_at p (drop p s) ≡ good (kept_piece p (take size (drop p s)), size)

pub kept_at : (s : List ℕ) (p : ℕ) (k : MessageSpot) → p < length s → good k ≡ message_at s p → KeptAt s p k.next
kept_at s p k l e =
    let r = of_record s p k (sym e) in
    let (a, b) = message-inside p (drop p s) r.0 k.head.size r.1 in
    record { size = k.head.size; next = r.5; least = a; inside = omega (arith, length-drop p s); read = piece-kept p (drop p s) r.0 k.head.size r.1 }

-- no message at place p
pub lost-at : (s : List ℕ) (p : ℕ) {a b : ℕ} → length s ≤ 65536 → bad a b ≡ message_at s p → Lost s p
lost-at s p {a} {b} l e = go (reading p (drop p s))
  where
    go : Reading p (drop p s) → Lost s p
    go (fails k q f) = piece-lost p (drop p s) f
    go (reads m n f) = absurd (good≢bad (e ∙ (spot-read s p l m n f).1))

skip_is : (s : List ℕ) (p : ℕ) → min 4 (length (drop p s)) ≡ min 4 (length s - p)
skip_is s p = rw length-drop

-- ---- the survey

-- what is reported of a refusal
pub reported_bad : (x : Refusal) → report (Err x) ≡ (answered [] (refused x)).0
unfolding answered
reported_bad x = refl

pub record Surveying (s : List ℕ) (stretches : List Stretch) (count last end bytes messages p : ℕ) : Type 0 where
  pub done : List Piece
  pub doing : Doing piece_at s done p
  pub inside : p ≤ length s
  pub text : length (kept_text done) ≡ bytes
  pub number : kept_count done ≡ messages
  pub small : (bytes ≤ p) × (messages ≤ p)
  pub many : length (stretches_from [] done) ≡ count
  pub few : count ≤ 64
  pub tail : Tail (stretches_from [] done) last end
  pub filled : map stretch_in stretches ≡ stretches_from [] done ++ replicate (64 - count) rule.no_stretch

map-set : {A B : Type 0} (f : A → B) (l : List A) (i : ℕ) (a : A) → map f (set l i a) ≡ set (map f l) i (f a)
map-set f [] i a = refl
map-set f (x ∷ l) zero a = refl
map-set f (x ∷ l) (suc i) a = ap (λ (z : List _). f x ∷ z) (map-set f l i a)

pub survey_start : (s : List ℕ) → Surveying s (replicate 64 no_stretch) 0 0 0 0 0 0
unfolding kept_text kept_count stretches_from
survey_start s = record {
  done = [];
  doing = doing_start piece_at s;
  inside = omega arith;
  text = refl;
  number = refl;
  small = (omega arith, omega arith);
  many = refl;
  few = omega arith;
  tail = empty;
  filled = map-replicate stretch_in 64 no_stretch;
}

-- one piece more
one_kept : (p : ℕ) (c : List ℕ) → kept_text (kept_piece p c ∷ []) ≡ c
unfolding kept_text
one_kept p c = append-nil c

count_kept : (p : ℕ) (c : List ℕ) → kept_count (kept_piece p c ∷ []) ≡ 1
unfolding kept_count
count_kept p c = refl

one-lost : (p : ℕ) (c : List ℕ) → kept_text (lost_piece p c ∷ []) ≡ []
unfolding kept_text
one-lost p c = refl

count-lost : (p : ℕ) (c : List ℕ) → kept_count (lost_piece p c ∷ []) ≡ 0
unfolding kept_count
count-lost p c = refl

stretch-kept : (hs : List rule.Stretch) (p : ℕ) (c : List ℕ) → stretches_from hs (kept_piece p c ∷ []) ≡ hs
unfolding stretches_from
stretch-kept hs p c = refl

stretch-lost : (hs : List rule.Stretch) (p : ℕ) (c : List ℕ) → stretches_from hs (lost_piece p c ∷ []) ≡ skipping hs p (length c)
unfolding stretches_from
stretch-lost hs p c = refl

module _ (s : List ℕ) (stretches : List Stretch) (count last end bytes messages p : ℕ) (inv : Surveying s stretches count last end bytes messages p) where
  module _ (l : p < length s) where
    pub survey_kept : (x : ℕ) → KeptAt s p x → Surveying s stretches count last end (bytes + (x - p)) (messages + 1) x
    survey_kept x k =
        let z : x - p ≡ k.size = omega (arith, k.next) in
        let c = take k.size (drop p s) in
        let m : length (take k.size (drop p s)) ≡ k.size = length-take-le k.size (drop p s) (omega (arith, length-drop p s, k.inside)) in
        let h : stretches_from [] (inv.done ++ (kept_piece p (take k.size (drop p s)) ∷ [])) ≡ stretches_from [] inv.done =
        stretches-append [] inv.done (kept_piece p (take k.size (drop p s)) ∷ []) ∙ stretch-kept (stretches_from [] inv.done) p (take k.size (drop p s)) in
        record {
          done = inv.done ++ (kept_piece p (take k.size (drop p s)) ∷ []);
          doing = rw k.next (doing_next piece_at s inv.done p _ k.size inv.doing l (omega (arith, k.least)) k.read);
          inside = omega (arith, k.next, k.inside);
          text = rw (kept_append, one_kept, length-append, m, inv.text, z);
          number = rw (count-append, count_kept, inv.number);
          small = (omega (arith, inv.small.0, k.next), omega (arith, inv.small.1, k.next, k.least));
          many = rw h inv.many;
          few = inv.few;
          tail = rw h inv.tail;
          filled = rw h inv.filled;
        }

    -- a skip of n bytes
    module _ (e : Lost s p) where
      abbrev n : ℕ
      n = min 4 (length s - p)

      abbrev lost : Piece
      lost = lost_piece p (take 4 (drop p s))

      skip-size : length (take 4 (drop p s)) ≡ n
      skip-size = length-take 4 (drop p s) ∙ skip_is s p

      on : (1 ≤ n) × (p + n ≤ length s)
      on = (omega arith, omega arith)

      there : Slot (stretches_from [] inv.done) count (slot_of count end p) (start_of count last end p) p n
      there = slot count p n inv.many inv.tail

      pub start-before : start_of count last end p ≤ p
      start-before = there.before

      pub slot_most : slot_of count end p ≤ 64
      slot_most = omega (arith, there.most, inv.few)

      doing_skip : Doing piece_at s (inv.done ++ (lost ∷ [])) (p + n)
      doing_skip = doing_next piece_at s inv.done p lost n inv.doing l on.0 (e ∙ rw (skip_is s p))

      skipped : stretches_from [] (inv.done ++ (lost ∷ [])) ≡ there.init ++ (record { start = start_of count last end p; size = p + n - start_of count last end p } ∷ [])
      skipped = stretches-append [] inv.done (lost ∷ []) ∙ stretch-lost (stretches_from [] inv.done) p (take 4 (drop p s)) ∙ rw skip-size there.skips

      survey_lost : (r : Stretch) → slot_of count end p < 64 → stretch_in r ≡ record { start = start_of count last end p; size = p + n - start_of count last end p }
          → Surveying s (set stretches (slot_of count end p) r) (slot_of count end p + 1) (start_of count last end p) (p + n) bytes messages (p + n)
      survey_lost r h q =
          let (y, f) = there.room h in
          let g : map stretch_in (set stretches (slot_of count end p) r) ≡ there.init ++ stretch_in r ∷ replicate (64 - (slot_of count end p + 1)) rule.no_stretch =
          map-set stretch_in stretches (slot_of count end p) r ∙ rw (inv.filled, f) (set_at there.init y (replicate (64 - (slot_of count end p + 1)) rule.no_stretch) (stretch_in r) (slot_of count end p) there.many) in
          record {
            done = inv.done ++ (lost ∷ []);
            doing = doing_skip;
            inside = on.1;
            text = rw (kept_append, one-lost, append-nil) inv.text;
            number = rw (count-append, count-lost) (add-zero _ ∙ inv.number);
            small = (omega (arith, inv.small.0), omega (arith, inv.small.1));
            many = rw (skipped, length-append, there.many);
            few = omega arith;
            tail = rw skipped (ends there.init (start_of count last end p) (p + n) (omega (arith, there.before)));
            filled = g ∙ rw (skipped, q) (sym (append_assoc there.init _ (replicate (64 - (slot_of count end p + 1)) rule.no_stretch)));
          }

      -- the 65th
      rest : Found (p + n) (drop (p + n) s)
      rest = found (p + n) (drop (p + n) s)

      all : items piece_at 0 0 s ≡ good ((inv.done ++ (lost ∷ [])) ++ rest.pieces)
      unfolding ◌++>◌
      all = doing_skip ∙ rw rest.finds

      module _ (z : slot_of count end p ≡ 64) where
        fresh : start_of count last end p ≡ p
        fresh = there.fresh (omega (arith, inv.few))

        stays : Stays (stretches_from [] (inv.done ++ (lost ∷ []))) (stretches_from [] ((inv.done ++ (lost ∷ [])) ++ rest.pieces))
        stays = rw (stretches-append [] (inv.done ++ (lost ∷ [])) rest.pieces) (stays_on (stretches_from [] (inv.done ++ (lost ∷ []))) rest.pieces)

        long : length (stretches_from [] (inv.done ++ (lost ∷ []))) ≡ 65
        long = rw (skipped, length-append, there.many, z)

        begins : (get_or (stretches_from [] (inv.done ++ (lost ∷ []))) 64 rule.no_stretch).start ≡ p
        begins = rw skipped (ap (λ (h : rule.Stretch). h.start) (get_or_at there.init _ [] rule.no_stretch 64 (there.many ∙ z))) ∙ fresh

        pub survey_full : length s ≤ 65536 → report (Err (record { why = Holes; place = p })) ≡ surveyed s
        unfolding salvaged salvage_of
        survey_full w =
            let a : 64 < length (stretches_from [] ((inv.done ++ (lost ∷ [])) ++ rest.pieces)) = omega (arith, stays.long, long) in
            let b : (get_or (stretches_from [] ((inv.done ++ (lost ∷ [])) ++ rest.pieces)) 64 rule.no_stretch).start ≡ p = stays.starts 64 (omega (arith, long)) ∙ begins in
            let f : salvaged s ≡ bad HOLES (get_or (stretches_from [] ((inv.done ++ (lost ∷ [])) ++ rest.pieces)) 64 rule.no_stretch).start =
            pass _ _ _ _ (le-ltb 65536 (length s) w) (step _ _ all (halt _ _ _ _ (lt-ltb 64 (length (stretches_from [] ((inv.done ++ (lost ∷ [])) ++ rest.pieces))) a))) in
            reported_bad (record { why = Holes; place = p }) ∙ sym (ap (λ (o : Outcome rule.Salvage). (answered [] o).0) (f ∙ ap (bad HOLES) b))

  pub survey_ended : length s ≤ 65536 → length s ≤ p → report (Ok (record { bytes = bytes; messages = messages; stretches = stretches; count = count })) ≡ surveyed s
  unfolding salvaged salvage_of answered
  survey_ended w l =
      let f : salvaged s ≡ good (record { text = kept_text inv.done; messages = kept_count inv.done; stretches = stretches_from [] inv.done }) =
      pass _ _ _ _ (le-ltb 65536 (length s) w) (step _ _ (doing_end piece_at s inv.done p inv.doing l) (pass _ _ _ _ (le-ltb 64 (length (stretches_from [] inv.done)) (omega (arith, inv.many, inv.few))) refl)) in
      sym (ap (λ (o : Outcome rule.Salvage). (answered [] o).0) f ∙ rw (inv.text, inv.number, inv.many, inv.filled))

-- ---- skips, one behind the other

slot_same : (k e : ℕ) → slot_of (k + 1) e e ≡ k
unfolding slot_of
slot_same k e = rw (add-one, eq-eqb e e refl, slot_of)

start_same : (k start e : ℕ) → start_of (k + 1) start e e ≡ start
unfolding start_of
start_same k start e = rw (add-one, eq-eqb e e refl, start_of)

module _ (s : List ℕ) (stretches : List Stretch) (k start bytes messages : ℕ) (few : k < 64) where
  abbrev Up-to : ℕ → Type 0
  Up-to e = Surveying s (set stretches k (stretch_of start e)) (k + 1) start e bytes messages e

  -- the last stretch, up to place e, is made longer by a skip there, and by those behind it
  longer : (e : ℕ) → e < length s → (get_or s e 0 / 16 ≡ 1 → ⊥) → Up-to e → Up-to (e + min 4 (length s - e))
  longer e l c inv =
      rw (slot_same, start_same, set-set) at
      (survey_lost s _ _ _ _ _ _ e inv l (lost-byte s e c) (stretch_of start (e + min 4 (length s - e))) (rw slot_same few) (rw start_same))

  to_the_end : (n e : ℕ) → length s - e ≤ n → Up-to e → Up-to (skips_end 0 e (drop e s))
  to_the_end zero e h inv = rw (ended s e (omega arith)) inv
  to_the_end (suc n) e h inv = go (ltb e (length s)) refl (eqb (get_or s e 0 / 16) 1) refl (to_the_end n)
    where
      go : (a : Bool) → ltb e (length s) ≡ a → (b : Bool) → eqb (get_or s e 0 / 16) 1 ≡ b → ((f : ℕ) → length s - f ≤ n → Up-to f → Up-to (skips_end 0 f (drop f s))) → Up-to (skips_end 0 e (drop e s))
      go false l b c again = rw (ended s e (ltb-false _ _ l)) inv
      go true l true c again = rw (ends-here s e (ltb-true _ _ l) (eqb-true _ _ c)) inv
      go true l false c again =
          let z = ltb-true e (length s) l in
          let f = eqb-false (get_or s e 0 / 16) 1 c in
          rw (goes_on s e z f, first s e (omega arith)) (again (e + min 4 (length s - e)) (omega arith) (longer e z f inv))

-- what the skips that begin at place p come to, at which no message stands: one stretch, the last or one more
module _ (s : List ℕ) (stretches : List Stretch) (count last end bytes messages p : ℕ) (inv : Surveying s stretches count last end bytes messages p)
    (l : p < length s) (e : Lost s p) where
  pub survey_skips : slot_of count end p < 64
      → Surveying s (set stretches (slot_of count end p) (stretch_of (start_of count last end p) (skips_end 4 p (drop p s)))) (slot_of count end p + 1) (start_of count last end p) (skips_end 4 p (drop p s)) bytes messages (skips_end 4 p (drop p s))
  survey_skips h =
      rw (first s p (omega arith))
      (to_the_end s stretches (slot_of count end p) (start_of count last end p) bytes messages h (length s) (p + min 4 (length s - p)) (omega arith)
      (survey_lost s stretches count last end bytes messages p inv l e (stretch_of (start_of count last end p) (p + min 4 (length s - p))) h refl))

pub survey_large : (s : List ℕ) → 65536 < length s → report (Err (record { why = Large; place = 65536 })) ≡ surveyed s
unfolding salvaged
survey_large s l = reported_bad (record { why = Large; place = 65536 }) ∙ sym (ap (λ (o : Outcome rule.Salvage). (answered [] o).0) (halt _ _ _ _ (lt-ltb 65536 (length s) l)))
