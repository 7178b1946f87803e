-- The loop that counts: what it knows of the records before its place.
use Prim.Native.Nat.{ℕ, ◌+◌, ◌-◌, ◌*◌, ◌≤◌, ◌<◌}
use mathlib.Core.Path.{◌≡◌, refl, ap, sym, subst, ◌∙◌}
use mathlib.Core.Bool.{Bool, true, false, ◌&&◌}
use mathlib.Core.List.{List, [], ◌∷◌, ◌++◌, append-nil}
use native.Mathlib.Nat.{add-zero}
use native.Mathlib.Omega.{arith}
use borrow.Author.Tests.{leb-true, leb-false, le-ltb, lt-ltb}
use lib.Dec.{leb}
use lib.ListN.{length, take, drop, length-append, length-drop, length-take}
use lib.Seq.{drop-drop}
use Rattle.rules.specs.Outcome.{good, bad}
use Rattle.refusal.specs.Numbers.{CAPTURE}
use Rattle.rules.specs.Bytes.{part, join}
use Rattle.rules.specs.Items.{items}
use Rattle.rules.proofs.Outcomes.{pass, halt, step, stop, both, good_inj, good≢bad}
use Rattle.rules.proofs.Loops.{rest, Passing, passing-start, passing-next, passing-end, passing-bad}
use Rattle.std.specs.Prelude.{Option, Some, None}
use Rattle.capture.specs.File.{Order, word_in, Packet, packet}
use Rattle.capture.specs.Reading.{Class, kept, not_for_us, cut_short, bad_message, class_of, Taken, counted, taken_of, recording_of}
use Rattle.capture.specs.Claims.{joined}
use Rattle.capture.specs.Told.{slot_of, packet_by, counts_of, with_class, Low, counted_in, Spots, More, SpotsIn}
use Rattle.capture.specs.declared.Slot.{Slot}
use Rattle.capture.specs.declared.Counts.{Counts}
use Rattle.capture.proofs.Counting.{adds_up, in_order}
use Rattle.capture.proofs.Spotting.{new_of, taken-last, more-small, more-long, spots-more}

-- ---- one packet more

join-append : (cs ds : List (List ℕ)) → length (join (cs ++ ds)) ≡ length (join cs) + length (join ds)
join-append [] ds = omega arith
join-append (c ∷ cs) ds = omega (arith, length-append c (join (cs ++ ds)), length-append c (join cs), join-append cs ds)

with-joined : (u : Taken) (c : Class) → counts_of (joined u (counted c (record { messages = []; not_for_us = 0; cut_short = 0; bad_message = 0 }))) ≡ with_class (counts_of u) c
unfolding counted recording_of
with-joined u (kept c) =
    let n : length (c ++ []) ≡ length c = ap length (append-nil c) in
    rw (join-append u.messages (c ∷ []), n, length-append u.messages (c ∷ []), add-zero, add-zero, add-zero)
with-joined u not_for_us = rw (append-nil, add-zero, add-zero)
with-joined u cut_short = rw (append-nil, add-zero, add-zero)
with-joined u bad_message = rw (append-nil, add-zero, add-zero)

with-last : (port : ℕ) (done : List Packet) (k : Packet) → counts_of (taken_of port (done ++ (k ∷ []))) ≡ with_class (counts_of (taken_of port done)) (class_of port k)
unfolding taken_of
with-last port done k = ap counts_of (in_order port done (k ∷ [])) ∙ with-joined (taken_of port done) (class_of port k)

-- the class does not depend on the time
same_class : (port : ℕ) (frame : List ℕ) (original a b : ℕ) → class_of port (packet_by frame original) ≡ class_of port (record { seconds = a; micros = b; original = original; bytes = frame })
unfolding class_of
same_class port frame original a b = refl

-- ---- a record

abbrev pub packet_at : Order → List ℕ → Slot → Packet
packet_at o s k = record { seconds = word_in o s 0; micros = word_in o s 4; original = k.original; bytes = part 16 k.size s }

pub record Slotted (o : Order) (s : List ℕ) (k : Slot) : Type 0 where
  pub least : 16 ≤ k.size
  pub most : k.size ≤ length s
  pub reads : (p : ℕ) → packet o p s ≡ good (packet_at o s k, k.size)

pub slotted : (o : Order) (s : List ℕ) (k : Slot) → Some k ≡ slot_of o s → Slotted o s k
unfolding slot_of packet
slotted o s k e = go (leb 16 (length s) && leb (16 + word_in o s 8) (length s)) refl
  where
    go : (b : Bool) → (leb 16 (length s) && leb (16 + word_in o s 8) (length s)) ≡ b → Slotted o s k
    go false z = let w : Some k ≡ None = rw (z, slot_of) at e in let n : ◌≡◌ {A = ℕ} 0 1 = cc in absurd (omega arith)
    go true z =
        let w : Some k ≡ Some (record { size = 16 + word_in o s 8; original = word_in o s 12 }) = rw (z, slot_of) at e in
        let d : k ≡ record { size = 16 + word_in o s 8; original = word_in o s 12 } = cc in
        let a = ap (λ (x : Slot). x.size) d in
        let (x, y) = both (leb 16 (length s)) (leb (16 + word_in o s 8) (length s)) z in
        let l = leb-true 16 (length s) x in
        let m = leb-true (16 + word_in o s 8) (length s) y in
        record {
          least = omega (arith, a);
          most = omega (arith, a, m);
          reads = λ p. rw d (pass _ _ _ _ (le-ltb (length s) 16 l) (pass _ _ _ _ (le-ltb (length s) (16 + word_in o s 8) m) refl));
        }

slot_cut : (o : Order) (s : List ℕ) (p : ℕ) → None ≡ slot_of o s → packet o p s ≡ bad CAPTURE p
unfolding slot_of packet
slot_cut o s p e = go (leb 16 (length s)) refl (leb (16 + word_in o s 8) (length s)) refl
  where
    go : (a : Bool) → leb 16 (length s) ≡ a → (b : Bool) → leb (16 + word_in o s 8) (length s) ≡ b → packet o p s ≡ bad CAPTURE p
    go false x b y = halt _ _ _ _ (lt-ltb (length s) 16 (leb-false 16 (length s) x))
    go true x false y = pass _ _ _ _ (le-ltb (length s) 16 (leb-true 16 (length s) x)) (halt _ _ _ _ (lt-ltb (length s) (16 + word_in o s 8) (leb-false (16 + word_in o s 8) (length s) y)))
    go true x true y = let w : ◌≡◌ {A = Option Slot} None (Some (record { size = 16 + word_in o s 8; original = word_in o s 12 })) = rw (x, y, slot_of) at e in let n : ◌≡◌ {A = ℕ} 0 1 = cc in absurd (omega arith)

-- ---- the records before place `at`

pub record Walked (o : Order) (file : List ℕ) (done : List Packet) (at : ℕ) : Type 0 where
  pub i : ℕ
  pub place : at ≡ 24 + i
  pub inside : at ≤ length file
  pub passing : Passing (packet o) 24 (drop 24 file) done i at
  pub few : length done ≤ at

module _ (o : Order) (file : List ℕ) where
  pub walked_start : 24 ≤ length file → Walked o file [] 24
  walked_start l = record { i = 0; place = refl; inside = l; passing = passing-start (packet o) 24 (drop 24 file); few = omega arith }

  module _ (done : List Packet) (at : ℕ) (walk : Walked o file done at) where
    behind : drop walk.i (drop 24 file) ≡ drop at file
    behind = drop-drop walk.i 24 file ∙ ap (λ (x : ℕ). drop x file) (sym walk.place)

    pub walked_end : length file ≤ at → items (packet o) 0 24 (drop 24 file) ≡ good done
    walked_end l = passing-end (packet o) 24 (drop 24 file) done walk.i at walk.passing (omega (arith, length-drop 24 file, walk.place))

    module _ (h : at < length file) where
      left : walk.i < length (drop 24 file)
      left = omega (arith, length-drop 24 file, walk.place)

      pub walked_cut : None ≡ slot_of o (take (length file - at) (drop at file)) → items (packet o) 0 24 (drop 24 file) ≡ bad CAPTURE at
      walked_cut e =
          passing-bad (packet o) 24 (drop 24 file) done walk.i at walk.passing left
          (rw behind (slot_cut o (drop at file) at (e ∙ ap (slot_of o) (rest file at))))

      module _ (slot : Slot) (e : Some slot ≡ slot_of o (take (length file - at) (drop at file))) where
        pub slot_here : Slotted o (drop at file) slot
        slot_here = slotted o (drop at file) slot (e ∙ ap (slot_of o) (rest file at))

        pub walked_next : Walked o file (done ++ (packet_at o (drop at file) slot ∷ [])) (at + slot.size)
        walked_next =
            let k = packet_at o (drop at file) slot in
            let least = slot_here.least in
            let most = slot_here.most in
            record {
              i = walk.i + slot.size;
              place = omega (arith, walk.place);
              inside = omega (arith, length-drop at file);
              passing = passing-next (packet o) 24 (drop 24 file) done walk.i at k slot.size walk.passing left (omega arith) (rw behind (slot_here.reads at));
              few = omega (arith, walk.few, length-append done (k ∷ []));
            }

        frame_is : part (at + 16) (at + slot.size) file ≡ part 16 slot.size (drop at file)
        frame_is = let n : at + slot.size - (at + 16) ≡ slot.size - 16 = omega arith in rw (n, drop-drop)

        pub class_here : (port : ℕ) → class_of port (packet_by (part (at + 16) (at + slot.size) file) slot.original) ≡ class_of port (packet_at o (drop at file) slot)
        class_here port =
            ap (λ (f : List ℕ). class_of port (packet_by f slot.original)) frame_is ∙ same_class port (part 16 slot.size (drop at file)) slot.original (word_in o (drop at file) 0) (word_in o (drop at file) 4)

-- ---- counted

pub record Counting (o : Order) (port : ℕ) (file : List ℕ) (t : Counts) (spots : List ℕ) (at : ℕ) : Type 0 where
  pub done : List Packet
  pub walk : Walked o file done at
  pub counts : t ≡ counts_of (taken_of port done)
  pub small : t.bytes ≤ at
  pub few : 24 + t.kept * 82 ≤ at
  pub long : length spots ≡ 800
  pub spotted : Spots file spots (taken_of port done).messages

module _ (o : Order) (port : ℕ) (file : List ℕ) where
  pub counting_start : (t : Counts) (spots : List ℕ) → (t.bytes ≡ 0) × ((t.kept ≡ 0) × ((t.not_for_us ≡ 0) × ((t.cut_short ≡ 0) × (t.bad_message ≡ 0)))) → length spots ≡ 800 → 24 ≤ length file → Counting o port file t spots 24
  unfolding taken_of recording_of
  counting_start t spots (a, (b, (c, (d, e)))) n l =
      let none : ◌≡◌ {A = Counts} (record { bytes = t.bytes; kept = t.kept; not_for_us = t.not_for_us; cut_short = t.cut_short; bad_message = t.bad_message }) (record { bytes = 0; kept = 0; not_for_us = 0; cut_short = 0; bad_message = 0 }) = rw (a, b, c, d, e) in
      record { done = []; walk = walked_start o file l; counts = none; small = omega arith; few = omega arith; long = n; spotted = record { few = omega arith; each = λ i l. absurd (omega arith) } }

  module _ (t : Counts) (spots : List ℕ) (at : ℕ) (inv : Counting o port file t spots at) where
    pub low : length file ≤ 65536 → Low t × (t.kept < 800)
    low l =
        let i = inv.walk.inside in
        let f = inv.walk.few in
        let s = inv.small in
        let k = inv.few in
        let a = adds_up port inv.done in
        let e = inv.counts in
        let b : t.kept < 800 = omega arith in (
          record {
            bytes = omega arith;
            kept = omega arith;
            other = rw e (omega (arith, a));
            short = rw e (omega (arith, a));
            wrong = rw e (omega (arith, a));
          },
          b,
        )

    pub counting_end : length file ≤ at → (good t ≡ counted_in o file port) × SpotsIn o file port spots
    unfolding counted_in
    counting_end l =
        let e = walked_end o file inv.done at inv.walk l in
        (sym (step _ _ e (ap good (sym inv.counts))), record { right = λ ks g. let q : inv.done ≡ ks = good_inj (sym e ∙ g) in rw (← q) inv.spotted })

    module _ (h : at < length file) where
      pub counting_cut : None ≡ slot_of o (take (length file - at) (drop at file)) → (bad CAPTURE at ≡ counted_in o file port) × SpotsIn o file port spots
      unfolding counted_in
      counting_cut e =
          let c = walked_cut o file inv.done at inv.walk h e in
          (sym (stop _ _ c), record { right = λ ks g. absurd (good≢bad (sym c ∙ g)) })

      module _ (slot : Slot) (e : Some slot ≡ slot_of o (take (length file - at) (drop at file))) where
        pub counting_next : (t' : Counts) (spots' : List ℕ) → length file ≤ 65536 → More t t' spots spots' (at + 16) (part (at + 16) (at + slot.size) file) (class_of port (packet_by (part (at + 16) (at + slot.size) file) slot.original))
            → Counting o port file t' spots' (at + slot.size)
        counting_next t' spots' l m =
            let k = packet_at o (drop at file) slot in
            let messages = (taken_of port inv.done).messages in
            let c = class_here o file inv.done at inv.walk h slot e port in
            let here = slot_here o file inv.done at inv.walk h slot e in
            let end : at + slot.size ≤ length file = omega (arith, here.most, length-drop at file) in
            let short : length (part (at + 16) (at + slot.size) file) ≤ slot.size - 16 = omega (arith, length-take (at + slot.size - (at + 16)) (drop (at + 16) file)) in
            let (y, z) = more-small _ _ _ _ _ _ _ m in
            let (_, b) = low l in
            let kept : length messages ≡ t.kept = sym (ap (λ (x : Counts). x.kept) inv.counts) in
            record {
              done = inv.done ++ (k ∷ []);
              walk = walked_next o file inv.done at inv.walk h slot e;
              counts = m.counts ∙ ap (with_class t) c ∙ ap (λ (x : Counts). with_class x (class_of port k)) inv.counts ∙ sym (with-last port inv.done k);
              small = omega (arith, z, short, inv.small);
              few = omega (arith, y, short, inv.few, here.least);
              long = more-long _ _ _ _ _ _ _ m ∙ inv.long;
              spotted =
                  subst (Spots file spots') (ap (λ (x : Class). messages ++ new_of x) c ∙ sym (taken-last port inv.done k))
                  (spots-more file spots messages t.kept (at + 16) (at + slot.size) (omega (arith, here.least)) end l kept b inv.long inv.spotted t t' spots' _ refl m);
            }
