-- Where the messages are that are kept: noted packet by packet, and stored by what was noted.
use Prim.Native.Nat.{ℕ, suc, ◌+◌, ◌-◌, ◌*◌, ◌/◌, ◌%◌, ◌≤◌, ◌<◌}
use mathlib.Core.Path.{◌≡◌, refl, ap, sym, ◌∙◌}
use mathlib.Core.Bool.{Bool, true, false}
use mathlib.Core.List.{List, [], ◌∷◌, ◌++◌, append-nil, append_assoc}
use native.Mathlib.Nat.{zero-add}
use native.Mathlib.Omega.{arith}
use borrow.Author.Tests.{ltb-true, ltb-false}
use lib.Dec.{ltb}
use lib.ListN.{length, get_or, take, drop, set, take-append-drop, length-append, length-drop, length-set, get_or-append}
use lib.Seq.{sets, take-suc, drop-drop, length-take-le, length-sets, get_or-append_seam, get_or-set_same, get_or-set_other}
use Rattle.rules.specs.Bytes.{part, join}
use Rattle.rules.proofs.Alone.{part-append}
use Rattle.rules.proofs.Loops.{sets-sets}
use Rattle.capture.specs.File.{Packet}
use Rattle.capture.specs.Reading.{Class, kept, not_for_us, cut_short, bad_message, class_of, counted, taken_of}
use Rattle.capture.specs.Told.{told_class, Placed, with_class, noted, Spot, Spots, noting, More}
use Rattle.capture.specs.declared.Packed.{Packed}
use Rattle.capture.specs.declared.Packed.TheVariants as packed
use Rattle.capture.specs.declared.Counts.{Counts}
use Rattle.capture.proofs.Counting.{in_order}

-- ---- one packet more

placed-long : (frame : List ℕ) (from to : ℕ) → Placed (length frame) (packed.Kept from to) → length (part from to frame) ≡ to - from
placed-long frame from to (a, b, l) = length-take-le (to - from) (drop from frame) (omega (arith, length-drop from frame))

-- the record of a message that is kept has 82 bytes at least
small_by : (t : Counts) (frame : List ℕ) (p : Packed) → Placed (length frame) p
    → ((with_class t (told_class frame p)).kept * 82 ≤ t.kept * 82 + (16 + length frame)) × ((with_class t (told_class frame p)).bytes ≤ t.bytes + length frame)
small_by t frame (packed.Kept from to) (a, b, l) = (omega arith, omega (arith, placed-long frame from to (a, b, l)))
small_by t frame packed.NotForUs l = (omega arith, omega arith)
small_by t frame packed.CutShort l = (omega arith, omega arith)
small_by t frame packed.BadMessage l = (omega arith, omega arith)

pub more-small : (t r : Counts) (before after : List ℕ) (start : ℕ) (frame : List ℕ) (c : Class) → More t r before after start frame c
    → (r.kept * 82 ≤ t.kept * 82 + (16 + length frame)) × (r.bytes ≤ t.bytes + length frame)
more-small t r before after start frame c m = rw (m.counts, ← m.told) (small_by t frame m.packed m.placed)

long-by : (before : List ℕ) (k start : ℕ) (p : Packed) → length (noting before k start p) ≡ length before
long-by before k start (packed.Kept from to) = length-set before k ((start + from) * 65536 + (to - from))
long-by before k start packed.NotForUs = refl
long-by before k start packed.CutShort = refl
long-by before k start packed.BadMessage = refl

pub more-long : (t r : Counts) (before after : List ℕ) (start : ℕ) (frame : List ℕ) (c : Class) → More t r before after start frame c → length after ≡ length before
more-long t r before after start frame c m = ap length m.spots ∙ long-by before t.kept start m.packed

-- the message of a packet, if it is kept
abbrev pub new_of : Class → List (List ℕ)
new_of (kept c) = c ∷ []
new_of not_for_us = []
new_of cut_short = []
new_of bad_message = []

new_is : (c : Class) → (counted c (record { messages = []; not_for_us = 0; cut_short = 0; bad_message = 0 })).messages ≡ new_of c
unfolding counted
new_is (kept c) = refl
new_is not_for_us = refl
new_is cut_short = refl
new_is bad_message = refl

pub taken-last : (port : ℕ) (done : List Packet) (k : Packet) → (taken_of port (done ++ (k ∷ []))).messages ≡ (taken_of port done).messages ++ new_of (class_of port k)
unfolding taken_of
taken-last port done k = rw (in_order port done (k ∷ [])) (ap (λ (x : List (List ℕ)). (taken_of port done).messages ++ x) (new_is (class_of port k)))

-- ---- noted

part-part : (a e s t : ℕ) (l : List ℕ) → a ≤ e → s + e ≤ t → t ≤ length l → part a e (part s t l) ≡ part (s + a) (s + e) l
part-part a e s t l h i j =
    let n : length (take (t - s) (drop s l)) ≡ t - s = length-take-le (t - s) (drop s l) (omega (arith, length-drop s l)) in
    let d : s + e - (s + a) ≡ e - a = omega arith in
    sym (part-append a e (take (t - s) (drop s l)) (drop (t - s) (drop s l)) (omega (arith, n)) (omega (arith, n)))
    ∙ ap (part a e) (take-append-drop (t - s) (drop s l)) ∙ rw (d, drop-drop)

spot_of : (file : List ℕ) (start end from to : ℕ) → start ≤ end → end ≤ length file → length file ≤ 65536 → Placed (length (part start end file)) (packed.Kept from to)
    → Spot file ((start + from) * 65536 + (to - from)) (part from to (part start end file))
spot_of file start end from to s h l (a, b, f) =
    let n : length (part start end file) ≡ end - start = length-take-le (end - start) (drop start file) (omega (arith, length-drop start file)) in
    let q : ((start + from) * 65536 + (to - from)) / 65536 ≡ start + from = omega (arith, n) in
    let z : ((start + from) * 65536 + (to - from)) % 65536 ≡ to - from = omega (arith, n) in
    let o : start + from + (to - from) ≡ start + to = omega arith in
    record { bytes = rw (q, z, o) (sym (part-part from to start end file (omega arith) (omega (arith, n)) h)); size = z ∙ sym (placed-long (part start end file) from to (a, b, f)) }

spots-last : (file before : List ℕ) (cs : List (List ℕ)) (d : List ℕ) (x : ℕ) → length before ≡ 800 → length cs < 800 → Spot file x d → Spots file before cs → Spots file (set before (length cs) x) (cs ++ (d ∷ []))
spots-last file before cs d x n l w s = record { few = omega (arith, l, length-append cs (d ∷ [])); each = λ i h. go i h (ltb i (length cs)) refl }
  where
    go : (i : ℕ) → i < length (cs ++ (d ∷ [])) → (b : Bool) → ltb i (length cs) ≡ b → Spot file (get_or (set before (length cs) x) i 0) (get_or (cs ++ (d ∷ [])) i [])
    go i h true e =
        let k = ltb-true i (length cs) e in
        rw (get_or-set_other before (length cs) i x 0 (λ q. omega (arith, q, k)), get_or-append cs (d ∷ []) [] i k) (s.each i k)
    go i h false e =
        let q : i ≡ length cs = omega (arith, ltb-false i (length cs) e, h, length-append cs (d ∷ [])) in
        rw (q, get_or-set_same before (length cs) x 0 (omega (arith, l, n)), get_or-append_seam cs d [] []) w

module _ (file before : List ℕ) (cs : List (List ℕ)) (k start end : ℕ) (s : start ≤ end) (h : end ≤ length file) (l : length file ≤ 65536) (n : length cs ≡ k) (few : k < 800) (long : length before ≡ 800) (w : Spots file before cs) where
  spots-by : (p : Packed) → Placed (length (part start end file)) p → Spots file (noting before k start p) (cs ++ new_of (told_class (part start end file) p))
  spots-by (packed.Kept from to) f = rw (← n) (spots-last file before cs (part from to (part start end file)) ((start + from) * 65536 + (to - from)) long (omega (arith, n, few)) (spot_of file start end from to s h l f) w)
  spots-by packed.NotForUs f = rw append-nil w
  spots-by packed.CutShort f = rw append-nil w
  spots-by packed.BadMessage f = rw append-nil w

  pub spots-more : (t r : Counts) (after : List ℕ) (c : Class) → t.kept ≡ k → More t r before after start (part start end file) c → Spots file after (cs ++ new_of c)
  spots-more t r after c e m = rw (m.spots, e, ← m.told) (spots-by m.packed m.placed)

-- ---- stored

join_last : (cs : List (List ℕ)) (c : List ℕ) → join (cs ++ (c ∷ [])) ≡ join cs ++ c
join_last [] c = append-nil c
join_last (d ∷ cs) c = rw (join_last cs c, append_assoc)

-- the first i are stored
pub record Storing (file spots : List ℕ) (n : ℕ) (before after : List ℕ) (to i : ℕ) : Type 0 where
  pub low : to ≤ i * 65536
  pub same : length after ≡ length before
  pub right : (cs : List (List ℕ)) → length cs ≡ n → Spots file spots cs → (to ≡ length (join (take i cs))) × (after ≡ sets before 0 (join (take i cs)))

module _ (file spots : List ℕ) (n : ℕ) (before after : List ℕ) (to i : ℕ) (inv : Storing file spots n before after to i) where
  pub storing_next : i < n → (after' : List ℕ) (to' : ℕ) → (after' ≡ sets after to (noted file (get_or spots i 0))) × (to' ≡ to + get_or spots i 0 % 65536) → Storing file spots n before after' to' (i + 1)
  storing_next h after' to' (w, e) = record {
    low = omega (arith, e, inv.low);
    same = ap length w ∙ length-sets after to (noted file (get_or spots i 0)) ∙ inv.same;
    right = λ cs l s.
        let (t, a) = inv.right cs l s in
        let p = s.each i (omega (arith, l)) in
        let c = get_or cs i [] in
        let old = join (take i cs) in
        let n : i + 1 ≡ suc i = omega arith in
        let j : join (take (i + 1) cs) ≡ old ++ c = ap join (ap (λ (x : ℕ). take x cs) n ∙ take-suc cs i [] (omega (arith, l))) ∙ join_last (take i cs) c in (
          omega (arith, e, t, p.size, ap length j, length-append old c),
          w ∙ ap (sets after to) p.bytes ∙ ap (λ (x : List ℕ). sets x to c) a ∙ ap (λ (x : ℕ). sets (sets before 0 old) x c) (t ∙ sym (zero-add (length old)))
              ∙ sets-sets old c before 0 ∙ ap (sets before 0) (sym j),
        );
  }
