-- Where a recording with a clean form that no datagram holds is refused: at the first message that has one, and nowhere else.
use Prim.Native.Nat.{ℕ, zero, suc, ◌+◌, ◌-◌, ◌≤◌, ◌<◌}
use mathlib.Core.Path.{◌≡◌, refl, ap, sym, subst, ◌∙◌}
use mathlib.Core.Logic.{⊎_elim}
use mathlib.Core.Bool.{Bool, true, false}
use mathlib.Core.List.{List, [], ◌∷◌, ◌++◌, append_assoc}
use native.Mathlib.Nat.{add-zero, add-suc, suc-add, zero-add}
use native.Mathlib.Omega.{arith}
use borrow.Author.Tests.{le-ltb, lt-ltb, ltb-true, ltb-false}
use lib.Dec.{ltb}
use lib.ListN.{length, take, drop, take-append-drop, length-take, length-append}
use lib.Seq.{take-add}
use Rattle.rules.specs.Outcome.{Outcome, good, bad, ◌∷>◌, LARGE}
use Rattle.rules.specs.Bytes.{Bytes}
use Rattle.rules.specs.Items.{items, All, all_nil, all_cons}
use Rattle.rules.specs.Message.{Message, message, recording}
use Rattle.rules.specs.Writer.{write}
use Rattle.rules.proofs.Outcomes.{stepped, fronted, front_of_lem, good_inj, good≢bad, refused-step, refused-front, stop, stop_front, passed, pass, halt, step}
use Rattle.rules.proofs.Numbers.{bytes-tail}
use Rattle.rules.proofs.Alone.{own}
use Rattle.capture.specs.File.{Packet}
use Rattle.capture.specs.Writing.{packet_of, datagram, datagrams}
use Rattle.capture.specs.Claims.{FirstLarge}
use Rattle.capture.proofs.Datagrams.{sent, clean-written}

-- one message whose datagram is refused
too_large : (port p : ℕ) (s : List ℕ) (m : Message) (k n q : ℕ) → Bytes s → message p s ≡ good (m, k) → datagram port p s ≡ bad n q → (n ≡ LARGE) × (q ≡ p) × (65507 < length (write m))
unfolding datagram
too_large port p s m k n q b g e = go (ltb 65507 (length (write m))) refl
  where
    go : (a : Bool) → ltb 65507 (length (write m)) ≡ a → (n ≡ LARGE) × (q ≡ p) × (65507 < length (write m))
    go false z = absurd (good≢bad (sym e ∙ step _ _ g (step _ _ (clean-written p s b m k g) (pass _ _ _ _ z refl))))
    go true z =
        let w : ◌≡◌ {A = Outcome (Packet × ℕ)} (bad n q) (bad LARGE p) = sym e ∙ step _ _ g (step _ _ (clean-written p s b m k g) (halt _ _ _ _ z)) in
        (cc, cc, ltb-true 65507 (length (write m)) z)

-- the first of messages
record First (k p : ℕ) (s : List ℕ) (ms : List Message) (n q : ℕ) : Type 0 where
  number : n ≡ LARGE
  before : List Message
  one : Message
  after : List Message
  split : ms ≡ before ++ (one ∷ after)
  fit : All (λ (m : Message). length (write m) ≤ 65507) before
  large : 65507 < length (write one)
  d : ℕ
  least : k ≤ d
  place : q ≡ p + d
  front : items message k p (take d s) ≡ good before

-- behind one byte that was passed over, or one message that fits
first_on : (k p x : ℕ) (s : List ℕ) {ms : List Message} {n q : ℕ} → First k (suc p) s ms n q → First (suc k) p (x ∷ s) ms n q
unfolding items
first_on k p x s w =
    record {
      number = w.number;
      before = w.before;
      one = w.one;
      after = w.after;
      split = w.split;
      fit = w.fit;
      large = w.large;
      d = suc w.d;
      least = omega (arith, w.least);
      place = omega (arith, w.place);
      front = w.front;
    }

first_next : (p x : ℕ) (s : List ℕ) (m : Message) (k : ℕ) {l ms : List Message} {n q : ℕ} → message p (x ∷ s) ≡ good (m, k) → First (k - 1) (suc p) s l n q → m ∷ l ≡ ms → length (write m) ≤ 65507 → First 0 p (x ∷ s) ms n q
unfolding items
first_next p x s m k g w e h =
    let o = own p (x ∷ s) m k g in
    let y : suc w.d ≡ k + (suc w.d - k) = omega (arith, w.least, o.least) in
    let z : x ∷ take w.d s ≡ take k (x ∷ s) ++ take (suc w.d - k) (drop k (x ∷ s)) = ap (λ (j : ℕ). take j (x ∷ s)) y ∙ take-add k (suc w.d - k) (x ∷ s) in
    record {
      number = w.number;
      before = m ∷ w.before;
      one = w.one;
      after = w.after;
      split = sym e ∙ ap (λ (y : List Message). m ∷ y) w.split;
      fit = all_cons h w.fit;
      large = w.large;
      d = suc w.d;
      least = omega arith;
      place = omega (arith, w.place);
      front = step _ _ (ap (message p) z ∙ o.again p (take (suc w.d - k) (drop k (x ∷ s)))) (front_of_lem _ _ w.front);
    }

first-here : (port p x : ℕ) (s : List ℕ) (r : Message × ℕ) {l ms : List Message} {n q : ℕ} → Bytes (x ∷ s) → message p (x ∷ s) ≡ good r → r.0 ∷ l ≡ ms → datagram port p (x ∷ s) ≡ bad n q → First 0 p (x ∷ s) ms n q
unfolding items
first-here port p x s r {l} b g e f =
    let (a, c, z) = too_large port p (x ∷ s) r.0 r.1 _ _ b g f in
    record { number = a; before = []; one = r.0; after = l; split = sym e; fit = all_nil; large = z; d = 0; least = omega arith; place = c ∙ sym (add-zero p); front = refl }

first : (port k p : ℕ) (s : List ℕ) {ms : List Message} {n q : ℕ} → Bytes s → items message k p s ≡ good ms → items (datagram port) k p s ≡ bad n q → First k p s ms n q
unfolding items
first port k p [] b e f = absurd (good≢bad (sym f))
first port (suc k) p (x ∷ s) b e f = first_on k p x s (first port k (suc p) s (bytes-tail b) e f)
first port zero p (x ∷ s) b e f =
    let (r, g, e) = stepped _ _ e in
    let (l, i, e) = fronted _ _ e in
    ⊎_elim
    (λ (y : datagram port p (x ∷ s) ≡ bad _ _). first-here port p x s r b g e y)
    (λ (y : (t : Packet × ℕ) × (datagram port p (x ∷ s) ≡ good t) × ((t.0 ∷> items (datagram port) (t.1 - 1) (suc p) s) ≡ bad _ _)).
    let w = sent port p (x ∷ s) y.0.0 y.0.1 b y.1 in
    let v : r ≡ (w.held, y.0.1) = good_inj (sym g ∙ w.reads) in
    let a : r.1 ≡ y.0.1 = ap (λ (z : Message × ℕ). z.1) v in
    let c : r.0 ≡ w.held = ap (λ (z : Message × ℕ). z.0) v in
    first_next p x s r.0 r.1 g (first port (r.1 - 1) (suc p) s (bytes-tail b) i (rw a (refused-front _ _ y.2))) e (rw c w.most))
    (refused-step _ _ f)

-- a message whose datagram is sent, or is not
module _ (port p : ℕ) (s : List ℕ) (b : Bytes s) (m : Message) (k : ℕ) (g : message p s ≡ good (m, k)) where
  sendable : length (write m) ≤ 65507 → datagram port p s ≡ good (packet_of port m (write m), k)
  unfolding datagram
  sendable h = step _ _ g (step _ _ (clean-written p s b m k g) (pass _ _ _ _ (le-ltb 65507 (length (write m)) h) refl))

  unsendable : 65507 < length (write m) → datagram port p s ≡ bad LARGE p
  unfolding datagram
  unsendable h = step _ _ g (step _ _ (clean-written p s b m k g) (halt _ _ _ _ (lt-ltb 65507 (length (write m)) h)))

-- what holds of all holds of the first, and of the others
each : {P : Message → Type 0} {m : Message} {l : List Message} → All P (m ∷ l) → P m × All P l
each (all_cons h r) = (h, r)

-- messages that are sent, and behind them, from place d on, one that is not
behind : (port k p : ℕ) (s : List ℕ) (d : ℕ) {before : List Message} (one : Message) (after : List Message) → Bytes s → k ≤ d → items message k p (take d s) ≡ good before → items message k p s ≡ good (before ++ (one ∷ after))
    → All (λ (m : Message). length (write m) ≤ 65507) before → 65507 < length (write one) → items (datagram port) k p s ≡ bad LARGE (p + d)
unfolding items
behind port k p [] d {before} one after b h e a f z = absurd (omega (arith, ap length (good_inj a), length-append before (one ∷ after)))
behind port (suc k) p (x ∷ s) zero one after b h e a f z = absurd (omega arith)
behind port (suc k) p (x ∷ s) (suc d) one after b h e a f z = rw (add-suc, ← suc-add) (behind port k (suc p) s d one after (bytes-tail b) (omega arith) e a f z)
behind port zero p (x ∷ s) zero {before} one after b h e a f z =
    let none : [] ≡ before = good_inj e in
    let (r, g, a) = stepped _ _ a in
    let (j, i, a) = fronted _ _ a in
    let y : r.0 ∷ j ≡ one ∷ after = a ∙ ap (λ (l : List Message). l ++ (one ∷ after)) (sym none) in
    let w : r.0 ≡ one = cc in
    stop _ _ (rw add-zero (unsendable port p (x ∷ s) b one r.1 (g ∙ ap (λ (m : Message). good (m, r.1)) w) z))
behind port zero p (x ∷ s) (suc d) one after b h e a f z =
    let (r, g, e) = stepped _ _ e in
    let (j, i, e) = fronted _ _ e in
    let o = own p (x ∷ take d s) r.0 r.1 g in
    let u : List ℕ = x ∷ take d s in
    let w : take r.1 u ++ (drop r.1 u ++ drop d s) ≡ x ∷ s =
    sym (append_assoc (take r.1 u) (drop r.1 u) (drop d s)) ∙ ap (λ (t : List ℕ). t ++ drop d s) (take-append-drop r.1 u) ∙ ap (λ (t : List ℕ). x ∷ t) (take-append-drop d s)
    in
    let read : message p (x ∷ s) ≡ good (r.0, r.1) = ap (message p) (sym w) ∙ o.again p (drop r.1 u ++ drop d s) in
    let (l, v, c) = fronted _ _ (sym (step _ _ read refl) ∙ a) in
    let y : r.0 ∷ l ≡ r.0 ∷ (j ++ (one ∷ after)) = c ∙ ap (λ (t : List Message). t ++ (one ∷ after)) (sym e) in
    let t : l ≡ j ++ (one ∷ after) = cc in
    let (fits, rest) = each {P = λ (m : Message). length (write m) ≤ 65507} {m = r.0} {l = j} (rw e f) in
    rw (add-suc, ← suc-add) (step _ _ (sendable port p (x ∷ s) b r.0 r.1 read fits)
    (stop_front _ _ (behind port (r.1 - 1) (suc p) s d one after (bytes-tail b) (omega (arith, o.most, o.least, length-take d s)) i (v ∙ ap good t) rest z)))

pub refused-first : (s : List ℕ) (port : ℕ) (ms : List Message) (n p : ℕ) → Bytes s → recording s ≡ good ms → datagrams s port ≡ bad n p → (n ≡ LARGE) × FirstLarge s ms p
unfolding recording datagrams
refused-first s port ms n p b r e =
    let (large, read) = passed _ _ _ _ r in
    let w = first port 0 0 s b read (sym (step _ _ r refl) ∙ e) in
    let q : w.d ≡ p = sym (w.place ∙ zero-add w.d) in
    let l : length (take p s) ≤ 65536 = omega (arith, ltb-false 65536 (length s) large, length-take p s) in (
      w.number,
      record {
        before = w.before;
        one = w.one;
        after = w.after;
        split = w.split;
        fit = w.fit;
        large = w.large;
        front = pass _ _ _ _ (le-ltb 65536 (length (take p s)) l) (subst (λ (x : ℕ). items message 0 0 (take x s) ≡ good w.before) q w.front);
      },
    )

pub first-refused : (s : List ℕ) (port : ℕ) (ms : List Message) (p : ℕ) → Bytes s → recording s ≡ good ms → FirstLarge s ms p → datagrams s port ≡ bad LARGE p
unfolding recording datagrams
first-refused s port ms p b r w =
    let (small, read) = passed _ _ _ _ r in
    let (less, front) = passed _ _ _ _ w.front in
    step _ _ r (behind port 0 0 s p w.one w.after b (omega arith) front (read ∙ ap good w.split) w.fit w.large ∙ ap (bad LARGE) (zero-add p))
