-- Where messages within a quota are refused: those before the refused one pass and are taken; and a message that does not pass refuses those that pass before it.
use Prim.Native.Nat.{ℕ, zero, suc, ◌+◌, ◌-◌, ◌≤◌, ◌<◌}
use mathlib.Core.Path.{◌≡◌, refl, ap, sym, ◌∙◌}
use mathlib.Core.Logic.{⊎_elim}
use mathlib.Core.List.{List, [], ◌∷◌, ◌++◌, map, append_assoc}
use native.Mathlib.Nat.{zero-add}
use native.Mathlib.Omega.{arith}
use lib.ListN.{length, take, drop, length-append, length-drop, take-append-drop}
use lib.Seq.{take_all, length-take-le, take-append_seam, drop-append_seam}
use Rattle.rules.specs.Outcome.{good, bad}
use Rattle.rules.specs.Items.{items}
use Rattle.rules.specs.Message.{Message, message}
use Rattle.rules.proofs.Outcomes.{step, stop, stepped, fronted, front_of_lem, stop_front, refused-step, refused-front, refused-only, good_inj, good≢bad}
use Rattle.rules.proofs.Alone.{own}
use Rattle.rules.proofs.Shifted.{refused_further}
use Rattle.rules.proofs.Reasons.{messages_stopped, messages-refused}
use Rattle.numbered.specs.Quota.{Taken, taken_at, first_items, taken_from, message_of, bytes_taken}
use Rattle.numbered.proofs.Messages.{own-here, own-front, messages-append, first_taken}

-- ---- what stands before a message that is refused within a quota

-- s stands at place p, and its first k bytes belong to the message before: fewer messages than the quota are taken from there up to byte d, and the next is refused
record Stops (q k p : ℕ) (s : List ℕ) (n r : ℕ) : Type 0 where
  d : ℕ
  ts : List Taken
  behind : k ≤ d
  inside : d < length s
  few : length ts < q
  taken : first_items taken_at q k p (take d s) ≡ good ts
  refused : message (p + d) (drop d s) ≡ bad n r

stops_here : (q p x : ℕ) (s : List ℕ) {n r : ℕ} → taken_at p (x ∷ s) ≡ bad n r → Stops (suc q) 0 p (x ∷ s) n r
unfolding first_items taken_at
stops_here q p x s e =
    let z : p + 0 ≡ p = omega arith in
    record { d = 0; ts = []; behind = omega arith; inside = omega arith; few = omega arith; taken = refl; refused = rw z (refused-only _ _ e) }

stops_skip : (q k p x : ℕ) (s : List ℕ) {n r : ℕ} → Stops q k (suc p) s n r → Stops q (suc k) p (x ∷ s) n r
unfolding first_items
stops_skip q k p x s w =
    let z : p + suc w.d ≡ suc p + w.d = omega arith in
    record { d = suc w.d; ts = w.ts; behind = omega (arith, w.behind); inside = omega (arith, w.inside); few = w.few; taken = w.taken; refused = rw z w.refused }

-- one message more in front, which is taken from the bytes before the refused one too
stops_next : (q p x : ℕ) (s : List ℕ) (t : Taken) (k : ℕ) {n r : ℕ} → taken_at p (x ∷ s) ≡ good (t, k) → Stops q (k - 1) (suc p) s n r → Stops (suc q) 0 p (x ∷ s) n r
unfolding first_items taken_at
stops_next q p x s t k e w =
    let (m, g, f) = stepped _ _ e in
    let size : m.1 ≡ k = ap (λ (y : Taken × ℕ). y.1) (good_inj f) in
    let z : p + suc w.d ≡ suc p + w.d = omega arith in
    let front = own-front p p (suc w.d) (x ∷ s) m.0 m.1 (omega (arith, size, w.behind)) g in
    record {
      d = suc w.d;
      ts = t ∷ w.ts;
      behind = omega arith;
      inside = omega (arith, w.inside);
      few = omega (arith, w.few);
      taken = step _ _ (step _ _ front f) (front_of_lem _ _ w.taken);
      refused = rw z w.refused;
    }

stops : (q k p : ℕ) (s : List ℕ) {n r : ℕ} → first_items taken_at q k p s ≡ bad n r → Stops q k p s n r
unfolding first_items
stops q k p [] e = absurd (good≢bad (sym e))
stops q (suc k) p (x ∷ s) e = stops_skip q k p x s (stops q k (suc p) s e)
stops zero zero p (x ∷ s) e = absurd (good≢bad (sym e))
stops (suc q) zero p (x ∷ s) e =
    ⊎_elim (λ b. stops_here q p x s b) (λ a. stops_next q p x s a.0.0 a.0.1 a.1 (stops q (a.0.1 - 1) (suc p) s (refused-front _ _ a.2))) (refused-step _ _ e)

-- the messages ts, fewer than the quota, fill the bytes before a place of s, and the message there is refused
pub record Stopped (s : List ℕ) (quota n r : ℕ) : Type 0 where
  pub place : ℕ
  pub ts : List Taken
  pub inside : place < length s
  pub few : length ts < quota
  pub taken : taken_from (take place s) quota ≡ good ts
  pub sum : bytes_taken ts ≡ place
  pub read : items message 0 0 (take place s) ≡ good (map message_of ts)
  pub refused : message place (drop place s) ≡ bad n r

pub stopped : (s : List ℕ) (quota : ℕ) {n r : ℕ} → taken_from s quota ≡ bad n r → Stopped s quota n r
unfolding taken_from
stopped s quota e =
    let w = stops quota 0 0 s e in
    let first = first_taken (take w.d s) quota w.taken in
    let all = first.all w.few in
    let z : 0 + w.d ≡ w.d = omega arith in
    record {
      place = w.d;
      ts = w.ts;
      inside = w.inside;
      few = w.few;
      taken = w.taken;
      sum = all ∙ length-take-le w.d s (omega (arith, w.inside));
      read = ap (items message 0 0) (sym (take_all (bytes_taken w.ts) (take w.d s) (omega (arith, all)))) ∙ first.read 0;
      refused = rw z at w.refused;
    }

-- ---- a message that does not pass, behind messages that do, fewer than the quota

behind-first : (q k p : ℕ) (a b : List ℕ) {ms : List Message} {n r : ℕ} → k ≤ length a → 1 ≤ length b → length ms < q → items message k p a ≡ good ms → message (p + length a) b ≡ bad n r
    → first_items taken_at q k p (a ++ b) ≡ bad n r
unfolding first_items taken_at items
behind-first zero k p a b h l few e f = absurd (omega arith)
behind-first (suc q) (suc k) p [] b h l few e f = absurd (omega arith)
behind-first (suc q) zero p [] [] h l few e f = absurd (omega arith)
behind-first (suc q) zero p [] (y ∷ b) h l few e f =
    let z : p + 0 ≡ p = omega arith in
    stop _ _ (stop _ _ (rw (← z) f))
behind-first (suc q) (suc k) p (x ∷ a) b h l few e f =
    let z : suc p + length a ≡ p + suc (length a) = omega arith in
    behind-first (suc q) k (suc p) a b (omega arith) l few e (rw z f)
behind-first (suc q) zero p (x ∷ a) b h l few e f =
    let (r, g, d) = stepped _ _ e in
    let (ms, i, m) = fronted _ _ d in
    let o = own p (x ∷ a) r.0 r.1 g in
    let c : r.1 - 1 ≤ length a = omega (arith, o.most, o.least) in
    let z : suc p + length a ≡ p + suc (length a) = omega arith in
    step _ _ (step _ _ (own-here p p (x ∷ a) b r.0 r.1 g) refl) (stop_front _ _ (behind-first q (r.1 - 1) (suc p) a b c l (omega (arith, ap length m)) i (rw z f)))

pub refused-within : (s : List ℕ) (place : ℕ) {ms : List Message} {n r : ℕ} → place < length s → items message 0 0 (take place s) ≡ good ms → message place (drop place s) ≡ bad n r
    → (quota : ℕ) → length ms < quota → taken_from s quota ≡ bad n r
unfolding taken_from
refused-within s place inside read refused quota few =
    let z : 0 + length (take place s) ≡ place = omega (arith, length-take-le place s (omega arith)) in
    ap (first_items taken_at quota 0 0) (sym (take-append-drop place s)) ∙ behind-first quota 0 0 (take place s) (drop place s) (omega arith) (omega (arith, length-drop place s)) few read (rw z refused)

-- messages that are refused, behind messages that pass: the place is counted on
pub refused-joined : (a b : List ℕ) {ms : List Message} {n r : ℕ} → items message 0 0 a ≡ good ms → items message 0 0 b ≡ bad n r → items message 0 0 (a ++ b) ≡ bad n (length a + r)
refused-joined a b e f =
    let w = messages_stopped b f in
    let front : List ℕ = a ++ take w.place b in
    let rest : List ℕ = drop w.place b in
    let long : length front ≡ length a + w.place = length-append a (take w.place b) ∙ ap (λ (k : ℕ). length a + k) (length-take-le w.place b (omega (arith, w.inside))) in
    ap (items message 0 0) (ap (λ (l : List ℕ). a ++ l) (sym (take-append-drop w.place b)) ∙ sym (append_assoc a (take w.place b) rest))
    ∙ messages-refused (front ++ rest) (length front) (omega (arith, length-append front rest, length-drop w.place b, w.inside))
    (ap (items message 0 0) (take-append_seam front rest) ∙ messages-append 0 0 0 a (take w.place b) (omega arith) e w.passes)
    (ap (message (length front)) (drop-append_seam front rest) ∙ ap (λ (k : ℕ). message k rest) long ∙ refused_further (length a) w.place rest (rw zero-add at w.refused))
