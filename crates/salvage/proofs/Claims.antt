-- Each claim of specs/Claims.antt, proved.
use Prim.Native.Nat.{ℕ, zero, suc, ◌+◌, ◌≤◌, ◌<◌}
use mathlib.Core.Path.{◌≡◌, refl, sym, ap, subst, ◌∙◌}
use mathlib.Core.Logic.{⊎_elim}
use mathlib.Core.List.{List, [], ◌∷◌, ◌++◌}
use native.Mathlib.Omega.{arith}
use borrow.Author.Tests.{ltb-true, ltb-false, le-ltb, lt-ltb}
use lib.ListN.{length, take, drop, take-append-drop, length-append, length-drop}
use lib.Seq.{drop-append_seam, length-take-le}
use Rattle.rules.specs.Outcome.{Outcome, good, bad, ◌>>=◌, ROOM}
use Rattle.rules.specs.Items.{items}
use Rattle.rules.specs.Message.{most_bytes, Message, message, recording}
use Rattle.rules.specs.Buffer.{fitted}
use Rattle.rules.specs.Claims.{Careful}
use Rattle.rules.proofs.Outcomes.{pass, halt, step, stop, passed, stepped, fronted, front_of_lem, good_inj, good≢bad, refused-at, refused-step}
use Rattle.rules.proofs.Walk.{items-next, items_stop}
use Rattle.rules.proofs.Alone.{message-moved, message-inside}
use Rattle.rules.proofs.Kept.{careful_sets, careful_none, take-sets}
use Rattle.salvage.specs.Salvage.{most_stretches, Piece, piece_at, kept_text, kept_count, Stretch, stretches_from, Salvage, salvage_of, salvaged, room_for, answered, salvage}
use Rattle.salvage.specs.Claims.{Salvages, end, keep, skip, PiecesExactly, CoveredOnce, StretchesRun, Kept, SalvagedExactly, without, OutputIsRest, Refused, large, holes, RefusedExactly, PassingKept, OutputPasses, SalvagedTwice, Reported, NothingReported, Writes}
use Rattle.salvage.proofs.Pieces.{kept_piece, Reading, reads, fails, reading, found, salvages-found, found-salvages}
use Rattle.salvage.proofs.Gaps.{kept-rest}
use Rattle.salvage.specs.Worked.{Worked}
use Rattle.salvage.proofs.Worked.{worked_out}
use Rattle.salvage.proofs.Cover.{covered_inside, covered_behind, stretches_apart}

pub pieces-exactly : PiecesExactly
pieces-exactly = record {
  exactly = λ s qs. (found-salvages s qs, salvages-found);
  always = λ s. let f = found 0 s in (f.pieces, f.salvages);
}

pub covered_once : CoveredOnce
covered_once = record { inside = covered_inside; behind = covered_behind }

pub stretches-run : StretchesRun
stretches-run = stretches_apart

abbrev of_pieces : List Piece → Salvage
of_pieces qs = record { text = kept_text qs; messages = kept_count qs; stretches = stretches_from [] qs }

kept_by_lem : (s : List ℕ) (qs : List Piece) → length s ≤ most_bytes → Salvages 0 s qs → length (stretches_from [] qs) ≤ most_stretches → Kept s (of_pieces qs)
kept_by_lem s qs l r h = record { small = l; pieces = qs; salvages = r; text = refl; messages = refl; stretches = refl; few = h }

pub kept_of_lem : (s : List ℕ) (x : Salvage) → salvaged s ≡ good x → Kept s x
unfolding salvaged salvage_of
kept_of_lem s x e =
    let (a, e) = passed _ _ _ _ e in
    let (qs, f, e) = stepped _ _ e in
    let (b, e) = passed _ _ _ _ e in
    subst (Kept s) (good_inj e) (kept_by_lem s qs (ltb-false _ _ a) (found-salvages s qs f) (ltb-false _ _ b))

of_pieces_lem : (s : List ℕ) (qs : List Piece) → length s ≤ most_bytes → Salvages 0 s qs → length (stretches_from [] qs) ≤ most_stretches → salvaged s ≡ good (of_pieces qs)
unfolding salvaged salvage_of
of_pieces_lem s qs l r h =
    pass _ _ _ _ (le-ltb most_bytes (length s) l) (step _ _ (salvages-found r) (pass _ _ _ _ (le-ltb most_stretches (length (stretches_from [] qs)) h) refl))

same_salvage : (x : Salvage) (t : List ℕ) (n : ℕ) (hs : List Stretch) → x.text ≡ t → x.messages ≡ n → x.stretches ≡ hs → record { text = t; messages = n; stretches = hs } ≡ x
same_salvage x t n hs a b c = rw (← a, ← b, ← c)

salvaged-by : (s : List ℕ) (x : Salvage) → Kept s x → salvaged s ≡ good x
salvaged-by s x k = of_pieces_lem s k.pieces k.small k.salvages (subst (λ (l : List Stretch). length l ≤ most_stretches) k.stretches k.few)
    ∙ ap good (same_salvage x _ _ _ k.text k.messages k.stretches)

pub salvaged-exactly : SalvagedExactly
salvaged-exactly s x = (kept_of_lem s x, salvaged-by s x)

pub output-is-rest : OutputIsRest
output-is-rest s x e = let k = kept_of_lem s x e in k.text ∙ kept-rest s k.pieces k.salvages ∙ ap (λ (hs : List Stretch). without hs 0 s) (sym k.stretches)

-- ---- refusals

named : (s : List ℕ) {n p m q : ℕ} → m ≡ n → q ≡ p → Refused s m q → Refused s n p
named s {n} {p} {m} {q} e f r = subst (λ (k : ℕ). Refused s k p) e (subst (Refused s m) f r)

module _ (s : List ℕ) (n p : ℕ) (l : length s ≤ most_bytes) where
  refused-pieces : (qs : List Piece) → items piece_at 0 0 s ≡ good qs → salvage_of qs ≡ bad n p → Refused s n p
  unfolding salvage_of
  refused-pieces qs f e = ⊎_elim
      (λ z. named s z.1 z.2 (holes l (found-salvages s qs f) (ltb-true _ _ z.0)))
      (λ z. absurd (good≢bad (sym z.1)))
      (refused-at _ _ _ _ e)

refused_of : (s : List ℕ) (n p : ℕ) → salvaged s ≡ bad n p → Refused s n p
unfolding salvaged
refused_of s n p e = ⊎_elim
    (λ z. named s z.1 z.2 (large (ltb-true _ _ z.0)))
    (λ z. ⊎_elim
    (λ f. absurd (good≢bad (sym f ∙ (found 0 s).finds)))
    (λ f. refused-pieces s n p (ltb-false _ _ z.0) f.0 f.1 f.2)
    (refused-step _ _ z.1))
    (refused-at _ _ _ _ e)

refused-by : (s : List ℕ) {n p : ℕ} → Refused s n p → salvaged s ≡ bad n p
unfolding salvaged salvage_of
refused-by s (large h) = halt _ _ _ _ (lt-ltb most_bytes (length s) h)
refused-by s (holes {qs = qs} l r h) =
    pass _ _ _ _ (le-ltb most_bytes (length s) l) (step _ _ (salvages-found r) (halt _ _ _ _ (lt-ltb most_stretches (length (stretches_from [] qs)) h)))

pub refused-exactly : RefusedExactly
refused-exactly s n p = (refused_of s n p, refused-by s)

-- ---- a recording that passes

record Whole (p : ℕ) (s : List ℕ) (n : ℕ) : Type 0 where
  pub pieces : List Piece
  pub salvages : Salvages p s pieces
  pub text : kept_text pieces ≡ s
  pub count : kept_count pieces ≡ n
  pub stretches : (hs : List Stretch) → stretches_from hs pieces ≡ hs

whole-none : (p : ℕ) → Whole p [] 0
unfolding kept_text kept_count stretches_from
whole-none p = record { pieces = []; salvages = end; text = refl; count = refl; stretches = λ hs. refl }

whole-next : (p : ℕ) (s : List ℕ) (m : Message) (k n : ℕ) → message p s ≡ good (m, k) → Whole (p + k) (drop k s) n → Whole p s (suc n)
unfolding kept_text kept_count stretches_from
whole-next p s m k n e w =
    let (a, b) = message-inside p s m k e in
    let l : length (take k s) ≡ k = length-take-le k s b in
    let d : take k s ++ drop k s ≡ s = take-append-drop k s in
    let g : message p (take k s ++ drop k s) ≡ good (m, length (take k s)) = rw (d, l) e in
    record {
      pieces = kept_piece p (take k s) ∷ w.pieces;
      salvages = subst (λ (z : List ℕ). Salvages p z (kept_piece p (take k s) ∷ w.pieces)) d (keep m g (rw l w.salvages));
      text = rw w.text d;
      count = ap suc w.count;
      stretches = w.stretches;
    }

whole-at : (p x : ℕ) (s : List ℕ) (ms : List Message) → ((q : ℕ) (u : List ℕ) (ls : List Message) → length u < length (x ∷ s) → items message 0 q u ≡ good ls → Whole q u (length ls))
    → items message 0 p (x ∷ s) ≡ good ms → Whole p (x ∷ s) (length ms)
whole-at p x s ms rec e = go (reading p (x ∷ s))
  where
    go : Reading p (x ∷ s) → Whole p (x ∷ s) (length ms)
    go (fails k q f) = absurd (good≢bad (sym (items_stop message p (x ∷ s) (omega arith) f) ∙ e))
    go (reads m k f) =
        let (a, b) = message-inside p (x ∷ s) m k f in
        let (l, g, h) = fronted m (items message 0 (p + k) (drop k (x ∷ s))) (sym (items-next message p (x ∷ s) m k (omega arith) (omega arith) f) ∙ e) in
        rw (← h) (whole-next p (x ∷ s) m k (length l) f (rec (p + k) (drop k (x ∷ s)) l (omega (arith, length-drop k (x ∷ s))) g))

whole-within : (n p : ℕ) (s : List ℕ) (ms : List Message) → length s < n → items message 0 p s ≡ good ms → Whole p s (length ms)
unfolding items
whole-within zero p s ms h e = absurd (omega arith)
whole-within (suc n) p [] ms h e = rw (← good_inj e) (whole-none p)
whole-within (suc n) p (x ∷ s) ms h e = whole-at p x s ms (λ q u ls l f. whole-within n q u ls (omega arith) f) e

kept_whole : (s : List ℕ) (n : ℕ) → length s ≤ most_bytes → Whole 0 s n → salvaged s ≡ good (record { text = s; messages = n; stretches = [] })
kept_whole s n l w =
    of_pieces_lem s w.pieces l w.salvages (rw (w.stretches []) (omega arith))
    ∙ ap good (same_salvage (record { text = s; messages = n; stretches = [] }) _ _ _ (sym w.text) (sym w.count) (sym (w.stretches [])))

pub passing_kept : PassingKept
unfolding recording
passing_kept s ms e =
    let (a, e) = passed _ _ _ _ e in
    kept_whole s (length ms) (ltb-false _ _ a) (whole-within (suc (length s)) 0 s ms (omega arith) e)

-- ---- what is salvaged

record Passing (q : ℕ) (s : List ℕ) (n : ℕ) : Type 0 where
  pub messages : List Message
  pub read : items message 0 q s ≡ good messages
  pub many : length messages ≡ n

passing-next : (p q : ℕ) (c t u : List ℕ) (m : Message) (n : ℕ) → message p (c ++ t) ≡ good (m, length c) → Passing (q + length c) u n → Passing q (c ++ u) (suc n)
passing-next p q c t u m n e r =
    let (a, b) = message-inside p (c ++ t) m (length c) e in
    record {
      messages = m ∷ r.messages;
      read = items-next message q (c ++ u) m (length c) (omega (arith, length-append c u)) (omega arith) (message-moved p q c t u m e) ∙ front_of_lem _ _ (rw drop-append_seam r.read);
      many = ap suc r.many;
    }

passing : {p : ℕ} {s : List ℕ} {qs : List Piece} (q : ℕ) → Salvages p s qs → Passing q (kept_text qs) (kept_count qs)
unfolding items kept_text kept_count
passing q end = record { messages = []; read = refl; many = refl }
passing q (keep {p = p} {c = c} {t = t} {qs = qs} m e r) = passing-next p q c t (kept_text qs) m (kept_count qs) e (passing (q + length c) r)
passing q (skip h l never r) = passing q r

shorter : {p : ℕ} {s : List ℕ} {qs : List Piece} → Salvages p s qs → length (kept_text qs) ≤ length s
unfolding kept_text
shorter end = omega arith
shorter (keep {c = c} {t = t} {qs = qs} m e r) = let i = shorter r in omega (arith, length-append c (kept_text qs), length-append c t)
shorter (skip {c = c} {t = t} h l never r) = let i = shorter r in omega (arith, length-append c t)

passes : (t : List ℕ) (ms : List Message) → length t ≤ most_bytes → items message 0 0 t ≡ good ms → recording t ≡ good ms
unfolding recording
passes t ms l e = pass _ _ _ _ (le-ltb most_bytes (length t) l) e

pub output-passes : OutputPasses
output-passes s x e =
    let k = kept_of_lem s x e in
    let r = passing 0 k.salvages in
    let l : length (kept_text k.pieces) ≤ most_bytes = omega (arith, shorter k.salvages, k.small) in
    (r.messages, ap recording k.text ∙ passes (kept_text k.pieces) r.messages l r.read, r.many ∙ sym k.messages)

pub salvaged-twice : SalvagedTwice
salvaged-twice s x e =
    let (ms, r, n) = output-passes s x e in
    passing_kept x.text ms r ∙ rw n

-- ---- the buffer

careful_answered : (b : List ℕ) (o : Outcome Salvage) → Careful (answered b o).0.number (answered b o).0.bytes b (answered b o).1
unfolding answered
careful_answered b (good x) = careful_sets b x.text
careful_answered b (bad n p) = careful_none n b

reported-good : (b : List ℕ) (x : Salvage) → Reported x (answered b (good x)).0
unfolding answered
reported-good b x = record { number = refl; place = refl; bytes = refl; messages = refl; stretches = refl; count = refl }

nothing-answered : (b : List ℕ) (o : Outcome Salvage) → ((answered b o).0.number ≡ 0 → ⊥) → NothingReported (answered b o).0
unfolding answered
nothing-answered b (good x) h = absurd (h refl)
nothing-answered b (bad n p) h = record { bytes = refl; messages = refl; stretches = refl; count = refl }

refused-answered : (b : List ℕ) (n p : ℕ) {o : Outcome Salvage} → o ≡ bad n p → ((answered b o).0.number ≡ n) × ((answered b o).0.place ≡ p)
unfolding answered
refused-answered b n p e = (ap (λ (o : Outcome Salvage). (answered b o).0.number) e, ap (λ (o : Outcome Salvage). (answered b o).0.place) e)

module _ (s b : List ℕ) (x : Salvage) (e : salvaged s ≡ good x) where
  roomy : length x.text ≤ length b → Reported x (salvage s b).0 × (take (length x.text) (salvage s b).1 ≡ x.text)
  unfolding salvage room_for fitted answered
  roomy l =
      let q : (salvaged s >>= room_for b) ≡ good x = step _ _ e (step _ _ (pass _ _ _ _ (le-ltb (length b) (length x.text) l) refl) refl) in
      (subst (λ (o : Outcome Salvage). Reported x (answered b o).0) (sym q) (reported-good b x), ap (λ (o : Outcome Salvage). take (length x.text) (answered b o).1) q ∙ take-sets b x.text l)

  roomless : length b < length x.text → ((salvage s b).0.number ≡ ROOM) × ((salvage s b).0.place ≡ length x.text)
  unfolding salvage room_for fitted
  roomless l = refused-answered b ROOM (length x.text) (step _ _ e (stop _ _ (halt _ _ _ _ (lt-ltb (length b) (length x.text) l))))

pub writes : Writes
unfolding salvage
writes = record {
  room = λ s b x e l. roomy s b x e l;
  none = λ s b x e l. roomless s b x e l;
  refused = λ s b n p e. refused-answered b n p (stop _ _ e);
  nothing = λ s b h. nothing-answered b (salvaged s >>= room_for b) h;
  kept = λ s b. careful_answered b (salvaged s >>= room_for b);
}

pub worked : Worked
worked = worked_out
