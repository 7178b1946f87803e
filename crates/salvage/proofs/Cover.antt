-- Kept messages and stretches cover the input with no overlap, and stretches run as long as they can.
use Prim.Native.Nat.{ℕ, suc, ◌+◌, ◌≤◌, ◌<◌}
use mathlib.Core.Path.{◌≡◌, subst, refl, sym, ◌∙◌}
use mathlib.Core.Bool.{Bool, true, false, ◌&&◌}
use mathlib.Core.List.{List, [], ◌∷◌}
use native.Mathlib.Nat.{zero-add, add_assoc}
use native.Mathlib.Omega.{arith}
use borrow.Author.Tests.{leb-true, leb-false, ltb-true, ltb-false, le-leb, lt-leb, lt-ltb, le-ltb, eqb-true, eqb-false}
use lib.Arith.{lt_of_le-ne}
use lib.Dec.{leb, ltb, eqb}
use lib.ListN.{length, length-append}
use Rattle.salvage.specs.Salvage.{Piece, Stretch, skipping, stretches_from}
use Rattle.salvage.specs.Told.{Fit, last, more}
use Rattle.salvage.specs.Claims.{Salvages, end, keep, skip, holds, times, kept_spans, Apart, none, next}

abbrev span : ℕ → ℕ → Stretch
span p n = record { start = p; size = n }

holds_in : (k p n : ℕ) → p ≤ k → k < p + n → holds k (span p n) ≡ 1
unfolding holds
holds_in k p n a b = let t : (leb p k && ltb k (p + n)) ≡ true = rw (le-leb p k a, lt-ltb k (p + n) b) in rw (t, holds)

holds-low : (k p n : ℕ) → k < p → holds k (span p n) ≡ 0
unfolding holds
holds-low k p n a = let t : (leb p k && ltb k (p + n)) ≡ false = rw (lt-leb p k a) in rw (t, holds)

holds_high : (k p n : ℕ) → p + n ≤ k → holds k (span p n) ≡ 0
unfolding holds
holds_high k p n b = let t : (leb p k && ltb k (p + n)) ≡ false = rw (le-leb p k (omega arith), le-ltb k (p + n) b) in rw (t, holds)

-- two spans, one behind the other
holds-joined : (k p n m : ℕ) → holds k (span p (n + m)) ≡ holds k (span p n) + holds k (span (p + n) m)
holds-joined k p n m = low (leb p k) refl
  where
    high : p + n ≤ k → (b : Bool) → ltb k (p + n + m) ≡ b → holds k (span p (n + m)) ≡ holds k (span p n) + holds k (span (p + n) m)
    high a true e = let f = ltb-true k (p + n + m) e in rw (holds_in k p (n + m) (omega arith) (omega arith), holds_high k p n a, holds_in k (p + n) m a f)
    high a false e = let f = ltb-false k (p + n + m) e in rw (holds_high k p (n + m) (omega arith), holds_high k p n a, holds_high k (p + n) m f)

    middle : p ≤ k → (b : Bool) → ltb k (p + n) ≡ b → holds k (span p (n + m)) ≡ holds k (span p n) + holds k (span (p + n) m)
    middle a true e = let f = ltb-true k (p + n) e in rw (holds_in k p (n + m) a (omega arith), holds_in k p n a f, holds-low k (p + n) m f)
    middle a false e = high (ltb-false k (p + n) e) (ltb k (p + n + m)) refl

    low : (b : Bool) → leb p k ≡ b → holds k (span p (n + m)) ≡ holds k (span p n) + holds k (span (p + n) m)
    low true e = middle (leb-true p k e) (ltb k (p + n)) refl
    low false e = let f = leb-false p k e in rw (holds-low k p (n + m) f, holds-low k p n f, holds-low k (p + n) m (omega arith))

-- a skip more
times-skipping : (k : ℕ) (hs : List Stretch) (p n : ℕ) → times k (skipping hs p n) ≡ times k hs + holds k (span p n)
unfolding skipping times
times-skipping k [] p n = omega arith
times-skipping k (h ∷ []) p n = go (eqb (h.start + h.size) p) refl
  where
    go : (b : Bool) → eqb (h.start + h.size) p ≡ b → times k (skipping (h ∷ []) p n) ≡ holds k h + 0 + holds k (span p n)
    go true e =
        let z = eqb-true (h.start + h.size) p e in
        let j = holds-joined k h.start h.size n in
        let y : holds k (span (h.start + h.size) n) ≡ holds k (span p n) = rw z in
        rw (e, skipping) (omega arith)
    go false e = rw (e, skipping) (omega arith)
times-skipping k (h ∷ g ∷ hs) p n = let i = times-skipping k (g ∷ hs) p n in omega arith

lost_spans : List Piece → List Stretch
lost_spans [] = []
lost_spans (q ∷ qs) = elim q.kept [ true ↦ lost_spans qs | false ↦ span q.place (length q.text) ∷ lost_spans qs ]

times-stretches : (k : ℕ) (hs : List Stretch) (qs : List Piece) → times k (stretches_from hs qs) ≡ times k hs + times k (lost_spans qs)
unfolding stretches_from times lost_spans
times-stretches k hs [] = omega arith
times-stretches k hs (q ∷ qs) = go q.kept refl (times-stretches k hs qs) (times-stretches k (skipping hs q.place (length q.text)) qs)
  where
    go : (b : Bool) → q.kept ≡ b → times k (stretches_from hs qs) ≡ times k hs + times k (lost_spans qs)
        → times k (stretches_from (skipping hs q.place (length q.text)) qs) ≡ times k (skipping hs q.place (length q.text)) + times k (lost_spans qs)
        → times k (stretches_from hs (q ∷ qs)) ≡ times k hs + times k (lost_spans (q ∷ qs))
    go true e i j = rw (e, stretches_from, lost_spans) i
    go false e i j = rw (e, stretches_from, lost_spans) (j ∙ (let z = times-skipping k hs q.place (length q.text) in omega arith))

covered : (k : ℕ) {p : ℕ} {s : List ℕ} {qs : List Piece} → Salvages p s qs → times k (kept_spans qs) + times k (lost_spans qs) ≡ holds k (span p (length s))
unfolding times kept_spans lost_spans
covered k (end {p = p}) = sym (nothing (leb p k) refl)
  where
    nothing : (b : Bool) → leb p k ≡ b → holds k (span p 0) ≡ 0
    nothing true e = holds_high k p 0 (omega (arith, leb-true p k e))
    nothing false e = holds-low k p 0 (leb-false p k e)
covered k (keep {p = p} {c = c} {t = t} m e r) =
    let i = covered k r in
    let j = holds-joined k p (length c) (length t) in
    rw length-append (omega arith)
covered k (skip {p = p} {c = c} {t = t} h l never r) =
    let i = covered k r in
    let j = holds-joined k p (length c) (length t) in
    rw length-append (omega arith)

module _ (s : List ℕ) (qs : List Piece) (r : Salvages 0 s qs) (k : ℕ) where
  both-times : times k (kept_spans qs) + times k (stretches_from [] qs) ≡ holds k (span 0 (length s))
  unfolding times
  both-times = let i = times-stretches k [] qs in let j = covered k r in omega arith

  pub covered_inside : k < length s → times k (kept_spans qs) + times k (stretches_from [] qs) ≡ 1
  covered_inside h = both-times ∙ holds_in k 0 (length s) (omega arith) (omega arith)

  pub covered_behind : length s ≤ k → times k (kept_spans qs) + times k (stretches_from [] qs) ≡ 0
  covered_behind h = both-times ∙ holds_high k 0 (length s) (omega arith)

-- stretches apart, from place p on, that end at e at the latest
pub data Ending : ℕ → ℕ → List Stretch → Type 0 where
  stop : {p e : ℕ} → Ending p e []
  go_on : {p e : ℕ} {h : Stretch} {hs : List Stretch} → p ≤ h.start → 1 ≤ h.size → h.start + h.size ≤ e → Ending (suc (h.start + h.size)) e hs → Ending p e (h ∷ hs)

apart : {p e : ℕ} {hs : List Stretch} → Ending p e hs → Apart p hs
apart stop = none
apart (go_on a b c r) = next a b (apart r)

pub later : {p e : ℕ} {hs : List Stretch} (f : ℕ) → e ≤ f → Ending p e hs → Ending p f hs
later f l stop = stop
later {e = e} f l (go_on {h = h} a b c r) = let d : h.start + h.size ≤ f = omega arith in go_on a b d (later f l r)

skipped_last : (p n o : ℕ) (h : Stretch) → 1 ≤ n → o ≤ h.start → 1 ≤ h.size → h.start + h.size ≤ p → Ending o (p + n) (skipping (h ∷ []) p n)
unfolding skipping
skipped_last p n o h l a b c = go (eqb (h.start + h.size) p) refl
  where
    go : (x : Bool) → eqb (h.start + h.size) p ≡ x → Ending o (p + n) (skipping (h ∷ []) p n)
    go true e =
        let z = eqb-true (h.start + h.size) p e in
        rw (e, skipping) (go_on {e = p + n} {h = span h.start (h.size + n)} a (omega arith) (omega arith) stop)
    go false e =
        let z = eqb-false (h.start + h.size) p e in
        rw (e, skipping) (go_on {e = p + n} a b (omega arith) (go_on {e = p + n} {h = span p n} (lt_of_le-ne c z) l (omega arith) stop))

skipped_more : (p n : ℕ) {o q : ℕ} {hs : List Stretch} (h : Stretch) → 1 ≤ n → o ≤ h.start → 1 ≤ h.size → h.start + h.size ≤ p → Ending q p hs → q ≡ suc (h.start + h.size) → Ending o (p + n) (skipping (h ∷ hs) p n)
unfolding skipping
skipped_more p n {o} h l a b c stop is = skipped_last p n o h l a b c
skipped_more p n {o} {q} h l a b c (go_on {h = g} {hs = hs} d e f r) is =
    go_on {e = p + n} a b (omega arith) (subst (λ (x : ℕ). Ending x (p + n) (skipping (g ∷ hs) p n)) is (skipped_more p n {o = q} g l d e f r refl))

pub skipped : (p n : ℕ) {hs : List Stretch} → 1 ≤ n → Ending 0 p hs → Ending 0 (p + n) (skipping hs p n)
unfolding skipping
skipped p n l stop = go_on {p = 0} {e = p + n} {h = span p n} (omega arith) l (omega arith) stop
skipped p n l (go_on {h = h} a b c r) = skipped_more p n h l a b c r refl

ends_with : {p : ℕ} {s : List ℕ} {qs : List Piece} (hs : List Stretch) → Ending 0 p hs → Salvages p s qs → Apart 0 (stretches_from hs qs)
unfolding stretches_from
ends_with hs a end = apart a
ends_with hs a (keep {p = p} {c = c} m e r) = ends_with hs (later (p + length c) (omega arith) a) r
ends_with hs a (skip {p = p} {c = c} h l never r) = ends_with (skipping hs p (length c)) (skipped p (length c) h a) r

pub stretches_apart : (s : List ℕ) (qs : List Piece) → Salvages 0 s qs → Apart 0 (stretches_from [] qs)
stretches_apart s qs r = ends_with [] stop r

-- they end inside the input
ending_with : {p : ℕ} {s : List ℕ} {qs : List Piece} (hs : List Stretch) → Ending 0 p hs → Salvages p s qs → Ending 0 (p + length s) (stretches_from hs qs)
unfolding stretches_from
ending_with hs a (end {p = p}) = later (p + 0) (omega arith) a
ending_with hs a (keep {p = p} {c = c} {t = t} m e r) = rw (length-append c t, ← add_assoc p (length c) (length t)) (ending_with hs (later (p + length c) (omega arith) a) r)
ending_with hs a (skip {p = p} {c = c} {t = t} h l never r) = rw (length-append c t, ← add_assoc p (length c) (length t)) (ending_with (skipping hs p (length c)) (skipped p (length c) h a) r)

fit_of : {b e : ℕ} {hs : List Stretch} (p : ℕ) → p ≤ b → p ≤ e → Ending b e hs → Fit p e hs
fit_of p l m stop = last m
fit_of p l m (go_on {h = h} a b c r) = let k : p ≤ h.start = omega arith in more k (fit_of (h.start + h.size) (omega arith) c r)

pub stretches-fit : (s : List ℕ) (qs : List Piece) → Salvages 0 s qs → Fit 0 (length s) (stretches_from [] qs)
stretches-fit s qs r = fit_of 0 (omega arith) (omega arith) (rw zero-add at (ending_with [] stop r))
