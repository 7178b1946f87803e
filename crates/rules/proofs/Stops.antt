-- Where items that follow each other are refused: those before pass, and the next one does not.
use Prim.Native.Nat.{ℕ, zero, suc, ◌+◌, ◌-◌, ◌≤◌, ◌<◌}
use mathlib.Core.Path.{◌≡◌, refl, ap, sym, ◌∙◌}
use mathlib.Core.Logic.{⊎_elim}
use mathlib.Core.List.{List, [], ◌∷◌, ◌++◌, append_assoc}
use native.Mathlib.Omega.{arith}
use lib.ListN.{length, take, drop, length-append, length-drop, take-append-drop}
use lib.Seq.{length-take-le, drop-append_seam, take-add, drop-drop}
use Rattle.rules.specs.Outcome.{Outcome, good, bad, ◌∷>◌}
use Rattle.rules.specs.Items.{items}
use Rattle.rules.proofs.Outcomes.{stop_front, stepped, fronted, front_of_lem, refused-step, refused-front, good≢bad}
use Rattle.rules.proofs.Walk.{items-next, items_stop, items-behind}

-- any bytes are fine
abbrev pub Any : List ℕ → Type 0
Any s = Unit {0}

-- items that are read by their own bytes, wherever these stand and whatever follows them, from bytes that are fine
module _ {A : Type 0} (read : ℕ → List ℕ → Outcome (A × ℕ)) (Fine : List ℕ → Type 0) where
  -- the item a is the first n bytes of s
  pub record Owns (s : List ℕ) (a : A) (n : ℕ) : Type 0 where
    pub least : 1 ≤ n
    pub most : n ≤ length s
    pub again : (p : ℕ) (t : List ℕ) → read p (take n s ++ t) ≡ good (a, n)
    pub rest : Fine (drop n s)
    pub joined : (t : List ℕ) → Fine t → Fine (take n s ++ t)

  -- s stands at place p: the items before a place of s pass, and the one there is refused
  pub record Stopped (p : ℕ) (s : List ℕ) (n q : ℕ) : Type 0 where
    pub place : ℕ
    pub inside : place < length s
    pub whole : Fine (take place s)
    pub before : List A
    pub passes : items read 0 p (take place s) ≡ good before
    pub refused : read (p + place) (drop place s) ≡ bad n q

  module _ (none : Fine []) (own : (p : ℕ) (s : List ℕ) (a : A) (n : ℕ) → Fine s → 1 ≤ length s → read p s ≡ good (a, n) → Owns s a n) where
    -- an item in front of others
    ahead : (p : ℕ) (s t : List ℕ) (a : A) (n : ℕ) → Owns s a n → items read 0 p (take n s ++ t) ≡ (a ∷> items read 0 (p + n) t)
    ahead p s t a n o =
        let z : length (take n s) ≡ n = length-take-le n s o.most in
        let d : drop n (take n s ++ t) ≡ t = rw z at (drop-append_seam (take n s) t) in
        items-next read p (take n s ++ t) a n (omega (arith, length-append (take n s) t, z, o.least)) o.least (o.again p t) ∙ ap (λ (u : List ℕ). a ∷> items read 0 (p + n) u) d

    stopped_next : (p : ℕ) (s : List ℕ) (a : A) (k : ℕ) {n q : ℕ} → Owns s a k → Stopped (p + k) (drop k s) n q → Stopped p s n q
    stopped_next p s a k o w =
        let front : take (k + w.place) s ≡ take k s ++ take w.place (drop k s) = take-add k w.place s in
        let y : p + (k + w.place) ≡ p + k + w.place = omega arith in
        record {
          place = k + w.place;
          inside = omega (arith, w.inside, length-drop k s, o.most);
          whole = rw front (o.joined (take w.place (drop k s)) w.whole);
          before = a ∷ w.before;
          passes = rw front (ahead p s (take w.place (drop k s)) a k o ∙ front_of_lem _ _ w.passes);
          refused = rw (y, ← drop-drop w.place k s) w.refused;
        }

    -- bytes that are refused are refused so
    stopped_by : (p : ℕ) (s : List ℕ) {n q : ℕ} → ((p' : ℕ) (s' : List ℕ) → suc (length s') ≤ length s → Fine s' → items read 0 p' s' ≡ bad n q → Stopped p' s' n q)
        → Fine s → items read 0 p s ≡ bad n q → Stopped p s n q
    unfolding items
    stopped_by p [] shorter f e = absurd (good≢bad (sym e))
    stopped_by p (x ∷ s) shorter f e =
        let z : p + 0 ≡ p = omega arith in
        ⊎_elim
        (λ b. record { place = 0; inside = omega arith; whole = none; before = []; passes = refl; refused = rw z b })
        (λ g.
        let o = own p (x ∷ s) g.0.0 g.0.1 f (omega arith) g.1 in
        let r = sym (items-behind read g.0.1 p x s o.least) ∙ refused-front _ _ g.2 in
        stopped_next p (x ∷ s) g.0.0 g.0.1 o (shorter (p + g.0.1) (drop g.0.1 (x ∷ s)) (omega (arith, length-drop g.0.1 (x ∷ s), o.least)) o.rest r))
        (refused-step _ _ e)

    stopped_within : (most p : ℕ) (s : List ℕ) {n q : ℕ} → length s ≤ most → Fine s → items read 0 p s ≡ bad n q → Stopped p s n q
    stopped_within zero p s l f e = stopped_by p s (λ p' s' h. absurd (omega arith)) f e
    stopped_within (suc most) p s l f e = stopped_by p s (λ p' s' h f' e'. stopped_within most p' s' (omega arith) f' e') f e

    pub stopped : (p : ℕ) (s : List ℕ) {n q : ℕ} → Fine s → items read 0 p s ≡ bad n q → Stopped p s n q
    stopped p s f e = stopped_within (length s) p s (omega arith) f e

    -- and so refused they are
    module _ (t : List ℕ) (some : 1 ≤ length t) {n q : ℕ} where
      behind-by : (p : ℕ) (s : List ℕ) {l : List A}
          → ((p' : ℕ) (s' : List ℕ) (l' : List A) → suc (length s') ≤ length s → Fine s' → items read 0 p' s' ≡ good l' → read (p' + length s') t ≡ bad n q → items read 0 p' (s' ++ t) ≡ bad n q)
          → Fine s → items read 0 p s ≡ good l → read (p + length s) t ≡ bad n q → items read 0 p (s ++ t) ≡ bad n q
      unfolding items
      behind-by p [] shorter f e r = let z : p + 0 ≡ p = omega arith in items_stop read p t some (rw (← z) r)
      behind-by p (x ∷ s) shorter f e r =
          let (g, i, d) = stepped _ _ e in
          let a = g.0 in
          let k = g.1 in
          let o = own p (x ∷ s) a k f (omega arith) i in
          let (l, d, m) = fronted _ _ d in
          let c : length (drop k (x ∷ s)) ≡ length (x ∷ s) - k = length-drop k (x ∷ s) in
          let z : p + k + length (drop k (x ∷ s)) ≡ p + length (x ∷ s) = omega (arith, c, o.most) in
          let y : (x ∷ s) ++ t ≡ take k (x ∷ s) ++ (drop k (x ∷ s) ++ t) = ap (λ (u : List ℕ). u ++ t) (sym (take-append-drop k (x ∷ s))) ∙ append_assoc (take k (x ∷ s)) (drop k (x ∷ s)) t in
          ap (items read 0 p) y ∙ ahead p (x ∷ s) (drop k (x ∷ s) ++ t) a k o
          ∙ stop_front _ _ (shorter (p + k) (drop k (x ∷ s)) l (omega (arith, c, o.least)) o.rest (sym (items-behind read k p x s o.least) ∙ d) (rw z r))

      behind-within : (most p : ℕ) (s : List ℕ) {l : List A} → length s ≤ most → Fine s → items read 0 p s ≡ good l → read (p + length s) t ≡ bad n q → items read 0 p (s ++ t) ≡ bad n q
      behind-within zero p s h f e r = behind-by p s (λ p' s' l' j. absurd (omega arith)) f e r
      behind-within (suc most) p s h f e r = behind-by p s (λ p' s' l' j f' e' r'. behind-within most p' s' (omega arith) f' e' r') f e r

    pub refused-behind : (p : ℕ) (s : List ℕ) (place : ℕ) {l : List A} {n q : ℕ} → place < length s → Fine (take place s) → items read 0 p (take place s) ≡ good l → read (p + place) (drop place s) ≡ bad n q
        → items read 0 p s ≡ bad n q
    refused-behind p s place inside f e r =
        let z : p + length (take place s) ≡ p + place = omega (arith, length-take-le place s (omega arith)) in
        ap (items read 0 p) (sym (take-append-drop place s))
        ∙ behind-within (drop place s) (omega (arith, length-drop place s)) (length (take place s)) p (take place s) (omega arith) f e (rw z r)
