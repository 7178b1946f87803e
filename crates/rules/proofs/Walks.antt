-- The steps of a walk show the packages of the cut, in order, and then the end.
use Prim.Native.Nat.{ℕ, zero, suc, ◌+◌, ◌-◌, ◌≤◌, ◌<◌}
use mathlib.Core.Path.{◌≡◌, refl, ap, sym, subst, ◌∙◌}
use mathlib.Core.Logic.{◌↔◌, ⊎_elim}
use mathlib.Core.Bool.{Bool, true, false}
use mathlib.Core.List.{List, [], ◌∷◌, map}
use mathlib.Core.Option.{Option, none, some}
use native.Mathlib.Omega.{arith}
use borrow.Author.Tests.{le-ltb, lt-ltb, le-leb, lt-leb, leb-true, leb-false, not-true}
use lib.Dec.{leb}
use lib.ListN.{length, take, drop, length-drop, length-append}
use lib.Seq.{drop-drop, take-take, drop-append_seam, take-append_seam}
use Rattle.rules.specs.Outcome.{Outcome, good, bad, ◌>>=◌, PACKAGE, LARGE}
use Rattle.rules.specs.Bytes.{half, part}
use Rattle.rules.specs.Items as I
use Rattle.rules.specs.Items.{Fills}
use Rattle.rules.specs.Packages.{Package, package_fits, piece, cut, package_of, Piece}
use Rattle.rules.specs.Walk.{PackageSpot, package_spot, package_at, shown_in, data_at, next_at, package_in, Walks, ends, shows}
use Rattle.rules.proofs.Outcomes.{pass, halt, step, stop, stepped, good_inj, none≢some, good≢bad, refused_pass, refused-only}
use Rattle.rules.proofs.Cut.{piece-again, sound}

-- a part of a list's front
pub part-front : (m k n : ℕ) (l : List ℕ) → k + m ≤ n → take m (drop k (take n l)) ≡ take m (drop k l)
part-front m zero n l h = take-take m n l (omega arith)
part-front m (suc k) zero l h = absurd (omega arith)
part-front m (suc k) (suc n) [] h = refl
part-front m (suc k) (suc n) (x ∷ l) h = part-front m k n l (omega arith)

-- the package that a piece of a run holds, by its place in the run
pub package_spot_lem : (s : List ℕ) (i n : ℕ) (c : List ℕ) → c ≡ take n (drop i s) → 12 ≤ half c 4 → half c 4 ≤ n → package_in s (package_spot i c n) ≡ package_of c
unfolding package_spot package_of
package_spot_lem s i n c q l m =
    let e : i + half c 4 - (i + 12) ≡ half c 4 - 12 = omega arith in
    let w : part (i + 12) (i + half c 4) s ≡ part 12 (half c 4) c =
    rw (e, ← drop-drop 12 i s) (sym (part-front (half c 4 - 12) 12 n (drop i s) (omega arith)) ∙ ap (λ (x : List ℕ). take (half c 4 - 12) (drop 12 x)) (sym q)) in
    rw w

module _ (s : List ℕ) (small : length s ≤ 65536) where
  at-end : (p : ℕ) → length s ≤ p → package_at s p ≡ good none
  unfolding package_at
  at-end p l = pass _ _ _ _ (le-ltb 65536 (length s) small) (rw (le-leb (length s) p l))

  at-inside : (p : ℕ) → p < length s → package_at s p ≡ (piece p (drop p s) >>= λ (r : List ℕ × ℕ). good (some (package_spot p r.0 r.1)))
  unfolding package_at
  at-inside p l = pass _ _ _ _ (le-ltb 65536 (length s) small) (rw (lt-leb (length s) p l))

  at_piece : (p : ℕ) (c : List ℕ) (n : ℕ) → p < length s → piece p (drop p s) ≡ good (c, n) → package_at s p ≡ good (some (package_spot p c n))
  at_piece p c n l e = at-inside p l ∙ step _ _ e refl

  onward : (p q : ℕ) (d : PackageSpot) (k : Package) (ks : List Package) → package_at s p ≡ good (some d) → package_in s d ≡ k → d.next ≡ q → Walks s q ks → Walks s p (k ∷ ks)
  unfolding next_at
  onward p q d k ks e f n w =
      let m : next_at s p ≡ q = rw (e, next_at) n in
      subst (λ (x : Package). Walks s p (x ∷ ks)) f (shows e (subst (λ (j : ℕ). Walks s j ks) (sym m) w))

  walks : (p : ℕ) {cs : List (List ℕ)} {t : List ℕ} → Fills Piece cs t → t ≡ drop p s → Walks s p (map package_of cs)
  unfolding package_spot
  walks p I.none e = ends (at-end p (omega (arith, length-drop p s, ap length e)))
  walks p (I.more {c = c} {cs = cs} {s = t} h r) e =
      let l : p < length s = omega (arith, length-drop p s, ap length e, length-append c t, h.least, h.whole) in
      let n : t ≡ drop (p + length c) s = sym (drop-append_seam c t) ∙ ap (drop (length c)) e ∙ drop-drop (length c) p s in
      let q : c ≡ take (length c) (drop p s) = sym (take-append_seam c t) ∙ ap (take (length c)) e in
      onward p (p + length c) (package_spot p c (length c)) (package_of c) (map package_of cs)
      (at_piece p c (length c) l (rw (← e) (piece-again c h p t)))
      (package_spot_lem s p (length c) c q h.least (omega (arith, h.whole))) refl
      (walks (p + length c) r n)

  -- a run that is cut is walked
  pub walks_cut : (cs : List (List ℕ)) → cut 0 s ≡ good cs → Walks s 0 (map package_of cs)
  walks_cut cs e = walks 0 (sound 0 0 s e) refl

  -- the end is where the bytes end
  pub ended : (p : ℕ) → (package_at s p ≡ good none) ↔ (length s ≤ p)
  ended p = (λ e. go (leb (length s) p) refl e, at-end p)
    where
      go : (b : Bool) → leb (length s) p ≡ b → package_at s p ≡ good none → length s ≤ p
      go true t e = leb-true _ _ t
      go false t e = let (r, g, z) = stepped _ _ (sym (at-inside p (leb-false _ _ t)) ∙ e) in absurd (none≢some (sym (good_inj z)))

  -- and a refusal where a package that does not keep the rules stands
  pub walk_refused : (p n q : ℕ) → (package_at s p ≡ bad n q) ↔ ((n ≡ PACKAGE) × (q ≡ p) × (p < length s) × (package_fits (drop p s) ≡ false))
  unfolding piece
  walk_refused p n q = (λ e. go (leb (length s) p) refl e, λ w. rw (w.0, w.1) (at-inside p w.2 ∙ stop _ _ (halt _ _ _ _ (rw w.3))))
    where
      go : (b : Bool) → leb (length s) p ≡ b → package_at s p ≡ bad n q → (n ≡ PACKAGE) × (q ≡ p) × (p < length s) × (package_fits (drop p s) ≡ false)
      go true t e = absurd (good≢bad (sym e ∙ at-end p (leb-true _ _ t)))
      go false t e =
          let l = leb-false _ _ t in
          ⊎_elim
          (λ m. (sym m.1, sym m.2, l, not-true _ m.0))
          (λ g. absurd (good≢bad (sym g)))
          (refused_pass _ _ _ _ (refused-only _ _ (sym (at-inside p l) ∙ e)))

-- a run that is too large is refused wherever the walk stands
pub walk_large : (s : List ℕ) (p : ℕ) → 65536 < length s → package_at s p ≡ bad LARGE 65536
unfolding package_at
walk_large s p l = halt _ _ _ _ (lt-ltb 65536 (length s) l)

-- where no package is shown the walk stays
pub stays : (s : List ℕ) (i : ℕ) → ((k : PackageSpot) → package_at s i ≡ good (some k) → ⊥) → (next_at s i ≡ i) × (data_at s i ≡ [])
unfolding next_at data_at
stays s i unshown = go (package_at s i) (λ k e. unshown k e)
  where
    go : (o : Outcome (Option PackageSpot)) → ((k : PackageSpot) → o ≡ good (some k) → ⊥) → ((shown_in s i o).2 ≡ i) × ((shown_in s i o).0 ≡ [])
    go (good none) unshown = (refl, refl)
    go (good (some k)) unshown = absurd (unshown k refl)
    go (bad n p) unshown = (refl, refl)
