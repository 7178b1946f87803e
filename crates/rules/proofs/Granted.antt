-- A package is granted exactly if, for some row, its ids lie in the ranges, its time in the window, and its message is one that the row grants in; windows that
-- meet; and which rows keep the rules, by which no window is empty.
use mathlib.Core.Path.{◌≡◌, refl, subst}
use mathlib.Core.Logic.{◌↔◌}
use mathlib.Core.Bool.{Bool, true, false, not, ◌&&◌, ◌||◌}
use mathlib.Core.List.{List, [], ◌∷◌}
use native.Mathlib.Omega.{arith}
use borrow.Author.Tests.{leb-true, ltb-true, ltb-false, eqb-true, eqb-false, not-true, not-false, le-leb, lt-leb, lt-ltb, eq-eqb, ne_eqb}
use lib.Dec.{leb, ltb}
use Prim.Native.Nat.{ℕ, ◌/◌, ◌%◌, ◌≤◌, ◌<◌}
use Rattle.rules.specs.Outcome.{good}
use Rattle.rules.specs.Items.{All, all_cons}
use Rattle.rules.specs.Packages.{Package, package_time}
use Rattle.rules.specs.Message.{most_nanos, is_simulated, Message}
use Rattle.rules.specs.Sheet.{Row, start_of, end_of, row_fits, row, sheet, grants}
use Rattle.rules.specs.Copy.{granted}
use Rattle.rules.specs.Claims.{InRanges, Some, here, there, over}
use Rattle.rules.proofs.Outcomes.{both, passed, good_inj}
use Rattle.rules.proofs.Walk.{items-all}

-- a time, with whatever else is asked before it and behind it, in one of two windows that meet, or in both joined
meets : (also : Bool) (a b c t : ℕ) (last : Bool) → a ≤ b → b ≤ c
    → (also && leb a t && ltb t b && last || (also && leb b t && ltb t c && last || false)) ≡ (also && leb a t && ltb t c && last || false)
meets also a b c t last l h = go (ltb t b) refl
  where
    early : (x y z : Bool) → (x && y && true && z || (x && false && true && z || false)) ≡ (x && y && true && z || false)
    early true true z = refl
    early true false z = refl
    early false y z = refl

    late : (x y z : Bool) → (x && true && false && z || (x && true && y && z || false)) ≡ (x && true && y && z || false)
    late true y z = refl
    late false y z = refl

    go : (y : Bool) → ltb t b ≡ y → (also && leb a t && y && last || (also && leb b t && ltb t c && last || false)) ≡ (also && leb a t && ltb t c && last || false)
    go true e = rw (lt-leb b t (ltb-true t b e), lt-ltb t c (omega (arith, ltb-true t b e))) (early also (leb a t) last)
    go false e = rw (le-leb b t (ltb-false t b e), le-leb a t (omega (arith, ltb-false t b e))) (late also (ltb t c) last)

-- whether bit 3 is 1, and what a row for acquired data only asks of it
pub bit_clear : (flags : ℕ) → is_simulated flags ≡ false → flags / 8 % 2 ≡ 0
bit_clear flags e =
    let h : flags / 8 % 2 ≡ 1 → ⊥ = eqb-false (flags / 8 % 2) 1 e in
    omega arith

pub clear_bit : (flags : ℕ) → flags / 8 % 2 ≡ 0 → is_simulated flags ≡ false
clear_bit flags e = ne_eqb (flags / 8 % 2) 1 (λ h. omega arith)

only : (a : Bool) (flags : ℕ) → not (a && is_simulated flags) ≡ true → a ≡ true → flags / 8 % 2 ≡ 0
only true flags e q = bit_clear flags (not-true _ e)
only false flags e q = let z : ◌≡◌ {A = ℕ} 0 1 = cc in absurd (omega arith)

pub only-by : (a : Bool) (flags : ℕ) → (a ≡ true → flags / 8 % 2 ≡ 0) → not (a && is_simulated flags) ≡ true
only-by true flags h = rw (clear_bit flags (h refl))
only-by false flags h = refl

module _ (m : Message) (k : Package) where
  abbrev time : ℕ
  time = package_time m.seconds m.nanos k.delta

  -- whether a row grants the package
  abbrev by : Row → Bool
  by r = grants m.id (is_simulated m.flags) k.id time r

  in_ranges : (r : Row) → by r ≡ true → InRanges m k r
  unfolding grants
  in_ranges r e =
      let (e, o) = both _ _ e in
      let (e, a) = both _ _ e in
      let (e, b) = both _ _ e in
      let (e, c) = both _ _ e in
      let (e, d) = both _ _ e in
      let (f, g) = both _ _ e in
      (leb-true _ _ f, leb-true _ _ g, leb-true _ _ d, leb-true _ _ c, leb-true _ _ b, ltb-true _ _ a, only r.acquired_only m.flags o)

  by-ranges : (r : Row) → InRanges m k r → by r ≡ true
  unfolding grants
  by-ranges r i =
      rw (le-leb _ _ i.0, le-leb _ _ i.1, le-leb _ _ i.2, le-leb _ _ i.3, le-leb _ _ i.4, lt-ltb _ _ i.5, only-by r.acquired_only m.flags i.6)

  some-row : (rows : List Row) → granted rows m k ≡ true → Some (InRanges m k) rows
  unfolding granted
  some-row [] e = let z : ◌≡◌ {A = ℕ} 0 1 = cc in absurd (omega arith)
  some-row (r ∷ rows) e = go (by r) refl (λ f. some-row rows f) e
    where
      go : (b : Bool) → by r ≡ b → (granted rows m k ≡ true → Some (InRanges m k) rows) → (b || granted rows m k) ≡ true → Some (InRanges m k) (r ∷ rows)
      go true q rest e = here (in_ranges r q)
      go false q rest e = there (rest e)

  granted-by : {rows : List Row} → Some (InRanges m k) rows → granted rows m k ≡ true
  unfolding granted
  granted-by (here {a = r} i) = rw (by-ranges r i)
  granted-by (there {a = r} {l = rows} s) = go (by r) (granted-by s)
    where
      go : (b : Bool) → granted rows m k ≡ true → (b || granted rows m k) ≡ true
      go true q = refl
      go false q = q

  pub granted-exactly : (rows : List Row) → (granted rows m k ≡ true) ↔ Some (InRanges m k) rows
  granted-exactly rows = (λ e. some-row rows e, λ s. granted-by s)

  -- the time of a package that is granted by rows none of which ends behind the seam, and by rows none of which starts before it
  before : {rows : List Row} {seam : ℕ} → Some (InRanges m k) rows → All (λ (r : Row). end_of r ≤ seam) rows → time < seam
  before (here i) (all_cons l a) = omega (arith, i.5)
  before (there s) (all_cons l a) = before s a

  behind : {rows : List Row} {seam : ℕ} → Some (InRanges m k) rows → All (λ (r : Row). seam ≤ start_of r) rows → seam ≤ time
  behind (here i) (all_cons l a) = omega (arith, i.4)
  behind (there s) (all_cons l a) = behind s a

  pub seam_once : (rows rows' : List Row) (seam : ℕ) → All (λ (r : Row). end_of r ≤ seam) rows → All (λ (r : Row). seam ≤ start_of r) rows'
      → granted rows m k ≡ true → granted rows' m k ≡ true → ⊥
  seam_once rows rows' seam ends starts e f = omega (arith, before (some-row rows e) ends, behind (some-row rows' f) starts)

  -- the ids of a package lie in a row's ranges
  abbrev ids : Row → Bool
  ids r = leb r.first_message m.id && leb m.id r.last_message && leb r.first_package k.id && leb k.id r.last_package

  pub seam_whole : (r : Row) (a b c : ℕ) → a ≤ b → b ≤ c → granted (over a b r ∷ over b c r ∷ []) m k ≡ granted (over a c r ∷ []) m k
  unfolding granted grants
  seam_whole r a b c l h = meets (ids r) (start_of (over a b r)) (end_of (over a b r)) (end_of (over b c r)) time (not (r.acquired_only && is_simulated m.flags)) (omega arith) (omega arith)

-- ---- which rows keep the rules, and that every row of a sheet that passes starts before it ends

pub row-exactly : (r : Row) → (row_fits r ≡ true)
    ↔ ((r.first_message ≤ r.last_message) × (r.first_package ≤ r.last_package) × (r.start_nanos ≤ most_nanos) × (r.end_nanos ≤ most_nanos) × (start_of r < end_of r) × (r.spare ≡ 0))
unfolding row_fits
row-exactly r = (
  λ e.
      let (e, a) = both _ _ e in
      let (e, b) = both _ _ e in
      let (e, c) = both _ _ e in
      let (e, d) = both _ _ e in
      let (f, g) = both _ _ e in
      (leb-true _ _ f, leb-true _ _ g, leb-true _ _ d, leb-true _ _ c, ltb-true _ _ b, eqb-true _ _ a),
  λ w. rw (le-leb _ _ w.0, le-leb _ _ w.1, le-leb _ _ w.2, le-leb _ _ w.3, lt-ltb _ _ w.4, eq-eqb _ _ w.5),
)

row-window : (p : ℕ) (s : List ℕ) (r : Row × ℕ) → row p s ≡ good r → start_of r.0 < end_of r.0
unfolding row
row-window p s r e =
    let (t, z) = passed _ _ _ _ e in
    subst (λ (x : Row × ℕ). start_of x.0 < end_of x.0) (good_inj z) ((row-exactly _).0 (not-false _ t)).4

pub no_empty_window : (s : List ℕ) (rows : List Row) → sheet s ≡ good rows → All (λ (r : Row). start_of r < end_of r) rows
unfolding sheet
no_empty_window s rows e = items-all row row-window 0 0 s (passed _ _ _ _ e).1
