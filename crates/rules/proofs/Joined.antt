-- The rows of sheets one behind the other, and of a sheet with a row added.
use Prim.Native.Nat.{ℕ, zero, suc, ◌+◌, ◌-◌, ◌*◌, ◌/◌, ◌%◌, ◌≤◌}
use mathlib.Core.Path.{◌≡◌, refl, ap, sym, ◌∙◌}
use mathlib.Core.Bool.{not}
use mathlib.Core.List.{List, [], ◌∷◌, ◌++◌, append-nil}
use native.Mathlib.Nat.{add-zero}
use native.Mathlib.Omega.{arith}
use borrow.Author.Tests.{le-ltb, eq-eqb, eqb-true, not-false}
use lib.Dec.{ltb, eqb}
use lib.ListN.{length, take, drop, length-append, length-drop}
use lib.Seq.{take-append-le, drop-append-le}
use Rattle.rules.specs.Outcome.{good}
use Rattle.rules.specs.Items.{items}
use Rattle.rules.specs.Sheet.{Row, row_bytes, most_rows, row, sheet}
use Rattle.rules.proofs.Outcomes.{pass, step, front_of_lem, passed, stepped, fronted, good_inj, neither}
use Rattle.rules.proofs.Walk.{items-next}

-- where a row stands changes nothing of it, nor what follows it
pub row-placed : (p q : ℕ) (s : List ℕ) {r : Row × ℕ} → row p s ≡ good r → row q s ≡ good r
unfolding row
row-placed p q s e = let (t, z) = passed _ _ _ _ e in pass _ _ _ _ t z

rows-placed : (k p q : ℕ) (s : List ℕ) {rs : List Row} → items row k p s ≡ good rs → items row k q s ≡ good rs
unfolding items
rows-placed k p q [] e = e
rows-placed (suc k) p q (x ∷ s) e = rows-placed k (suc p) (suc q) s e
rows-placed zero p q (x ∷ s) e =
    let (r, g, d) = stepped _ _ e in
    let (l, i, m) = fronted _ _ d in
    step _ _ (row-placed p q (x ∷ s) g) (front_of_lem _ _ (rows-placed (r.1 - 1) (suc p) (suc q) s i) ∙ ap good m)

pub row-size : (p : ℕ) (s : List ℕ) {r : Row × ℕ} → row p s ≡ good r → r.1 ≡ 32
unfolding row
row-size p s e = sym (ap (λ (x : Row × ℕ). x.1) (good_inj (passed _ _ _ _ e).1))

pub row-front : (p : ℕ) (u v w : List ℕ) {r : Row × ℕ} → 32 ≤ length u → row p (u ++ v) ≡ good r → row p (u ++ w) ≡ good r
unfolding row
row-front p u v w l e =
    let q : take 32 (u ++ w) ≡ take 32 (u ++ v) = take-append-le 32 u w l ∙ sym (take-append-le 32 u v l) in
    rw q e

-- the rows of the bytes u, and of what follows them
record Parted (p : ℕ) (u v : List ℕ) (rs : List Row) : Type 0 where
  first : List Row
  rest : List Row
  whole : rs ≡ first ++ rest
  behind : items row 0 (p + length u) v ≡ good rest
  again : (w : List ℕ) (ws : List Row) → items row 0 (p + length u) w ≡ good ws → items row 0 p (u ++ w) ≡ good (first ++ ws)

-- the first row, and those behind it
first-row : (p : ℕ) (s : List ℕ) {rs : List Row} → 1 ≤ length s → items row 0 p s ≡ good rs → (r : Row) × (row p s ≡ good (r, 32)) × ((l : List Row) × (items row 0 (p + 32) (drop 32 s) ≡ good l) × (r ∷ l ≡ rs))
unfolding items
first-row p [] l e = absurd (omega arith)
first-row p (x ∷ s) l e =
    let (r, g, d) = stepped _ _ e in
    let f : row p (x ∷ s) ≡ good (r.0, 32) = g ∙ ap (λ (n : ℕ). good (r.0, n)) (row-size p (x ∷ s) g) in
    (r.0, f, fronted _ _ (sym (items-next row p (x ∷ s) r.0 32 (omega arith) (omega arith) f) ∙ e))

parted_next : (p : ℕ) (u v : List ℕ) (r : Row) (l rs : List Row) → 32 ≤ length u → row p (u ++ v) ≡ good (r, 32) → r ∷ l ≡ rs → Parted (p + 32) (drop 32 u) v l → Parted p u v rs
parted_next p u v r l rs long f m w =
    let q : p + 32 + length (drop 32 u) ≡ p + length u = omega (arith, length-drop 32 u) in
    record {
      first = r ∷ w.first;
      rest = w.rest;
      whole = sym m ∙ ap (λ (x : List Row). r ∷ x) w.whole;
      behind = rw q at w.behind;
      again = λ x xs h.
          items-next row p (u ++ x) r 32 (omega (arith, length-append u x)) (omega arith) (row-front p u v x long f)
          ∙ front_of_lem _ _ (rw (drop-append-le 32 u x long) (w.again x xs (rw q h)));
    }

parted : (k p : ℕ) (u v : List ℕ) {rs : List Row} → length u ≡ 32 * k → items row 0 p (u ++ v) ≡ good rs → Parted p u v rs
parted zero p [] v {rs} l e = record { first = []; rest = rs; whole = refl; behind = rw add-zero e; again = λ w ws h. rw add-zero at h }
parted zero p (x ∷ u) v l e = absurd (omega arith)
parted (suc k) p u v {rs} l e =
    let long : 32 ≤ length u = omega arith in
    let (r, f, (ls, i, m)) = first-row p (u ++ v) (omega (arith, length-append u v)) e in
    parted_next p u v r ls rs long f m (parted k (p + 32) (drop 32 u) v (omega (arith, length-drop 32 u)) (rw (drop-append-le 32 u v long) at i))

-- ---- a sheet behind another

rows-joined : (s t : List ℕ) {rs qs : List Row} → length s % 32 ≡ 0 → items row 0 0 s ≡ good rs → items row 0 0 t ≡ good qs → items row 0 0 (s ++ t) ≡ good (rs ++ qs)
unfolding items
rows-joined s t {rs} {qs} h e f =
    let k : length s ≡ 32 * (length s / 32) = omega arith in
    let w = parted (length s / 32) 0 s [] {rs = rs} k (rw append-nil e) in
    let nil : [] ≡ w.rest = good_inj w.behind in
    let same : rs ≡ w.first = w.whole ∙ ap (λ (x : List Row). w.first ++ x) (sym nil) ∙ append-nil w.first in
    w.again t qs (rows-placed 0 0 (0 + length s) t f) ∙ ap (λ (x : List Row). good (x ++ qs)) (sym same)

-- a sheet of whole rows, and no more than it may have
record Sized (s : List ℕ) (rs : List Row) : Type 0 where
  whole : length s % 32 ≡ 0
  rows : items row 0 0 s ≡ good rs

sized : (s : List ℕ) {rs : List Row} → sheet s ≡ good rs → Sized s rs
unfolding sheet
sized s e =
    let (t, e) = passed _ _ _ _ e in
    let (a, b) = neither (ltb 1024 (length s)) (not (eqb (length s % 32) 0)) t in
    record { whole = eqb-true _ _ (not-false _ b); rows = e }

pub sheet-joined : (s t : List ℕ) {rs qs : List Row} → sheet s ≡ good rs → sheet t ≡ good qs → length (s ++ t) ≤ most_rows * row_bytes → sheet (s ++ t) ≡ good (rs ++ qs)
unfolding sheet
sheet-joined s t e f l =
    let a = sized s e in
    let b = sized t f in
    let h : length (s ++ t) % 32 ≡ 0 = omega (arith, a.whole, b.whole, length-append s t) in
    pass _ _ _ _ (rw (le-ltb 1024 (length (s ++ t)) l, eq-eqb (length (s ++ t) % 32) 0 h)) (rows-joined s t a.whole a.rows b.rows)

-- ---- rows that were there before a row was added are there after it

pub record Added (rs qs : List Row) : Type 0 where
  pub front : List Row
  pub new : List Row
  pub back : List Row
  pub before : rs ≡ front ++ back
  pub after : qs ≡ front ++ (new ++ back)

rows_added : (u w v : List ℕ) (rs qs : List Row) → length u % 32 ≡ 0 → length w ≡ 32 → items row 0 0 (u ++ v) ≡ good rs → items row 0 0 (u ++ (w ++ v)) ≡ good qs → Added rs qs
rows_added u w v rs qs l m e f =
    let k : length u ≡ 32 * (length u / 32) = omega arith in
    let a = parted (length u / 32) 0 u v k e in
    let b = parted (length u / 32) 0 u (w ++ v) k f in
    let c = parted 1 (0 + length u) w v (omega arith) b.behind in
    let same : a.rest ≡ c.rest = good_inj (sym (rows-placed 0 (0 + length u) (0 + length u + length w) v a.behind) ∙ c.behind) in
    let whole : qs ≡ a.first ++ b.rest = good_inj (sym f ∙ a.again (w ++ v) b.rest b.behind) in
    record {
      front = a.first;
      new = c.first;
      back = a.rest;
      before = a.whole;
      after = whole ∙ ap (λ (x : List Row). a.first ++ x) (c.whole ∙ ap (λ (x : List Row). c.first ++ x) (sym same));
    }

pub added : (u w v : List ℕ) {rs qs : List Row} → length u % 32 ≡ 0 → length w ≡ 32 → sheet (u ++ v) ≡ good rs → sheet (u ++ (w ++ v)) ≡ good qs → Added rs qs
added u w v {rs} {qs} l m e f = rows_added u w v rs qs l m (sized (u ++ v) e).rows (sized (u ++ (w ++ v)) f).rows
