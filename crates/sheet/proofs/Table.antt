-- A sheet's table, and the near rows of a message: what they have to do with the rules, and what the loops over them keep.
use Prim.Native.Nat.{ℕ, suc, ◌+◌, ◌-◌, ◌*◌, ◌≤◌, ◌<◌}
use mathlib.Core.Path.{◌≡◌, refl, sym, ap, ◌∙◌}
use mathlib.Core.Bool.{Bool, true, false, not, ◌&&◌, ◌||◌, and-true, and-false, or-false, or_assoc}
use mathlib.Core.List.{List, [], ◌∷◌, ◌++◌, append_assoc, append-nil}
use native.Mathlib.Omega.{arith}
use lib.Dec.{leb, ltb, eqb}
use lib.ListN.{length, take, drop, get_or, set, length-append, length-drop}
use lib.Seq.{drop-cons, sets, take-suc, length-take-le}
use native.Mathlib.Numerals.{add-one}
use Rattle.rules.specs.Outcome.{Outcome, bad}
use Rattle.rules.specs.Bytes.{Bytes}
use Rattle.rules.specs.Packages.{Package, package_time}
use Rattle.rules.specs.Message.{is_simulated, Message}
use Rattle.rules.specs.Sheet as rules
use Rattle.rules.specs.Sheet.{start_of, end_of, grants}
use Rattle.rules.specs.Copy.{granted}
use Rattle.rules.proofs.Outcomes.{refused-only}
use Rattle.rules.proofs.Loops.{sets-sets}
use Rattle.sheet.specs.Rows.{row_in, row_at}
use Rattle.sheet.specs.Table.{one_if, table_of, count_of_rows, laid_out, Keeps, reaches, near_of, within, near_grants}
use Rattle.sheet.proofs.Reading.{Through, through_kept, through_more, through_end, row-there}

pub length_table : (rs : List rules.Row) → length (table_of rs) ≡ 7 * length rs
unfolding table_of
length_table [] = refl
length_table (r ∷ rs) = omega (arith, length_table rs)

-- a row's test is that it is near and that the near row grants
parted : (a b o s x : Bool) (near l : List ℕ) (g : List ℕ → Bool) → g near ≡ x || g l
    → g (elim (a && b && not (eqb (one_if o) 1 && s)) [ true ↦ near | false ↦ l ]) ≡ (a && b && x && not (o && s)) || g l
parted true true true true x near l g h = ap (λ (y : Bool). y || g l) (sym (and-false x))
parted true true true false x near l g h = h ∙ ap (λ (y : Bool). y || g l) (sym (and-true x))
parted true true false s x near l g h = h ∙ ap (λ (y : Bool). y || g l) (sym (and-true x))
parted true false o s x near l g h = refl
parted false b o s x near l g h = refl

regrouped : (a b c d e f : Bool) → (a && b && (c && d && e && f)) ≡ (a && b && c && d && e && f)
regrouped true true c d e f = refl
regrouped true false c d e f = refl
regrouped false b c d e f = refl

near_first : (r : rules.Row) (rs : List rules.Row) (m : ℕ) (b : Bool) (p t : ℕ)
    → near_grants p t (near_of m b (table_of (r ∷ rs))) ≡ grants m b p t r || near_grants p t (near_of m b (table_of rs))
unfolding table_of near_of near_grants grants
near_first r rs m b p t =
    parted (leb r.first_message m) (leb m r.last_message) r.acquired_only b (within p t r.first_package r.last_package (start_of r) (end_of r))
    (r.first_package ∷ r.last_package ∷ start_of r ∷ end_of r ∷ near_of m b (table_of rs)) (near_of m b (table_of rs)) (near_grants p t) refl
    ∙ ap (λ (y : Bool). y && not (r.acquired_only && b) || near_grants p t (near_of m b (table_of rs)))
    (regrouped (leb r.first_message m) (leb m r.last_message) (leb r.first_package p) (leb p r.last_package) (leb (start_of r) t) (ltb t (end_of r)))

pub near_is : (rs : List rules.Row) (m : Message) (p : Package)
    → near_grants p.id (package_time m.seconds m.nanos p.delta) (near_of m.id (is_simulated m.flags) (table_of rs)) ≡ granted rs m p
unfolding table_of near_of near_grants granted
near_is [] m p = refl
near_is (r ∷ rs) m p =
    near_first r rs m.id (is_simulated m.flags) p.id (package_time m.seconds m.nanos p.delta)
    ∙ ap (λ (b : Bool). grants m.id (is_simulated m.flags) p.id (package_time m.seconds m.nanos p.delta) r || b) (near_is rs m p)

-- one number more
pub one_more : (v : List ℕ) (k : ℕ) (l : List ℕ) (i : ℕ) → i < length l → set (sets v k (take i l)) (k + i) (get_or l i 0) ≡ sets v k (take (i + 1) l)
one_more v k l i h =
    let n : length (take i l) ≡ i = length-take-le i l (omega arith) in
    rw (add-one, take-suc l i 0 h) (rw n at (sets-sets (take i l) (get_or l i 0 ∷ []) v k))

-- one row more in the table
table_append : (rs qs : List rules.Row) → table_of (rs ++ qs) ≡ table_of rs ++ table_of qs
unfolding table_of
table_append [] qs = refl
table_append (r ∷ rs) qs = ap (λ (l : List ℕ). r.first_message ∷ r.last_message ∷ r.first_package ∷ r.last_package ∷ start_of r ∷ end_of r ∷ one_if r.acquired_only ∷ l) (table_append rs qs)

-- what laying a sheet out keeps: the rows before row i are read, and they are in the table
pub record Laid (s table₀ table : List ℕ) (i : ℕ) : Type 0 where
  pub done : List rules.Row
  pub through : Through s done (32 * i)
  pub stored : table ≡ sets table₀ 0 (table_of done)

module _ (s table₀ : List ℕ) where
  pub lay_start : Keeps s → Laid s table₀ table₀ 0
  unfolding table_of
  lay_start k = record { done = []; through = through_kept s k; stored = refl }

  module _ (table : List ℕ) (i : ℕ) (inv : Laid s table₀ table i) where
    pub lay_next : Keeps s → Bytes s → 32 * i < length s
        → Laid s table₀ (sets table (7 * i) (table_of (row_in (row_at (take (length s - 32 * i) (drop (32 * i) s))) ∷ []))) (i + 1)
    lay_next k b l =
        let r = row_in (row_at (take (length s - 32 * i) (drop (32 * i) s))) in
        let z : 0 + length (table_of inv.done) ≡ 7 * i = omega (arith, length_table inv.done, inv.through.place) in
        record {
          done = inv.done ++ (r ∷ []);
          through = through_more s inv.done i inv.through l b (row-there s inv.done (32 * i) inv.through l k);
          stored = rw (table_append inv.done (r ∷ []), inv.stored) (rw z at (sets-sets (table_of inv.done) (table_of (r ∷ [])) table₀ 0));
        }

    pub lay_end : length s ≤ 32 * i → table ≡ laid_out (rules.sheet s) table₀
    lay_end l = inv.stored ∙ ap (λ (o : Outcome (List rules.Row)). laid_out o table₀) (sym (through_end s inv.done (32 * i) inv.through l))

-- a sheet that is refused leaves the table
pub left : (s table : List ℕ) {n p : ℕ} → bad n p ≡ count_of_rows (rules.sheet s) → table ≡ laid_out (rules.sheet s) table
left s table e =
    ap (λ (o : Outcome (List rules.Row)). laid_out o table) (sym (refused-only _ _ (sym e)))

-- the numbers from place i on
cons-at : (l : List ℕ) (i j : ℕ) → i < length l → j ≡ suc i → drop i l ≡ get_or l i 0 ∷ drop j l
cons-at l i j h e = rw e (drop-cons l i 0 h)

four : (l : List ℕ) (i : ℕ) → i + 4 ≤ length l → drop i l ≡ get_or l i 0 ∷ get_or l (i + 1) 0 ∷ get_or l (i + 2) 0 ∷ get_or l (i + 3) 0 ∷ drop (i + 4) l
four l i h = rw (
  cons-at l i (i + 1) (omega arith) (omega arith),
  cons-at l (i + 1) (i + 2) (omega arith) (omega arith),
  cons-at l (i + 2) (i + 3) (omega arith) (omega arith),
  cons-at l (i + 3) (i + 4) (omega arith) (omega arith),
)

-- four numbers, stored one behind the other
pub four_stores : (v : List ℕ) (k a b c d : ℕ) → set (set (set (set v k a) (k + 1) b) (k + 2) c) (k + 3) d ≡ sets v k (a ∷ b ∷ c ∷ d ∷ [])
four_stores v k a b c d = rw (sets-sets (a ∷ []) (b ∷ []) v k, sets-sets (a ∷ b ∷ []) (c ∷ []) v k) (sets-sets (a ∷ b ∷ c ∷ []) (d ∷ []) v k)

-- the four of the row at place i that its near row has
pub near-four : (l : List ℕ) (i : ℕ) → i + 6 < length l
    → take (i + 6 - (i + 2)) (drop (i + 2) l) ≡ get_or l (i + 2) 0 ∷ get_or l (i + 3) 0 ∷ get_or l (i + 4) 0 ∷ get_or l (i + 5) 0 ∷ []
near-four l i h = let n : i + 6 - (i + 2) ≡ 4 = omega arith in rw (
  n,
  cons-at l (i + 2) (i + 3) (omega arith) (omega arith),
  cons-at l (i + 3) (i + 4) (omega arith) (omega arith),
  cons-at l (i + 4) (i + 5) (omega arith) (omega arith),
  cons-at l (i + 5) (i + 6) (omega arith) (omega arith),
)

seven : (l : List ℕ) (i : ℕ) → i + 7 ≤ length l
    → drop i l ≡ get_or l i 0 ∷ get_or l (i + 1) 0 ∷ get_or l (i + 2) 0 ∷ get_or l (i + 3) 0 ∷ get_or l (i + 4) 0 ∷ get_or l (i + 5) 0 ∷ get_or l (i + 6) 0 ∷ drop (i + 7) l
seven l i h = rw (
  four l i (omega arith),
  cons-at l (i + 4) (i + 5) (omega arith) (omega arith),
  cons-at l (i + 5) (i + 6) (omega arith) (omega arith),
  cons-at l (i + 6) (i + 7) (omega arith) (omega arith),
)

-- too few numbers for a near row, and for a row
few_grant : (p t : ℕ) (l : List ℕ) → length l < 4 → near_grants p t l ≡ false
unfolding near_grants
few_grant p t [] h = refl
few_grant p t (a ∷ []) h = refl
few_grant p t (a ∷ b ∷ []) h = refl
few_grant p t (a ∷ b ∷ c ∷ []) h = refl
few_grant p t (a ∷ b ∷ c ∷ d ∷ l) h = absurd (omega arith)

few_near : (m : ℕ) (s : Bool) (l : List ℕ) → length l < 7 → near_of m s l ≡ []
unfolding near_of
few_near m s [] h = refl
few_near m s (a ∷ []) h = refl
few_near m s (a ∷ b ∷ []) h = refl
few_near m s (a ∷ b ∷ c ∷ []) h = refl
few_near m s (a ∷ b ∷ c ∷ d ∷ []) h = refl
few_near m s (a ∷ b ∷ c ∷ d ∷ e ∷ []) h = refl
few_near m s (a ∷ b ∷ c ∷ d ∷ e ∷ f ∷ []) h = refl
few_near m s (a ∷ b ∷ c ∷ d ∷ e ∷ f ∷ g ∷ l) h = absurd (omega arith)

-- what the search keeps: the near rows before place i are asked
pub record Asked (p t : ℕ) (near : List ℕ) (yes : Bool) (i : ℕ) : Type 0 where
  pub inside : i ≤ length near
  pub is : near_grants p t near ≡ yes || near_grants p t (drop i near)

module _ (p t : ℕ) (near : List ℕ) where
  pub ask_start : Asked p t near false 0
  ask_start = record { inside = omega arith; is = refl }

  module _ (yes : Bool) (i : ℕ) (inv : Asked p t near yes i) where
    pub ask_next : 4 ≤ length near - i → Asked p t near (yes || within p t (get_or near i 0) (get_or near (i + 1) 0) (get_or near (i + 2) 0) (get_or near (i + 3) 0)) (i + 4)
    unfolding near_grants
    ask_next h = record {
      inside = omega (arith, inv.inside);
      is = inv.is ∙ ap (λ (l : List ℕ). yes || near_grants p t l) (four near i (omega (arith, inv.inside))) ∙ sym (or_assoc yes _ _);
    }

    pub ask_end : length near - i < 4 → yes ≡ near_grants p t near
    ask_end h = sym (inv.is ∙ rw (few_grant p t (drop i near) (omega (arith, length-drop i near))) (or-false yes))

  -- a near row alone
  pub ask_one : length near ≡ 4 → within p t (get_or near 0 0) (get_or near 1 0) (get_or near 2 0) (get_or near 3 0) ≡ near_grants p t near
  ask_one h = ask_end _ 4 (ask_next false 0 ask_start (omega arith)) (omega arith)

  -- a search that ends at the first near row that grants
  module _ (i : ℕ) (inv : Asked p t near false i) (h : 4 ≤ length near - i) where
    abbrev grants_it : Bool
    grants_it = within p t (get_or near i 0) (get_or near (i + 1) 0) (get_or near (i + 2) 0) (get_or near (i + 3) 0)

    pub ask_past : grants_it ≡ false → Asked p t near false (i + 4)
    ask_past e = rw e at (ask_next false i inv h)

    pub ask_found : grants_it ≡ true → true ≡ near_grants p t near
    ask_found e = sym ((ask_next false i inv h).is ∙ rw e)

-- what the gathering keeps: the rows before place i are looked at, and the near ones of them are stored
pub record Gathered (m : ℕ) (s : Bool) (table near₀ near : List ℕ) (n i : ℕ) : Type 0 where
  pub done : List ℕ
  pub many : length done ≡ n
  pub few : n ≤ i
  pub inside : i ≤ length table
  pub stored : near ≡ sets near₀ 0 done
  pub is : near_of m s table ≡ done ++ near_of m s (drop i table)

module _ (m : ℕ) (s : Bool) (table near₀ : List ℕ) where
  pub gather_start : Gathered m s table near₀ near₀ 0 0
  gather_start = record { done = []; many = refl; few = omega arith; inside = omega arith; stored = refl; is = refl }

  module _ (near : List ℕ) (n i : ℕ) (inv : Gathered m s table near₀ near n i) where
    module _ (h : 7 ≤ length table - i) where
      -- the row at place i: that it is near, and the four numbers that a near row has
      abbrev near_by : Bool
      near_by = reaches m s (get_or table i 0) (get_or table (i + 1) 0) (get_or table (i + 6) 0)

      abbrev numbers : List ℕ
      numbers = get_or table (i + 2) 0 ∷ get_or table (i + 3) 0 ∷ get_or table (i + 4) 0 ∷ get_or table (i + 5) 0 ∷ []

      onward : near_of m s table ≡ inv.done ++ elim near_by [ true ↦ numbers ++ near_of m s (drop (i + 7) table) | false ↦ near_of m s (drop (i + 7) table) ]
      unfolding near_of
      onward = inv.is ∙ ap (λ (l : List ℕ). inv.done ++ near_of m s l) (seven table i (omega (arith, inv.inside)))

      pub gather_near : near_by ≡ true → Gathered m s table near₀ (sets near n numbers) (n + 4) (i + 7)
      gather_near e =
          let z : 0 + length inv.done ≡ n = omega (arith, inv.many) in
          record {
            done = inv.done ++ numbers;
            many = rw (length-append inv.done numbers) (omega (arith, inv.many));
            few = omega (arith, inv.few);
            inside = omega (arith, inv.inside);
            stored = ap (λ (l : List ℕ). sets l n numbers) inv.stored ∙ (rw z at (sets-sets inv.done numbers near₀ 0));
            is = (rw e at onward) ∙ sym (append_assoc inv.done numbers (near_of m s (drop (i + 7) table)));
          }

      pub gather_past : near_by ≡ false → Gathered m s table near₀ near n (i + 7)
      gather_past e = record {
        done = inv.done;
        many = inv.many;
        few = omega (arith, inv.few);
        inside = omega (arith, inv.inside);
        stored = inv.stored;
        is = rw e at onward;
      }

    pub gather_end : length table - i < 7 → (n ≡ length (near_of m s table)) × (near ≡ sets near₀ 0 (near_of m s table))
    gather_end h =
        let e : near_of m s table ≡ inv.done = inv.is ∙ rw (few_near m s (drop i table) (omega (arith, length-drop i table))) (append-nil inv.done) in
        (sym inv.many ∙ ap length (sym e), inv.stored ∙ ap (sets near₀ 0) (sym e))
