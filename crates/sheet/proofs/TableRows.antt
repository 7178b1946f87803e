-- A table's rows: they are the sheet's, and the near rows of a message grant what they grant.
use Prim.Native.Nat.{ℕ, zero, suc, ◌+◌, ◌-◌, ◌*◌, ◌/◌, ◌%◌, ◌≤◌}
use mathlib.Core.Path.{◌≡◌, refl, sym, ap, ap₂, ◌∙◌}
use mathlib.Core.Bool.{Bool, true, false, not, ◌&&◌}
use mathlib.Core.List.{List, [], ◌∷◌}
use native.Mathlib.Omega.{arith}
use lib.Dec.{leb, ltb, eqb}
use lib.ListN.{length, take}
use lib.Seq.{sets, length-sets}
use borrow.Author.Tests.{leb-true, eqb-true, not-false}
use Rattle.std.specs.Prelude.{Result, Ok, Err}
use Rattle.rules.specs.Outcome.{Outcome, good, bad}
use Rattle.rules.specs.Items.{items}
use Rattle.rules.specs.Packages as rules
use Rattle.rules.specs.Packages.{package_time}
use Rattle.rules.specs.Message.{is_simulated, Message}
use Rattle.rules.specs.Sheet as rows
use Rattle.rules.specs.Sheet.{start_of, end_of, row_fits}
use Rattle.rules.specs.Copy.{granted}
use Rattle.rules.proofs.Outcomes.{passed, stepped, fronted, good_inj, both, refused-only}
use Rattle.rules.proofs.Kept.{take-sets}
use Rattle.refusal.specs.declared.Refusal.{Refusal}
use Rattle.refusal.specs.Numbers.{number_of, outcome_of}
use Rattle.sheet.specs.Table.{one_if, table_of, rows_in, reaches, near_of, near_grants, count_of_rows, laid_out}
use Rattle.sheet.proofs.Reading.{sheet-many}
use Rattle.sheet.proofs.Table.{near_is, length_table}

-- ---- the near rows of a table are those of its rows

flag_again : (b : Bool) → eqb (one_if b) 1 ≡ b
flag_again true = refl
flag_again false = refl

near_alike : (m : ℕ) (b : Bool) (f l p q s' s e' e g' g : ℕ) (t' t : List ℕ) → s' ≡ s → e' ≡ e → eqb g' 1 ≡ eqb g 1 → near_of m b t' ≡ near_of m b t
    → near_of m b (f ∷ l ∷ p ∷ q ∷ s' ∷ e' ∷ g' ∷ t') ≡ near_of m b (f ∷ l ∷ p ∷ q ∷ s ∷ e ∷ g ∷ t)
unfolding near_of
near_alike m b f l p q s' s e' e g' g t' t x y w h =
    let j = leb f m && leb m l && not (eqb g 1 && b) in
    ap (λ (z : Bool). elim (leb f m && leb m l && not (z && b)) [ true ↦ p ∷ q ∷ s' ∷ e' ∷ near_of m b t' | false ↦ near_of m b t' ]) w
    ∙ ap (λ (n : ℕ). elim j [ true ↦ p ∷ q ∷ n ∷ e' ∷ near_of m b t' | false ↦ near_of m b t' ]) x
    ∙ ap (λ (n : ℕ). elim j [ true ↦ p ∷ q ∷ s ∷ n ∷ near_of m b t' | false ↦ near_of m b t' ]) y
    ∙ ap (λ (n : List ℕ). elim j [ true ↦ p ∷ q ∷ s ∷ e ∷ n | false ↦ n ]) h

near_again : (m : ℕ) (b : Bool) (t : List ℕ) → near_of m b (table_of (rows_in t)) ≡ near_of m b t
unfolding near_of table_of rows_in
near_again m b (f ∷ l ∷ p ∷ q ∷ s ∷ e ∷ g ∷ t) =
    let x : s / 1000000000 * 1000000000 + s % 1000000000 ≡ s = omega arith in
    let y : e / 1000000000 * 1000000000 + e % 1000000000 ≡ e = omega arith in
    near_alike m b f l p q (s / 1000000000 * 1000000000 + s % 1000000000) s (e / 1000000000 * 1000000000 + e % 1000000000) e (one_if (eqb g 1)) g (table_of (rows_in t)) t x y (flag_again (eqb g 1)) (near_again m b t)
near_again m b [] = refl
near_again m b (f ∷ []) = refl
near_again m b (f ∷ l ∷ []) = refl
near_again m b (f ∷ l ∷ p ∷ []) = refl
near_again m b (f ∷ l ∷ p ∷ q ∷ []) = refl
near_again m b (f ∷ l ∷ p ∷ q ∷ s ∷ []) = refl
near_again m b (f ∷ l ∷ p ∷ q ∷ s ∷ e ∷ []) = refl

pub near_in : (t : List ℕ) (m : Message) (p : rules.Package)
    → near_grants p.id (package_time m.seconds m.nanos p.delta) (near_of m.id (is_simulated m.flags) t) ≡ granted (rows_in t) m p
near_in t m p =
    ap (λ (l : List ℕ). near_grants p.id (package_time m.seconds m.nanos p.delta) l) (sym (near_again m.id (is_simulated m.flags) t))
    ∙ near_is (rows_in t) m p

-- ---- there is room for them

near_row : (m : ℕ) (b : Bool) (f l p q s e g : ℕ) (t : List ℕ) → 7 * length (near_of m b t) ≤ 4 * length t
    → 7 * length (near_of m b (f ∷ l ∷ p ∷ q ∷ s ∷ e ∷ g ∷ t)) ≤ 4 * length {A = ℕ} (f ∷ l ∷ p ∷ q ∷ s ∷ e ∷ g ∷ t)
unfolding near_of
near_row m b f l p q s e g t h = go (reaches m b f l g)
  where
    go : (y : Bool) → 7 * length {A = ℕ} (elim y [ true ↦ p ∷ q ∷ s ∷ e ∷ near_of m b t | false ↦ near_of m b t ]) ≤ 4 * length {A = ℕ} (f ∷ l ∷ p ∷ q ∷ s ∷ e ∷ g ∷ t)
    go true = omega arith
    go false = omega arith

pub near_room : (m : ℕ) (b : Bool) (t : List ℕ) → 7 * length (near_of m b t) ≤ 4 * length t
unfolding near_of
near_room m b (f ∷ l ∷ p ∷ q ∷ s ∷ e ∷ g ∷ t) = near_row m b f l p q s e g t (near_room m b t)
near_room m b [] = omega arith
near_room m b (f ∷ []) = omega arith
near_room m b (f ∷ l ∷ []) = omega arith
near_room m b (f ∷ l ∷ p ∷ []) = omega arith
near_room m b (f ∷ l ∷ p ∷ q ∷ []) = omega arith
near_room m b (f ∷ l ∷ p ∷ q ∷ s ∷ []) = omega arith
near_room m b (f ∷ l ∷ p ∷ q ∷ s ∷ e ∷ []) = omega arith

-- they are stored from the front on
pub near_laid : (table near near' : List ℕ) (many id id' : ℕ) (b b' : Bool) → id ≡ id' → b ≡ b' → length table ≤ 224 → length near ≡ 128
    → many ≡ length (near_of id b table) → near' ≡ sets near 0 (near_of id b table) → (many ≤ length near') × (take many near' ≡ near_of id' b' table)
near_laid table near near' many id id' b b' i s l n m e =
    let h : length (near_of id b table) ≤ length near = omega (arith, near_room id b table) in (
      omega (arith, m, h, ap length e, length-sets near 0 (near_of id b table)),
      ap₂ (λ (k : ℕ) (x : List ℕ). take k x) m e ∙ take-sets near (near_of id b table) h ∙ ap₂ (λ (x : ℕ) (y : Bool). near_of x y table) i s,
    )

-- ---- the rows of a sheet's table are the sheet's

row-again : (r : rows.Row) (rs : List rows.Row) → r.start_nanos ≤ 999999999 → r.end_nanos ≤ 999999999 → r.spare ≡ 0 → rows_in (table_of rs) ≡ rs → rows_in (table_of (r ∷ rs)) ≡ r ∷ rs
unfolding rows_in table_of
row-again r rs a b c e =
    let s : start_of r / 1000000000 ≡ r.start_seconds = omega arith in
    let n : start_of r % 1000000000 ≡ r.start_nanos = omega arith in
    let t : end_of r / 1000000000 ≡ r.end_seconds = omega arith in
    let m : end_of r % 1000000000 ≡ r.end_nanos = omega arith in
    rw (e, flag_again r.acquired_only, s, n, t, m, c)

-- what a row that was read keeps
pub record Plain (r : rows.Row) : Type 0 where
  pub start : r.start_nanos ≤ 999999999
  pub end : r.end_nanos ≤ 999999999
  pub spare : r.spare ≡ 0

plain : (r : rows.Row) → row_fits r ≡ true → Plain r
unfolding row_fits
plain r e =
    let (e, spare) = both _ (eqb r.spare 0) e in
    let (e, window) = both _ (ltb (start_of r) (end_of r)) e in
    let (e, end) = both _ (leb r.end_nanos 999999999) e in
    let (e, start) = both (leb r.first_message r.last_message && leb r.first_package r.last_package) (leb r.start_nanos 999999999) e in
    record { start = leb-true _ _ start; end = leb-true _ _ end; spare = eqb-true _ _ spare }

row_plain : (p : ℕ) (s : List ℕ) (r : rows.Row × ℕ) → rows.row p s ≡ good r → Plain r.0
unfolding rows.row
row_plain p s r e =
    let (a, f) = passed _ _ _ _ e in
    let q = ap (λ (x : rows.Row × ℕ). x.0) (good_inj f) in
    rw (← q) (plain _ (not-false _ a))

rows-again : (k p : ℕ) (s : List ℕ) {rs : List rows.Row} → items rows.row k p s ≡ good rs → rows_in (table_of rs) ≡ rs
unfolding items rows_in table_of
rows-again k p [] {rs} e = let q : [] ≡ rs = cc in rw (← q) refl
rows-again (suc k) p (x ∷ s) e = rows-again k (suc p) s e
rows-again zero p (x ∷ s) {rs} e =
    let (r, g, d) = stepped _ _ e in
    let (l, i, m) = fronted _ _ d in
    let h = row_plain p (x ∷ s) r g in
    rw (← m) (row-again r.0 l h.start h.end h.spare (rows-again (r.1 - 1) (suc p) s i))

pub sheet-again : (s : List ℕ) (rs : List rows.Row) → rows.sheet s ≡ good rs → rows_in (table_of rs) ≡ rs
unfolding rows.sheet
sheet-again s rs e = let (a, f) = passed _ _ _ _ e in rows-again 0 0 s f

-- n rows of a sheet that were read stand at the start of a table, which has room for them
abbrev pub RowsRead : List ℕ → List ℕ → ℕ → Type 0
RowsRead sheetBytes table n = (7 * n ≤ 224) × (7 * n ≤ length table) × (rows.sheet sheetBytes ≡ good (rows_in (take (7 * n) table)))

-- what reading a sheet into a table answered, by its promise
module _ (sheetBytes before after : List ℕ) (x : Result ℕ Refusal) (told : outcome_of x ≡ count_of_rows (rows.sheet sheetBytes)) (laid : after ≡ laid_out (rows.sheet sheetBytes) before) where
  -- its rows
  pub rows-read : length before ≡ 224 → (n : ℕ) → x ≡ Ok n → RowsRead sheetBytes after n
  rows-read l n e =
      let (rs, g, q) = stepped _ _ (sym (ap outcome_of (sym e) ∙ told)) in
      let m : length rs ≡ n = good_inj q in
      let (few, whole) = sheet-many sheetBytes rs g in
      let h : length (table_of rs) ≤ length before = omega (arith, length_table rs) in
      let is : after ≡ sets before 0 (table_of rs) = laid ∙ ap (λ (o : Outcome (List rows.Row)). laid_out o before) g in
      let t : take (7 * n) after ≡ table_of rs =
      ap (λ (k : ℕ). take k after) (ap (λ (k : ℕ). 7 * k) (sym m) ∙ sym (length_table rs)) ∙ ap (take (length (table_of rs))) is ∙ take-sets before (table_of rs) h in
      (omega arith, omega (arith, ap length is, length-sets before 0 (table_of rs)), g ∙ ap good (sym (ap rows_in t ∙ sheet-again sheetBytes rs g)))

  -- or why it is refused
  pub sheet-refused : (f : Refusal) → x ≡ Err f → rows.sheet sheetBytes ≡ bad (number_of f.why) f.place
  sheet-refused f e = refused-only _ _ (sym (ap outcome_of (sym e) ∙ told))
