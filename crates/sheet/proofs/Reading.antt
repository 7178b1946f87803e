-- Reading a row and a sheet: a law for each `return`, and what a loop over the rows keeps.
use Prim.Native.Nat.{ℕ, zero, suc, ◌+◌, ◌-◌, ◌*◌, ◌/◌, ◌%◌, ◌≤◌, ◌<◌}
use mathlib.Core.Path.{◌≡◌, refl, sym, ap, ◌∙◌}
use mathlib.Core.Bool.{Bool, true, false, not, ◌&&◌}
use mathlib.Core.List.{List, [], ◌∷◌, ◌++◌, map, append_assoc}
use native.Mathlib.Omega.{arith}
use lib.Dec.{leb, ltb, eqb}
use lib.ListN.{length, take, drop, set, replicate, length-append, length-drop, length-map}
use lib.Seq.{set_at}
use borrow.Author.Tests.{ltb-false, le-leb, lt-leb, le-ltb, ne_eqb, eqb-true, not-false}
use Rattle.std.specs.Prelude.{Ok}
use Rattle.rules.specs.Outcome.{Outcome, good, bad, ROW}
use Rattle.rules.specs.Bytes.{Bytes, word}
use Rattle.rules.specs.Items.{items}
use Rattle.rules.specs.Message.{most_nanos}
use Rattle.rules.specs.Sheet as rules
use Rattle.rules.specs.Sheet.{big_endian, row_of, start_of, end_of, row_fits, sheet_rows, shown_rows}
use Rattle.rules.proofs.Outcomes.{pass, halt, step, stop, passed, stepped, fronted, both, neither, good_inj, good≢bad}
use Rattle.rules.proofs.Numbers.{bytes_drop, bytes_take}
use Rattle.rules.proofs.Growing.{map-append, map-replicate}
use Rattle.rules.proofs.Loops.{Doing, doing_start, doing_next, doing_end, doing_bad, rest}
use Rattle.rules.proofs.Rows.{row_words}
use Rattle.sheet.specs.declared.Row.{Row}
use Rattle.sheet.specs.Rows.{row_in, row_at, no_row}
use Rattle.sheet.specs.Reading.{first_fits, wrong_size, answer, told}
use Rattle.sheet.specs.Table.{Keeps, count_of_rows}

and_yes : (b : Bool) → b ≡ (b && true)
and_yes true = refl
and_yes false = refl

and_no : (b : Bool) → (b && false) ≡ false
and_no true = refl
and_no false = refl

-- a row that keeps the rules, test by test
module _ (r : Row) where
  pub messages-turned : r.last_mdid.0 < r.first_mdid.0 → false ≡ row_fits (row_in r)
  unfolding row_fits
  messages-turned a = rw (lt-leb _ _ a)

  pub packages-turned : r.first_mdid.0 ≤ r.last_mdid.0 → r.last_pdid.0 < r.first_pdid.0 → false ≡ row_fits (row_in r)
  unfolding row_fits
  packages-turned a b = rw (le-leb _ _ a, lt-leb _ _ b)

  module _ (a : r.first_mdid.0 ≤ r.last_mdid.0) (b : r.first_pdid.0 ≤ r.last_pdid.0) where
    pub start-long : 999999999 < r.start.nanos → false ≡ row_fits (row_in r)
    unfolding row_fits
    start-long c = rw (le-leb _ _ a, le-leb _ _ b, lt-leb r.start.nanos 999999999 c)

    pub end-long : r.start.nanos ≤ 999999999 → 999999999 < r.end.nanos → false ≡ row_fits (row_in r)
    unfolding row_fits
    end-long c d = rw (le-leb _ _ a, le-leb _ _ b, le-leb r.start.nanos 999999999 c, lt-leb r.end.nanos 999999999 d)

    pub in_order : r.start.nanos ≤ 999999999 → r.end.nanos ≤ 999999999
        → ltb (start_of (row_in r)) (end_of (row_in r)) ≡ row_fits (row_in r)
    unfolding row_fits
    in_order c d = rw (le-leb _ _ a, le-leb _ _ b, le-leb r.start.nanos 999999999 c, le-leb r.end.nanos 999999999 d)
        (and_yes (ltb (start_of (row_in r)) (end_of (row_in r))))

-- spare bits are zero
no_bits : (r : rules.Row) → row_fits r ≡ true → r.spare ≡ 0
unfolding row_fits
no_bits r e =
    eqb-true _ _
    (both
    (leb r.first_message r.last_message && leb r.first_package r.last_package && leb r.start_nanos most_nanos && leb r.end_nanos most_nanos && ltb (start_of r) (end_of r))
    (eqb r.spare 0)
    e).1

spared : (r : rules.Row) → (r.spare ≡ 0 → ⊥) → row_fits r ≡ false
unfolding row_fits
spared r h = rw (ne_eqb _ _ h, and_no)

-- the row at the start of s
module _ (s : List ℕ) (l : 32 ≤ length s) (b : Bytes s) where
  abbrev found : rules.Row
  found = row_of (big_endian 0 (take 32 s))

  bits : found.spare ≡ word s 28 / 2 % 8
  bits = ap (λ (r : rules.Row). r.spare) (row_words s l b)

  no_spare : word s 28 / 2 % 8 ≡ 0 → found ≡ row_in (row_at s)
  no_spare e = row_words s l b ∙ rw e

  pub spare-bits : (word s 28 / 2 % 8 ≡ 0 → ⊥) → false ≡ first_fits s
  spare-bits h = sym (spared found (λ z. h (sym bits ∙ z)))

  pub by-words : word s 28 / 2 % 8 ≡ 0 → row_fits (row_in (row_at s)) ≡ first_fits s
  by-words e = ap row_fits (sym (no_spare e))

  -- one that keeps the rules is the one in its eight words
  row-read : (p : ℕ) → first_fits s ≡ true → rules.row p s ≡ good (row_in (row_at s), 32)
  unfolding rules.row
  row-read p e = pass _ _ _ _ (rw e) (ap (λ (r : rules.Row). good (r, 32)) (no_spare (sym bits ∙ no_bits found e)))

-- one that does not is refused
row-refused : (s : List ℕ) (p : ℕ) → first_fits s ≡ false → rules.row p s ≡ bad ROW p
unfolding rules.row
row-refused s p e = halt _ _ _ _ (rw e)

row-kept : (s : List ℕ) (p : ℕ) {r : rules.Row × ℕ} → rules.row p s ≡ good r → first_fits s ≡ true
unfolding rules.row
row-kept s p e = not-false _ (passed _ _ _ _ e).0

-- what each loop over a sheet keeps: its size is right, and the rows before place `at` are read
pub record Through (s : List ℕ) (done : List rules.Row) (at : ℕ) : Type 0 where
  pub small : length s ≤ 1024
  pub whole : length s % 32 ≡ 0
  pub place : at ≡ 32 * length done
  pub inside : at ≤ length s
  pub doing : Doing rules.row s done at

pub through_start : (s : List ℕ) → wrong_size (length s) ≡ false → Through s [] 0
through_start s e =
    let (a, b) = neither (ltb 1024 (length s)) (not (eqb (length s % 32) 0)) e in
    record { small = ltb-false 1024 (length s) a; whole = eqb-true _ _ (not-false _ b); place = refl; inside = omega arith; doing = doing_start rules.row s }

module _ (s : List ℕ) (done : List rules.Row) (at : ℕ) (inv : Through s done at) where
  -- what the rows give is what the sheet gives
  sized : {o : Outcome (List rules.Row)} → items rules.row 0 0 s ≡ o → rules.sheet s ≡ o
  unfolding rules.sheet
  sized e = pass _ _ _ _ (rw (le-ltb 1024 (length s) inv.small, inv.whole)) e

  pub through_end : length s ≤ at → rules.sheet s ≡ good done
  through_end l = sized (doing_end rules.row s done at inv.doing l)

  module _ (l : at < length s) where
    pub through_next : (r : rules.Row) → rules.row at (drop at s) ≡ good (r, 32) → Through s (done ++ (r ∷ [])) (at + 32)
    through_next r e = record {
      small = inv.small;
      whole = inv.whole;
      place = rw (length-append done (r ∷ [])) (omega (arith, inv.place));
      inside = omega (arith, inv.place, inv.whole);
      doing = doing_next rules.row s done at r 32 inv.doing l (omega arith) e;
    }

    pub through_bad : {n p : ℕ} → rules.row at (drop at s) ≡ bad n p → rules.sheet s ≡ bad n p
    through_bad e = sized (doing_bad rules.row s done at inv.doing l e)

    -- what is lent from there on has a row, and it is the sheet's where it keeps the rules
    abbrev lent : List ℕ
    lent = take (length s - at) (drop at s)

    pub room : 32 ≤ length lent
    room = rw (rest s at) (omega (arith, length-drop at s, inv.place, inv.whole))

    pub row-good : Bytes s → first_fits lent ≡ true → rules.row at (drop at s) ≡ good (row_in (row_at lent), 32)
    row-good b e = ap (rules.row at) (sym (rest s at)) ∙ (row-read lent room (bytes_take (length s - at) (drop at s) (bytes_drop at s b)) at e)

    pub row-bad : first_fits lent ≡ false → rules.sheet s ≡ bad ROW at
    row-bad e = through_bad (ap (rules.row at) (sym (rest s at)) ∙ row-refused lent at e)

    -- in a sheet that keeps the rules each does
    pub row-there : Keeps s → first_fits lent ≡ true
    row-there k = rw (rest s at) (go (rules.row at (drop at s)) refl)
      where
        go : (o : Outcome (rules.Row × ℕ)) → rules.row at (drop at s) ≡ o → first_fits (drop at s) ≡ true
        go (bad n p) e = absurd (good≢bad (sym (through_bad e) ∙ k.read))
        go (good r) e = row-kept (drop at s) at e

-- one row more
pub through_more : (s : List ℕ) (done : List rules.Row) (i : ℕ) (inv : Through s done (32 * i)) (l : 32 * i < length s) → Bytes s → first_fits (lent s done (32 * i) inv l) ≡ true
    → Through s (done ++ (row_in (row_at (lent s done (32 * i) inv l)) ∷ [])) (32 * (i + 1))
through_more s done i inv l b e =
    let n : 32 * i + 32 ≡ 32 * (i + 1) = omega arith in
    rw n at (through_next s done (32 * i) inv l (row_in (row_at (lent s done (32 * i) inv l))) (row-good s done (32 * i) inv l b e))

-- a sheet that keeps the rules has as many rows as its bytes allow
row-long : (p : ℕ) (s : List ℕ) (r : rules.Row × ℕ) → rules.row p s ≡ good r → r.1 ≡ 32
unfolding rules.row
row-long p s r e = let (a, f) = passed _ _ _ _ e in sym (ap (λ (x : rules.Row × ℕ). x.1) (good_inj f))

as-many : (k p : ℕ) (s : List ℕ) {rs : List rules.Row} → items rules.row k p s ≡ good rs → (length s - k ≤ 32 * length rs) × (32 * length rs ≤ length s - k + 31)
unfolding items
as-many k p [] {rs} e = (omega arith, omega (arith, ap length (good_inj e)))
as-many (suc k) p (x ∷ s) e = let h = as-many k (suc p) s e in (omega arith, omega arith)
as-many zero p (x ∷ s) {rs} e =
    let (r, g, d) = stepped _ _ e in
    let (l, i, m) = fronted _ _ d in
    let n = row-long p (x ∷ s) r g in
    let h = as-many (r.1 - 1) (suc p) s i in
    (omega (arith, n, h, ap length m), omega (arith, n, h, ap length m))

pub sheet-many : (s : List ℕ) (rs : List rules.Row) → rules.sheet s ≡ good rs → (length s ≤ 1024) × (32 * length rs ≡ length s)
unfolding rules.sheet
sheet-many s rs e =
    let (a, f) = passed _ _ _ _ e in
    let (b, c) = neither (ltb 1024 (length s)) _ a in
    let h = as-many 0 0 s f in
    (ltb-false 1024 (length s) b, omega (arith, h, eqb-true (length s % 32) 0 (not-false _ c)))

-- what its count says
pub keeps : (s : List ℕ) {n : ℕ} → good n ≡ count_of_rows (rules.sheet s) → Keeps s
keeps s e = let (rs, g, h) = stepped _ _ (sym e) in record { rows = rs; read = g }

pub counted : (s : List ℕ) (n : ℕ) → good n ≡ count_of_rows (rules.sheet s) → 32 * n ≡ length s
counted s n e =
    let (rs, g, h) = stepped _ _ (sym e) in
    (ap (λ (k : ℕ). 32 * k) (sym (good_inj h))) ∙ (sheet-many s rs g).1

pub through_kept : (s : List ℕ) → Keeps s → Through s [] 0
unfolding rules.sheet
through_kept s k = through_start s (passed _ _ _ _ k.read).0

-- what reading a sheet keeps: the rows before row i are stored, and the others are zero
pub record Reading (s : List ℕ) (rows : List Row) (i : ℕ) : Type 0 where
  pub done : List Row
  pub many : length done ≡ i
  pub filled : rows ≡ done ++ replicate (32 - i) no_row
  pub through : Through s (map row_in done) (32 * i)

-- one row more
stored : (done : List Row) (n : ℕ) (r : Row) → n < 32 → length done ≡ n → set (done ++ replicate (32 - n) no_row) n r ≡ (done ++ (r ∷ [])) ++ replicate (32 - (n + 1)) no_row
stored done n r l e =
    let z : 32 - n ≡ suc (32 - (n + 1)) = omega arith in
    rw z (set_at done no_row (replicate (32 - (n + 1)) no_row) r n e ∙ sym (append_assoc done (r ∷ []) _))

pub start : (s : List ℕ) → wrong_size (length s) ≡ false → Reading s (replicate 32 no_row) 0
start s e = record { done = []; many = refl; filled = refl; through = through_start s e }

module _ (s : List ℕ) (rows : List Row) (i : ℕ) (inv : Reading s rows i) where
  module _ (l : 32 * i < length s) where
    -- what is lent from row i on
    abbrev lent_row : List ℕ
    lent_row = lent s (map row_in inv.done) (32 * i) inv.through l

    pub stopped : first_fits lent_row ≡ false → rules.sheet s ≡ bad ROW (32 * i)
    stopped e = row-bad s (map row_in inv.done) (32 * i) inv.through l e

    pub next : Bytes s → first_fits lent_row ≡ true → Reading s (set rows i (row_at lent_row)) (i + 1)
    next b e =
        let r = row_at lent_row in
        record {
          done = inv.done ++ (r ∷ []);
          many = rw (length-append inv.done (r ∷ [])) (omega (arith, inv.many));
          filled = rw inv.filled (stored inv.done i r (omega (arith, inv.through.small)) inv.many);
          through = rw (map-append row_in inv.done (r ∷ [])) (through_more s (map row_in inv.done) i inv.through l b e);
        }

  pub ended : (count : ℕ) → count ≡ length s / 32 → i ≤ count → count ≤ i → told (Ok (record { rows = rows; count = count })) ≡ answer (sheet_rows s)
  unfolding sheet_rows shown_rows row_of
  ended count c h l =
      let k : i ≡ count = omega arith in
      let m : length (map row_in inv.done) ≡ count = length-map inv.done row_in ∙ inv.many ∙ k in
      let f : sheet_rows s ≡ good (map row_in rows, count) =
      step _ _ (through_end s (map row_in inv.done) (32 * i) inv.through (omega (arith, inv.through.whole, c))) (rw (m, inv.filled, map-append, map-replicate, k)) in
      rw f

-- a sheet of a wrong size is bad
pub wrong-sized : (s : List ℕ) → wrong_size (length s) ≡ true → rules.sheet s ≡ bad ROW (length s)
unfolding rules.sheet
wrong-sized s e = halt _ _ _ _ e

-- and what a bad sheet tells
pub told-bad : (s : List ℕ) {n p : ℕ} → rules.sheet s ≡ bad n p → answer (bad n p) ≡ answer (sheet_rows s)
unfolding sheet_rows
told-bad s e = ap answer (sym (stop _ _ e))
