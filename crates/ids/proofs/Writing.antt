-- What the writer stores: an id, an item, a line; and which ranges it takes.
use Prim.Native.Nat.{ℕ, suc, ◌+◌, ◌-◌, ◌*◌, ◌/◌, ◌%◌, ◌≤◌, ◌<◌, ◌^◌, min}
use mathlib.Core.Path.{◌≡◌, refl, sym, ap, ◌∙◌}
use mathlib.Core.Bool.{Bool, true, false, ◌||◌}
use mathlib.Core.List.{List, [], ◌∷◌, ◌++◌, map, append_assoc, append-nil}
use native.Mathlib.Nat.{zero-add, pos_of_ne-zero}
use native.Mathlib.Numerals.{add-one}
use native.Mathlib.Omega.{arith}
use borrow.Author.Tests.{lt-ltb, le-ltb, le-leb, lt-leb}
use lib.Dec.{ltb, leb}
use lib.ListN.{length, get_or, take, drop, replicate, length-append, length-map, length-replicate, length-take, drop_of_length-le, get_or-append, get_or-map}
use lib.Seq.{sets, drop-cons, take-suc, length-take-le, get_or-take}
use Rattle.rules.specs.Outcome.{good, bad, ROOM}
use Rattle.rules.specs.Buffer.{unwritten, fitted, stored}
use Rattle.refusal.specs.Numbers.{TEXT}
use Rattle.rules.proofs.Outcomes.{pass, halt, step, stop}
use Rattle.rules.proofs.Loops.{sets-sets}
use Rattle.rules.proofs.Growing.{map-append}
use Rattle.ids.specs.Line.{comma, hyphen}
use Rattle.ids.specs.Reader.{Range, no_range}
use Rattle.ids.specs.Writer.{spelled, id_text, item_text, line_text, ranges_kept, line_of, write_ids}
use Rattle.ids.specs.Told.{range_in, handed_over}
use Rattle.ids.specs.Parts.{no_ids}
use Rattle.ids.specs.declared.IdRange.{IdRange}
use Rattle.ids.proofs.Spelling.{spelled-more}
use Rattle.ids.proofs.Lines.{plain, text-single, text-range, kept-good, line_of-bad, line_of-good}

yes : (a b : Bool) → b ≡ true → (a || b) ≡ true
yes true b e = refl
yes false b e = e

-- an id, digit by digit
pub id-short : (n : ℕ) → n < 2 ^ 32 → (1 ≤ length (id_text n)) × (length (id_text n) ≤ 10)
id-short n h = ((plain n h).id.least, (plain n h).id.most)

pub id-one : (n : ℕ) → n < 10 → id_text n ≡ (0x30 + n % 10) ∷ []
unfolding spelled
id-one n h = let e : n % 10 ≡ n = omega arith in rw (lt-ltb n 10 h, spelled, e)

pub id-more : (n : ℕ) → n < 2 ^ 32 → 10 ≤ n → id_text n ≡ id_text (n / 10) ++ ((0x30 + n % 10) ∷ [])
unfolding spelled
id-more n h l = rw (le-ltb n 10 l, spelled) (ap (λ (s : List ℕ). s ++ ((0x30 + n % 10) ∷ [])) (sym (spelled-more 8 (n / 10) (omega arith))))

pub one_digit : (n : ℕ) → n < 10 → 1 ≡ length (id_text n)
one_digit n h = rw (id-one n h)

pub digit_more : (n r : ℕ) → n < 2 ^ 32 → 10 ≤ n → r ≡ length (id_text (n / 10)) → (r + 1 ≡ length (id_text n)) × (r + 1 ≤ 10)
digit_more n r h l e =
    let q : r + 1 ≡ length (id_text n) = rw (id-more n h l, length-append, e) in
    (q, omega (arith, (id-short n h).1))

module _ (b : List ℕ) (p n v : ℕ) (ev : v ≡ 0x30 + n % 10) (h : n < 2 ^ 32) where
  pub put_one : (c : List ℕ) → n < 10 → c ≡ sets b p (v ∷ []) → (c ≡ sets b p (id_text n)) × (p + 1 ≡ p + length (id_text n)) × (p + 1 ≤ p + 10)
  put_one c l e = (e ∙ rw (ev, id-one n l), rw (id-one n l), omega arith)

  pub put_more : (m c : List ℕ) (q : ℕ) → 10 ≤ n → m ≡ sets b p (id_text (n / 10)) → q ≡ p + length (id_text (n / 10)) → c ≡ sets m q (v ∷ [])
      → (c ≡ sets b p (id_text n)) × (q + 1 ≡ p + length (id_text n)) × (q + 1 ≤ p + 10)
  put_more m c q l em eq e =
      let a : c ≡ sets b p (id_text n) = e ∙ rw (em, eq, ev, id-more n h l) (sets-sets (id_text (n / 10)) ((0x30 + n % 10) ∷ []) b p) in
      let k : q + 1 ≡ p + length (id_text n) = rw (id-more n h l, length-append) (omega arith) in
      (a, k, omega (arith, (id-short n h).1))

-- an item: one id, or two with a hyphen between
module _ (r : Range) where
  pub item-single : (k : ℕ) → r.first ≡ r.last → k ≡ length (id_text r.first) → k ≡ length (item_text r)
  item-single k e q = rw (text-single r e) q

  pub item_double : (k m : ℕ) → (r.first ≡ r.last → ⊥) → k ≡ length (id_text r.first) → m ≡ length (id_text r.last) → k + 1 + m ≡ length (item_text r)
  item_double k m e f g = rw (text-range r e, length-append) (omega arith)

  module _ (b m : List ℕ) (p q : ℕ) (em : m ≡ sets b p (id_text r.first)) (eq : q ≡ p + length (id_text r.first)) (lq : q ≤ p + 10) where
    pub put_single : r.first ≡ r.last → (m ≡ sets b p (item_text r)) × (q ≡ p + length (item_text r)) × (q ≤ p + 21)
    put_single e = rw (text-single r e) (em, eq, omega arith)

    pub put_double : (c d : List ℕ) (z : ℕ) → (r.first ≡ r.last → ⊥) → c ≡ sets m q (hyphen ∷ []) → d ≡ sets c (q + 1) (id_text r.last) → z ≡ q + 1 + length (id_text r.last) → z ≤ q + 1 + 10
        → (d ≡ sets b p (item_text r)) × (z ≡ p + length (item_text r)) × (z ≤ p + 21)
    put_double c d z e ec ed ez lz =
        let f : sets c (q + 1) (id_text r.last) ≡ sets m q (hyphen ∷ id_text r.last) = rw ec (sets-sets (hyphen ∷ []) (id_text r.last) m q) in
        let g : d ≡ sets b p (item_text r) = ed ∙ f ∙ rw (em, eq, text-range r e) (sets-sets (id_text r.first) (hyphen ∷ id_text r.last) b p) in
        let k : z ≡ p + length (item_text r) = rw (text-range r e, length-append) (omega arith) in
        (g, k, omega arith)

-- which ranges are taken
module _ (ranges : List IdRange) (n : ℕ) (w : length ranges ≡ 32) where
  abbrev handed : List Range
  handed = handed_over n ranges

  handed-front : length (map range_in (take n ranges)) ≡ min n 32
  handed-front = length-map (take n ranges) range_in ∙ length-take n ranges ∙ rw w

  pub handed-length : length handed ≡ n
  handed-length = length-append (map range_in (take n ranges)) (replicate (n - 32) no_range) ∙ rw (handed-front, length-replicate) (omega arith)

  handed-at : (i : ℕ) → i < n → i < 32 → get_or handed i no_range ≡ range_in (get_or ranges i no_ids)
  handed-at i l k =
      get_or-append (map range_in (take n ranges)) (replicate (n - 32) no_range) no_range i (omega (arith, handed-front))
      ∙ get_or-map range_in (take n ranges) i no_ids ∙ ap range_in (get_or-take n ranges i no_ids l)

  pub record Ordering (i : ℕ) : Type 0 where
    pub inside : i ≤ n
    pub few : i ≤ 32
    pub kept : ranges_kept 0 handed ≡ ranges_kept i (drop i handed)

  module _ (i : ℕ) (inv : Ordering i) where
    pub order-end : n ≤ i → good tt ≡ ranges_kept 0 handed
    unfolding ranges_kept
    order-end l = let z : length handed ≤ i = omega (arith, handed-length) in sym (inv.kept ∙ rw (drop_of_length-le handed z))

    module _ (l : i < n) where
      next_one : drop i handed ≡ get_or handed i no_range ∷ drop (suc i) handed
      next_one = drop-cons handed i no_range (omega (arith, handed-length))

      pub order_33rd : i ≡ 32 → bad TEXT i ≡ ranges_kept 0 handed
      unfolding ranges_kept
      order_33rd z = sym (inv.kept ∙ rw next_one (halt _ _ _ _ (yes (ltb (get_or handed i no_range).last (get_or handed i no_range).first) _ (le-leb 32 i (omega arith)))))

      module _ (k : i < 32) where
        pub order-bad : (get_or ranges i no_ids).last < (get_or ranges i no_ids).first → bad TEXT i ≡ ranges_kept 0 handed
        unfolding ranges_kept
        order-bad h = sym (inv.kept ∙ rw (next_one, handed-at i l k) (halt _ _ _ _ (rw (lt-ltb (get_or ranges i no_ids).last (get_or ranges i no_ids).first h))))

        pub order-next : (get_or ranges i no_ids).first ≤ (get_or ranges i no_ids).last → Ordering (i + 1)
        unfolding ranges_kept
        order-next h =
            let t : (ltb (get_or ranges i no_ids).last (get_or ranges i no_ids).first || leb 32 i) ≡ false = rw (le-ltb (get_or ranges i no_ids).last (get_or ranges i no_ids).first h, lt-leb 32 i k) in
            record { inside = omega arith; few = omega arith; kept = inv.kept ∙ rw (next_one, handed-at i l k, add-one) (pass _ _ _ _ t refl) }

-- the line of the first i ranges
pub line_snoc : (r : Range) (rs : List Range) (q : Range) → line_text ((r ∷ rs) ++ (q ∷ [])) ≡ line_text (r ∷ rs) ++ comma ∷ item_text q
unfolding line_text
line_snoc r [] q = refl
line_snoc r (x ∷ rs) q = rw (line_snoc x rs q) (sym (append_assoc (item_text r) (comma ∷ line_text (x ∷ rs)) (comma ∷ item_text q)))

line-more : (rs : List Range) (q : Range) → 1 ≤ length rs → line_text (rs ++ (q ∷ [])) ≡ line_text rs ++ comma ∷ item_text q
line-more [] q h = absurd (omega arith)
line-more (r ∷ rs) q h = line_snoc r rs q

abbrev pub line : List IdRange → ℕ → List ℕ
line ranges i = line_text (map range_in (take i ranges))

-- how long it is
pub record Measuring (ranges : List IdRange) (i len : ℕ) : Type 0 where
  pub least : 1 ≤ i
  pub is : len ≡ length (line ranges i)
  pub small : len ≤ 22 * i

module _ (ranges : List IdRange) (w : length ranges ≡ 32) where
  pub line_first : line ranges 1 ≡ item_text (range_in (get_or ranges 0 no_ids))
  unfolding line_text
  line_first = ap (λ (l : List IdRange). line_text (map range_in l)) (take-suc ranges 0 no_ids (omega arith))

  pub line-next : (i : ℕ) → 1 ≤ i → i < 32 → line ranges (i + 1) ≡ line ranges i ++ comma ∷ item_text (range_in (get_or ranges i no_ids))
  line-next i h l =
      let t : take (i + 1) ranges ≡ take i ranges ++ (get_or ranges i no_ids ∷ []) = rw add-one (take-suc ranges i no_ids (omega arith)) in
      let k : length (map range_in (take i ranges)) ≡ i = length-map (take i ranges) range_in ∙ length-take-le i ranges (omega arith) in
      ap (λ (l : List IdRange). line_text (map range_in l)) t ∙ rw map-append (line-more (map range_in (take i ranges)) _ (omega arith))

  pub measuring-start : (k : ℕ) → k ≡ length (item_text (range_in (get_or ranges 0 no_ids))) → k ≤ 21 → Measuring ranges 1 k
  measuring-start k e l = record { least = omega arith; is = rw line_first e; small = omega arith }

  pub measuring-next : (i len k : ℕ) → i < 32 → Measuring ranges i len → k ≡ length (item_text (range_in (get_or ranges i no_ids))) → k ≤ 21 → Measuring ranges (i + 1) (len + 1 + k)
  measuring-next i len k l m e s = record { least = omega arith; is = rw (line-next i m.least l, length-append) (omega (arith, m.is)); small = omega (arith, m.small) }

  -- what is stored
  pub storing_measured : (i p q : ℕ) → i < 32 → Measuring ranges i p → q ≡ p + 1 + length (item_text (range_in (get_or ranges i no_ids))) → q ≤ p + 1 + 21 → Measuring ranges (i + 1) q
  storing_measured i p q l m eq lq =
      let k : length (item_text (range_in (get_or ranges i no_ids))) ≤ 21 = omega arith in
      rw eq (measuring-next i p _ l m refl k)

  pub storing_next : (b c d e : List ℕ) (i p : ℕ) → i < 32 → Measuring ranges i p → c ≡ sets b 0 (line ranges i) → d ≡ sets c p (comma ∷ [])
      → e ≡ sets d (p + 1) (item_text (range_in (get_or ranges i no_ids))) → e ≡ sets b 0 (line ranges (i + 1))
  storing_next b c d e i p l m ec ed ee =
      let f : e ≡ sets c p (comma ∷ item_text (range_in (get_or ranges i no_ids))) = ee ∙ rw ed (sets-sets (comma ∷ []) (item_text (range_in (get_or ranges i no_ids))) c p) in
      let g : p ≡ 0 + length (line ranges i) = m.is ∙ sym (zero-add (length (line ranges i))) in
      f ∙ rw (ec, g, line-next i m.least l) (sets-sets (line ranges i) (comma ∷ item_text (range_in (get_or ranges i no_ids))) b 0)

-- the writer's answer
module _ (ranges : List IdRange) (n : ℕ) (w : length ranges ≡ 32) (b : List ℕ) where
  refused-line : {m p : ℕ} → line_of (handed_over n ranges) ≡ bad m p → (unwritten m p, b) ≡ write_ids (handed_over n ranges) b
  unfolding write_ids stored
  refused-line e = sym (ap (stored b) (stop _ _ e))

  pub write-none : n ≡ 0 → (unwritten TEXT 0, b) ≡ write_ids (handed_over n ranges) b
  unfolding line_of
  write-none z = refused-line (rw z)

  module _ (h : n ≡ 0 → ⊥) where
    some : 1 ≤ length (handed_over n ranges)
    some = rw (handed-length ranges n w) (pos_of_ne-zero h)

    pub write-bad : (m i : ℕ) → bad m i ≡ ranges_kept 0 (handed_over n ranges) → (unwritten m i, b) ≡ write_ids (handed_over n ranges) b
    write-bad m i e = refused-line (line_of-bad _ some (sym e))

    module _ (e : good tt ≡ ranges_kept 0 (handed_over n ranges)) where
      pub write-few : (1 ≤ n) × (n ≤ 32)
      write-few = (rw (handed-length ranges n w) at some, omega (arith, (kept-good 0 (handed_over n ranges) (omega arith) (sym e)).few, handed-length ranges n w))

      no_more : handed_over n ranges ≡ map range_in (take n ranges)
      no_more = let z : n - 32 ≡ 0 = omega (arith, write-few.1) in rw (z, append-nil)

      line-is : line_of (handed_over n ranges) ≡ good (line ranges n)
      line-is = line_of-good _ some (sym e) ∙ ap (λ (l : List Range). good (line_text l)) no_more

      pub write-room : (k : ℕ) → k ≡ length (line ranges n) → length b < k → (unwritten ROOM k, b) ≡ write_ids (handed_over n ranges) b
      unfolding write_ids stored fitted
      write-room k q l = sym (ap (stored b) (step _ _ line-is (halt _ _ _ _ (lt-ltb (length b) (length (line ranges n)) (omega arith)))) ∙ rw q)

      pub write_done : (k : ℕ) (c : List ℕ) → k ≡ length (line ranges n) → k ≤ length b → c ≡ sets b 0 (line ranges n) → (record { number = 0; place = 0; bytes = k }, c) ≡ write_ids (handed_over n ranges) b
      unfolding write_ids stored fitted
      write_done k c q l f = sym (ap (stored b) (step _ _ line-is (pass _ _ _ _ (le-ltb (length b) (length (line ranges n)) (omega arith)) refl)) ∙ rw (q, f))
