-- What is written is a list of the grammar, and says the ranges.
use Prim.Native.Nat.{ℕ, suc, ◌+◌, ◌*◌, ◌≤◌, ◌<◌, ◌^◌}
use mathlib.Core.Path.{◌≡◌, refl, sym, ap, subst}
use mathlib.Core.Logic.{◌⊎◌, inl, inr, ⊎_elim}
use mathlib.Core.Bool.{Bool, true, false, ◌||◌}
use mathlib.Core.List.{List, [], ◌∷◌, ◌++◌, map}
use native.Mathlib.Nat.{add-zero, zero-add}
use native.Mathlib.Omega.{arith}
use borrow.Author.Tests.{eqb-true, eqb-false, eq-eqb, ne_eqb, ltb-true, ltb-false, leb-true, leb-false, le-ltb, le-leb, lt-leb}
use lib.Dec.{eqb, ltb, leb}
use lib.ListN.{length, length-append}
use Rattle.rules.specs.Outcome.{good, bad}
use Rattle.rules.specs.Items.{All, all_nil, all_cons}
use Rattle.refusal.specs.Numbers.{TEXT}
use Rattle.rules.proofs.Outcomes.{pass, passed, halt, after, stop_before, good≢bad, refused-at, neither}
use Rattle.ids.specs.Line.{hyphen, comma, decimal, IsId, Item, IsItem, single, range, IsList, alone, followed}
use Rattle.ids.specs.Reader.{Range, most_items}
use Rattle.ids.specs.Writer.{id_text, item_text, line_text, ranges_kept, line_of}
use Rattle.ids.specs.Claims.{Fits, range_of, RangeFits, Ordered, Plain}
use Rattle.ids.proofs.Spelling.{Spelt, spelt, spelled-short, decimal-below}

spelt_id : (n : ℕ) → n < 2 ^ 32 → Spelt 10 n (id_text n)
spelt_id n h = spelt 9 n (omega arith)

pub plain : (n : ℕ) → n < 2 ^ 32 → Plain n (id_text n)
plain n h = let s = spelt_id n h in record {
  id = record { digits = s.all; least = s.least; most = s.most };
  says = s.says;
  short = λ e. s.one (omega (arith, s.zeroed e));
}

-- the item that says a range
pub item_of : ℕ → Range → Item
item_of p r = record { place = p; first = r.first; last = r.last }

pub text-single : (r : Range) → r.first ≡ r.last → item_text r ≡ id_text r.first
unfolding item_text
text-single r e = rw (eq-eqb r.first r.last e, item_text)

pub text-range : (r : Range) → (r.first ≡ r.last → ⊥) → item_text r ≡ id_text r.first ++ hyphen ∷ id_text r.last
unfolding item_text
text-range r e = rw (ne_eqb r.first r.last e, item_text)

-- an item whose ids are these
id-is : (p n m : ℕ) (s : List ℕ) → n ≡ m → Plain n s → IsItem p s (record { place = p; first = n; last = m })
id-is p n m s e d = subst (λ (k : ℕ). IsItem p s (record { place = p; first = n; last = k })) e (subst (λ (k : ℕ). IsItem p s (record { place = p; first = k; last = k })) d.says (single d.id))

ids-are : (p n m : ℕ) (s t : List ℕ) → Plain n s → Plain m t → IsItem p (s ++ hyphen ∷ t) (record { place = p; first = n; last = m })
ids-are p n m s t d e = subst (λ (k : ℕ). IsItem p (s ++ hyphen ∷ t) (record { place = p; first = n; last = k })) e.says
    (subst (λ (k : ℕ). IsItem p (s ++ hyphen ∷ t) (record { place = p; first = k; last = decimal 0 t })) d.says (range d.id e.id))

pub is-item : (p : ℕ) (r : Range) → RangeFits r → IsItem p (item_text r) (item_of p r)
unfolding item_of
is-item p r f = go (eqb r.first r.last) refl
  where
    go : (b : Bool) → eqb r.first r.last ≡ b → IsItem p (item_text r) (item_of p r)
    go true e = let q = eqb-true _ _ e in rw (text-single r q) (id-is p r.first r.last _ q (plain r.first f.first))
    go false e = rw (text-range r (eqb-false _ _ e)) (ids-are p r.first r.last _ _ (plain r.first f.first) (plain r.last f.last))

-- a reading of what is written
pub record Said (p : ℕ) (rs : List Range) (s : List ℕ) : Type 0 where
  pub items : List Item
  pub is : IsList p s items
  pub fit : All Fits items
  pub says : map range_of items ≡ rs

fits_of : (p : ℕ) (r : Range) → RangeFits r → Ordered r → Fits (item_of p r)
unfolding item_of
fits_of p r f o = record { first = f.first; last = f.last; order = o }

pub said : (p : ℕ) (r : Range) {rs : List Range} → RangeFits r → Ordered r → All RangeFits rs → All Ordered rs → Said p (r ∷ rs) (line_text (r ∷ rs))
unfolding line_text item_of
said p r f o all_nil os = record { items = item_of p r ∷ []; is = alone (is-item p r f); fit = all_cons (fits_of p r f o) all_nil; says = refl }
said p r f o (all_cons {a = q} {l = rs} g fs) (all_cons h os) = more (said (p + length (item_text r) + 1) q g h fs os)
  where
    more : Said (p + length (item_text r) + 1) (q ∷ rs) (line_text (q ∷ rs)) → Said p (r ∷ (q ∷ rs)) (line_text (r ∷ (q ∷ rs)))
    more d = record { items = item_of p r ∷ d.items; is = followed (is-item p r f) d.is; fit = all_cons (fits_of p r f o) d.fit; says = ap (λ (l : List Range). r ∷ l) d.says }

-- no range is inverted or the 33rd, with n ranges before these
pub record Good (n : ℕ) (rs : List Range) : Type 0 where
  pub ordered : All Ordered rs
  pub few : n + length rs ≤ most_items

or_false : (a b : Bool) → (a || b) ≡ true → (a ≡ false) → b ≡ true
or_false false b e f = e
or_false true b e f = absurd (omega (arith, let y : ◌≡◌ {A = ℕ} 0 1 = cc in y))

pub kept-good : (n : ℕ) (rs : List Range) → n ≤ most_items → ranges_kept n rs ≡ good tt → Good n rs
unfolding ranges_kept
kept-good n [] h e = record { ordered = all_nil; few = omega arith }
kept-good n (r ∷ rs) h e =
    let (t, e) = passed _ _ _ _ e in
    let (a, b) = neither (ltb r.last r.first) (leb most_items n) t in
    more (ltb-false _ _ a) (kept-good (suc n) rs (omega (arith, leb-false most_items n b)) e)
  where
    more : Ordered r → Good (suc n) rs → Good n (r ∷ rs)
    more o g = record { ordered = all_cons o g.ordered; few = omega (arith, g.few) }

pub kept-complete : (n : ℕ) {rs : List Range} → All Ordered rs → n + length rs ≤ most_items → ranges_kept n rs ≡ good tt
unfolding ranges_kept
kept-complete n all_nil h = refl
kept-complete n (all_cons {a = r} {l = rs} o os) h =
    let t : (ltb r.last r.first || leb most_items n) ≡ false = rw (le-ltb r.last r.first o, lt-leb most_items n (omega arith)) in
    pass _ _ _ _ t (kept-complete (suc n) os (omega arith))

-- the first bad range, with n ranges before these
pub record BadFrom (n : ℕ) (rs : List Range) (p : ℕ) : Type 0 where
  pub before : List Range
  pub range : Range
  pub behind : List Range
  pub split : rs ≡ before ++ range ∷ behind
  pub ordered : All Ordered before
  pub few : n + length before ≤ most_items
  pub fault : (Ordered range → ⊥) ⊎ (n + length before ≡ most_items)
  pub index : n + length before ≡ p

module _ (n : ℕ) (r : Range) (rs : List Range) where
  bad-here : n ≤ most_items → (ltb r.last r.first || leb most_items n) ≡ true → BadFrom n (r ∷ rs) n
  bad-here h t = record { before = []; range = r; behind = rs; split = refl; ordered = all_nil; few = omega arith; fault = rw add-zero (go (ltb r.last r.first) refl); index = add-zero n }
    where
      go : (b : Bool) → ltb r.last r.first ≡ b → (Ordered r → ⊥) ⊎ (n ≡ most_items)
      go true e = inl (λ o. omega (arith, ltb-true r.last r.first e))
      go false e = inr (omega (arith, leb-true most_items n (or_false _ (leb most_items n) t e)))

  bad-behind : {p : ℕ} → Ordered r → BadFrom (suc n) rs p → BadFrom n (r ∷ rs) p
  bad-behind o b = record {
    before = r ∷ b.before;
    range = b.range;
    behind = b.behind;
    split = ap (λ (l : List Range). r ∷ l) b.split;
    ordered = all_cons o b.ordered;
    few = omega (arith, b.few);
    fault = ⊎_elim (λ g. inl g) (λ g. inr (omega arith)) b.fault;
    index = omega (arith, b.index);
  }

pub kept-bad : (n : ℕ) (rs : List Range) {m p : ℕ} → n ≤ most_items → ranges_kept n rs ≡ bad m p → (TEXT ≡ m) × BadFrom n rs p
unfolding ranges_kept
kept-bad n [] h e = absurd (good≢bad (sym e))
kept-bad n (r ∷ rs) {m} {p} h e = ⊎_elim
    (λ z. (z.1, subst (BadFrom n (r ∷ rs)) z.2 (bad-here n r rs h z.0)))
    (λ z. let (a, b) = neither (ltb r.last r.first) (leb most_items n) z.0 in
    let q = kept-bad (suc n) rs (omega (arith, leb-false most_items n b)) z.1 in (q.0, bad-behind n r rs (ltb-false _ _ a) q.1))
    (refused-at _ _ _ _ e)

-- and the other way: a bad range behind some that are ordered is where they are refused
pub bad-kept : (n : ℕ) {before : List Range} (r : Range) (behind : List Range) → All Ordered before → n + length before ≤ most_items → (Ordered r → ⊥) ⊎ (n + length before ≡ most_items)
    → ranges_kept n (before ++ r ∷ behind) ≡ bad TEXT (n + length before)
unfolding ranges_kept
bad-kept n r behind all_nil h f = rw add-zero (halt _ _ _ _ (go (ltb r.last r.first) refl (rw add-zero at f)))
  where
    go : (b : Bool) → ltb r.last r.first ≡ b → (Ordered r → ⊥) ⊎ (n ≡ most_items) → (ltb r.last r.first || leb most_items n) ≡ true
    go true e g = rw e
    go false e (inl g) = absurd (g (ltb-false _ _ e))
    go false e (inr g) = rw e (le-leb most_items n (omega arith))
bad-kept n r behind (all_cons {a = q} {l = before} o os) h f =
    let t : (ltb q.last q.first || leb most_items n) ≡ false = rw (le-ltb q.last q.first o, lt-leb most_items n (omega arith)) in
    let e : n + suc (length before) ≡ suc n + length before = omega arith in
    pass _ _ _ _ t (rw e (bad-kept (suc n) r behind os (omega arith) (⊎_elim (λ z. inl z) (λ z. inr (omega arith)) f)))

-- the line of some ranges, refused and good
pub line_of-bad : (rs : List Range) {m p : ℕ} → 1 ≤ length rs → ranges_kept 0 rs ≡ bad m p → line_of rs ≡ bad m p
unfolding line_of
line_of-bad [] h e = absurd (omega arith)
line_of-bad (r ∷ rs) h e = stop_before _ _ e

pub line_of-good : (rs : List Range) → 1 ≤ length rs → ranges_kept 0 rs ≡ good tt → line_of rs ≡ good (line_text rs)
unfolding line_of
line_of-good [] h e = absurd (omega arith)
line_of-good (r ∷ rs) h e = after _ _ e refl

-- a line is short
pub item-short : (r : Range) → RangeFits r → length (item_text r) ≤ 21
item-short r f = go (eqb r.first r.last) refl
  where
    go : (b : Bool) → eqb r.first r.last ≡ b → length (item_text r) ≤ 21
    go true e = rw (text-single r (eqb-true _ _ e)) (omega (arith, (plain r.first f.first).id.most))
    go false e = rw (text-range r (eqb-false _ _ e), length-append) (omega (arith, (plain r.first f.first).id.most, (plain r.last f.last).id.most))

pub line-short : (r : Range) {rs : List Range} → RangeFits r → All RangeFits rs → length (line_text (r ∷ rs)) + 1 ≤ 22 * length (r ∷ rs)
unfolding line_text
line-short r f all_nil = omega (arith, item-short r f)
line-short r f (all_cons {a = q} {l = rs} g fs) =
    let i = line-short q g fs in
    let l : length (item_text r ++ comma ∷ line_text (q ∷ rs)) ≡ length (item_text r) + length (comma ∷ line_text (q ∷ rs)) = length-append (item_text r) (comma ∷ line_text (q ∷ rs)) in
    omega (arith, item-short r f)

-- no item that says a range has fewer bytes than the one that is written
id_shortest : (d : List ℕ) → IsId d → length (id_text (decimal 0 d)) ≤ length d
id_shortest [] i = absurd (omega (arith, i.least))
id_shortest (x ∷ d) i = spelled-short 10 (length d) _ (rw zero-add at (decimal-below 0 0 i.digits (omega arith)))

range_shortest : (r : Range) (s t : List ℕ) → length (id_text r.first) ≤ length s → length (id_text r.last) ≤ length t → length (item_text r) ≤ length (s ++ hyphen ∷ t)
range_shortest r s t a b = go (eqb r.first r.last) refl
  where
    go : (c : Bool) → eqb r.first r.last ≡ c → length (item_text r) ≤ length (s ++ hyphen ∷ t)
    go true e = rw (text-single r (eqb-true _ _ e), length-append s (hyphen ∷ t)) (omega arith)
    go false e = rw (text-range r (eqb-false _ _ e), length-append (id_text r.first) (hyphen ∷ id_text r.last), length-append s (hyphen ∷ t)) (omega arith)

item_shortest : {p : ℕ} {s : List ℕ} {i : Item} → IsItem p s i → length (item_text (range_of i)) ≤ length s
item_shortest (single {s = s} j) = rw (text-single (record { first = decimal 0 s; last = decimal 0 s }) refl) (id_shortest s j)
item_shortest (range {s = s} {t = t} j k) = range_shortest (record { first = decimal 0 s; last = decimal 0 t }) s t (id_shortest s j) (id_shortest t k)

line-longer : (r : Range) (rs : List Range) → length (line_text (r ∷ rs)) ≤ length (item_text r) + 1 + length (line_text rs)
unfolding line_text
line-longer r [] = omega arith
line-longer r (q ∷ rs) = rw length-append (omega arith)

pub line_shortest : {p : ℕ} {s : List ℕ} {is : List Item} → IsList p s is → length (line_text (map range_of is)) ≤ length s
unfolding line_text
line_shortest (alone it) = item_shortest it
line_shortest (followed {s = s} {t = t} {i = i} {is = is} it l) = rw (length-append s (comma ∷ t)) (omega (arith, line-longer (range_of i) (map range_of is), item_shortest it, line_shortest l))
