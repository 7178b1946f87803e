-- How the reading of a list goes, and that it reads exactly the grammar's lists.
use Prim.Native.Nat.{ℕ, zero, suc, ◌+◌, ◌≤◌, ◌<◌}
use mathlib.Core.Path.{◌≡◌, refl, sym, ap, subst, ◌∙◌}
use mathlib.Core.Logic.{⊎_elim}
use mathlib.Core.Bool.{Bool, true, false}
use mathlib.Core.List.{List, [], ◌∷◌, ◌++◌, append_assoc, append-nil}
use native.Mathlib.Nat.{add-zero, add-suc, suc-add}
use native.Mathlib.Numerals.{add-one}
use native.Mathlib.Omega.{arith}
use borrow.Author.Tests.{eqb-true, eq-eqb, le-leb, lt-leb}
use lib.Dec.{eqb}
use lib.ListN.{length, drop, length-append}
use lib.Seq.{drop-append-add}
use Rattle.rules.specs.Outcome.{Outcome, good, bad, ◌∷>◌}
use Rattle.rules.specs.Bytes.{at}
use Rattle.refusal.specs.Numbers.{TEXT}
use Rattle.rules.proofs.Outcomes.{step, stop, pass, halt, front_of_lem, stop_front}
use Rattle.ids.specs.Line.{comma, Item, IsItem, IsList, alone, followed}
use Rattle.ids.specs.Reader.{item_at, list_at}
use Rattle.ids.proofs.Items.{seam, Found, Lost, item_view, item-complete, item-least}

-- bytes that are passed over are dropped
pub list-skip : (n p : ℕ) (s : List ℕ) → n ≤ length s → list_at n p s ≡ list_at 0 (p + n) (drop n s)
unfolding list_at
list-skip zero p s h = rw add-zero
list-skip (suc n) p [] h = absurd (omega arith)
list-skip (suc n) p (x ∷ s) h = rw (add-suc, ← suc-add) (list-skip n (suc p) s (omega arith))

pub list-none : (p : ℕ) → list_at 0 p [] ≡ bad TEXT p
unfolding list_at
list-none p = refl

module _ (p : ℕ) where
  -- no item
  pub list-bad : (s : List ℕ) {n q : ℕ} → 1 ≤ length s → item_at p s ≡ bad n q → list_at 0 p s ≡ bad n q
  unfolding list_at
  list-bad [] h e = absurd (omega arith)
  list-bad (x ∷ s) h e = stop _ _ e

  module _ (i : Item) (n : ℕ) where
    -- an item alone
    pub list-alone : (s : List ℕ) → 1 ≤ length s → length s ≤ n → item_at p s ≡ good (i, n) → list_at 0 p s ≡ good (i ∷ [])
    unfolding list_at
    list-alone [] h l e = absurd (omega arith)
    list-alone (x ∷ s) h l e = step _ _ e (rw (le-leb (length (x ∷ s)) n l))

    -- an item followed by anything but a comma
    pub list_odd : (s : List ℕ) → n < length s → eqb (at s n) comma ≡ false → item_at p s ≡ good (i, n) → list_at 0 p s ≡ bad TEXT (p + n)
    unfolding list_at
    list_odd [] l c e = absurd (omega arith)
    list_odd (x ∷ s) l c e = step _ _ e (rw (lt-leb (length (x ∷ s)) n l) (halt _ _ _ _ (rw c)))

    -- an item followed by a comma and a list
    pub list-more : (s : List ℕ) → n < length s → eqb (at s n) comma ≡ true → item_at p s ≡ good (i, n) → list_at 0 p s ≡ (i ∷> list_at 0 (p + n + 1) (drop (n + 1) s))
    unfolding list_at
    list-more [] l c e = absurd (omega arith)
    list-more (x ∷ s) l c e =
        let a : p + n + 1 ≡ suc p + n = omega arith in
        let z : list_at n (suc p) s ≡ list_at 0 (p + n + 1) (drop (n + 1) (x ∷ s)) = rw (a, add-one n) (list-skip n (suc p) s (omega arith)) in
        step _ _ e (rw (lt-leb (length (x ∷ s)) n l) (pass _ _ _ _ (rw c) (ap (λ (o : Outcome (List Item)). i ∷> o) z)))

-- a list that breaks the form at q: what is before q goes on to a list, and of what follows the first byte alone matters
pub record Broken (p : ℕ) (s : List ℕ) (q : ℕ) : Type 0 where
  pub text : List ℕ
  pub rest : List ℕ
  pub more : List ℕ
  pub items : List Item
  pub split : s ≡ text ++ rest
  pub place : q ≡ p + length text
  pub goes : IsList p (text ++ more) items
  pub read : (y : ℕ) (t v : List ℕ) → rest ≡ y ∷ t → list_at 0 p (text ++ y ∷ v) ≡ bad TEXT q

pub data ListView (p : ℕ) (s : List ℕ) : Type 0 where
  whole : {is : List Item} → list_at 0 p s ≡ good is → IsList p s is → ListView p s
  broken : {q : ℕ} → list_at 0 p s ≡ bad TEXT q → Broken p s q → ListView p s

long : (a v : List ℕ) (y : ℕ) → length a < length (a ++ y ∷ v)
long a v y = rw length-append (omega arith)

-- no item at p
module _ (p : ℕ) (s : List ℕ) (f : Lost p s) where
  reads_none : (r : List ℕ) → s ≡ f.text ++ r → at r 0 ≡ at f.rest 0 → list_at 0 p s ≡ bad TEXT (p + length f.text)
  reads_none r e h = nonempty s refl
    where
      it : item_at p s ≡ bad TEXT (p + length f.text)
      it = rw e (f.read r h)

      nonempty : (z : List ℕ) → s ≡ z → list_at 0 p s ≡ bad TEXT (p + length f.text)
      nonempty [] z =
          let l : p ≡ p + length f.text = omega (arith, ap length (sym e ∙ z), length-append f.text r) in
          ap (list_at 0 p) z ∙ list-none p ∙ ap (bad TEXT) l
      nonempty (x ∷ l) z = list-bad p s (rw z (omega arith)) it

  unfound : ListView p s
  unfound = broken (reads_none f.rest f.split refl) (record {
    text = f.text;
    rest = f.rest;
    more = 0x30 ∷ [];
    items = f.item ∷ [];
    split = f.split;
    place = refl;
    goes = alone f.goes;
    read = λ y t v e. list-bad p (f.text ++ y ∷ v) (rw length-append (omega arith)) (f.read (y ∷ v) (rw e));
  })

-- an item at p, and what follows it
module _ (p : ℕ) (a : List ℕ) (i : Item) (it : IsItem p a i) (least : 1 ≤ length a) where
  view_alone : item_at p (a ++ []) ≡ good (i, length a) → ListView p (a ++ [])
  view_alone e = whole (list-alone p i (length a) (a ++ []) (rw append-nil least) (rw append-nil (omega arith)) e) (rw append-nil (alone it))

  module _ (y : ℕ) (read : (v : List ℕ) → item_at p (a ++ y ∷ v) ≡ good (i, length a)) where
    odd_again : (v : List ℕ) → eqb y comma ≡ false → list_at 0 p (a ++ y ∷ v) ≡ bad TEXT (p + length a)
    odd_again v c = list_odd p i (length a) (a ++ y ∷ v) (long a v y) (ap (λ (x : ℕ). eqb x comma) (seam a (y ∷ v)) ∙ c) (read v)

    view_odd : (u : List ℕ) → eqb y comma ≡ false → ListView p (a ++ y ∷ u)
    view_odd u c = broken (odd_again u c) (record {
      text = a;
      rest = y ∷ u;
      more = [];
      items = i ∷ [];
      split = refl;
      place = refl;
      goes = rw append-nil (alone it);
      read = λ z t v e. let q : y ≡ z = cc in subst (λ (x : ℕ). list_at 0 p (a ++ x ∷ v) ≡ bad TEXT (p + length a)) q (odd_again v c);
    })

    on : (v : List ℕ) → y ≡ comma → list_at 0 p (a ++ y ∷ v) ≡ (i ∷> list_at 0 (p + length a + 1) v)
    on v c =
        let d : drop (length a + 1) (a ++ y ∷ v) ≡ v = drop-append-add a (y ∷ v) 1 in
        list-more p i (length a) (a ++ y ∷ v) (long a v y) (ap (λ (x : ℕ). eqb x comma) (seam a (y ∷ v)) ∙ eq-eqb y comma c) (read v) ∙ rw d

    view_more : (u : List ℕ) → y ≡ comma → ListView (p + length a + 1) u → ListView p (a ++ y ∷ u)
    view_more u c (whole e l) = whole (on u c ∙ front_of_lem _ _ e) (rw c (followed it l))
    view_more u c (broken e b) = broken (on u c ∙ stop_front _ _ e) (record {
      text = a ++ y ∷ b.text;
      rest = b.rest;
      more = b.more;
      items = i ∷ b.items;
      split = rw (append_assoc a (y ∷ b.text) b.rest) (ap (λ (z : List ℕ). a ++ y ∷ z) b.split);
      place = b.place ∙ rw length-append (omega arith);
      goes = rw (append_assoc a (y ∷ b.text) b.more, c) (followed it b.goes);
      read = λ z t v q. rw (append_assoc a (y ∷ b.text) (z ∷ v)) (on (b.text ++ z ∷ v) c ∙ stop_front _ _ (b.read z t v q));
    })

-- an item at p: how the list goes, if it is known how the lists behind it go
found : (p : ℕ) (s : List ℕ) (f : Found p s) → ((q : ℕ) (u : List ℕ) → length u < length s → ListView q u) → ListView p s
found p s f rec = subst (ListView p) (sym f.split) (behind f.rest refl)
  where
    more : (y : ℕ) (u : List ℕ) → f.rest ≡ y ∷ u → (b : Bool) → eqb y comma ≡ b → ListView p (f.text ++ y ∷ u)
    more y u e false c = view_odd p f.text f.item f.is f.least y (λ v. f.read (y ∷ v) (rw e)) u c
    more y u e true c =
        let l : length u < length s = omega (arith, ap length f.split, ap length e, length-append f.text f.rest) in
        view_more p f.text f.item f.is f.least y (λ v. f.read (y ∷ v) (rw e)) u (eqb-true y comma c) (rec (p + length f.text + 1) u l)

    behind : (r : List ℕ) → f.rest ≡ r → ListView p (f.text ++ r)
    behind [] e = view_alone p f.text f.item f.is f.least (f.read [] (rw e))
    behind (y ∷ u) e = more y u e (eqb y comma) refl

-- every list is read whole, or breaks the form
view_within : (n p : ℕ) (s : List ℕ) → length s < n → ListView p s
view_within zero p s h = absurd (omega arith)
view_within (suc n) p s h = ⊎_elim (λ f. found p s f (λ q u l. view_within n q u (omega arith))) (λ f. unfound p s f) (item_view p s)

pub list_view : (p : ℕ) (s : List ℕ) → ListView p s
list_view p s = view_within (suc (length s)) p s (omega arith)

-- a list of the grammar is read
pub list-complete : {p : ℕ} {s : List ℕ} {is : List Item} → IsList p s is → list_at 0 p s ≡ good is
list-complete (alone {p = p} {s = s} {i = i} it) = list-alone p i (length s) s (item-least it) (omega arith) (rw append-nil at (item-complete p [] it refl refl))
list-complete (followed {p = p} {s = s} {t = t} {i = i} it l) = on p s i it (item-least it) comma (λ v. item-complete p (comma ∷ v) it refl refl) t refl ∙ front_of_lem _ _ (list-complete l)
