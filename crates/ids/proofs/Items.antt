-- How the reading of an item goes, by what stands at the start of the list.
use Prim.Native.Nat.{ℕ, ◌+◌, ◌≤◌}
use mathlib.Core.Path.{◌≡◌, refl, sym, ap, subst, ◌∙◌}
use mathlib.Core.Logic.{◌⊎◌, inl, inr}
use mathlib.Core.Bool.{Bool, true, false}
use mathlib.Core.List.{List, [], ◌∷◌, ◌++◌, append_assoc}
use native.Mathlib.Nat.{add-zero, add_assoc}
use native.Mathlib.Omega.{arith}
use borrow.Author.Tests.{eqb-true}
use lib.Dec.{eqb}
use lib.ListN.{length, drop, length-append}
use lib.Seq.{get_or-append-add, drop-append-add}
use Rattle.rules.specs.Outcome.{good, bad}
use Rattle.rules.specs.Bytes.{at}
use Rattle.rules.specs.Items.{all_nil, all_cons}
use Rattle.refusal.specs.Numbers.{TEXT}
use Rattle.rules.proofs.Outcomes.{step, stop}
use Rattle.ids.specs.Line.{hyphen, decimal, IsId, Item, IsItem, single, range}
use Rattle.ids.specs.Reader.{is_digit, item_behind, item_at}
use Rattle.ids.proofs.Digits.{NoDigit, Behind, id-good, id-bad, IdView, no_id, an_id, id_view}

-- the byte behind d
pub seam : (d u : List ℕ) → at (d ++ u) (length d) ≡ at u 0
seam d u = ap (λ (n : ℕ). at (d ++ u) n) (sym (add-zero (length d))) ∙ get_or-append-add d u 0 0

-- no id
pub item-none : (p : ℕ) (s : List ℕ) → NoDigit s → item_at p s ≡ bad TEXT p
unfolding item_at
item-none p s h = stop _ _ (id-bad p s h)

module _ (p : ℕ) {d : List ℕ} (i : IsId d) where
  -- an item of one id, with no hyphen behind it
  pub item-single : (u : List ℕ) → Behind d u → eqb (at u 0) hyphen ≡ false → item_at p (d ++ u) ≡ good (record { place = p; first = decimal 0 d; last = decimal 0 d }, length d)
  unfolding item_at item_behind
  item-single u h e =
      let z : eqb (at (d ++ u) (length d)) hyphen ≡ false = ap (λ (x : ℕ). eqb x hyphen) (seam d u) ∙ e in
      step _ _ (id-good p u i h) (rw (z, item_behind))

  hyphened : (u : List ℕ) → eqb (at (d ++ hyphen ∷ u) (length d)) hyphen ≡ true
  hyphened u = ap (λ (x : ℕ). eqb x hyphen) (seam d (hyphen ∷ u))

  behind-it : (u : List ℕ) → drop (length d + 1) (d ++ hyphen ∷ u) ≡ u
  behind-it u = drop-append-add d (hyphen ∷ u) 1

  -- a hyphen behind the first id, and no second id
  pub item_open : (u : List ℕ) → NoDigit u → item_at p (d ++ hyphen ∷ u) ≡ bad TEXT (p + length d + 1)
  unfolding item_at item_behind
  item_open u h = step _ _ (id-good p (hyphen ∷ u) i (inr refl)) (rw (hyphened u, item_behind) (stop _ _ (rw (behind-it u) (id-bad (p + length d + 1) u h))))

  -- two ids with a hyphen between
  pub item-range : {e : List ℕ} → IsId e → (u : List ℕ) → Behind e u
      → item_at p (d ++ hyphen ∷ (e ++ u)) ≡ good (record { place = p; first = decimal 0 d; last = decimal 0 e }, length d + 1 + length e)
  unfolding item_at item_behind
  item-range {e} j u h = step _ _ (id-good p (hyphen ∷ (e ++ u)) i (inr refl)) (rw (hyphened (e ++ u), item_behind) (step _ _ (rw (behind-it (e ++ u)) (id-good (p + length d + 1) u j h)) refl))

-- an item of the grammar, in front of what goes on with neither a digit nor a hyphen, is read
pub item-complete : (p : ℕ) {s : List ℕ} {i : Item} (u : List ℕ) → IsItem p s i → NoDigit u → eqb (at u 0) hyphen ≡ false → item_at p (s ++ u) ≡ good (i, length s)
item-complete p u (single j) n h = item-single p j u (inr n) h
item-complete p u (range {s = s} {t = t} j k) n h =
    let e : (s ++ hyphen ∷ t) ++ u ≡ s ++ hyphen ∷ (t ++ u) = append_assoc s (hyphen ∷ t) u in
    let l : length (s ++ hyphen ∷ t) ≡ length s + 1 + length t = length-append s (hyphen ∷ t) ∙ omega arith in
    rw (e, l) (item-range p j k u (inr n))

pub item-least : {p : ℕ} {s : List ℕ} {i : Item} → IsItem p s i → 1 ≤ length s
item-least (single j) = j.least
item-least (range {s = s} {t = t} j k) = rw length-append (omega arith)

-- what is read at p, and of which bytes a; what follows them matters by its first byte alone
pub record Found (p : ℕ) (s : List ℕ) : Type 0 where
  pub text : List ℕ
  pub rest : List ℕ
  pub item : Item
  pub split : s ≡ text ++ rest
  pub is : IsItem p text item
  pub least : 1 ≤ length text
  pub read : (v : List ℕ) → at v 0 ≡ at rest 0 → item_at p (text ++ v) ≡ good (item, length text)

-- what is not read: with a digit behind the bytes a it would be an item
pub record Lost (p : ℕ) (s : List ℕ) : Type 0 where
  pub text : List ℕ
  pub rest : List ℕ
  pub item : Item
  pub split : s ≡ text ++ rest
  pub goes : IsItem p (text ++ (0x30 ∷ [])) item
  pub read : (v : List ℕ) → at v 0 ≡ at rest 0 → item_at p (text ++ v) ≡ bad TEXT (p + length text)

zero-id : IsId (0x30 ∷ [])
zero-id = record { digits = all_cons {a = 0x30} (record { least = omega arith; most = omega arith }) all_nil; least = omega arith; most = omega arith }

as_digit : (u v : List ℕ) → at v 0 ≡ at u 0 → NoDigit u → NoDigit v
as_digit u v e h = ap is_digit e ∙ h

as_behind : (d u v : List ℕ) → at v 0 ≡ at u 0 → Behind d u → Behind d v
as_behind d u v e (inl l) = inl l
as_behind d u v e (inr h) = inr (as_digit u v e h)

module _ (p : ℕ) where
  -- no id at all
  lost-first : (s : List ℕ) → NoDigit s → Lost p s
  lost-first s h = record {
    text = [];
    rest = s;
    item = record { place = p; first = decimal 0 (0x30 ∷ []); last = decimal 0 (0x30 ∷ []) };
    split = refl;
    goes = single zero-id;
    read = λ v e. item-none p v (as_digit s v e h) ∙ ap (bad TEXT) (sym (add-zero p));
  }

  -- a hyphen, and no second id
  lost-second : {d : List ℕ} (u : List ℕ) → IsId d → NoDigit u → Lost p (d ++ hyphen ∷ u)
  lost-second {d} u i h = record {
    text = d ++ (hyphen ∷ []);
    rest = u;
    item = record { place = p; first = decimal 0 d; last = decimal 0 (0x30 ∷ []) };
    split = sym (append_assoc d (hyphen ∷ []) u);
    goes = rw (append_assoc d (hyphen ∷ []) (0x30 ∷ [])) (range i zero-id);
    read = λ v e. rw (append_assoc d (hyphen ∷ []) v, length-append d (hyphen ∷ [])) (item_open p i v (as_digit u v e h) ∙ ap (bad TEXT) (add_assoc p (length d) 1));
  }

  found-range : {d e : List ℕ} (u : List ℕ) → IsId d → IsId e → Behind e u → Found p (d ++ hyphen ∷ (e ++ u))
  found-range {d} {e} u i j h =
      let l : length (d ++ hyphen ∷ e) ≡ length d + 1 + length e = length-append d (hyphen ∷ e) ∙ omega arith in
      record {
        text = d ++ hyphen ∷ e;
        rest = u;
        item = record { place = p; first = decimal 0 d; last = decimal 0 e };
        split = sym (append_assoc d (hyphen ∷ e) u);
        is = range i j;
        least = omega arith;
        read = λ v q. rw (append_assoc d (hyphen ∷ e) v, l) (item-range p i j v (as_behind e u v q h));
      }

  found-single : {d : List ℕ} (u : List ℕ) → IsId d → Behind d u → eqb (at u 0) hyphen ≡ false → Found p (d ++ u)
  found-single {d} u i h n = record {
    text = d;
    rest = u;
    item = record { place = p; first = decimal 0 d; last = decimal 0 d };
    split = refl;
    is = single i;
    least = i.least;
    read = λ v q. item-single p i v (as_behind d u v q h) (ap (λ (x : ℕ). eqb x hyphen) q ∙ n);
  }

  second : {d : List ℕ} (u : List ℕ) → IsId d → IdView u → Found p (d ++ hyphen ∷ u) ⊎ Lost p (d ++ hyphen ∷ u)
  second u i (no_id h) = inr (lost-second u i h)
  second u i (an_id v j h) = inl (found-range v i j h)

  hyphen_or_not : {d : List ℕ} (u : List ℕ) → IsId d → Behind d u → (b : Bool) → eqb (at u 0) hyphen ≡ b → Found p (d ++ u) ⊎ Lost p (d ++ u)
  hyphen_or_not u i h false e = inl (found-single u i h e)
  hyphen_or_not [] i h true e = absurd (omega (arith, eqb-true 0 hyphen e))
  hyphen_or_not {d} (y ∷ u) i h true e = subst (λ (z : ℕ). Found p (d ++ z ∷ u) ⊎ Lost p (d ++ z ∷ u)) (sym (eqb-true y hyphen e)) (second u i (id_view u))

  first-id : {s : List ℕ} → IdView s → Found p s ⊎ Lost p s
  first-id (no_id h) = inr (lost-first _ h)
  first-id (an_id u i h) = hyphen_or_not u i h (eqb (at u 0) hyphen) refl

  -- at p an item is found, or none
  pub item_view : (s : List ℕ) → Found p s ⊎ Lost p s
  item_view s = first-id (id_view s)
