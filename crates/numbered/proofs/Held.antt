-- Ids and numbers in their places: what one more entry does to them.
use Prim.Native.Nat.{ℕ, zero, suc, ◌+◌, ◌%◌, ◌^◌, ◌≤◌, ◌<◌}
use mathlib.Core.Path.{◌≡◌, refl, ap, sym, ◌∙◌}
use mathlib.Core.Logic.{◌⊎◌, inl, inr, ⊎_elim}
use mathlib.Core.Bool.{Bool, true, false}
use mathlib.Core.List.{List, [], ◌∷◌, ◌++◌, map}
use native.Mathlib.Nat.{zero-add}
use native.Mathlib.Omega.{arith}
use borrow.Author.Tests.{eqb-true, eqb-false, eq-eqb, ne_eqb}
use lib.Dec.{eqb}
use lib.ListN.{length, get_or, take, drop, set, length-append, length-set, get_or-append, length-map}
use lib.Seq.{sets, sets-eq, length-sets, length-take-le, set-append_left, set-get_or}
use Rattle.rules.specs.Items.{count}
use Rattle.rules.specs.Copy.{Entry}
use Rattle.rules.proofs.Growing.{map-append}
use Rattle.rules.proofs.Kept.{take-sets}
use Rattle.rules.proofs.Loops.{sets-sets}
use Rattle.numbered.specs.Numbering.{Running, next_number, counted_on, numbers_after, id_of, next_of}
use Rattle.numbered.specs.Parts.{Place, held_with, number_at, Ready}
use Rattle.numbered.proofs.Seeking.{count-append, count_same, count-other, count-some}
use Rattle.numbered.proofs.Numbers.{next-hit, next-miss, counted-hit, counted-miss, count-cons}

module _ (x : ℕ) where
  -- ---- an id that is held

  record At (ns : List Running) (place : ℕ) : Type 0 where
    ids : map id_of (counted_on x ns) ≡ map id_of ns
    next : map next_of (counted_on x ns) ≡ set (map next_of ns) place ((next_number x ns + 1) % 2 ^ 32)
    number : next_number x ns ≡ get_or (map next_of ns) place 0

  at_first : (n : Running) (ns : List Running) → n.id ≡ x → At (n ∷ ns) 0
  at_first n ns e =
      let t = eq-eqb x n.id (sym e) in
      record {
        ids = rw (counted-hit x n ns t);
        next = rw (counted-hit x n ns t, next-hit x n ns t);
        number = next-hit x n ns t;
      }

  at-later : (n : Running) (ns : List Running) (place : ℕ) → (x ≡ n.id → ⊥) → At ns place → At (n ∷ ns) (suc place)
  at-later n ns place h a =
      let t = ne_eqb x n.id h in
      record {
        ids = rw (counted-miss x n ns t) (ap (λ (l : List ℕ). n.id ∷ l) a.ids);
        next = rw (counted-miss x n ns t, next-miss x n ns t) (ap (λ (l : List ℕ). n.next ∷ l) a.next);
        number = next-miss x n ns t ∙ a.number;
      }

  counted-at : (ns : List Running) (place : ℕ) → count x (map id_of ns) ≤ 1 → place < length ns → get_or (map id_of ns) place 0 ≡ x → At ns place
  counted-at [] place c l e = absurd (omega arith)
  counted-at (n ∷ ns) zero c l e = at_first n ns e
  counted-at (n ∷ ns) (suc place) c l e =
      at-later n ns place
      (λ z. omega (arith, count-cons x n.id (map id_of ns), count_same x n.id z, count-some x (map id_of ns) place (omega (arith, length-map ns id_of)) e))
      (counted-at ns place (omega (arith, count-cons x n.id (map id_of ns))) (omega arith) e)

  -- ---- a new id

  pub record New (ns : List Running) : Type 0 where
    pub behind : counted_on x ns ≡ ns ++ (record { id = x; next = 1 } ∷ [])
    pub number : next_number x ns ≡ 0

  new_first : New []
  unfolding counted_on next_number
  new_first = record { behind = refl; number = refl }

  pub counted_new : (ns : List Running) → count x (map id_of ns) ≡ 0 → New ns
  counted_new [] c = new_first
  counted_new (n ∷ ns) c =
      let h : (x ≡ n.id → ⊥) = λ z. omega (arith, count-cons x n.id (map id_of ns), count_same x n.id z) in
      let t = ne_eqb x n.id h in
      let w = counted_new ns (omega (arith, count-cons x n.id (map id_of ns))) in
      record { behind = counted-miss x n ns t ∙ ap (λ (l : List Running). n ∷ l) w.behind; number = next-miss x n ns t ∙ w.number }

  -- ---- no id stands twice

  pub counted-ids : (ns : List Running) → (map id_of (counted_on x ns) ≡ map id_of ns) ⊎ ((count x (map id_of ns) ≡ 0) × (map id_of (counted_on x ns) ≡ map id_of ns ++ (x ∷ [])))
  unfolding counted_on count
  counted-ids [] = inr (refl, refl)
  counted-ids (n ∷ ns) = go (eqb x n.id) refl (counted-ids ns)
    where
      go : (b : Bool) → eqb x n.id ≡ b → (map id_of (counted_on x ns) ≡ map id_of ns) ⊎ ((count x (map id_of ns) ≡ 0) × (map id_of (counted_on x ns) ≡ map id_of ns ++ (x ∷ [])))
          → (map id_of (counted_on x (n ∷ ns)) ≡ map id_of (n ∷ ns)) ⊎ ((count x (map id_of (n ∷ ns)) ≡ 0) × (map id_of (counted_on x (n ∷ ns)) ≡ map id_of (n ∷ ns) ++ (x ∷ [])))
      go true t r = inl (ap (map id_of) (counted-hit x n ns t))
      go false t r = ⊎_elim
          (λ e. inl (ap (map id_of) (counted-miss x n ns t) ∙ ap (λ (l : List ℕ). n.id ∷ l) e))
          (λ e. inr (omega (arith, count-cons x n.id (map id_of ns), count-other x n.id (eqb-false x n.id t), e.0), ap (map id_of) (counted-miss x n ns t) ∙ ap (λ (l : List ℕ). n.id ∷ l) e.1))
          r

  pub once-counted : (ns : List Running) → ((y : ℕ) → count y (map id_of ns) ≤ 1) → (y : ℕ) → count y (map id_of (counted_on x ns)) ≤ 1
  once-counted ns once y = ⊎_elim (λ e. rw e (once y)) (λ e. rw e.1 (more e.0 (eqb y x) refl)) (counted-ids ns)
    where
      more : count x (map id_of ns) ≡ 0 → (b : Bool) → eqb y x ≡ b → count y (map id_of ns ++ (x ∷ [])) ≤ 1
      more z true t =
          let e = eqb-true y x t in
          omega (arith, count-append y (map id_of ns) (x ∷ []), count_same y x e, ap (λ (k : ℕ). count k (map id_of ns)) e)
      more z false t = omega (arith, count-append y (map id_of ns) (x ∷ []), count-other y x (eqb-false y x t), once y)

pub once_after : (ns : List Running) (es : List Entry) → ((y : ℕ) → count y (map id_of ns) ≤ 1) → (y : ℕ) → count y (map id_of (numbers_after ns es)) ≤ 1
unfolding numbers_after
once_after ns [] once = once
once_after ns (e ∷ es) once = once_after (counted_on e.id ns) es (once-counted e.id ns once)

-- ---- a store among those of a run

set_in_sets : (b vs : List ℕ) (i v : ℕ) → i < length vs → length vs ≤ length b → set (sets b 0 vs) i v ≡ sets b 0 (set vs i v)
set_in_sets b vs i v l h =
    let e : sets b 0 vs ≡ vs ++ drop (0 + length vs) b = sets-eq vs b 0 (omega arith) in
    let f : sets b 0 (set vs i v) ≡ set vs i v ++ drop (0 + length (set vs i v)) b = sets-eq (set vs i v) b 0 (omega (arith, length-set vs i v)) in
    ap (λ (s : List ℕ). set s i v) e ∙ set-append_left vs (drop (0 + length vs) b) i v l ∙ ap (λ (k : ℕ). set vs i v ++ drop (0 + k) b) (sym (length-set vs i v)) ∙ sym f

get_d_in_sets : (b vs : List ℕ) (i : ℕ) → i < length vs → length vs ≤ length b → get_or (sets b 0 vs) i 0 ≡ get_or vs i 0
get_d_in_sets b vs i l h =
    ap (λ (s : List ℕ). get_or s i 0) (sets-eq vs b 0 (omega arith)) ∙ get_or-append vs (drop (0 + length vs) b) 0 i l

-- one more behind those stored
set-behind : (b vs : List ℕ) (n v : ℕ) → length vs ≡ n → set (sets b 0 vs) n v ≡ sets b 0 (vs ++ (v ∷ []))
set-behind b vs n v e = ap (λ (k : ℕ). set (sets b 0 vs) k v) (sym e ∙ sym (zero-add (length vs))) ∙ sets-sets vs (v ∷ []) b 0

-- ---- ids and numbers hold the running numbers ns in front of what stood there before

pub record Holds (ids₀ next₀ ids next : List ℕ) (held : ℕ) (ns : List Running) : Type 0 where
  pub ids-are : ids ≡ sets ids₀ 0 (map id_of ns)
  pub next-are : next ≡ sets next₀ 0 (map next_of ns)
  pub held-is : held ≡ length ns
  pub once : (y : ℕ) → count y (map id_of ns) ≤ 1

module _ (ids₀ next₀ ids next : List ℕ) (held : ℕ) (ns : List Running) (inv : Holds ids₀ next₀ ids next held ns)
    (ids-few : length ns ≤ length ids₀) (next-few : length ns ≤ length next₀) where
  pub ids-held : take held ids ≡ map id_of ns
  ids-held = rw (inv.ids-are, inv.held-is) (ap (λ (k : ℕ). take k (sets ids₀ 0 (map id_of ns))) (sym (length-map ns id_of)) ∙ take-sets ids₀ (map id_of ns) (omega (arith, length-map ns id_of)))

  pub ids-long : length ids ≡ length ids₀
  ids-long = ap length inv.ids-are ∙ length-sets ids₀ 0 (map id_of ns)

  pub next-long : length next ≡ length next₀
  next-long = ap length inv.next-are ∙ length-sets next₀ 0 (map next_of ns)

  -- the id x has a place
  module _ (x place : ℕ) (spot : Place (take held ids) x place) (ids-room : length (counted_on x ns) ≤ length ids₀) (next-room : length (counted_on x ns) ≤ length next₀) where
    pub record Settled : Type 0 where
      pub number : number_at next place held ≡ next_number x ns
      pub holds : Holds ids₀ next₀ (set ids place x) (set next place ((number_at next place held + 1) % 2 ^ 32)) (held_with held place) (counted_on x ns)

    held-length : length (take held ids) ≡ length ns
    held-length = ap length ids-held ∙ length-map ns id_of

    at_most : place ≤ length ns
    at_most = omega (arith, spot.inside, held-length)

    settled_new : place ≡ held → Settled
    settled_new p =
        let e : place ≡ length ns = p ∙ inv.held-is in
        let c : count x (map id_of ns) ≡ 0 = ap (count x) (sym ids-held) ∙ spot.miss (e ∙ sym held-length) in
        let w = counted_new x ns c in
        let t : eqb place held ≡ true = eq-eqb place held p in
        let n : number_at next place held ≡ 0 = rw t in
        let one : (number_at next place held + 1) % 2 ^ 32 ≡ 1 = rw n in
        record {
          number = n ∙ sym w.number;
          holds = record {
            ids-are = rw (inv.ids-are, e) (set-behind ids₀ (map id_of ns) (length ns) x (length-map ns id_of)
                ∙ ap (sets ids₀ 0) (sym (map-append id_of ns (record { id = x; next = 1 } ∷ [])) ∙ ap (map id_of) (sym w.behind)));
            next-are = rw (one, inv.next-are, e) (set-behind next₀ (map next_of ns) (length ns) 1 (length-map ns next_of)
                ∙ ap (sets next₀ 0) (sym (map-append next_of ns (record { id = x; next = 1 } ∷ [])) ∙ ap (map next_of) (sym w.behind)));
            held-is = rw t (omega (arith, inv.held-is, ap length w.behind, length-append ns (record { id = x; next = 1 } ∷ [])));
            once = once-counted x ns inv.once;
          };
        }

    settled_old : (place ≡ held → ⊥) → Settled
    settled_old h =
        let l : place < length ns = omega (arith, at_most, inv.held-is) in
        let i : get_or (map id_of ns) place 0 ≡ x = ap (λ (s : List ℕ). get_or s place 0) (sym ids-held) ∙ spot.hit (omega (arith, held-length)) in
        let a = counted-at x ns place (inv.once x) l i in
        let t : eqb place held ≡ false = ne_eqb place held h in
        let n : number_at next place held ≡ next_number x ns = rw (t, inv.next-are) (get_d_in_sets next₀ (map next_of ns) place (omega (arith, length-map ns next_of)) (omega (arith, length-map ns next_of)) ∙ sym a.number) in
        let same : set ids place x ≡ ids = ap (set ids place) (sym (ap (λ (s : List ℕ). get_or s place 0) inv.ids-are ∙ get_d_in_sets ids₀ (map id_of ns) place (omega (arith, length-map ns id_of)) (omega (arith, length-map ns id_of)) ∙ i)) ∙ set-get_or ids place 0 in
        record {
          number = n;
          holds = record {
            ids-are = same ∙ inv.ids-are ∙ ap (sets ids₀ 0) (sym a.ids);
            next-are = rw n (ap (λ (s : List ℕ). set s place ((next_number x ns + 1) % 2 ^ 32)) inv.next-are
                ∙ set_in_sets next₀ (map next_of ns) place ((next_number x ns + 1) % 2 ^ 32) (omega (arith, length-map ns next_of)) (omega (arith, length-map ns next_of))
                ∙ ap (sets next₀ 0) (sym a.next));
            held-is = rw t (inv.held-is ∙ sym (length-map ns id_of) ∙ ap length (sym a.ids) ∙ length-map (counted_on x ns) id_of);
            once = once-counted x ns inv.once;
          };
        }

    pub settled : Settled
    settled = go (eqb place held) refl
      where
        go : (b : Bool) → eqb place held ≡ b → Settled
        go true t = settled_new (eqb-true place held t)
        go false t = settled_old (eqb-false place held t)

-- a place that a ready id has is one of the ids and of the numbers
pub room_for_lem : (ids next seen : List ℕ) (held x : ℕ) → Ready ids next seen held x → (place : ℕ) → Place (take held ids) x place → (place < length ids) × (place < length next)
room_for_lem ids next seen held x r place spot = go (eqb place held) refl
  where
    len : length (take held ids) ≡ held
    len = length-take-le held ids r.ids-held

    go : (b : Bool) → eqb place held ≡ b → (place < length ids) × (place < length next)
    go true t =
        let e = eqb-true place held t in
        let c = spot.miss (e ∙ sym len) in
        (omega (arith, e, r.ids-room c), omega (arith, e, r.next-room c))
    go false t =
        let n = eqb-false place held t in
        let l : place < held = omega (arith, spot.inside, len, n) in
        (omega (arith, l, r.ids-held), omega (arith, l, r.next-held))
