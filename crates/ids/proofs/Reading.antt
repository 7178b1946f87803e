-- What the two readers answer, item by item.
use Prim.Native.Nat.{ℕ, zero, suc, ◌+◌, ◌-◌, ◌*◌, ◌≤◌, ◌<◌}
use mathlib.Core.Path.{◌≡◌, refl, sym, ap, ◌∙◌}
use mathlib.Core.Bool.{Bool, true, false, not, ◌||◌}
use mathlib.Core.List.{List, [], ◌∷◌, ◌++◌, map, append-nil, append_assoc}
use native.Mathlib.Numerals.{add-one}
use native.Mathlib.Omega.{arith}
use borrow.Author.Tests.{le-ltb, lt-ltb, lt-leb}
use lib.Dec.{leb}
use lib.ListN.{length, take, drop, set, replicate, length-append, length-map, length-set, take-append-drop}
use lib.Seq.{length-take-le, drop-drop, drop-set-lt}
use Rattle.rules.specs.Outcome.{Outcome, good, bad, ◌>>=◌, ◌∷>◌, LARGE}
use Rattle.rules.specs.Bytes.{at}
use Rattle.refusal.specs.Numbers.{TEXT}
use Rattle.rules.proofs.Outcomes.{pass, halt, step, stop, bad_inj, good≢bad}
use Rattle.ids.specs.Line.{Item, comma}
use Rattle.ids.specs.Reader.{Range, most_items, no_range, item_fits, item_at, list_at, ranges_of, id_ranges, handed_out, read_ids}
use Rattle.ids.specs.Claims.{range_of}
use Rattle.ids.specs.Told.{range_in, ranges_in}
use Rattle.ids.specs.Parts.{rest_at, form_of, read_on, fault_at, pair_fits, held_ranges, with_range, Held}
use Rattle.ids.specs.declared.IdRange.{IdRange}
use Rattle.rules.proofs.Growing.{map-append}
use Rattle.ids.proofs.Ends.{many, ranges_more}
use Rattle.ids.proofs.Steps.{rest-none, rest_odd, rest-list, list-broken, list_then}

module _ (done : List Range) where
  -- a broken form is the answer
  pub read-broken : (o : Outcome (List Item)) {n q : ℕ} → o ≡ bad n q → read_on done o ≡ bad n q
  unfolding read_on
  read-broken o e = stop _ _ e

  pub read-end : (o : Outcome (List Item)) → o ≡ good [] → read_on done o ≡ good (handed_out done)
  unfolding read_on ranges_of
  read-end o e = step _ _ e (step _ _ refl (rw append-nil))

  -- an item at fault
  pub read-fault : (i : Item) (o : Outcome (List Item)) → (not (item_fits i) || leb most_items (length done)) ≡ true → read_on done (i ∷> o) ≡ fault_at i.place o
  unfolding read_on fault_at ranges_of ◌∷>◌ ◌>>=◌
  read-fault i (good is) t = stop _ _ (halt _ _ _ _ t)
  read-fault i (bad n q) t = refl

  -- an item that is kept
  module _ (i : Item) (t : (not (item_fits i) || leb most_items (length done)) ≡ false) where
    after-it : (o : Outcome (List Range))
        → ((range_of i ∷> o) >>= λ (rs : List Range). good (handed_out (done ++ rs))) ≡ (o >>= λ (rs : List Range). good (handed_out ((done ++ (range_of i ∷ [])) ++ rs)))
    unfolding ◌∷>◌ ◌>>=◌
    after-it (good rs) = ap (λ (l : List Range). good (handed_out l)) (sym (append_assoc done (range_of i ∷ []) rs))
    after-it (bad n q) = refl

    first-kept : (is : List Item) → ranges_of (length done) (i ∷ is) ≡ (range_of i ∷> ranges_of (suc (length done)) is)
    unfolding ranges_of
    first-kept is = pass _ _ _ _ t refl

    pub read_next : (o : Outcome (List Item)) → read_on done (i ∷> o) ≡ read_on (done ++ (range_of i ∷ [])) o
    unfolding read_on ◌∷>◌ ◌>>=◌
    read_next (bad n q) = refl
    read_next (good is) =
        let l : length (done ++ (range_of i ∷ [])) ≡ suc (length done) = length-append done (range_of i ∷ []) ∙ add-one (length done) in
        rw l (ap (λ (o : Outcome (List Range)). o >>= λ (rs : List Range). good (handed_out (done ++ rs))) (first-kept is) ∙ after-it (ranges_of (suc (length done)) is))

-- what follows an item at fault
pub fault-good : (p : ℕ) (o : Outcome (List Item)) → good tt ≡ form_of o → bad TEXT p ≡ fault_at p o
unfolding form_of fault_at ◌>>=◌
fault-good p (good is) e = refl
fault-good p (bad n q) e = absurd (good≢bad (sym e))

pub fault-bad : (p n q : ℕ) (o : Outcome (List Item)) → bad n q ≡ form_of o → bad n q ≡ fault_at p o
unfolding form_of fault_at ◌>>=◌
fault-bad p n q (good is) e = absurd (good≢bad e)
fault-bad p n q (bad m r) e = let (a, b) = bad_inj e in rw (a, b)

-- ---- the ranges that are held

-- ranges by their ends: those behind the first n, and those that are all zero
ranges-behind : (n m : ℕ) (l : List ℕ) → drop n (map range_in (ranges_in m l)) ≡ map range_in (ranges_in (m - n) (drop (2 * n) l))
unfolding ranges_in
ranges-behind zero m l = let z : m - 0 ≡ m = omega arith in rw z
ranges-behind (suc n) zero l = let z : 0 - suc n ≡ 0 = omega arith in rw z
ranges-behind (suc n) (suc m) l =
    let z : 2 * suc n ≡ 2 + 2 * n = omega arith in
    let w : suc m - suc n ≡ m - n = omega arith in
    rw (z, w, ← drop-drop (2 * n) 2 l) (ranges-behind n m (drop 2 l))

ranges-zero : (m : ℕ) → map range_in (ranges_in m (replicate (2 * m) 0)) ≡ replicate m no_range
unfolding ranges_in
ranges-zero zero = refl
ranges-zero (suc m) = let z : 2 * suc m ≡ suc (suc (2 * m)) = omega arith in rw z (ap (λ (l : List Range). no_range ∷ l) (ranges-zero m))

map-take : (n : ℕ) (l : List IdRange) → take n (map range_in l) ≡ map range_in (take n l)
map-take zero l = refl
map-take (suc n) [] = refl
map-take (suc n) (r ∷ l) = ap (λ (q : List Range). range_in r ∷ q) (map-take n l)

module _ (numbers : List ℕ) (n : ℕ) (held : Held numbers n) where
  abbrev seen : List Range
  seen = take n (held_ranges numbers)

  seen-length : length seen ≡ n
  seen-length = length-take-le n (held_ranges numbers) (omega (arith, length-map (ranges_in 32 numbers) range_in, many 32 numbers, held.few))

  pub held-told : good (held_ranges numbers, n) ≡ good (handed_out seen)
  held-told =
      let m : held_ranges numbers ≡ seen ++ replicate (most_items - length seen) no_range =
      sym (take-append-drop n (held_ranges numbers)) ∙ rw (seen-length, ranges-behind n 32 numbers, held.behind, ranges-zero) in
      rw (← m, seen-length)

  module _ (h : n < 32) (a b : ℕ) where
    pub held_next : Held (with_range numbers n a b) (n + 1)
    held_next =
        let z : 2 * (n + 1) ≡ 2 * n + 2 = omega arith in
        let k : 2 * (most_items - n) ≡ suc (suc (2 * (most_items - (n + 1)))) = omega arith in
        record {
          few = omega arith;
          long = rw (length-set, length-set) held.long;
          behind = rw (z, drop-set-lt (2 * n + 2) (set numbers (2 * n) a) (2 * n + 1) b (omega arith), drop-set-lt (2 * n + 2) numbers (2 * n) a (omega arith), ← drop-drop 2 (2 * n) numbers, held.behind, k);
        }

    seen_next : take (n + 1) (held_ranges (with_range numbers n a b)) ≡ seen ++ (record { first = a; last = b } ∷ [])
    seen_next = rw (map-take, map-take, ranges_more n 32 numbers a b h (omega (arith, held.long))) (map-append range_in (take n (ranges_in 32 numbers)) _)

  -- the item at place p, and what is answered
  module _ (s : List ℕ) (p : ℕ) where
    abbrev asked : Outcome (List Range × ℕ)
    asked = read_on seen (list_at 0 p (drop p s))

    pub item-broken : {m q : ℕ} → item_at p (drop p s) ≡ bad m q → bad m q ≡ asked
    item-broken e = sym (read-broken seen _ (list-broken s p e))

    module _ (a b k : ℕ) (e : item_at p (drop p s) ≡ good (record { place = p; first = a; last = b }, k)) where
      abbrev it : Item
      it = record { place = p; first = a; last = b }

      faulty : (not (item_fits it) || leb most_items n) ≡ true → fault_at p (rest_at (p + k) (drop (p + k) s)) ≡ asked
      faulty t = sym (ap (read_on seen) (list_then s p it k e) ∙ read-fault seen it _ (rw seen-length t))

      pub the_33rd : n ≡ 32 → fault_at p (rest_at (p + k) (drop (p + k) s)) ≡ asked
      the_33rd z = faulty (yes (item_fits it) (rw z))
        where
          yes : (c : Bool) → leb most_items n ≡ true → (not c || leb most_items n) ≡ true
          yes true l = l
          yes false l = refl

      pub unfit : pair_fits a b ≡ false → fault_at p (rest_at (p + k) (drop (p + k) s)) ≡ asked
      unfolding item_fits
      unfit t = faulty (rw t)

      pub item-kept : n < 32 → pair_fits a b ≡ true → read_on (take (n + 1) (held_ranges (with_range numbers n a b))) (rest_at (p + k) (drop (p + k) s)) ≡ asked
      unfolding item_fits
      item-kept h f =
          let t : (not (item_fits it) || leb most_items (length seen)) ≡ false = rw (seen-length, f, lt-leb most_items n h) in
          rw (seen_next h a b) (sym (ap (read_on seen) (list_then s p it k e) ∙ read_next seen it t _))

    -- what follows the last item that was read
    pub line-ended : p ≡ length s → good (held_ranges numbers, n) ≡ read_on seen (rest_at p (drop p s))
    line-ended z = held-told ∙ sym (read-end seen _ (rest-none s p (omega arith)))

    pub no_comma : p < length s → (at s p ≡ comma → ⊥) → bad TEXT p ≡ read_on seen (rest_at p (drop p s))
    no_comma l h = sym (read-broken seen _ (rest_odd s p l h))

    pub a-comma : p < length s → at s p ≡ comma → read_on seen (list_at 0 (p + 1) (drop (p + 1) s)) ≡ read_on seen (rest_at p (drop p s))
    a-comma l h = ap (read_on seen) (sym (rest-list s p l h))

-- ---- what is handed out

bind_twice : {A B C : Type 0} (o : Outcome A) (f : A → Outcome B) (g : B → Outcome C) → ((o >>= f) >>= g) ≡ (o >>= λ (a : A). f a >>= g)
unfolding ◌>>=◌
bind_twice (good a) f g = refl
bind_twice (bad n p) f g = refl

-- a whole line
module _ (s : List ℕ) where
  pub line-large : 65536 < length s → bad LARGE 65536 ≡ read_ids s
  unfolding read_ids id_ranges
  line-large l = sym (stop _ _ (halt _ _ _ _ (lt-ltb 65536 (length s) l)))

  pub line_read : length s ≤ 65536 → read_on [] (list_at 0 0 s) ≡ read_ids s
  unfolding read_ids id_ranges read_on
  line_read l =
      let e : id_ranges s ≡ (list_at 0 0 s >>= ranges_of 0) = pass _ _ _ _ (le-ltb 65536 (length s) l) refl in
      sym (ap (λ (o : Outcome (List Range)). o >>= λ (rs : List Range). good (handed_out rs)) e ∙ bind_twice (list_at 0 0 s) (ranges_of 0) (λ (rs : List Range). good (handed_out rs)))
