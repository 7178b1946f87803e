-- The messages that a step takes, one after the other: what the loops up to a quota keep.
use Prim.Native.Nat.{ℕ, zero, suc, ◌+◌, ◌-◌, ◌≤◌, ◌<◌}
use mathlib.Core.Path.{◌≡◌, refl, ap, sym, ◌∙◌}
use mathlib.Core.List.{List, [], ◌∷◌, ◌++◌, append-nil, append_assoc}
use native.Mathlib.Nat.{add-zero, add-suc, suc-add}
use native.Mathlib.Omega.{arith}
use lib.ListN.{length, drop, length-append, length-drop, drop_of_length-le}
use lib.Seq.{drop-drop}
use Rattle.rules.specs.Outcome.{Outcome, good, bad, ◌∷>◌}
use Rattle.rules.proofs.Outcomes.{step, stop}
use Rattle.rules.proofs.Loops.{◌++>◌}
use Rattle.numbered.specs.Quota.{Taken, taken_at, first_items, taken_from}

first-skip : (q n p : ℕ) (s : List ℕ) → first_items taken_at q n p s ≡ first_items taken_at q 0 (p + n) (drop n s)
unfolding first_items
first-skip q zero p s = rw add-zero
first-skip q (suc n) p [] = refl
first-skip q (suc n) p (x ∷ s) = rw (add-suc, ← suc-add) (first-skip q n (suc p) s)

behind : (q n p x : ℕ) (s : List ℕ) → 1 ≤ n → first_items taken_at q (n - 1) (suc p) s ≡ first_items taken_at q 0 (p + n) (drop n (x ∷ s))
behind q zero p x s h = absurd (omega arith)
behind q (suc n) p x s h =
    let e : suc n - 1 ≡ n = omega arith in
    rw (e, add-suc, ← suc-add) (first-skip q n (suc p) s)

first_next : (q p : ℕ) (s : List ℕ) (t : Taken) (n : ℕ) → 1 ≤ length s → 1 ≤ n → taken_at p s ≡ good (t, n) → first_items taken_at (suc q) 0 p s ≡ (t ∷> first_items taken_at q 0 (p + n) (drop n s))
unfolding first_items
first_next q p [] t n l h e = absurd (omega arith)
first_next q p (x ∷ s) t n l h e = step _ _ e (rw (behind q n p x s h))

first_stop : (q p : ℕ) (s : List ℕ) {n r : ℕ} → 1 ≤ length s → taken_at p s ≡ bad n r → first_items taken_at (suc q) 0 p s ≡ bad n r
unfolding first_items
first_stop q p [] l e = absurd (omega arith)
first_stop q p (x ∷ s) l e = stop _ _ e

first-full : (p : ℕ) (s : List ℕ) → first_items taken_at 0 0 p s ≡ good []
unfolding first_items
first-full p [] = refl
first-full p (x ∷ s) = refl

onward : (done : List Taken) (t : Taken) (o : Outcome (List Taken)) → (done ++> (t ∷> o)) ≡ ((done ++ (t ∷ [])) ++> o)
unfolding ◌++>◌ ◌∷>◌
onward done t (good l) = ap good (sym (append_assoc done (t ∷ []) l))
onward done t (bad n p) = refl

nothing-before : (o : Outcome (List Taken)) → o ≡ ([] ++> o)
unfolding ◌++>◌
nothing-before (good l) = refl
nothing-before (bad n q) = refl

nothing-behind : (done : List Taken) → (done ++> good []) ≡ good done
unfolding ◌++>◌
nothing-behind done = ap good (append-nil done)

refused-behind : (done : List Taken) (n r : ℕ) → (done ++> bad n r) ≡ bad n r
unfolding ◌++>◌
refused-behind done n r = refl

module _ (s : List ℕ) (quota : ℕ) where
  -- of the messages within the quota those before index i are done
  abbrev pub Taking : List Taken → ℕ → Type 0
  Taking done i = taken_from s quota ≡ (done ++> first_items taken_at (quota - length done) 0 i (drop i s))

  pub taking_start : Taking [] 0
  unfolding taken_from
  taking_start =
      let e : quota - 0 ≡ quota = omega arith in
      rw e (nothing-before (first_items taken_at quota 0 0 s))

  module _ (done : List Taken) (i : ℕ) (inv : Taking done i) where
    pub taking_end : length s ≤ i → taken_from s quota ≡ good done
    unfolding first_items
    taking_end l = inv ∙ rw (drop_of_length-le s l) (nothing-behind done)

    pub taking_full : length done ≡ quota → taken_from s quota ≡ good done
    taking_full e =
        let z : quota - length done ≡ 0 = omega arith in
        inv ∙ rw (z, first-full i (drop i s)) (nothing-behind done)

    module _ (l : i < length s) (room : length done < quota) where
      pub taking_next : (t : Taken) (n : ℕ) → 1 ≤ n → taken_at i (drop i s) ≡ good (t, n) → Taking (done ++ (t ∷ [])) (i + n)
      taking_next t n h e =
          let z : quota - length done ≡ suc (quota - length (done ++ (t ∷ []))) = omega (arith, length-append done (t ∷ [])) in
          inv ∙ ap (λ (q : ℕ). done ++> first_items taken_at q 0 i (drop i s)) z
          ∙ ap (λ (o : Outcome (List Taken)). done ++> o) (first_next (quota - length (done ++ (t ∷ []))) i (drop i s) t n (omega (arith, length-drop i s)) h e)
          ∙ onward done t _ ∙ rw drop-drop

      pub taking_bad : {n r : ℕ} → taken_at i (drop i s) ≡ bad n r → taken_from s quota ≡ bad n r
      taking_bad {n} {r} e =
          let z : quota - length done ≡ suc (quota - length done - 1) = omega arith in
          inv ∙ ap (λ (q : ℕ). done ++> first_items taken_at q 0 i (drop i s)) z
          ∙ ap (λ (o : Outcome (List Taken)). done ++> o) (first_stop (quota - length done - 1) i (drop i s) (omega (arith, length-drop i s)) e) ∙ refused-behind done n r
