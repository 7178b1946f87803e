-- Options: the sizes that a kind may have, what stands at the start of option bytes, and the loop over them.
use Prim.Native.Nat.{ℕ, suc, ◌+◌, ◌-◌, ◌≤◌, ◌<◌}
use mathlib.Core.Path.{◌≡◌, refl, ap, sym, ◌∙◌}
use mathlib.Core.Logic.{◌⊎◌, inl, inr, ⊎_elim}
use mathlib.Core.Bool.{Bool, true, false, ◌&&◌}
use mathlib.Core.List.{List, [], ◌∷◌}
use mathlib.Core.Option.{Option, none, some}
use native.Mathlib.Nat.{add-zero, pos_of_ne-zero}
use native.Mathlib.Omega.{arith}
use borrow.Author.Tests.{eq-eqb, ne_eqb, eqb-true, eqb-false, leb-true, lt-ltb}
use lib.Dec.{leb, ltb, eqb}
use lib.ListN.{length, take, drop, length-drop, drop_of_length-le}
use lib.Seq.{get_or-drop, drop-drop}
use Rattle.rules.specs.Outcome.{good, bad, OPTION}
use Rattle.rules.specs.Bytes.{at, word}
use Rattle.rules.specs.Items as items
use Rattle.rules.specs.Options.{option_size, option_fits, is_second, option_run_from, count_said_from, count_said}
use Rattle.rules.proofs.Outcomes.{pass, halt}
use Rattle.rules.proofs.Run.{bounds}
use Rattle.rules.proofs.Wholes.{only_two}
use Rattle.rules.proofs.Counts.{said-skip, said_here}
use Rattle.rules.proofs.Loops.{rest, running}
use Rattle.message.specs.Answers.{option_here, second_by, with_kind, unless_second, option_next, option_step}
use Rattle.message.specs.declared.Seen.{Seen}
use Rattle.message.specs.declared.Opt.{Opt}
use Rattle.message.specs.declared.Opt.TheVariants.{Ends, Takes, Bad}

-- ---- what stands at the start

pub record Taking (o : List ℕ) (n : ℕ) : Type 0 where
  pub kind : 0 < at o 0
  pub fits : option_fits o ≡ true
  pub size : n ≡ option_size o

takes : (o : List ℕ) (n : ℕ) → option_here o ≡ Takes n → Taking o n
unfolding option_here
takes o n e = go (eqb (at o 0) 0) refl (option_fits o) refl
  where
    go : (a : Bool) → eqb (at o 0) 0 ≡ a → (b : Bool) → option_fits o ≡ b → Taking o n
    go true s b t =
        let f : Ends ≡ Takes n = rw (s, option_here) at e in
        let z : ◌≡◌ {A = ℕ} 0 1 = cc in absurd (omega arith)
    go false s true t =
        let f : Takes (option_size o) ≡ Takes n = rw (s, t, option_here) at e in
        record { kind = pos_of_ne-zero (eqb-false _ _ s); fits = t; size = cc }
    go false s false t =
        let f : Bad ≡ Takes n = rw (s, t, option_here) at e in
        let z : ◌≡◌ {A = ℕ} 0 1 = cc in absurd (omega arith)

ended_by : (o : List ℕ) → option_here o ≡ Ends → at o 0 ≡ 0
unfolding option_here
ended_by o e = go (eqb (at o 0) 0) refl (option_fits o) refl
  where
    go : (a : Bool) → eqb (at o 0) 0 ≡ a → (b : Bool) → option_fits o ≡ b → at o 0 ≡ 0
    go true s b t = eqb-true _ _ s
    go false s true t =
        let f : Takes (option_size o) ≡ Ends = rw (s, t, option_here) at e in
        let z : ◌≡◌ {A = ℕ} 0 1 = cc in absurd (omega arith)
    go false s false t =
        let f : Bad ≡ Ends = rw (s, t, option_here) at e in
        let z : ◌≡◌ {A = ℕ} 0 1 = cc in absurd (omega arith)

pub record Broken (o : List ℕ) : Type 0 where
  pub kind : eqb (at o 0) 0 ≡ false
  pub fits : option_fits o ≡ false

broken : (o : List ℕ) → option_here o ≡ Bad → Broken o
unfolding option_here
broken o e = go (eqb (at o 0) 0) refl (option_fits o) refl
  where
    go : (a : Bool) → eqb (at o 0) 0 ≡ a → (b : Bool) → option_fits o ≡ b → Broken o
    go true s b t =
        let f : Ends ≡ Bad = rw (s, option_here) at e in
        let z : ◌≡◌ {A = ℕ} 0 1 = cc in absurd (omega arith)
    go false s true t =
        let f : Takes (option_size o) ≡ Bad = rw (s, t, option_here) at e in
        let z : ◌≡◌ {A = ℕ} 0 1 = cc in absurd (omega arith)
    go false s false t = record { kind = s; fits = t }

-- ---- no second 0x86 and no second 0x87

-- what has been seen of the kinds
pub record Told (seen : Seen) (kinds : List ℕ) : Type 0 where
  pub offset : seen.offset ≡ ltb 0 (items.count 0x86 kinds)
  pub count : seen.count ≡ ltb 0 (items.count 0x87 kinds)

pub none_told : Told (record { offset = false; count = false }) []
unfolding items.count
none_told = record { offset = refl; count = refl }

module _ (seen : Seen) (kinds : List ℕ) (t : Told seen kinds) (k : ℕ) where
  second_is : second_by seen k ≡ is_second k kinds
  unfolding second_by is_second
  second_is = go (eqb k 0x86) refl (eqb k 0x87) refl
    where
      go : (a : Bool) → eqb k 0x86 ≡ a → (b : Bool) → eqb k 0x87 ≡ b → second_by seen k ≡ is_second k kinds
      go true e b f = let q : k ≡ 0x86 = eqb-true _ _ e in rw q t.offset
      go false e true f = let q : k ≡ 0x87 = eqb-true _ _ f in rw q t.count
      go false e false f = rw (e, f, second_by) (sym (beside (leb 0x86 k) refl (leb k 0x87) refl))
        where
          beside : (a : Bool) → leb 0x86 k ≡ a → (b : Bool) → leb k 0x87 ≡ b → (a && b && ltb 0 (items.count k kinds)) ≡ false
          beside true g true h =
              let l : 0x86 ≤ k = leb-true _ _ g in
              let u : k ≤ 0x87 = leb-true _ _ h in
              absurd (⊎_elim (λ (z : k ≡ 0x86). eqb-false k 0x86 e z) (λ (z : k ≡ 0x87). eqb-false k 0x87 f z) (only_two k l u))
          beside true g false h = refl
          beside false g true h = refl
          beside false g false h = refl

  pub with-kind : Told (with_kind seen k) (k ∷ kinds)
  unfolding with_kind items.count
  with-kind = go (eqb k 0x86) refl (eqb k 0x87) refl
    where
      go : (a : Bool) → eqb k 0x86 ≡ a → (b : Bool) → eqb k 0x87 ≡ b → Told (with_kind seen k) (k ∷ kinds)
      go true e b f = let q : k ≡ 0x86 = eqb-true _ _ e in rw q (record { offset = sym (lt-ltb 0 (suc (items.count 0x86 kinds)) (omega arith)); count = t.count })
      go false e true f = let q : k ≡ 0x87 = eqb-true _ _ f in rw q (record { offset = t.offset; count = sym (lt-ltb 0 (suc (items.count 0x87 kinds)) (omega arith)) })
      go false e false f =
          let a : eqb 0x86 k ≡ false = ne_eqb 0x86 k (λ z. eqb-false k 0x86 e (sym z)) in
          let b : eqb 0x87 k ≡ false = ne_eqb 0x87 k (λ z. eqb-false k 0x87 f (sym z)) in
          rw (e, f, with_kind) (record { offset = rw (a, items.count) t.offset; count = rw (b, items.count) t.count })

next-takes : (b : Bool) (x : Opt) (n : ℕ) → Takes n ≡ unless_second b x → (b ≡ false) × (x ≡ Takes n)
next-takes true Ends n e = let z : ◌≡◌ {A = ℕ} 0 1 = cc in absurd (omega arith)
next-takes true (Takes m) n e = let z : ◌≡◌ {A = ℕ} 0 1 = cc in absurd (omega arith)
next-takes true Bad n e = let z : ◌≡◌ {A = ℕ} 0 1 = cc in absurd (omega arith)
next-takes false Ends n e = let z : ◌≡◌ {A = ℕ} 0 1 = cc in absurd (omega arith)
next-takes false (Takes m) n e = (refl, sym e)
next-takes false Bad n e = let z : ◌≡◌ {A = ℕ} 0 1 = cc in absurd (omega arith)

next-ends : (b : Bool) (x : Opt) → Ends ≡ unless_second b x → x ≡ Ends
next-ends b Ends e = refl
next-ends true (Takes m) e = let z : ◌≡◌ {A = ℕ} 0 1 = cc in absurd (omega arith)
next-ends false (Takes m) e = sym e
next-ends b Bad e = sym e

next-bad : (b : Bool) (x : Opt) → Bad ≡ unless_second b x → (x ≡ Bad) ⊎ ((b ≡ true) × ((n : ℕ) × (x ≡ Takes n)))
next-bad b Ends e = inl (sym e)
next-bad true (Takes m) e = inr (refl, (m, refl))
next-bad false (Takes m) e = inl (sym e)
next-bad b Bad e = inl refl

-- ---- the loop

-- the option run goes on at index i, behind options of some kinds
pub record Running (p : ℕ) (o : List ℕ) (i : ℕ) (seen : Seen) : Type 0 where
  pub inside : i ≤ length o
  pub kinds : List ℕ
  pub told : Told seen kinds
  pub same : option_run_from [] 0 p 0 o ≡ option_run_from kinds 0 p i (drop i o)

pub start : (p : ℕ) (o : List ℕ) → Running p o 0 (record { offset = false; count = false })
start p o = record { inside = omega arith; kinds = []; told = none_told; same = refl }

run_ends : (kinds : List ℕ) (p n : ℕ) (o : List ℕ) → at o 0 ≡ 0 → option_run_from kinds 0 p n o ≡ good n
unfolding option_run_from
run_ends kinds p n [] e = refl
run_ends kinds p n (x ∷ o) e = rw (eq-eqb x 0 e, option_run_from)

run-bad : (kinds : List ℕ) (p n : ℕ) (o : List ℕ) → 1 ≤ length o → Broken o → option_run_from kinds 0 p n o ≡ bad OPTION (p + n)
unfolding option_run_from
run-bad kinds p n [] l b = absurd (omega arith)
run-bad kinds p n (x ∷ o) l b = rw (b.kind, option_run_from) (halt _ _ _ _ (rw b.fits))

run-second : (kinds : List ℕ) (p n : ℕ) (o : List ℕ) → 0 < at o 0 → option_fits o ≡ true → is_second (at o 0) kinds ≡ true → option_run_from kinds 0 p n o ≡ bad OPTION (p + n)
unfolding option_run_from
run-second kinds p n [] k f e = absurd (omega arith)
run-second kinds p n (x ∷ o) k f e = rw (ne_eqb x 0 (λ z. omega arith), option_run_from) (pass _ _ _ _ (rw f) (halt _ _ _ _ e))

pub record Onward (p : ℕ) (o : List ℕ) (i n : ℕ) (seen : Seen) : Type 0 where
  pub least : 1 ≤ n
  pub running : Running p o (i + n) seen

module _ (p : ℕ) (o : List ℕ) (i : ℕ) (seen : Seen) (r : Running p o i seen) (l : i < length o) where
  first : at (drop i o) 0 ≡ at o i
  first = rw (get_or-drop, add-zero)

  pub next : (n k : ℕ) → k ≡ at o i → Takes n ≡ option_next seen (take (length o - i) (drop i o)) → Onward p o i n (with_kind seen k)
  unfolding option_next
  next n k ek e =
      let (c, x) = next-takes (second_by seen (at (drop i o) 0)) (option_here (drop i o)) n (rw rest at e) in
      let t : Taking (drop i o) n = takes (drop i o) n x in
      let b = bounds (drop i o) (omega (arith, length-drop i o)) t.fits in
      let g : 0 < at o i = omega (arith, t.kind, first) in
      let once : is_second (at o i) r.kinds ≡ false = sym (second_is seen r.kinds r.told (at o i)) ∙ (rw first at c) in
      record {
        least = omega (arith, t.size, b.least);
        running = record {
          inside = omega (arith, t.size, b.most, length-drop i o);
          kinds = at o i ∷ r.kinds;
          told = rw ek (with-kind seen r.kinds r.told (at o i));
          same = rw t.size (r.same ∙ running r.kinds p i o g t.fits once);
        };
      }

  pub ended : Ends ≡ option_next seen (take (length o - i) (drop i o)) → good i ≡ option_run_from [] 0 p 0 o
  unfolding option_next
  ended e = sym (r.same ∙ run_ends r.kinds p i (drop i o) (ended_by (drop i o) (next-ends (second_by seen (at (drop i o) 0)) (option_here (drop i o)) (rw rest at e))))

  pub stopped : Bad ≡ option_next seen (take (length o - i) (drop i o)) → bad OPTION (p + i) ≡ option_run_from [] 0 p 0 o
  unfolding option_next
  stopped e =
      sym (r.same ∙ ⊎_elim
      (λ x. run-bad r.kinds p i (drop i o) (omega (arith, length-drop i o)) (broken (drop i o) x))
      (λ w. let t : Taking (drop i o) w.1.0 = takes (drop i o) w.1.0 w.1.1 in
      run-second r.kinds p i (drop i o) t.kind t.fits (sym (second_is seen r.kinds r.told (at (drop i o) 0)) ∙ w.0))
      (next-bad (second_by seen (at (drop i o) 0)) (option_here (drop i o)) (rw rest at e)))

pub all : (p : ℕ) (o : List ℕ) (i : ℕ) (seen : Seen) → Running p o i seen → length o ≤ i → good i ≡ option_run_from [] 0 p 0 o
unfolding option_run_from
all p o i seen r l = sym (r.same ∙ rw (drop_of_length-le o l))

-- ---- what option 0x87 says

pub least_by : (o : List ℕ) (n : ℕ) → n ≡ option_step o → 1 ≤ n
unfolding option_step
least_by o n e = rw e (omega arith)

-- nothing is said before index i
pub record Silent (o : List ℕ) (i : ℕ) : Type 0 where
  pub same : count_said o ≡ count_said (drop i o)

pub silent-start : (o : List ℕ) → Silent o 0
silent-start o = record { same = refl }

said-step : (s : List ℕ) → 1 ≤ length s → (at s 0 ≡ 0x87 → ⊥) → count_said s ≡ count_said (drop (option_step s) s)
unfolding count_said_from option_step
said-step [] l h = absurd (omega arith)
said-step (x ∷ s) l h = rw (ne_eqb x 0x87 h, count_said_from) (said-skip (option_size (x ∷ s) - 1) s)

module _ (o : List ℕ) (i : ℕ) (r : Silent o i) (l : i < length o) where
  pub silent-next : (n : ℕ) → n ≡ option_step (take (length o - i) (drop i o)) → (at (take (length o - i) (drop i o)) 0 ≡ 0x87 → ⊥) → Silent o (i + n)
  silent-next n e h = record {
    same = r.same ∙ said-step (drop i o) (omega (arith, length-drop i o)) (rw rest at h) ∙ rw (drop-drop, rw rest at e);
  }

  pub said_at : (c : ℕ) → c ≡ word (take (length o - i) (drop i o)) 2 → at (take (length o - i) (drop i o)) 0 ≡ 0x87 → ◌≡◌ {A = Option ℕ} (some c) (count_said o)
  said_at c e h = ap some (rw rest at e) ∙ sym (r.same ∙ said_here (drop i o) (rw rest at h))

pub silent-end : (o : List ℕ) (i : ℕ) → Silent o i → length o ≤ i → ◌≡◌ {A = Option ℕ} none (count_said o)
unfolding count_said_from
silent-end o i r l = sym (r.same ∙ rw (drop_of_length-le o l))
