-- An option run is its options, one behind the other: what 0x86 at its end changes, and what is left without it.
use Prim.Native.Nat.{ℕ, suc, ◌+◌, ◌≤◌, ◌<◌}
use mathlib.Core.Path.{◌≡◌, refl, sym, ap, ◌∙◌}
use mathlib.Core.Bool.{Bool, true, false}
use mathlib.Core.List.{List, [], ◌∷◌, ◌++◌, map, append_assoc}
use mathlib.Core.Option.{Option, none, some}
use native.Mathlib.Omega.{arith}
use borrow.Author.Tests.{eqb-true, eqb-false, ne_eqb}
use lib.Dec.{eqb}
use lib.ListN.{length, length-append, get_or-append}
use Rattle.rules.specs.Outcome.{good}
use Rattle.rules.specs.Bytes.{Bytes, at, word, join}
use Rattle.rules.specs.Items.{Fills, none, more, count}
use Rattle.rules.specs.Options.{length_allowed, option_size, option_fits, option_run_from, count_said, kind_of, WholeOption}
use Rattle.rules.specs.Claims.{Some, here, there}
use Rattle.rules.proofs.Outcomes.{passed}
use Rattle.rules.proofs.Numbers.{word-put32, bytes_left, bytes-right, bytes-append}
use Rattle.rules.proofs.Run.{same, run_moved}
use Rattle.rules.proofs.Wholes.{whole-run-by, said-by}
use Rattle.fragments.specs.Fragment.{parts, options_of, offset_option, is_offset, offset_in, without_offset}
use Rattle.fragments.specs.Cutting.{no_offset}
use Rattle.fragments.proofs.Parts.{parts-front}

-- the options, one behind the other, are the run
abbrev pub Run : List (List ℕ) → List ℕ → Type 0
Run cs o = Fills WholeOption cs o

module _ (c : List ℕ) (h : WholeOption c) where
  pub opt_least : 1 ≤ length c
  opt_least = go c h.kind
    where
      go : (l : List ℕ) → 0 < at l 0 → 1 ≤ length l
      go [] z = absurd (omega arith)
      go (x ∷ l) z = omega arith

  -- an option in front of other bytes is as long
  pub front-size : (t : List ℕ) → option_size (c ++ t) ≡ length c
  front-size t =
      let s = same c (c ++ t) h.fits (get_or-append c t 0 0 opt_least) (λ z. get_or-append c t 0 1 (omega (arith, h.whole))) (omega (arith, h.whole, length-append c t)) in
      s.size ∙ sym h.whole

  pub opt_part : (t : List ℕ) → options_of (c ++ t) ≡ c ∷ options_of t
  opt_part t = parts-front option_size c t opt_least (front-size t)

-- options that make up a run are its options
pub run-options : {cs : List (List ℕ)} {o : List ℕ} → Run cs o → options_of o ≡ cs
unfolding parts
run-options none = refl
run-options (more {c = c} {s = o} h r) = rw (opt_part c h o, run-options r)

-- at most one of them is 0x86, and at most one 0x87
pub record Once (cs : List (List ℕ)) : Type 0 where
  pub offset : count 0x86 (map kind_of cs) ≤ 1
  pub packages : count 0x87 (map kind_of cs) ≤ 1

pub run-whole : {cs : List (List ℕ)} {o : List ℕ} → Run cs o → Once cs → (p : ℕ) → option_run_from [] 0 p 0 o ≡ good (length o)
run-whole {cs} {o} r u p = run_moved [] 0 0 p 0 o ((whole-run-by o).1 (cs, r, u.offset, u.packages))

-- a run of whole options is made up of options
pub made_of : (o : List ℕ) → option_run_from [] 0 0 0 o ≡ good (length o) → Run (options_of o) o
made_of o e = let (cs, r, a, b) = (whole-run-by o).0 e in rw (run-options r) r

pub once_of : (o : List ℕ) → option_run_from [] 0 0 0 o ≡ good (length o) → Once (options_of o)
once_of o e = let (cs, r, a, b) = (whole-run-by o).0 e in rw (run-options r) (record { offset = a; packages = b })

-- ---- 0x86 behind a run

pub offset_opt : (x : ℕ) → WholeOption (offset_option x)
unfolding option_fits option_size length_allowed
offset_opt x = record { kind = omega arith; fits = refl; whole = refl }

pub offset-run : {cs : List (List ℕ)} {o : List ℕ} (x : ℕ) → Run cs o → Run (cs ++ (offset_option x ∷ [])) (o ++ offset_option x)
offset-run x none = more (offset_opt x) none
offset-run x (more {c = c} {s = o} h r) = rw append_assoc (more h (offset-run x r))

-- it is the only one behind options without 0x86
offset-one : (cs : List (List ℕ)) (x p : ℕ) → no_offset p cs ≡ good tt → count 0x86 (map kind_of (cs ++ (offset_option x ∷ []))) ≡ 1
unfolding no_offset is_offset count
offset-one [] x p e = refl
offset-one (c ∷ cs) x p e =
    let (t, e) = passed _ _ _ _ e in
    rw (ne_eqb 0x86 (at c 0) (λ z. eqb-false (at c 0) 0x86 t (sym z)), count) (offset-one cs x (p + length c) e)

-- and no 0x87
packages_same : (cs : List (List ℕ)) (x : ℕ) → count 0x87 (map kind_of (cs ++ (offset_option x ∷ []))) ≡ count 0x87 (map kind_of cs)
unfolding count
packages_same [] x = refl
packages_same (c ∷ cs) x = go (eqb 0x87 (at c 0)) (packages_same cs x)
  where
    go : {m n : ℕ} (b : Bool) → m ≡ n → ◌≡◌ {A = ℕ} (elim b [ true ↦ suc m | false ↦ m ]) (elim b [ true ↦ suc n | false ↦ n ])
    go true e = ap suc e
    go false e = e

pub offset-once : (cs : List (List ℕ)) (x p : ℕ) → no_offset p cs ≡ good tt → Once cs → Once (cs ++ (offset_option x ∷ []))
offset-once cs x p e u = record { offset = omega (arith, offset-one cs x p e); packages = omega (arith, packages_same cs x, u.packages) }

pub only-offset : (x : ℕ) → Once (offset_option x ∷ [])
unfolding no_offset count
only-offset x = offset-once [] x 0 refl (record { offset = omega arith; packages = omega arith })

-- a run without 0x86, 0x86 behind it: its offset is read, and without it the run is as before
pub offset-behind : (cs : List (List ℕ)) (x : ℕ) → x < 4294967296 → (p : ℕ) → no_offset p cs ≡ good tt → offset_in (cs ++ (offset_option x ∷ [])) ≡ some x
unfolding no_offset offset_in is_offset word
offset-behind [] x h p e = ap some (word-put32 x [] h)
offset-behind (c ∷ cs) x h p e =
    let (t, e) = passed _ _ _ _ e in
    rw (t, offset_in) (offset-behind cs x h (p + length c) e)

pub offset-without : (cs : List (List ℕ)) (x p : ℕ) → no_offset p cs ≡ good tt → without_offset (cs ++ (offset_option x ∷ [])) ≡ join cs
unfolding no_offset without_offset is_offset
offset-without [] x p e = refl
offset-without (c ∷ cs) x p e =
    let (t, e) = passed _ _ _ _ e in
    rw (t, without_offset) (rw (offset-without cs x (p + length c) e))

pub run_join : {cs : List (List ℕ)} {o : List ℕ} → Run cs o → join cs ≡ o
run_join none = refl
run_join (more {c = c} h r) = rw (run_join r)

-- ---- a run without its 0x86

-- the options that are kept
unfoldable pub others : List (List ℕ) → List (List ℕ)
others [] = []
others (c ∷ cs) = elim (is_offset c) [ true ↦ others cs | false ↦ c ∷ others cs ]

one_less : {m n : ℕ} (b : Bool) → m ≤ n → m ≤ elim b [ true ↦ suc n | false ↦ n ]
one_less true h = omega arith
one_less false h = h

both-more : {m n : ℕ} (b : Bool) → m ≤ n → elim b [ true ↦ suc m | false ↦ m ] ≤ elim b [ true ↦ suc n | false ↦ n ]
both-more true h = omega arith
both-more false h = h

pub record Less (cs : List (List ℕ)) (o : List ℕ) : Type 0 where
  pub run : Run (others cs) (without_offset cs)
  pub fewer : (k : ℕ) → count k (map kind_of (others cs)) ≤ count k (map kind_of cs)
  pub short : length (without_offset cs) ≤ length o
  pub bytes : Bytes o → Bytes (without_offset cs)

pub run-without : {cs : List (List ℕ)} {o : List ℕ} → Run cs o → Less cs o
unfolding without_offset others count
run-without none = record { run = none; fewer = λ k. omega arith; short = omega arith; bytes = λ b. b }
run-without (more {c = c} {cs = cs} {s = o} h r) = go (is_offset c) refl (run-without r)
  where
    go : (b : Bool) → is_offset c ≡ b → Less cs o → Less (c ∷ cs) (c ++ o)
    go true t l = record {
      run = rw (t, without_offset, others) l.run;
      fewer = λ k. rw (t, others) (one_less (eqb k (at c 0)) (l.fewer k));
      short = rw (t, without_offset) (omega (arith, l.short, length-append c o));
      bytes = λ b. rw (t, without_offset) (l.bytes (bytes-right c o b));
    }
    go false t l = record {
      run = rw (t, without_offset, others) (more h l.run);
      fewer = λ k. rw (t, others) (both-more (eqb k (at c 0)) (l.fewer k));
      short = rw (t, without_offset) (omega (arith, l.short, length-append c o, length-append c (without_offset cs)));
      bytes = λ b. rw (t, without_offset) (bytes-append c _ (bytes_left c o b) (l.bytes (bytes-right c o b)));
    }

pub once-less : {cs : List (List ℕ)} {o : List ℕ} → Less cs o → Once cs → Once (others cs)
once-less l u = record { offset = omega (arith, l.fewer 0x86, u.offset); packages = omega (arith, l.fewer 0x87, u.packages) }

-- c is an option 0x87 that says n
abbrev Says : ℕ → List ℕ → Type 0
Says n c = (kind_of c ≡ 0x87) × (word c 2 ≡ n)

behind_too : (n : ℕ) (c : List ℕ) (l m : List (List ℕ)) → (Some (Says n) l → Some (Says n) m) → Some (Says n) (c ∷ l) → Some (Says n) (c ∷ m)
behind_too n c l m f (here e) = here e
behind_too n c l m f (there w) = there (f w)

said-others : (n : ℕ) (cs : List (List ℕ)) → Some (Says n) (others cs) → Some (Says n) cs
unfolding others
said-others n [] w = w
said-others n (c ∷ cs) w = go (is_offset c) (λ v. said-others n cs v) w
  where
    go : (b : Bool) → (Some (Says n) (others cs) → Some (Says n) cs) → Some (Says n) (elim b [ true ↦ others cs | false ↦ c ∷ others cs ]) → Some (Says n) (c ∷ cs)
    go true rest w = there (rest w)
    go false rest w = behind_too n c (others cs) cs rest w

-- 0x86 is not 0x87
not_offset : (n : ℕ) (c : List ℕ) (cs : List (List ℕ)) → is_offset c ≡ true → Some (Says n) (c ∷ cs) → Some (Says n) cs
unfolding is_offset
not_offset n c cs t (here e) = absurd (omega (arith, eqb-true (at c 0) 0x86 t, e.0))
not_offset n c cs t (there w) = w

others_say : (n : ℕ) (cs : List (List ℕ)) → Some (Says n) cs → Some (Says n) (others cs)
unfolding others
others_say n [] w = w
others_say n (c ∷ cs) w = go (is_offset c) refl (λ v. others_say n cs v)
  where
    go : (b : Bool) → is_offset c ≡ b → (Some (Says n) cs → Some (Says n) (others cs)) → Some (Says n) (elim b [ true ↦ others cs | false ↦ c ∷ others cs ])
    go true t rest = rest (not_offset n c cs t w)
    go false t rest = behind_too n c cs (others cs) rest w

same_option : (a b : Option ℕ) → ((n : ℕ) → a ≡ some n → b ≡ some n) → ((n : ℕ) → b ≡ some n → a ≡ some n) → a ≡ b
same_option none none f g = refl
same_option none (some y) f g = g y refl
same_option (some x) b f g = sym (f x refl)

-- a run without its 0x86 says the same number of packages
pub said-without : {cs : List (List ℕ)} {o : List ℕ} → Run cs o → Once cs → count_said (without_offset cs) ≡ count_said o
said-without {cs} {o} r u =
    let l = run-without r in
    let few = said-by l.run (once-less l u).packages in
    let all = said-by r u.packages in
    same_option _ _ (λ n e. (all n).1 (said-others n cs ((few n).0 e))) (λ n e. (few n).1 (others_say n cs ((all n).0 e)))
