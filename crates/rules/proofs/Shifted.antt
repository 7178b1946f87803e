-- What is read further on is read alike, with every refusal's place so much further on.
use Prim.Native.Nat.{ℕ, zero, suc, ◌+◌, ◌-◌}
use mathlib.Core.Path.{◌≡◌, refl, ap, sym, subst, ◌∙◌}
use mathlib.Core.Bool.{Bool, true, false, not}
use mathlib.Core.List.{List, [], ◌∷◌}
use native.Mathlib.Omega.{arith}
use lib.Dec.{eqb}
use Rattle.rules.specs.Outcome.{Outcome, good, bad, refuse, ◌>>◌, ◌>>=◌, ◌∷>◌, OPTION}
use Rattle.rules.specs.Items.{items}
use Rattle.rules.specs.Options.{option_fits, option_size, is_second, option_run_from}
use Rattle.rules.specs.Packages.{piece, cut}
use Rattle.rules.specs.Message.{Head, head, payload_start, payload, checks_one_to_six, option_run_length, checks_eight_and_nine, checks_one_to_nine, checks_one_to_ten, every_check, message}

-- the same outcome, its place c further on
unfoldable pub shifted : {A : Type 0} → ℕ → Outcome A → Outcome A
shifted c (good a) = good a
shifted c (bad n p) = bad n (c + p)

further : (c p n : ℕ) → c + p + n ≡ c + (p + n)
further c p n = omega arith

module _ (c : ℕ) where
  -- ---- chains

  shifted-refuse : (b : Bool) (n p : ℕ) → refuse b n (c + p) ≡ shifted c (refuse b n p)
  unfolding shifted refuse
  shifted-refuse true n p = refl
  shifted-refuse false n p = refl

  shifted-after : {A : Type 0} (a : Outcome (Unit {0})) {a' : Outcome (Unit {0})} (o : Outcome A) {o' : Outcome A} → a' ≡ shifted c a → o' ≡ shifted c o → (a' >> o') ≡ shifted c (a >> o)
  unfolding shifted ◌>>◌
  shifted-after (good tt) o e f = rw e f
  shifted-after (bad n p) o e f = rw e

  shifted_check : {A : Type 0} (b : Bool) (n p : ℕ) (o : Outcome A) {o' : Outcome A} → o' ≡ shifted c o → (refuse b n (c + p) >> o') ≡ shifted c (refuse b n p >> o)
  shifted_check b n p o e = shifted-after (refuse b n p) o (shifted-refuse b n p) e

  pub shifted_step : {A B : Type 0} (o : Outcome A) {o' : Outcome A} (f f' : A → Outcome B) → o' ≡ shifted c o → ((a : A) → f' a ≡ shifted c (f a)) → (o' >>= f') ≡ shifted c (o >>= f)
  unfolding shifted ◌>>=◌
  shifted_step (good a) f f' e g = rw e (g a)
  shifted_step (bad n p) f f' e g = rw e

  shifted-front : {A : Type 0} (a : A) (o : Outcome (List A)) {o' : Outcome (List A)} → o' ≡ shifted c o → (a ∷> o') ≡ shifted c (a ∷> o)
  unfolding shifted ◌∷>◌
  shifted-front a (good l) e = rw e
  shifted-front a (bad n p) e = rw e

  -- ---- items, one behind the other

  shifted-items : {A : Type 0} (read : ℕ → List ℕ → Outcome (A × ℕ)) → ((p : ℕ) (s : List ℕ) → read (c + p) s ≡ shifted c (read p s)) → (k p : ℕ) (s : List ℕ)
      → items read k (c + p) s ≡ shifted c (items read k p s)
  unfolding items shifted
  shifted-items read each k p [] = refl
  shifted-items read each (suc k) p (x ∷ s) =
      let z : suc (c + p) ≡ c + suc p = omega arith in
      rw z (shifted-items read each k (suc p) s)
  shifted-items read each zero p (x ∷ s) =
      let z : suc (c + p) ≡ c + suc p = omega arith in
      shifted_step _ _ _ (each p (x ∷ s)) (λ r. shifted-front r.0 _ (rw z (shifted-items read each (r.1 - 1) (suc p) s)))

  -- ---- an option run, and the packages of a payload

  shifted-option : (ends : Bool) (n : ℕ) (wrong second : Bool) (p : ℕ) (o : Outcome ℕ) {o' : Outcome ℕ} → o' ≡ shifted c o
      → elim ends [ true ↦ good n | false ↦ refuse wrong OPTION (c + p) >> (refuse second OPTION (c + p) >> o') ]
      ≡ shifted {A = ℕ} c (elim ends [ true ↦ good n | false ↦ refuse wrong OPTION p >> (refuse second OPTION p >> o) ])
  unfolding shifted
  shifted-option true n wrong second p o e = refl
  shifted-option false n wrong second p o e = shifted_check _ _ _ _ (shifted_check _ _ _ _ e)

  shifted-run : (seen : List ℕ) (k p n : ℕ) (o : List ℕ) → option_run_from seen k (c + p) n o ≡ shifted c (option_run_from seen k p n o)
  unfolding option_run_from shifted
  shifted-run seen k p n [] = refl
  shifted-run seen (suc k) p n (x ∷ o) = shifted-run seen k p (suc n) o
  shifted-run seen zero p n (x ∷ o) =
      subst
      (λ (place : ℕ). elim (eqb x 0x00) [ true ↦ good n | false ↦ refuse (not (option_fits (x ∷ o))) OPTION place >> (refuse (is_second x seen) OPTION place >> option_run_from (x ∷ seen) (option_size (x ∷ o) - 1) (c + p) (suc n) o) ] ≡ shifted c (option_run_from seen 0 p n (x ∷ o)))
      (sym (further c p n))
      (shifted-option (eqb x 0x00) n (not (option_fits (x ∷ o))) (is_second x seen) (p + n) _ (shifted-run (x ∷ seen) (option_size (x ∷ o) - 1) p (suc n) o))

  shifted-piece : (p : ℕ) (s : List ℕ) → piece (c + p) s ≡ shifted c (piece p s)
  unfolding piece shifted
  shifted-piece p s = shifted_check _ _ _ _ refl

  pub shifted-cut : (p : ℕ) (s : List ℕ) → cut (c + p) s ≡ shifted c (cut p s)
  shifted-cut p s = shifted-items piece shifted-piece _ _ _

  -- ---- a message

  shifted-six : (p : ℕ) (s : List ℕ) (h : Head) → checks_one_to_six (c + p) s h ≡ shifted c (checks_one_to_six p s h)
  unfolding checks_one_to_six
  shifted-six p s h = shifted_check _ _ _ _ (shifted_check _ _ _ _ (shifted_check _ _ _ _ (shifted_check _ _ _ _ (shifted_check _ _ _ _ (shifted-refuse _ _ _)))))

  pub shifted-seven : (p : ℕ) (s : List ℕ) (h : Head) → option_run_length (c + p) s h ≡ shifted c (option_run_length p s h)
  unfolding option_run_length
  shifted-seven p s h = rw (further c p 24) (shifted-after _ _ (shifted-six p s h) (shifted-run [] 0 (p + 24) 0 _))

  shifted-nine : (p : ℕ) (s : List ℕ) (h : Head) → checks_one_to_nine (c + p) s h ≡ shifted c (checks_one_to_nine p s h)
  unfolding checks_one_to_nine checks_eight_and_nine shifted
  shifted-nine p s h = shifted_step _ _ _ (shifted-seven p s h) (λ n. shifted-after _ _ (shifted_check _ _ _ _ (shifted-refuse _ _ _)) refl)

  shifted_ten : (p : ℕ) (s : List ℕ) (h : Head) → checks_one_to_ten (c + p) s h ≡ shifted c (checks_one_to_ten p s h)
  unfolding checks_one_to_ten shifted
  shifted_ten p s h = rw (further c p (payload_start h)) (shifted_step _ _ _ (shifted-nine p s h) (λ n. shifted_step _ _ _ (shifted-cut (p + payload_start h) (payload s h)) (λ cs. refl)))

  shifted_every : (p : ℕ) (s : List ℕ) (h : Head) → every_check (c + p) s h ≡ shifted c (every_check p s h)
  unfolding every_check shifted
  shifted_every p s h = shifted_step _ _ _ (shifted_ten p s h) (λ r. shifted_check _ _ _ _ refl)

  pub shifted-message : (p : ℕ) (s : List ℕ) → message (c + p) s ≡ shifted c (message p s)
  unfolding message shifted
  shifted-message p s = shifted_step _ _ _ (shifted_every p s (head s)) (λ r. refl)

-- a message that is refused is refused further on
pub refused_further : (c p : ℕ) (s : List ℕ) {n q : ℕ} → message p s ≡ bad n q → message (c + p) s ≡ bad n (c + q)
unfolding shifted
refused_further c p s e = shifted-message c p s ∙ ap (shifted c) e
