-- What option 0x87 says of the number of packages.
use Prim.Native.Nat.{ℕ, zero, suc, ◌-◌, ◌≤◌}
use mathlib.Core.Path.{◌≡◌, refl, sym, ◌∙◌}
use mathlib.Core.Bool.{true, false}
use mathlib.Core.List.{List, [], ◌∷◌}
use mathlib.Core.Option.{Option, none, some}
use native.Mathlib.Omega.{arith}
use borrow.Author.Tests.{eqb-true, eqb-false, eq-eqb, ne_eqb, not-false, not-true}
use lib.ListN.{length, drop}
use Rattle.rules.specs.Bytes.{at, word}
use Rattle.rules.specs.Options.{option_size, count_said_from, count_said, differs}
use Rattle.rules.proofs.Outcomes.{some_inj, none≢some}

-- a number that does not differ is the one that is said
pub agreed : (o : Option ℕ) (n : ℕ) → differs o n ≡ false → (c : ℕ) → o ≡ some c → c ≡ n
agreed none n e c q = absurd (none≢some q)
agreed (some d) n e c q = sym (some_inj q) ∙ eqb-true d n (not-false _ e)

pub agrees : (o : Option ℕ) (n : ℕ) → ((c : ℕ) → o ≡ some c → c ≡ n) → differs o n ≡ false
agrees none n h = refl
agrees (some d) n h = rw (eq-eqb d n (h d refl))

-- and one that differs is another
pub told-other : (o : Option ℕ) (n : ℕ) → differs o n ≡ true → (c : ℕ) × (o ≡ some c) × (c ≡ n → ⊥)
told-other none n e = let z : ◌≡◌ {A = ℕ} 0 1 = cc in absurd (omega arith)
told-other (some d) n e = (d, refl, eqb-false d n (not-true _ e))

pub other-told : (o : Option ℕ) (n c : ℕ) → o ≡ some c → (c ≡ n → ⊥) → differs o n ≡ true
other-told o n c q h = rw (q, ne_eqb c n h)

-- the number is said by the first option 0x87, and the search goes on behind any other
pub said-skip : (k : ℕ) (s : List ℕ) → count_said_from k s ≡ count_said_from 0 (drop k s)
unfolding count_said_from
said-skip zero s = refl
said-skip (suc k) [] = refl
said-skip (suc k) (x ∷ s) = said-skip k s

said-behind : (n x : ℕ) (s : List ℕ) → 1 ≤ n → count_said_from (n - 1) s ≡ count_said_from 0 (drop n (x ∷ s))
said-behind zero x s h = absurd (omega arith)
said-behind (suc n) x s h = let e : suc n - 1 ≡ n = omega arith in rw e (said-skip n s)

pub said_here : (s : List ℕ) → at s 0 ≡ 0x87 → count_said s ≡ some (word s 2)
unfolding count_said_from
said_here [] e = absurd (omega arith)
said_here (x ∷ s) e = rw (eq-eqb x 0x87 e, count_said_from)

pub said-next : (s : List ℕ) → 1 ≤ length s → (at s 0 ≡ 0x87 → ⊥) → 1 ≤ option_size s → count_said s ≡ count_said (drop (option_size s) s)
unfolding count_said_from
said-next [] l h k = absurd (omega arith)
said-next (x ∷ s) l h k = rw (ne_eqb x 0x87 h, count_said_from) (said-behind (option_size (x ∷ s)) x s k)
