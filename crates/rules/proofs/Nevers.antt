-- Which numbers a chain of checks never gives: any but its own. What reads a sheet or a recording never gives ROOM, nor a refusal the number of success, and checks 1 to 10 never give COUNT.
use Prim.Native.Nat.{ℕ, ◌≤◌}
use mathlib.Core.Path.{◌≡◌, refl}
use mathlib.Core.List.{List}
use native.Mathlib.Omega.{arith}
use Rattle.rules.specs.Outcome.{Outcome, bad, ROOM}
use Rattle.rules.specs.Message.{Head, checks_one_to_ten, message, recording}
use Rattle.rules.specs.Copy.{released_of}
use Rattle.rules.proofs.Gives.{Gives, gives_good, gives_check, gives_step, gives_items, gives_ten, gives_message, gives_sheet}

-- o is not refused with number x
pub record Never (x : ℕ) {A : Type 0} (o : Outcome A) : Type 0 where
  pub given : (p : ℕ) → o ≡ bad x p → ⊥

abbrev Other : ℕ → ℕ → ℕ → Type 0
Other x n p = n ≡ x → ⊥

never : {x : ℕ} {A : Type 0} {o : Outcome A} → Gives (Other x) o → Never x o
never {x} g = record { given = λ p e. g.given x p e refl }

-- the numbers of checks 1 to 10 are 1 to 10
module _ (x : ℕ) (other : (n : ℕ) → 1 ≤ n → n ≤ 10 → n ≡ x → ⊥) where
  pub never_ten : (p : ℕ) (s : List ℕ) (h : Head) → Never x (checks_one_to_ten p s h)
  never_ten p s h = never (gives_ten p (λ n l m. other n l (omega arith)) (λ q. other _ (omega arith) (omega arith)) (λ q. other _ (omega arith) (omega arith)) s h)

-- nor does the reading of a sheet or a recording give ROOM, or a number below 1
module _ (x : ℕ) (other : (n : ℕ) → 1 ≤ n → (n ≡ ROOM → ⊥) → n ≡ x → ⊥) where
  never_message : (p : ℕ) (s : List ℕ) → Gives (Other x) (message p s)
  never_message p s = gives_message p (λ n l m. other n l (λ e. omega arith)) (λ q. other _ (omega arith) (λ e. omega arith)) (λ q. other _ (omega arith) (λ e. omega arith)) (other _ (omega arith) (λ e. omega arith)) s

  pub never_released : (recordingBytes sheetBytes : List ℕ) → Never x (released_of recordingBytes sheetBytes)
  unfolding released_of recording
  never_released r s =
      never (gives_step (gives_sheet (λ q. other _ (omega arith) (λ e. omega arith)) s) (λ rs.
      gives_step (gives_check _ _ _ (other _ (omega arith) (λ e. omega arith)) (gives_items message never_message _ _ _)) (λ ms. gives_good)))
