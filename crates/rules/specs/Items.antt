-- Document 01, 'Refusal numbers': messages follow each other to the last byte; so do the packages of a payload and the rows of a sheet.
use Rattle.std.specs.Prelude.{ℕ, zero, suc, ◌-◌, Bool, true, false, List, [], ◌∷◌, ◌++◌, eqb}
use Rattle.rules.specs.Outcome.{Outcome, good, ◌>>=◌, ◌∷>◌}

-- `items read k p s`: s stands at place p, and its first k bytes belong to the item before. `read` reads the item at the start of a list that stands
-- at a place, and says how many bytes it takes. No item reaches over the end (packages and messages by their own checks, rows by the sheet's size)
unfoldable pub items : {A : Type 0} → (ℕ → List ℕ → Outcome (A × ℕ)) → ℕ → ℕ → List ℕ → Outcome (List A)
items read k p [] = good []
items read (suc k) p (x ∷ xs) = items read k (suc p) xs
items read zero p (x ∷ xs) = do
  (a, n) ← read p (x ∷ xs)
  a ∷> items read (n - 1) (suc p) xs

-- P holds of each element
pub data All {A : Type 0} (P : A → Type 0) : List A → Type 0 where
  all_nil : All P []
  all_cons : {a : A} {l : List A} → P a → All P l → All P (a ∷ l)

-- the parts, each of which keeps P, fill the bytes exactly
pub data Fills (P : List ℕ → Type 0) : List (List ℕ) → List ℕ → Type 0 where
  none : Fills P [] []
  more : {c : List ℕ} {cs : List (List ℕ)} {s : List ℕ} → P c → Fills P cs s → Fills P (c ∷ cs) (c ++ s)

-- how often x stands in l
unfoldable pub count : ℕ → List ℕ → ℕ
count x [] = 0
count x (y ∷ l) = elim (eqb x y) [ true ↦ suc (count x l) | false ↦ count x l ]

-- those that pass a test, in order
abbrev pub passing : {A : Type 0} → (A → Bool) → List A → List A
passing test [] = []
passing test (a ∷ l) = elim (test a) [ true ↦ a ∷ passing test l | false ↦ passing test l ]
