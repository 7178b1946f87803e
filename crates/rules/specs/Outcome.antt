-- Document 01, 'Refusal numbers': what a reading comes to. `good` is success with a value; `bad` is a refusal by its number and its place.
use Rattle.std.specs.Prelude.{ℕ, Bool, true, false, List, ◌∷◌}

pub data Outcome (A : Type 0) : Type 0 where
  good : A → Outcome A
  bad : ℕ → ℕ → Outcome A

-- What an answer tells: number and place are 0 on success; on a refusal every other number is zero and every shown part empty, which are the `zeros`
pub record Told (A : Type 0) : Type 0 where
  pub number : ℕ
  pub place : ℕ
  pub values : A

abbrev pub tells : {A : Type 0} → A → Outcome A → Told A
tells zeros (good a) = record { number = 0; place = 0; values = a }
tells zeros (bad n p) = record { number = n; place = p; values = zeros }

-- the numbers of the published table
abbrev pub SHORT : ℕ
SHORT = 1

abbrev pub VERSION : ℕ
VERSION = 2

abbrev pub TYPE : ℕ
TYPE = 3

abbrev pub LENGTH : ℕ
LENGTH = 4

abbrev pub CUT : ℕ
CUT = 5

abbrev pub TIME : ℕ
TIME = 6

abbrev pub OPTION : ℕ
OPTION = 7

abbrev pub FRAGMENT : ℕ
FRAGMENT = 8

abbrev pub STANDARD : ℕ
STANDARD = 9

abbrev pub PACKAGE : ℕ
PACKAGE = 10

abbrev pub ROW : ℕ
ROW = 11

abbrev pub LARGE : ℕ
LARGE = 12

abbrev pub ROOM : ℕ
ROOM = 13

abbrev pub MARKER : ℕ
MARKER = 14

abbrev pub BLOCKS : ℕ
BLOCKS = 15

abbrev pub COUNT : ℕ
COUNT = 17

-- Go on with the value, or stay with the refusal. A `do` block is made of these two: its lines are tried from the top, and the first refusal is the answer
infixl 1 ◌>>=◌
unfoldable pub ◌>>=◌ : {A B : Type 0} → Outcome A → (A → Outcome B) → Outcome B
◌>>=◌ (good a) f = f a
◌>>=◌ (bad n p) f = bad n p

infixl 1 ◌>>◌
unfoldable pub ◌>>◌ : {B : Type 0} → Outcome (Unit {0}) → Outcome B → Outcome B
◌>>◌ (good a) o = o
◌>>◌ (bad n p) o = bad n p

-- the refusal with number n at place p, if the test holds
unfoldable pub refuse : Bool → ℕ → ℕ → Outcome (Unit {0})
refuse true n p = bad n p
refuse false n p = good tt

-- a value in front of a list of values
infixr 5 ◌∷>◌
unfoldable pub ◌∷>◌ : {A : Type 0} → A → Outcome (List A) → Outcome (List A)
◌∷>◌ a (good l) = good (a ∷ l)
◌∷>◌ a (bad n p) = bad n p
