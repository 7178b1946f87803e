-- Document 02, A1: the form of a line of ids. A line is a list: an item, alone or followed by a comma and a list. An item is an id, or two ids with "-" between.
use Rattle.std.specs.Prelude.{ℕ, ◌+◌, ◌-◌, ◌*◌, ◌≤◌, List, [], ◌∷◌, ◌++◌, length}
use Rattle.rules.specs.Items.{All}

-- the bytes "," and "-", and the most digits of an id
abbrev pub comma : ℕ
comma = 0x2C

abbrev pub hyphen : ℕ
hyphen = 0x2D

abbrev pub most_digits : ℕ
most_digits = 10

-- one of the bytes "0" to "9"
pub record Digit (x : ℕ) : Type 0 where
  pub least : 0x30 ≤ x
  pub most : x ≤ 0x39

-- the number n, followed by the digits s at base 10
unfoldable pub decimal : ℕ → List ℕ → ℕ
decimal n [] = n
decimal n (x ∷ s) = decimal (n * 10 + (x - 0x30)) s

-- 1 to 10 digits; leading zeros are digits like others
pub record IsId (s : List ℕ) : Type 0 where
  pub digits : All Digit s
  pub least : 1 ≤ length s
  pub most : length s ≤ most_digits

-- what an item says: where its first digit stands, and the ends of its range
pub record Item : Type 0 where
  pub place : ℕ
  pub first : ℕ
  pub last : ℕ

-- `IsItem p s i`: the bytes s, which stand at place p, are an item that says i
pub data IsItem (p : ℕ) : List ℕ → Item → Type 0 where
  single : {s : List ℕ} → IsId s → IsItem p s (record { place = p; first = decimal 0 s; last = decimal 0 s })
  range : {s t : List ℕ} → IsId s → IsId t → IsItem p (s ++ hyphen ∷ t) (record { place = p; first = decimal 0 s; last = decimal 0 t })

-- `IsList p s is`: the bytes s, which stand at place p, are a list of the items is
pub data IsList : ℕ → List ℕ → List Item → Type 0 where
  alone : {p : ℕ} {s : List ℕ} {i : Item} → IsItem p s i → IsList p s (i ∷ [])
  followed : {p : ℕ} {s t : List ℕ} {i : Item} {is : List Item} → IsItem p s i → IsList (p + length s + 1) t is → IsList p (s ++ comma ∷ t) (i ∷ is)

-- the line s has this reading
abbrev pub Reads : List ℕ → List Item → Type 0
Reads s is = IsList 0 s is
