-- Document 01, 'The message': numbers in bytes, big-endian; parts of a list of bytes; rounding up to a multiple of 4.
use Rattle.std.specs.Prelude.{ℕ, ◌+◌, ◌-◌, ◌*◌, ◌/◌, ◌%◌, ◌<◌, List, [], ◌∷◌, ◌++◌, length, get_or, take, drop, replicate}

-- every element is a byte
pub record Bytes (s : List ℕ) : Type 0 where
  pub below : (k : ℕ) → get_or s k 0 < 256

-- the numbers of 8, 16 and 32 bits at index k; bytes behind the end are 0
abbrev pub at : List ℕ → ℕ → ℕ
at s k = get_or s k 0

unfoldable pub half : List ℕ → ℕ → ℕ
half s k = at s k * 256 + at s (k + 1)

unfoldable pub word : List ℕ → ℕ → ℕ
word s k = at s k * 16777216 + at s (k + 1) * 65536 + at s (k + 2) * 256 + at s (k + 3)

-- a number of 16 or 32 bits in front of a list
abbrev pub put16 : ℕ → List ℕ → List ℕ
put16 x t = x / 256 % 256 ∷ x % 256 ∷ t

abbrev pub put32 : ℕ → List ℕ → List ℕ
put32 x t = x / 16777216 % 256 ∷ x / 65536 % 256 ∷ x / 256 % 256 ∷ x % 256 ∷ t

-- the elements from index a up to, not including, index e
abbrev pub part : ℕ → ℕ → List ℕ → List ℕ
part a e s = take (e - a) (drop a s)

-- n rounded up to a multiple of 4
abbrev pub pad : ℕ → ℕ
pad n = (n + 3) / 4 * 4

-- s, zero filled up to a multiple of 4
abbrev pub padded : List ℕ → List ℕ
padded s = s ++ replicate (pad (length s) - length s) 0

-- lists one behind the other
abbrev pub join : {A : Type 0} → List (List A) → List A
join [] = []
join (c ∷ cs) = c ++ join cs

-- 0 for the empty list, 1 for any other
abbrev pub one_if_any : {A : Type 0} → List A → ℕ
one_if_any [] = 0
one_if_any (x ∷ xs) = 1
