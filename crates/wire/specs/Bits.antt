-- Bits in bytes: eight to a byte, the lowest first.
use Rattle.std.specs.Prelude.{ℕ, ◌+◌, ◌-◌, ◌*◌, ◌/◌, ◌%◌, ◌^◌, Bool, true, false, List, [], ◌∷◌}
use Rattle.std.proofs.lemmas.List.Edits.{sets}
use Rattle.rules.specs.Bytes.{at}

-- bit i, 0 behind the end
unfoldable pub bit_at : List ℕ → ℕ → ℕ
bit_at s i = at s (i / 8) / 2 ^ (i % 8) % 2

-- with bit i set: nothing changes behind the end, or where it is set already
unfoldable pub with_bit : List ℕ → ℕ → List ℕ
with_bit s i = sets s (i / 8) ((at s (i / 8) + (1 - bit_at s i) * 2 ^ (i % 8)) ∷ [])

-- with bit i set if b
unfoldable pub with_bit_if : List ℕ → ℕ → Bool → List ℕ
with_bit_if s i true = with_bit s i
with_bit_if s i false = s

-- n if b, else 0
abbrev pub only_if : Bool → ℕ → ℕ
only_if true n = n
only_if false n = 0
