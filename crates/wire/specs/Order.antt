-- Four bytes as a number with the first byte lowest, and a number with its four bytes in the other order.
use Rattle.std.specs.Prelude.{ℕ, ◌+◌, ◌*◌, ◌/◌, ◌%◌, List}
use Rattle.rules.specs.Bytes.{at}

abbrev pub low_first : List ℕ → ℕ → ℕ
low_first s k = at s (k + 3) * 16777216 + at s (k + 2) * 65536 + at s (k + 1) * 256 + at s k

abbrev pub reversed : ℕ → ℕ
reversed v = v % 256 * 16777216 + v / 256 % 256 * 65536 + v / 65536 % 256 * 256 + v / 16777216
