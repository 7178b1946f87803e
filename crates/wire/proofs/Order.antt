-- A number whose four bytes are taken in the other order.
use Prim.Native.Nat.{ℕ, ◌+◌, ◌*◌, ◌/◌, ◌%◌, ◌<◌}
use mathlib.Core.Path.{◌≡◌, ap, ◌∙◌}
use mathlib.Core.List.{List}
use native.Mathlib.Omega.{arith}
use Rattle.rules.specs.Bytes.{at, word}
use Rattle.wire.specs.Order.{low_first, reversed}

digits : (a b c d : ℕ) → a < 256 → b < 256 → c < 256 → d < 256 → reversed (a * 16777216 + b * 65536 + c * 256 + d) ≡ d * 16777216 + c * 65536 + b * 256 + a
digits a b c d la lb lc ld =
    let i : (a * 16777216 + b * 65536 + c * 256 + d) % 256 ≡ d = omega arith in
    let j : (a * 16777216 + b * 65536 + c * 256 + d) / 256 ≡ a * 65536 + b * 256 + c = omega arith in
    let k : (a * 16777216 + b * 65536 + c * 256 + d) / 65536 ≡ a * 256 + b = omega arith in
    let l : (a * 16777216 + b * 65536 + c * 256 + d) / 16777216 ≡ a = omega arith in
    let m : (a * 65536 + b * 256 + c) % 256 ≡ c = omega arith in
    let n : (a * 256 + b) % 256 ≡ b = omega arith in
    rw (i, j, k, l, m, n)

module _ (s : List ℕ) (k : ℕ) (small : (i : ℕ) → at s i < 256) {v : ℕ} where
  pub turned : v ≡ low_first s k → reversed v ≡ word s k
  unfolding word
  turned e = ap reversed e ∙ digits (at s (k + 3)) (at s (k + 2)) (at s (k + 1)) (at s k) (small (k + 3)) (small (k + 2)) (small (k + 1)) (small k)

  pub turned-back : v ≡ word s k → reversed v ≡ low_first s k
  unfolding word
  turned-back e = ap reversed e ∙ digits (at s k) (at s (k + 1)) (at s (k + 2)) (at s (k + 3)) (small k) (small (k + 1)) (small (k + 2)) (small (k + 3))
