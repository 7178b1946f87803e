-- What a loop keeps that goes by what is left of a list.
use Prim.Native.Nat.{ℕ, ◌+◌, ◌-◌, ◌≤◌}
use mathlib.Core.Path.{◌≡◌, ap, sym, ◌∙◌}
use mathlib.Core.List.{List}
use native.Mathlib.Omega.{arith}
use lib.ListN.{length, take, drop, length-drop}
use lib.Seq.{drop-drop}
use Rattle.rules.proofs.Loops as loops

pub record Left (s rest : List ℕ) : Type 0 where
  pub most : length rest ≤ length s
  pub is : rest ≡ drop (length s - length rest) s

-- how much is gone
abbrev pub gone : List ℕ → List ℕ → ℕ
gone s rest = length s - length rest

pub none-gone : (s : List ℕ) → gone s s ≡ 0
none-gone s = omega arith

pub left-all : (s : List ℕ) → Left s s
left-all s = record { most = omega arith; is = rw (none-gone s) }

-- k more are gone, by `&rest[k..]`
module _ (s rest : List ℕ) (k : ℕ) (left : Left s rest) (l : k ≤ length rest) where
  abbrev after : List ℕ
  after = take (length rest - k) (drop k rest)

  pub left-long : length after ≡ length rest - k
  left-long = rw (loops.rest rest k) (length-drop k rest)

  pub more-gone : gone s after ≡ gone s rest + k
  more-gone = omega (arith, left-long, left.most)

  pub left-on : Left s after
  left-on = record {
    most = omega (arith, left-long, left.most);
    is = loops.rest rest k ∙ ap (drop k) left.is ∙ drop-drop k (gone s rest) s ∙ ap (λ (i : ℕ). drop i s) (sym more-gone);
  }
