-- A window that ends within a message: what stands before the message is whole messages, and a step takes them.
use Prim.Native.Nat.{ℕ}
use mathlib.Core.Path.{◌≡◌, ap, sym, ◌∙◌}
use mathlib.Core.Logic.{◌⊎◌}
use mathlib.Core.List.{List}
use lib.ListN.{take}
use Rattle.rules.specs.Outcome.{good, bad, SHORT, CUT}
use Rattle.rules.proofs.Gives.{cut-place}
use Rattle.numbered.specs.Quota.{Taken, taken_from, bytes_taken}
use Rattle.numbered.proofs.Stops.{stopped}

pub cut-window : (input : List ℕ) (quota n p : ℕ) → taken_from input quota ≡ bad n p → (n ≡ SHORT) ⊎ (n ≡ CUT) → (ts : List Taken) × (taken_from (take p input) quota ≡ good ts) × (bytes_taken ts ≡ p)
cut-window input quota n p e c =
    let w = stopped input quota e in
    let z = cut-place _ _ n p w.refused c in
    (w.ts, ap (λ (k : ℕ). taken_from (take k input) quota) z ∙ w.taken, w.sum ∙ sym z)
