-- What a step hands back is settled: the walk, what it found, the bytes shown and where they lie.
use Prim.Native.Nat.{ℕ}
use mathlib.Core.Path.{◌≡◌, sym, ap₂, ◌∙◌}
use mathlib.Core.List.{List}
use denote.Ref.{Bor}
use Rattle.message.proofs.Same.{same_package, SamePart, same_part}
use Rattle.walk.specs.Steps.{Shows}
use Rattle.walk.specs.declared.Walk.{Walk}
use Rattle.walk.specs.declared.Shown.{Shown}

pub record Alike (a b : Shown) : Type 0 where
  pub walk : a.walk ≡ b.walk
  pub step : a.step ≡ b.step
  pub part : SamePart a.bytes b.bytes

pub same_shown : (w : Walk) (a b : Shown) → Shows w a → Shows w b → Alike a b
same_shown w a b x y = record {
  walk = ap₂ (λ (r : Bor (List ℕ)) (i : ℕ). record { run = r; at = i }) (x.run ∙ sym y.run) (x.at ∙ sym y.at);
  step = same_package a.step b.step (x.step ∙ sym y.step);
  part = same_part w.run _ _ a.bytes b.bytes x.bytes x.part y.bytes y.part;
}
