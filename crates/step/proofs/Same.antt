-- A promise allows one outcome alone: what a step tells settles the answer, the state and the buffer.
use Prim.Native.Nat.{ℕ}
use mathlib.Core.Path.{◌≡◌, ap, ap₂, ◌∙◌}
use mathlib.Core.List.{List}
use Rattle.rules.specs.Claims.{TellsApart}
use Rattle.step.specs.declared.State.{State}
use Rattle.step.specs.declared.Stepped.{Stepped}
use Rattle.numbered.specs.Numbering as rule
use Rattle.numbered.specs.declared.Progress.{Progress}
use Rattle.refusal.specs.declared.Refusal.{Refusal}
use Rattle.std.specs.Prelude.{Result}
use Rattle.numbered.specs.Quota.{Report}
use Rattle.numbered.proofs.Same.{same_report}
use Rattle.step.specs.Told.{told, told_measured}

pub measured_apart : TellsApart told_measured
measured_apart a b e =
    let answers : a.answer ≡ b.answer = same_report a.answer b.answer (ap (λ (x : Report × rule.State). x.0) e) in
    let states : a.state ≡ b.state = ap (λ (x : Report × rule.State). record { ids = x.1.ids; next = x.1.next; held = x.1.held }) e in
    ap (λ (x : Result Progress Refusal). record { answer = x; state = a.state }) answers ∙ ap (λ (x : State). record { answer = b.answer; state = x }) states

pub tells_apart : TellsApart (λ (x : Stepped × List ℕ). told x.0 x.1)
tells_apart (a, s) (b, t) e =
    let same : a ≡ b = measured_apart a b (ap (λ (x : Report × rule.State × List ℕ). (x.0, x.1)) e) in
    ap₂ (λ (x : Stepped) (y : List ℕ). (x, y)) same (ap (λ (x : Report × rule.State × List ℕ). x.2) e)
