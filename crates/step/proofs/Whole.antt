-- A step is the copy that is numbered on, where 64 ids may be held.
use Prim.Native.Nat.{ℕ}
use mathlib.Core.Path.{◌≡◌, ap, sym, ◌∙◌}
use mathlib.Core.Bool.{false}
use mathlib.Core.List.{List}
use native.Mathlib.Omega.{arith}
use Rattle.numbered.specs.Numbering.{State}
use Rattle.numbered.specs.Quota.{Report, numbered_copy, settled, measured_ids, shorter, most_in}
use Rattle.numbered.proofs.Whole.{most_narrow}
use Rattle.step.specs.Step as spec

most-is : (m n held : ℕ) → m ≡ 64 → n ≡ 64 → most_in (shorter m n) held ≡ 64
most-is m n held a b = ap (λ (k : ℕ). most_in (shorter k n) held) a ∙ ap (λ (k : ℕ). most_in (shorter 64 k) held) b ∙ sym (most_narrow 64 held (omega arith))

pub stepped : (m n held : ℕ) → m ≡ 64 → n ≡ 64 → (input sheetBytes : List ℕ) (quota : ℕ) (state : State) (buffer : List ℕ) (x : Report × State × List ℕ)
    → x ≡ settled false (most_in (shorter m n) held) input sheetBytes quota state buffer → x ≡ spec.step input sheetBytes quota state buffer
unfolding settled
stepped m n held a b input sheetBytes quota state buffer x e = e ∙ ap (λ (k : ℕ). numbered_copy k input sheetBytes quota state buffer) (most-is m n held a b)

-- and measured alone
pub stepped_alone : (places : ℕ) → places ≡ 64 → (input sheetBytes : List ℕ) (quota : ℕ) (state : State) (x : Report × List ℕ × ℕ) → x ≡ measured_ids (shorter places 64) input sheetBytes quota state.ids state.held
    → ◌≡◌ {A = Report × State} (x.0, record { ids = x.1; next = state.next; held = x.2 }) (spec.measured_step input sheetBytes quota state)
stepped_alone places p input sheetBytes quota state x e =
    ap {B = Report × State} (λ (y : Report × List ℕ × ℕ). (y.0, record { ids = y.1; next = state.next; held = y.2 })) (e ∙ ap (λ (k : ℕ). measured_ids (shorter k 64) input sheetBytes quota state.ids state.held) p)
