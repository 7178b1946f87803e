-- `numbered::try_measure` meets its contract: the ids or the sheet refused, or what is measured under its rows.
use Prim.Native.Nat.{ℕ}
use mathlib.Core.Path.{ap, ◌∙◌}
use native.Mathlib.Omega.{arith}
use Rattle.numbered.specs.Quota.{measured_ids}
use Rattle.refusal.proofs.Numbers.{passed_on}
use Rattle.numbered.proofs.Whole.{min_is}
use Rattle.numbered.proofs.Alone.{shut-alone}
use Rattle.numbered.proofs.try_measure.Goals as goal

pub returns-in_err-end : goal.returns-in_err-end
returns-in_err-end c =
    let a = c.args in
    rw (passed_on _ _ c.from_residual.ensures.1) (shut-alone a.input.now a.sheet.now a.quota a.ids.now a.held c.min-most.result (omega (arith, c.min-most.ensures)) (omega (arith, c.min-most.ensures)) _ c.in_err-end.ensures)
    ∙ ap (λ (k : ℕ). measured_ids k a.input.now a.sheet.now a.quota a.ids.now a.held) (c.min-most.ensures ∙ min_is _ _)
