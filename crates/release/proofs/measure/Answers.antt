-- `release::measure` meets its contract: what is measured alone, with no id held and the whole recording as quota.
use Prim.Native.Nat.{ℕ}
use mathlib.Core.Path.{◌≡◌, refl, sym, ap, ◌∙◌}
use native.Mathlib.Omega.{arith}
use lib.ListN.{length, replicate}
use Rattle.std.specs.Prelude.{Result}
use Rattle.rules.specs.Copy.{measurement}
use Rattle.refusal.specs.declared.Refusal.{Refusal}
use Rattle.numbered.specs.declared.Progress.{Progress}
use Rattle.numbered.specs.Quota.{copy_of}
use Rattle.numbered.specs.Told.{state_of, report}
use Rattle.numbered.proofs.First.{measured-is}
use Rattle.refusal.proofs.Numbers.{passed_on}
use Rattle.release.proofs.measure.Goals as goal
use Rattle.release.proofs.measure.Goals.{After-copy-done}

-- what is reported
reports : (c : After-copy-done) → copy_of (report c.copy-done.result.answer) ≡ measurement c.args.recording.now c.args.sheet.now
reports c =
    let a = c.args in
    measured-is _ a.recording.now a.sheet.now (length a.recording.now) (state_of (replicate {A = ℕ} 1 0) (replicate {A = ℕ} 1 0) 0) (replicate {A = ℕ} 1 0) refl (omega arith) _ c.copy-done.ensures

pub returns-in_err-done : goal.returns-in_err-done
returns-in_err-done c =
    rw (passed_on _ _ c.from_residual.ensures.1) (ap (λ (x : Result Progress Refusal). copy_of (report x)) (sym c.in_err-done.was) ∙ reports (goal.at.returns-in_err-done c).After-copy-done)

pub returns : goal.returns
returns c = rw c.from.ensures (ap (λ (x : Result Progress Refusal). copy_of (report x)) (sym c.in_ok-done.was) ∙ reports (goal.at.returns c).After-copy-done)
