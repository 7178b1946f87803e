-- `hibernaxo::hibernaxo_step` meets its contract: what the step answered, and the state and the buffer that it left.
use mathlib.Core.Path.{refl, ap, ◌∙◌}
use Rattle.std.specs.Prelude.{Result}
use Rattle.refusal.specs.declared.Refusal.{Refusal}
use Rattle.numbered.specs.Numbering.{State}
use Rattle.numbered.specs.Told.{report}
use Rattle.numbered.specs.declared.Progress.{Progress}
use Rattle.step.specs.Step as rule
use Rattle.step.specs.Told.{state_in}
use Rattle.hibernaxo.specs.Told.{report_values}
use Rattle.hibernaxo.proofs.Answered.{told_as}
use Rattle.hibernaxo.proofs.States.{step-told}
use Rattle.hibernaxo.proofs.hibernaxo_step.Goals as goal

pub returns : goal.returns
returns c =
    let a = c.args in
    let done = c.step-done in
    step-told (report done.result.answer) (state_in done.result.state)
    (c.put.ensures ∙ told_as _ 6 (λ (r : Result Progress Refusal). report_values (report r)) (λ p. refl) (λ r. refl) done.result.answer) c.put_state.ensures
    (done.ensures ∙ ap (λ (s : State). rule.step a.input.now a.sheet.now a.quota s a.out.now) c.state_in-before.ensures)
