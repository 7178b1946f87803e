-- What a step tells.
use Rattle.std.specs.Prelude.{ℕ, List}
use Rattle.numbered.specs.Numbering as rule
use Rattle.numbered.specs.Quota.{Report}
use Rattle.numbered.specs.Told.{report}
use Rattle.step.specs.declared.State.{State}
use Rattle.step.specs.declared.Stepped.{Stepped}

-- a state as the rule has it
abbrev pub state_in : State → rule.State
state_in s = record { ids = s.ids; next = s.next; held = s.held }

-- the report, with the state and the buffer after it
abbrev pub told : Stepped → List ℕ → Report × rule.State × List ℕ
told r s = (report r.answer, state_in r.state, s)

-- without a buffer
abbrev pub told_measured : Stepped → Report × rule.State
told_measured r = (report r.answer, state_in r.state)
