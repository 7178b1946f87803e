-- Document 02, A10: a step, which takes whole messages and handles the first so many, or all there are.
use Rattle.std.specs.Prelude.{ℕ, List, take}
use Rattle.numbered.specs.Numbering.{State}
use Rattle.numbered.specs.Quota.{most_ids, Report, numbered_copy, measured_ids}

-- one step: input, sheet, quota, state and buffer. A state holds 64 ids at most
abbrev pub step : List ℕ → List ℕ → ℕ → State → List ℕ → Report × State × List ℕ
step input sheetBytes quota state buffer = numbered_copy most_ids input sheetBytes quota state buffer

-- one step measured alone: the report of a step with room, and the ids that are then held. No number is counted: those of the state do not matter, and stay
abbrev pub measured_step : List ℕ → List ℕ → ℕ → State → Report × State
measured_step input sheetBytes quota state =
    let (r, ids, held) = measured_ids most_ids input sheetBytes quota state.ids state.held in
    (r, record { ids = ids; next = state.next; held = held })

-- what it wrote, and what it consumed
abbrev pub output : Report × State × List ℕ → List ℕ
output (r, state, buffer) = take r.bytes buffer

abbrev pub consumed : List ℕ → Report × State × List ℕ → List ℕ
consumed input (r, state, buffer) = take r.consumed input
