-- `step::measure` meets its contract: what was measured, where 64 ids may be held.
use mathlib.Core.Path.{◌≡◌}
use borrow.Author.Rules.{rules}
use lib.ListN.{length}
use Rattle.step.specs.Told.{state_in}
use Rattle.step.proofs.Whole.{stepped_alone}
use Rattle.step.proofs.measure.Goals as goal
use Rattle.step.proofs.measure.Goals.{Start}

ids-long : (s : Start) → length s.args.state.ids ≡ 64
ids-long s = search rules

pub returns : goal.returns
returns c =
    let a = c.args in
    stepped_alone (length a.state.ids) (ids-long (goal.at.returns c).Start) a.input.now a.sheet.now a.quota (state_in a.state) _ c.measure-counted.ensures
