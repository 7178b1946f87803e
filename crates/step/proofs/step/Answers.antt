-- `step::step` meets its contract: what was copied, where 64 ids may be held.
use mathlib.Core.Path.{◌≡◌}
use borrow.Author.Rules.{rules}
use lib.ListN.{length}
use Rattle.step.specs.Told.{state_in}
use Rattle.step.proofs.Whole.{stepped}
use Rattle.step.proofs.step.Goals as goal
use Rattle.step.proofs.step.Goals.{Start}

ids-long : (s : Start) → length s.args.state.ids ≡ 64
ids-long s = search rules

next-long : (s : Start) → length s.args.state.next ≡ 64
next-long s = search rules

pub returns : goal.returns
returns c =
    let a = c.args in
    stepped (length a.state.ids) (length a.state.next) a.state.held (ids-long (goal.at.returns c).Start) (next-long (goal.at.returns c).Start) a.input.now a.sheet.now a.quota (state_in a.state) a.out.now _ c.copy-done.ensures
