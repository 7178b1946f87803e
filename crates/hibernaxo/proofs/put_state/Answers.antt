-- `hibernaxo::put_state` meets its contract: the first number, ids and numbers fill the array.
use Prim.Native.Nat.{ℕ, ◌%◌}
use mathlib.Core.Path.{◌≡◌, ap, ◌∙◌}
use mathlib.Core.List.{List}
use native.Mathlib.Omega.{arith}
use borrow.Author.Rules.{rules}
use lib.ListN.{length}
use lib.Seq.{sets}
use Rattle.hibernaxo.proofs.States.{state-stored}
use Rattle.hibernaxo.proofs.put_state.Goals as goal
use Rattle.hibernaxo.proofs.put_state.Goals.{Start}

ids-long : (s : Start) → length s.args.after.ids ≡ 64
ids-long s = search rules

next-long : (s : Start) → length s.args.after.next ≡ 64
next-long s = search rules

pub returns : goal.returns
returns c =
    let a = c.args in
    let long : length a.state.now ≡ 129 = omega arith in
    c.put_some-2.ensures ∙ ap (λ (x : List ℕ). sets x 65 a.after.next) c.put_some.ensures
    ∙ state-stored a.state.now a.after.ids a.after.next (a.after.held % 4294967296) long (ids-long (goal.at.returns c).Start) (next-long (goal.at.returns c).Start)
