-- `numbered::again` meets its contract: what is behind place i is all of the part that is searched.
use mathlib.Core.Path.{ap, ◌∙◌}
use mathlib.Core.List.{List}
use Prim.Native.Nat.{ℕ, ◌+◌}
use native.Mathlib.Omega.{arith}
use lib.Dec.{eqb}
use lib.ListN.{drop, length-drop, get_or}
use lib.Seq.{take_all}
use Rattle.std.specs.List.{list_any}
use Rattle.numbered.proofs.Twice.{any_count}
use Rattle.numbered.proofs.again.Goals as goal

pub returns : goal.returns
returns c =
    let a = c.args in
    let behind : List ℕ = drop (a.i + 1) a.ids.now in
    c.contains.ensures.value ∙ ap (list_any (λ (y : ℕ). eqb y (get_or a.ids.now a.i 0))) (take_all _ behind (omega (arith, length-drop (a.i + 1) a.ids.now))) ∙ any_count (get_or a.ids.now a.i 0) behind
