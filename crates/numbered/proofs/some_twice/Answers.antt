-- `numbered::some_twice` meets its contract: no id before i stands behind itself.
use borrow.Author.Rules.{rules}
use mathlib.Core.Path.{sym, ◌∙◌}
use Rattle.numbered.proofs.Twice.{twice-end, twice-next, twice-hit}
use Rattle.numbered.proofs.some_twice.Goals as goal

pub returns-then-again : goal.returns-then-again
returns-then-again c =
    let a = c.args in
    let v = c.loop-i in
    sym (v.invariant ∙ twice-hit a.ids.now v.i (search rules) (sym c.again.ensures ∙ c.if-again.true))

pub loop-i-preserved : goal.loop-i-preserved
loop-i-preserved c =
    let a = c.args in
    let v = c.loop-i in
    v.invariant ∙ twice-next a.ids.now v.i (search rules) (sym c.again.ensures ∙ c.if-again.false)

pub returns : goal.returns
returns c =
    let a = c.args in
    let v = c.loop-i in
    sym (v.invariant ∙ twice-end a.ids.now v.i (search rules))
