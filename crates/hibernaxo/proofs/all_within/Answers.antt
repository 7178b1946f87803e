-- `hibernaxo::all_within` meets its contract: the fields before number i are within their bounds.
use mathlib.Core.Path.{refl, sym, ◌∙◌}
use native.Mathlib.Omega.{arith}
use Rattle.hibernaxo.proofs.Within.{within-next, within_stop, within_end}
use Rattle.hibernaxo.proofs.all_within.Goals as goal

pub loop-i-init : goal.loop-i-init
loop-i-init c = refl

pub returns-then-bounds-i : goal.returns-then-bounds-i
returns-then-bounds-i c =
    let v = c.loop-i in
    let a = c.args in
    sym (v.invariant ∙ within_stop a.fields.now a.bounds 11 v.i (omega arith) c.if-bounds-i.true)

pub loop-i-preserved : goal.loop-i-preserved
loop-i-preserved c =
    let v = c.loop-i in
    let a = c.args in
    v.invariant ∙ within-next a.fields.now a.bounds 11 v.i (omega arith) c.if-bounds-i.false

pub returns : goal.returns
returns c =
    let v = c.loop-i in
    let a = c.args in
    sym (v.invariant ∙ within_end a.fields.now a.bounds 11 v.i (omega arith))
