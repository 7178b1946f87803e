-- `sheet::near_rows` meets its contract: in the loop the near ones of the rows before place i are stored.
use borrow.Author.Rules.{rules}
use mathlib.Core.Path.{ap, sym, ◌∙◌}
use lib.ListN.{length}
use lib.Seq.{length-sets}
use Rattle.sheet.proofs.Table.{gather_start, gather_near, gather_past, gather_end}
use Rattle.sheet.proofs.near_rows.Goals as goal
use Rattle.sheet.proofs.near_rows.Goals.{then-reaches, else-reaches}

pub loop-i-init : goal.loop-i-init
loop-i-init c = gather_start _ _ _ _

pub loop-i-preserved : goal.loop-i-preserved
loop-i-preserved c =
    let l = c.loop-i in
    elim c.if-reaches.branch [
      | then-reaches w ↦ rw (w.near-is, w.n-is, w.put_near.ensures) (gather_near _ _ _ _ _ _ _ l.invariant (search rules) (sym c.reaches.ensures ∙ w.if-reaches.true))
      | else-reaches w ↦ rw (w.near-is, w.n-is) (gather_past _ _ _ _ _ _ _ l.invariant (search rules) (sym c.reaches.ensures ∙ w.if-reaches.false))
    ]

pub shape_of-near : goal.shape_of-near
shape_of-near c = ap length c.loop-i.invariant.stored ∙ simp length-sets

pub returns : goal.returns
returns c = gather_end _ _ _ _ _ _ _ c.loop-i.invariant (search rules)
