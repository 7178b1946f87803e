-- `sheet::ask_near` meets its contract: in the loop the near rows before place i are asked.
use borrow.Author.Rules.{rules}
use Rattle.sheet.proofs.Table.{ask_start, ask_next, ask_end}
use Rattle.sheet.proofs.ask_near.Goals as goal

pub loop-i-init : goal.loop-i-init
loop-i-init c = ask_start _ _ _

pub loop-i-preserved : goal.loop-i-preserved
loop-i-preserved c = rw c.within-it.ensures (ask_next _ _ _ _ _ c.loop-i.invariant (search rules))

pub returns : goal.returns
returns c = ask_end _ _ _ _ _ c.loop-i.invariant (search rules)
