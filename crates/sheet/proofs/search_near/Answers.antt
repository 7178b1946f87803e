-- `sheet::search_near` meets its contract: in the loop the near rows before place i are asked, and none of them grants.
use borrow.Author.Rules.{rules}
use borrow.Author.Tests.{lt-ltb, le-ltb, le-leb, lt-leb}
use mathlib.Core.Bool.{and-false}
use Rattle.sheet.proofs.Table.{ask_start, ask_past, ask_found, ask_end}
use Rattle.sheet.proofs.search_near.Goals as goal
use Rattle.sheet.proofs.search_near.Goals.{else-near-i-via-then-near-i+then-p-near+then-near-i-2+else-t-near, else-near-i-via-then-near-i+then-p-near+else-near-i-2, else-near-i-via-then-near-i+else-p-near, else-near-i-via-else-near-i}

pub loop-i-init : goal.loop-i-init
loop-i-init c = ask_start _ _ _

pub returns-then-t-near : goal.returns-then-t-near
returns-then-t-near c =
    ask_found _ _ _ _ c.loop-i.invariant (search rules) (rw (le-leb _ _ c.if-near-i.true, le-leb _ _ c.if-p-near.true, le-leb _ _ c.if-near-i-2.true, lt-ltb _ _ c.if-t-near.true))

pub loop-i-preserved : goal.loop-i-preserved
loop-i-preserved c =
    ask_past _ _ _ _ c.loop-i.invariant (search rules)
    (elim c.else-near-i.branch [
      | else-near-i-via-then-near-i+then-p-near+then-near-i-2+else-t-near w ↦ simp (le-ltb _ _ w.if-t-near.false, and-false)
      | else-near-i-via-then-near-i+then-p-near+else-near-i-2 w ↦ simp (lt-leb _ _ w.if-near-i-2.false, and-false)
      | else-near-i-via-then-near-i+else-p-near w ↦ simp (lt-leb _ _ w.if-p-near.false, and-false)
      | else-near-i-via-else-near-i w ↦ rw (lt-leb _ _ w.if-near-i.false)
    ])

pub returns : goal.returns
returns c = ask_end _ _ _ _ _ c.loop-i.invariant (search rules)
