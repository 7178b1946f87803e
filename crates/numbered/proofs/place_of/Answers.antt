-- `numbered::place_of` meets its contract: in the loop the sum is how many stand from the id on, if it was met.
use borrow.Author.Rules.{rules}
use native.Mathlib.Omega.{arith}
use Rattle.numbered.proofs.Seeking.{seek_start, seek_miss, seek_hit}
use Rattle.numbered.proofs.place_of.Goals as goal
use Rattle.numbered.proofs.place_of.Goals.{then-other-id, else-other-id}

pub loop-other-init : goal.loop-other-init
loop-other-init c = (search rules, search rules, omega arith, seek_start c.args.ids.now c.args.id)

pub loop-other-preserved : goal.loop-other-preserved
loop-other-preserved c =
    let v = c.loop-other in
    let a = c.args in (
      search rules,
      search rules,
      omega arith,
      elim c.if-other-id.branch [
        | then-other-id w ↦ rw w.behind-is (seek_hit a.ids.now a.id v.behind v.other-index v.invariant.3 (search rules) v.left v.invariant.2 v.invariant.1 w.if-other-id.true)
        | else-other-id w ↦ rw w.behind-is (seek_miss a.ids.now a.id v.behind v.other-index v.invariant.3 (search rules) w.if-other-id.false)
      ],
    )
