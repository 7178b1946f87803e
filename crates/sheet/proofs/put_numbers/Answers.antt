-- `sheet::put_numbers` meets its contract: in the loop the first i numbers are stored.
use Prim.Native.Nat.{ℕ, ◌+◌}
use mathlib.Core.Path.{sym, ap, ◌∙◌}
use mathlib.Core.List.{List}
use lib.ListN.{set, get_or}
use lib.Seq.{sets, set_out, take_all}
use Rattle.sheet.proofs.Table.{one_more}
use Rattle.sheet.proofs.put_numbers.Goals as goal
use Rattle.sheet.proofs.put_numbers.Goals.{then-at-i, else-at-i}

pub loop-i-preserved : goal.loop-i-preserved
loop-i-preserved c =
    let l = c.loop-i in
    let a = c.args in
    let more = ap (λ (v : List ℕ). set v (a.at + l.i) (get_or a.values.now l.i 0)) l.invariant ∙ one_more a.table.now a.at a.values.now l.i c.loop-i-test.true in
    elim c.if-at-i.branch [
      | then-at-i w ↦ rw w.table-is more
      | else-at-i w ↦ rw w.table-is (sym (set_out l.table _ _ w.if-at-i.false) ∙ more)
    ]

pub returns : goal.returns
returns c = let l = c.loop-i in l.invariant ∙ ap (sets c.args.table.now c.args.at) (take_all l.i c.args.values.now c.loop-i-test.false)
