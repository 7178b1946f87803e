-- `sheet::put_near` meets its contract: four stores are one run of stores, behind one test or behind a test each.
use borrow.Author.Rules.{rules}
use native.Mathlib.Omega.{arith}
use Prim.Native.Nat.{◌+◌}
use mathlib.Core.Path.{ap, ◌∙◌}
use lib.ListN.{get_or, length-set}
use lib.Seq.{sets}
use Rattle.sheet.proofs.Table.{four_stores, near-four}
use Rattle.sheet.proofs.put_near.Goals as goal

pub bounds-near-n-then-n-near : goal.bounds-near-n-then-n-near
bounds-near-n-then-n-near c = rw length-set (omega (arith, c.if-n-near.true))

pub bounds-near-n-then-n-near-2 : goal.bounds-near-n-then-n-near-2
bounds-near-n-then-n-near-2 c = rw (length-set, length-set) (omega (arith, c.if-n-near.true))

pub returns-then-n-near : goal.returns-then-n-near
returns-then-n-near c =
    let a = c.args in
    four_stores a.near.now a.n (get_or a.table.now (a.i + 2) 0) (get_or a.table.now (a.i + 3) 0) (get_or a.table.now (a.i + 4) 0) (get_or a.table.now (a.i + 5) 0)

pub returns-else-n-near : goal.returns-else-n-near
returns-else-n-near c = let a = c.args in c.put_numbers.ensures ∙ ap (sets a.near.now a.n) (near-four a.table.now a.i (search rules))
