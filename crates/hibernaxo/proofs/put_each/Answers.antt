-- `hibernaxo::put_each` meets its contract: in the loop the values of each item go behind those before it.
use borrow.Author.Rules.{rules}
use mathlib.Core.Path.{◌≡◌}
use native.Mathlib.Omega.{arith}
use lib.ListN.{length}
use Rattle.hibernaxo.proofs.Stored.{next-behind}
use Rattle.hibernaxo.proofs.put_each.Goals as goal

pub loop-i-preserved : goal.loop-i-preserved
loop-i-preserved g c =
    let l = c.loop-i in
    let a = c.args in
    let n : length a.items ≡ g.row.M = search rules in
    rw (c.put_some.ensures, c.values.ensures, l.invariant)
    (next-behind g.T.Values.told g.row.K g.met.T.Values.many a.from a.values.now a.items l.i c.index-items-i.result (omega (arith, n, c.loop-i-test.true)))
