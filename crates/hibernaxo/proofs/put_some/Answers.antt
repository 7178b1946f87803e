-- `hibernaxo::put_some` meets its contract: in the loop the elements before element i are stored.
use borrow.Author.Rules.{rules}
use mathlib.Core.Path.{◌≡◌}
use native.Mathlib.Omega.{arith}
use lib.ListN.{length}
use Rattle.hibernaxo.proofs.Stored.{put_next}
use Rattle.hibernaxo.proofs.put_some.Goals as goal

pub loop-i-preserved : goal.loop-i-preserved
loop-i-preserved g c =
    let l = c.loop-i in
    let a = c.args in
    let n : length a.some ≡ g.row.K = search rules in
    rw l.invariant (put_next a.into.now a.some a.at l.i _ (omega (arith, n, c.loop-i-test.true)))
