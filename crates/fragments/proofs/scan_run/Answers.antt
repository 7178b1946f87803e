-- `fragments::scan_run` meets its contract: the words before `i` are passed.
use native.Mathlib.Omega.{arith}
use Rattle.fragments.proofs.Scan.{start-few}
use Rattle.fragments.proofs.Steps.{scan-start, scan-on, scan-over, scan-ended, starts-ended}
use Rattle.fragments.proofs.scan_run.Goals as goal

pub loop-i-init : goal.loop-i-init
loop-i-init c = (scan-start c.args.run.now c.args.start (omega arith), omega arith)

pub without-st-requires : goal.without-st-requires
without-st-requires c = omega (arith, c.rest_in-n.ensures)

pub overflow_add-i : goal.overflow_add-i
overflow_add-i c = omega (arith, c.rest_in-n.ensures)

pub loop-i-smaller-then-st-ge4 : goal.loop-i-smaller-then-st-ge4
loop-i-smaller-then-st-ge4 c = omega (arith, c.rest_in-n.ensures)

pub loop-i-preserved-then-st-ge4 : goal.loop-i-preserved-then-st-ge4
loop-i-preserved-then-st-ge4 c =
    let v = c.loop-i in
    let a = c.args in
    rw c.without-st.ensures (scan-over a.run.now a.start v.st v.i _ (omega arith) v.invariant.0 c.rest_in-n.ensures, omega (arith, v.invariant.1))

pub package_step-st-requires : goal.package_step-st-requires
package_step-st-requires c = let v = c.loop-i in (omega arith, v.invariant.0.small, omega (arith, v.invariant.1, v.invariant.0.inside))

pub loop-i-preserved : goal.loop-i-preserved
loop-i-preserved c =
    let v = c.loop-i in
    let a = c.args in
    (scan-on a.run.now a.start v.st v.i (omega arith) v.invariant.0 (omega arith) c.half_at.ensures c.package_step-st.ensures.0 c.package_step-st.ensures.1 c.package_step-st.ensures.2, omega (arith, c.package_step-st.ensures.1, start-few v.st.state, v.invariant.1))

pub returns : goal.returns
returns c = (scan-ended c.args.run.now c.args.start c.loop-i.st c.loop-i.i c.loop-i.invariant.0 (omega arith), starts-ended c.args.run.now c.args.start c.loop-i.st c.loop-i.i c.loop-i.invariant.0 (omega arith), c.loop-i.invariant.0.small)
