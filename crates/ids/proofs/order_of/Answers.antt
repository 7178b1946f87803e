-- `ids::order_of` meets its contract: no range before i is inverted, and i is at most 32.
use borrow.Author.Rules.{rules}
use native.Mathlib.Omega.{arith}
use Rattle.ids.proofs.Writing.{order_33rd, order-bad, order-next, order-end}
use Rattle.ids.proofs.order_of.Goals as goal

pub returns-then-i-eq32 : goal.returns-then-i-eq32
returns-then-i-eq32 c = let v = c.loop-i in rw c.refuse.ensures (order_33rd _ _ _ _ v.invariant.1 (search rules) c.if-i-eq32.true)

pub returns-then-r : goal.returns-then-r
returns-then-r c = let v = c.loop-i in rw c.refuse-then-r.ensures (order-bad _ _ _ _ v.invariant.1 (search rules) (omega (arith, v.invariant.1.few)) (rw c.range_at-r.ensures at c.if-r.true))

pub loop-i-preserved : goal.loop-i-preserved
loop-i-preserved c = let v = c.loop-i in (v.invariant.0, order-next _ _ _ _ v.invariant.1 (search rules) (omega (arith, v.invariant.1.few)) (rw c.range_at-r.ensures at c.if-r.false))

pub returns : goal.returns
returns c = let v = c.loop-i in order-end _ _ _ _ v.invariant.1 (search rules)
