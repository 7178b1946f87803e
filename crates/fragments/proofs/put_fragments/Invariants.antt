-- `fragments::put_fragments` meets its contract: in the loop the fragments before `at` are stored, and the payloads of the others stand from `from` on.
use Prim.Native.Nat.{◌-◌}
use Rattle.fragments.specs.Stored.{whole_by, Distributing}
use Rattle.fragments.proofs.put_fragments.Given as goal

abbrev pub invariant-loop-from : goal.invariant-loop-from
invariant-loop-from l = Distributing (whole_by l.r l.options l.packages) l.size l.n l.initial.out l.out l.at l.from l.q

abbrev pub decreases-loop-from : goal.decreases-loop-from
decreases-loop-from l = l.n - l.from
