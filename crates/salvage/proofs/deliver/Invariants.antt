-- `salvage::deliver` meets its contract: what is between the stretches so far is stored.
use mathlib.Core.Path.{◌≡◌}
use Prim.Native.Nat.{◌≤◌}
use lib.ListN.{length}
use Rattle.salvage.specs.Told.{reported}
use Rattle.salvage.proofs.Delivering.{Delivering}
use Rattle.salvage.proofs.deliver.Given as goal

abbrev pub invariant-loop-i : goal.invariant-loop-i
invariant-loop-i l = (length l.s ≤ 65536) × (l.count ≤ 64) × (length l.stretches ≡ 64) × Delivering l.s l.initial.out l.out (reported l.stretches l.count) l.i l.to l.from
