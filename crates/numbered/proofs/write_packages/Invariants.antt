-- `numbered::write_packages` meets its contract: in the loop the marked packages before what is left are stored.
use mathlib.Core.Path.{◌≡◌}
use Prim.Native.Nat.{◌≤◌}
use lib.ListN.{length}
use Rattle.message.proofs.Left.{Left, gone}
use Rattle.numbered.proofs.Packages.{Storing}
use Rattle.numbered.proofs.write_packages.Given as goal

abbrev pub invariant-loop-rest : goal.invariant-loop-rest
invariant-loop-rest l =
    (length l.run ≤ 65536) × (length l.out ≡ length l.initial.out) × Left l.run l.rest × Storing l.marks l.first l.run l.initial.out l.to l.out l.end l.all (gone l.run l.rest)

abbrev pub decreases-loop-rest : goal.decreases-loop-rest
decreases-loop-rest l = length l.rest
