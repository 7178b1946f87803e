-- `numbered::some_twice` meets its contract: no id before i stands behind itself.
use mathlib.Core.Path.{◌≡◌}
use lib.ListN.{drop}
use Rattle.numbered.specs.Quota.{some_twice}
use Rattle.numbered.proofs.some_twice.Given as goal

abbrev pub invariant-loop-i : goal.invariant-loop-i
invariant-loop-i l = some_twice l.ids ≡ some_twice (drop l.i l.ids)
