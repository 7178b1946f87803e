-- `hibernaxo::put_some`: the elements before element i are stored.
use mathlib.Core.Path.{◌≡◌}
use lib.ListN.{take}
use lib.Seq.{sets}
use Rattle.hibernaxo.proofs.put_some.Given as goal

abbrev pub invariant-loop-i : goal.invariant-loop-i
invariant-loop-i g l = l.into ≡ sets l.initial.into l.at (take l.i l.some)
