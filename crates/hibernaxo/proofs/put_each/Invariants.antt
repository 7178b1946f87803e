-- `hibernaxo::put_each`: the values of the items before item i are stored.
use mathlib.Core.Path.{◌≡◌}
use lib.ListN.{take}
use lib.Seq.{sets}
use Rattle.hibernaxo.proofs.Stored.{values_of}
use Rattle.hibernaxo.proofs.put_each.Given as goal

abbrev pub invariant-loop-i : goal.invariant-loop-i
invariant-loop-i g l = l.values ≡ sets l.initial.values l.from (values_of g.T.Values.told (take l.i l.items))
