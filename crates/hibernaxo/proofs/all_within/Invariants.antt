-- `hibernaxo::all_within` meets its contract: the fields before number i are within their bounds.
use Prim.Native.Nat.{◌-◌}
use mathlib.Core.Path.{◌≡◌}
use Rattle.hibernaxo.specs.Radio.{all_within}
use Rattle.hibernaxo.proofs.all_within.Given as goal

abbrev pub invariant-loop-i : goal.invariant-loop-i
invariant-loop-i l = all_within 11 0 l.fields l.bounds ≡ all_within (11 - l.i) l.i l.fields l.bounds
