-- `hibernaxo::put_salvaged` meets its contract: the stretches fill the array behind the place, bytes, messages and their number.
use native.Mathlib.Omega.{arith}
use Prim.Native.Nat.{ℕ}
use mathlib.Core.Path.{◌≡◌, refl, sym, ap}
use mathlib.Core.List.{List, [], ◌∷◌}
use lib.ListN.{length}
use Rattle.std.specs.Prelude.{Result}
use Rattle.refusal.specs.declared.Refusal.{Refusal}
use Rattle.salvage.specs.Told.{stretch_in, report}
use Rattle.salvage.specs.declared.Salvaged.{Salvaged}
use Rattle.hibernaxo.specs.Told.{stretch_values, salvage_values}
use Rattle.hibernaxo.proofs.Stored.{all-stored}
use Rattle.hibernaxo.proofs.put_salvaged.Goals as goal

-- the values of an answer
told : Result Salvaged Refusal → ℕ × List ℕ
told r = salvage_values (report r)

pub returns-in-Ok : goal.returns-in-Ok
unfolding told
returns-in-Ok c =
    let kept = c.in-Ok.kept in
    let n : length kept.stretches ≡ 64 = omega arith in
    rw (c.put_each.ensures, all-stored stretch_in stretch_values 2 (λ h. refl) (0 ∷ kept.bytes ∷ kept.messages ∷ kept.count ∷ []) 64 kept.stretches n) (ap told (sym c.in-Ok.is))

pub returns-in-Err : goal.returns-in-Err
unfolding told
returns-in-Err c = rw (c.put_refusal.ensures.0, c.put_refusal.ensures.1) (ap told (sym c.in-Err.is))
