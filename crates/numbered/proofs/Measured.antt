-- A promise to measure allows one outcome alone: what is told settles the answer, how many ids are held, and the ids.
use Prim.Native.Nat.{ℕ}
use mathlib.Core.Path.{ap}
use mathlib.Core.List.{List, []}
use Rattle.rules.specs.Claims.{TellsApart}
use Rattle.numbered.specs.declared.Numbered.{Numbered}
use Rattle.numbered.specs.Quota.{Report}
use Rattle.numbered.specs.Told.{state_of, told_ids}
use Rattle.numbered.proofs.Same.{tells_apart}

pub measured_apart : TellsApart (λ (x : Numbered × List ℕ). told_ids x.0 x.1)
measured_apart (a, ids) (b, ids') e =
    ap (λ (x : Numbered × (List ℕ × List ℕ × List ℕ)). (x.0, x.1.0)) (tells_apart (a, (ids, [], [])) (b, (ids', [], [])) (ap (λ (x : Report × List ℕ × ℕ). (x.0, state_of x.1 [] x.2, [])) e))
