-- A promise allows one answer: what reading a line tells settles the answer.
use Prim.Native.Nat.{ℕ}
use mathlib.Core.Path.{◌≡◌, refl, ap}
use mathlib.Core.List.{List, [], ◌∷◌, map}
use Rattle.rules.specs.Outcome.{Outcome}
use Rattle.rules.specs.Claims.{TellsApart}
use Rattle.refusal.proofs.Numbers.{same_answer}
use Rattle.ids.specs.Reader.{Range}
use Rattle.ids.specs.Told.{range_in, ids_in, told}
use Rattle.ids.specs.declared.IdRange.{IdRange}
use Rattle.ids.specs.declared.Ids.{Ids}

range_back : Range → IdRange
range_back r = record { first = r.first; last = r.last }

ranges-back : (l : List IdRange) → map range_back (map range_in l) ≡ l
unfolding range_back
ranges-back [] = refl
ranges-back (r ∷ l) = ap (λ (x : List IdRange). r ∷ x) (ranges-back l)

ids_back : List Range × ℕ → Ids
ids_back x = record { ranges = map range_back x.0; count = x.1 }

ids-back : (i : Ids) → ids_back (ids_in i) ≡ i
unfolding ids_back
ids-back i = ap (λ (l : List IdRange). record { ranges = l; count = i.count }) (ranges-back i.ranges)

abbrev Told : Type 0
Told = Outcome (List Range × ℕ) × (List Range × ℕ)

pub same_ids : TellsApart told
same_ids r q e = same_answer ids_in ids_back ids-back r q (ap (λ (x : Told). x.0) e)
