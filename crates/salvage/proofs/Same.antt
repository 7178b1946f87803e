-- A promise allows one outcome alone: what a salvage tells settles the answer, and the buffer.
use Prim.Native.Nat.{ℕ}
use mathlib.Core.Path.{◌≡◌, refl, sym, ap, ◌∙◌}
use mathlib.Core.List.{List, [], ◌∷◌, map}
use Rattle.std.specs.Prelude.{Result, Ok, Err}
use Rattle.rules.specs.Claims.{TellsApart}
use Rattle.rules.proofs.Apart.{beside}
use Rattle.refusal.specs.declared.Refusal.{Refusal}
use Rattle.refusal.proofs.Numbers.{number_positive, same_refusal}
use Rattle.salvage.specs.Salvage as rule
use Rattle.salvage.specs.Told.{stretch_in, report, told}
use Rattle.salvage.specs.declared.Stretch.{Stretch}
use Rattle.salvage.specs.declared.Salvaged.{Salvaged}

stretch_back : rule.Stretch → Stretch
stretch_back h = record { start = h.start; size = h.size }

stretches-back : (l : List Stretch) → map stretch_back (map stretch_in l) ≡ l
unfolding stretch_back
stretches-back [] = refl
stretches-back (h ∷ l) = ap (λ (x : List Stretch). h ∷ x) (stretches-back l)

-- what a salvage that is done tells leads back to it
salvaged_back : rule.Answer → Salvaged
salvaged_back a = record { bytes = a.bytes; messages = a.messages; stretches = map stretch_back a.stretches; count = a.count }

salvaged-back : (r : Salvaged) → salvaged_back (report (Ok r)) ≡ r
unfolding salvaged_back
salvaged-back r = ap (λ (l : List Stretch). record { bytes = r.bytes; messages = r.messages; stretches = l; count = r.count }) (stretches-back r.stretches)

pub same_salvaged : TellsApart report
same_salvaged (Ok r) (Ok q) e = ap Ok (sym (salvaged-back r) ∙ ap salvaged_back e ∙ salvaged-back q)
same_salvaged (Ok r) (Err x) e = absurd (number_positive x.why (sym (ap (λ (a : rule.Answer). a.number) e)))
same_salvaged (Err x) (Ok r) e = absurd (number_positive x.why (ap (λ (a : rule.Answer). a.number) e))
same_salvaged (Err x) (Err y) e = ap Err (same_refusal x y (ap (λ (a : rule.Answer). a.number) e) (ap (λ (a : rule.Answer). a.place) e))

pub tells_apart : TellsApart (λ (x : Result Salvaged Refusal × List ℕ). told x.0 x.1)
tells_apart = beside report same_salvaged
