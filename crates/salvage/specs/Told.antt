-- What the code's answers stand for.
use Rattle.std.specs.Prelude.{ℕ, zero, suc, ◌+◌, ◌-◌, ◌/◌, ◌≤◌, true, false, List, [], ◌∷◌, map, eqb, take, replicate, Option, Some, None, Result, Ok, Err}
use Rattle.rules.specs.Outcome.{Outcome, good, bad}
use Rattle.rules.specs.Reading.{MessageSpot}
use Rattle.refusal.specs.Numbers.{number_of}
use Rattle.refusal.specs.declared.Refusal.{Refusal}
use Rattle.salvage.specs.Salvage as rule
use Rattle.salvage.specs.declared.Stretch.{Stretch}
use Rattle.salvage.specs.declared.Salvaged.{Salvaged}

-- a stretch of the code, and one that is all zero
abbrev pub stretch_in : Stretch → rule.Stretch
stretch_in h = record { start = h.start; size = h.size }

abbrev pub no_stretch : Stretch
no_stretch = record { start = 0; size = 0 }

-- the stretch from one place to another
abbrev pub stretch_of : ℕ → ℕ → Stretch
stretch_of start end = record { start = start; size = end - start }

-- where a message that passes ends
abbrev pub end_of : Outcome MessageSpot → Option ℕ
end_of (good d) = Some d.next
end_of (bad n p) = None

-- the numbers of an answer: on a refusal its number and place, and zeros
abbrev pub report : Result Salvaged Refusal → rule.Answer
report (Ok r) = record { number = 0; place = 0; bytes = r.bytes; messages = r.messages; stretches = map stretch_in r.stretches; count = r.count }
report (Err x) = record { number = number_of x.why; place = x.place; bytes = 0; messages = 0; stretches = replicate rule.most_stretches rule.no_stretch; count = 0 }

-- with the buffer after it
abbrev pub told : Result Salvaged Refusal → List ℕ → rule.Answer × List ℕ
told r b = (report r, b)

-- what a survey reports, which writes nothing: the answer if the buffer has room
abbrev pub surveyed : List ℕ → rule.Answer
surveyed s = (rule.answered [] (rule.salvaged s)).0

-- where skips end in s, which stands at place p and whose first k bytes are skipped: at its end, or at the first offset whose byte says version 1
unfoldable pub skips_end : ℕ → ℕ → List ℕ → ℕ
skips_end k p [] = p
skips_end (suc k) p (x ∷ s) = skips_end k (suc p) s
skips_end zero p (x ∷ s) = elim (eqb (x / 16) 1) [ true ↦ p | false ↦ skips_end 3 (suc p) s ]

-- the stretch that a skip at place p belongs to, and where it begins, behind `count` stretches of which the last runs from `last` to `end`
unfoldable pub slot_of : ℕ → ℕ → ℕ → ℕ
slot_of zero end p = 0
slot_of (suc count) end p = elim (eqb end p) [ true ↦ count | false ↦ suc count ]

unfoldable pub start_of : ℕ → ℕ → ℕ → ℕ → ℕ
start_of zero last end p = p
start_of (suc count) last end p = elim (eqb end p) [ true ↦ last | false ↦ p ]

-- the first n stretches of an array
abbrev pub reported : List Stretch → ℕ → List rule.Stretch
reported stretches n = take n (map stretch_in stretches)

-- stretches from place p on, in order, up to place e
pub data Fit : ℕ → ℕ → List rule.Stretch → Type 0 where
  last : {p e : ℕ} → p ≤ e → Fit p e []
  more : {p e : ℕ} {h : rule.Stretch} {hs : List rule.Stretch} → p ≤ h.start → Fit (h.start + h.size) e hs → Fit p e (h ∷ hs)
