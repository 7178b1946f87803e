-- What measuring and writing tell.
use Rattle.std.specs.Prelude.{ℕ, List, Result, Ok, Err}
use Rattle.rules.specs.Copy as rules
use Rattle.refusal.specs.declared.Refusal.{Refusal}
use Rattle.refusal.specs.Numbers.{number_of}
use Rattle.numbered.specs.declared.Progress.{Progress}
use Rattle.release.specs.declared.Totals.{Totals}

-- what the single copy reports of a copy's progress
abbrev pub totals_of : Progress → Totals
totals_of p = record { bytes = p.bytes; messages = p.messages; packages = p.packages }

-- an answer's numbers
abbrev pub numbers : Result Totals Refusal → rules.Answer
numbers (Ok t) = record { number = 0; place = 0; bytes = t.bytes; messages = t.messages; packages = t.packages }
numbers (Err f) = record { number = number_of f.why; place = f.place; bytes = 0; messages = 0; packages = 0 }

-- with the buffer after it
abbrev pub told : Result Totals Refusal → List ℕ → rules.Answer × List ℕ
told a s = (numbers a, s)
