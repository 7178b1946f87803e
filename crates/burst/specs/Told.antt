-- An answer's number, place and codeblocks, with the buffer after it.
use Rattle.std.specs.Prelude.{ℕ, List, Result, Ok, Err}
use Rattle.rules.specs.Burst as rules
use Rattle.refusal.specs.Numbers.{number_of}
use Rattle.refusal.specs.declared.Refusal.{Refusal}

abbrev pub numbers_randomized : Result (Unit {0}) Refusal → rules.Randomized
numbers_randomized (Ok done) = record { number = 0; place = 0 }
numbers_randomized (Err r) = record { number = number_of r.why; place = r.place }

abbrev pub told_randomized : Result (Unit {0}) Refusal → List ℕ → rules.Randomized × List ℕ
told_randomized a s = (numbers_randomized a, s)

abbrev pub numbers_opened : Result ℕ Refusal → rules.Opened
numbers_opened (Ok blocks) = record { number = 0; place = 0; blocks = blocks }
numbers_opened (Err r) = record { number = number_of r.why; place = r.place; blocks = 0 }

abbrev pub told_opened : Result ℕ Refusal → List ℕ → rules.Opened × List ℕ
told_opened a s = (numbers_opened a, s)
