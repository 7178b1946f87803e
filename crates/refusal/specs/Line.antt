-- Document 01's line for a refusal, without its end.
use Rattle.std.specs.Prelude.{ℕ, List, ◌++◌, codes}
use Rattle.std.specs.Fmt.{decimal}
use Rattle.refusal.specs.Numbers.{number_of}
use Rattle.refusal.specs.declared.Refusal.{Refusal}

abbrev pub line : Refusal → List ℕ
line f = codes "refused " ++ decimal (number_of f.why) ++ codes " " ++ decimal f.place
