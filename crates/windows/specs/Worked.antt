-- Numbers to check by: document 01's M, of 56 bytes, in windows.
use Rattle.std.specs.Prelude.{◌≡◌, true, false, [], ◌∷◌, ◌++◌, take}
use Rattle.rules.specs.Outcome.{good, bad, SHORT, VERSION, CUT}
use Rattle.rules.specs.Table.{words, M}
use Rattle.windows.specs.Window.{handed_over, whole_bytes}

pub record Worked : Type 0 where
  pub whole : handed_over true (M ++ M) ≡ good 112
  pub empty : handed_over true [] ≡ good 0
  pub cut-header : handed_over true (M ++ take 23 M) ≡ good 56
  pub cut-payload : handed_over true (M ++ take 55 M) ≡ good 56
  pub none_yet : handed_over true (take 55 M) ≡ good 0
  pub short-at_the_end : handed_over false (M ++ take 23 M) ≡ bad SHORT 56
  pub cut-at_the_end : handed_over false (M ++ take 55 M) ≡ bad CUT 56
  pub damaged : handed_over true (M ++ words (0x20000000 ∷ 0 ∷ 0 ∷ 0 ∷ 0 ∷ 0 ∷ [])) ≡ bad VERSION 56
  pub whole-lengths : whole_bytes (M ++ M) ≡ 112
  pub cut-lengths : whole_bytes (M ++ take 55 M) ≡ 56
  pub short_lengths : whole_bytes (M ++ take 23 M) ≡ 56
  pub low-length : whole_bytes (M ++ words (0x20000000 ∷ 0 ∷ 0 ∷ 0 ∷ 0 ∷ 0 ∷ [])) ≡ 56
  pub any-version : whole_bytes (words (0x20000000 ∷ 0 ∷ 0 ∷ 24 ∷ 0 ∷ 0 ∷ [])) ≡ 24
