-- The worked recordings hold, by computation.
use Prim.Native.Nat.{ℕ}
use mathlib.Core.Path.{◌≡◌, refl, ap}
use mathlib.Core.List.{List}
use native.Mathlib.Omega.{arith}
use borrow.Author.Tests.{lt-ltb}
use lib.ListN.{length}
use Rattle.rules.specs.Outcome.{bad, refuse, ◌>>◌, ◌>>=◌, ◌∷>◌, LARGE}
use Rattle.rules.specs.Bytes.{half, word}
use Rattle.rules.specs.Options.{length_allowed, option_size, option_fits, is_second, option_run_from, count_said_from}
use Rattle.rules.specs.Items.{items, count}
use Rattle.rules.specs.Packages.{package_fits, piece, package_of}
use Rattle.rules.specs.Message.{head, checks_one_to_six, option_run_length, checks_eight_and_nine, checks_one_to_nine, checks_one_to_ten, every_check, record_of, message}
use Rattle.rules.specs.Buffer.{fitted}
use Rattle.rules.specs.Edges.{told}
use Rattle.rules.proofs.Outcomes.{halt}
use Rattle.salvage.specs.Salvage.{piece_by, piece_at, kept_text, kept_count, skipping, stretches_from, salvage_of, salvaged, room_for, answered, salvage}
use Rattle.salvage.specs.Worked.{Worked}

too_large : (s : List ℕ) → length s ≡ 65537 → salvaged s ≡ bad LARGE 65536
unfolding salvaged
too_large s e = halt _ _ _ _ (lt-ltb 65536 (length s) (omega arith))

pub worked_out : Worked
unfolding refuse ◌>>◌ ◌>>=◌ ◌∷>◌ half word items count length_allowed option_size option_fits is_second option_run_from count_said_from package_fits piece package_of head checks_one_to_six option_run_length checks_eight_and_nine checks_one_to_nine checks_one_to_ten every_check record_of message fitted piece_by piece_at kept_text kept_count skipping stretches_from salvage_of salvaged room_for answered salvage
worked_out = record {
  number = refl;
  whole = refl;
  damaged = refl;
  lost = refl;
  inside = refl;
  many = refl;
  large = λ s e. ap told (too_large s e);
  rooms = refl;
  first = refl;
}
