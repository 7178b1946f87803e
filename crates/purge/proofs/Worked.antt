-- What was worked out by hand holds, by computation.
use Prim.Native.Nat.{ℕ, ◌<◌}
use mathlib.Core.Path.{◌≡◌, refl}
use mathlib.Core.List.{List}
use borrow.Author.Tests.{lt-ltb}
use lib.ListN.{length}
use Rattle.rules.specs.Outcome.{LARGE, refuse, ◌>>◌, ◌>>=◌, ◌∷>◌}
use Rattle.rules.specs.Bytes.{half, word}
use Rattle.rules.specs.Options.{length_allowed, option_size, option_fits, is_second, option_run_from, count_said_from}
use Rattle.rules.specs.Items.{items, count}
use Rattle.rules.specs.Packages.{package_fits, piece, package_of, piece_of}
use Rattle.rules.specs.Message.{head, checks_one_to_six, option_run_length, checks_eight_and_nine, checks_one_to_nine, checks_one_to_ten, every_check, record_of, message, recording}
use Rattle.rules.specs.Buffer.{unwritten}
use Rattle.rules.specs.Writer.{write}
use Rattle.rules.specs.Sheet.{big_endian, row_of, row_fits, row, sheet, grants}
use Rattle.rules.specs.Copy.{granted}
use Rattle.rules.specs.Table.{R}
use Rattle.purge.specs.Purge.{kept_packages, behind_kind, count_set, with_packages, loses_last, kept_record, kept_records, kept_bytes, kept_of, purged, purge}
use Rattle.purge.specs.Worked.{Worked}

too_large : (buffer : List ℕ) → 65536 < length buffer → purge buffer R ≡ (unwritten LARGE 65536, buffer)
unfolding purge kept_of purged recording sheet items row big_endian row_of row_fits refuse ◌>>◌ ◌>>=◌ ◌∷>◌
too_large buffer l = rw (lt-ltb 65536 (length buffer) l)

pub worked_out : Worked
unfolding refuse ◌>>◌ ◌>>=◌ ◌∷>◌ half word items count length_allowed option_size option_fits is_second option_run_from count_said_from package_fits piece package_of piece_of head checks_one_to_six option_run_length checks_eight_and_nine checks_one_to_nine checks_one_to_ten every_check record_of message recording write big_endian row_of row_fits row sheet grants granted kept_packages behind_kind count_set with_packages loses_last kept_record kept_records kept_bytes kept_of purged purge
worked_out = record {
  purged = refl;
  again = refl;
  no_rows = refl;
  all-granted = refl;
  nothing = refl;
  row = refl;
  row_first = λ buffer. refl;
  large = too_large;
  late = refl;
  count = refl;
  appended = refl;
}
