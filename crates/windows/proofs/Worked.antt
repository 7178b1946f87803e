-- The numbers to check by, by computation.
use mathlib.Core.Path.{refl}
use Rattle.rules.specs.Outcome.{◌>>=◌, ◌>>◌, refuse, ◌∷>◌}
use Rattle.rules.specs.Bytes.{half, word}
use Rattle.rules.specs.Items.{items}
use Rattle.rules.specs.Options.{length_allowed, option_size, option_fits, is_second, option_run_from, count_said_from}
use Rattle.rules.specs.Packages.{package_fits, piece, package_of}
use Rattle.rules.specs.Message.{head, checks_one_to_six, option_run_length, checks_eight_and_nine, checks_one_to_nine, checks_one_to_ten, every_check, record_of, message, recording}
use Rattle.windows.specs.Window.{ending_before, handed_by, handed_over, extent, end_by, whole_bytes}
use Rattle.windows.specs.Worked.{Worked}

pub worked : Worked
unfolding ◌>>=◌ ◌>>◌ refuse ◌∷>◌ half word items length_allowed option_size option_fits is_second option_run_from count_said_from package_fits piece package_of head checks_one_to_six option_run_length checks_eight_and_nine checks_one_to_nine checks_one_to_ten every_check record_of message recording ending_before handed_by handed_over extent end_by whole_bytes
worked = record {
  whole = refl;
  empty = refl;
  cut-header = refl;
  cut-payload = refl;
  none_yet = refl;
  short-at_the_end = refl;
  cut-at_the_end = refl;
  damaged = refl;
  whole-lengths = refl;
  cut-lengths = refl;
  short_lengths = refl;
  low-length = refl;
  any-version = refl;
}
