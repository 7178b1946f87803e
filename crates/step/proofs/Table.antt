-- The numbers to check by, by computation.
use mathlib.Core.Path.{refl}
use Rattle.rules.specs.Outcome.{◌>>=◌, ◌>>◌, refuse, ◌∷>◌}
use Rattle.rules.specs.Bytes.{half, word}
use Rattle.rules.specs.Items.{items, count}
use Rattle.rules.specs.Options.{length_allowed, option_size, option_fits, is_second, option_run_from, count_said_from}
use Rattle.rules.specs.Packages.{package_fits, piece, package_of, piece_of}
use Rattle.rules.specs.Message.{head, checks_one_to_six, option_run_length, checks_eight_and_nine, checks_one_to_nine, checks_one_to_ten, every_check, record_of, message}
use Rattle.rules.specs.Buffer.{fitted}
use Rattle.rules.specs.Writer.{write}
use Rattle.rules.specs.Sheet.{big_endian, row_of, row_fits, row, sheet, grants}
use Rattle.rules.specs.Copy.{granted, granted_packages, with_entry_of, released, copy_message, packages_in}
use Rattle.numbered.specs.Numbering.{next_number, counted_on, numbers_after, numbered_messages, numbered_bytes, beside, holding}
use Rattle.numbered.specs.Quota.{some_twice, bad_ids, taken_at, first_items, taken_from, bytes_taken, ids_fit, delivering, reported, numbered_copy}
use Rattle.step.specs.Table.{Table}

pub table : Table
unfolding ◌>>=◌ ◌>>◌ refuse ◌∷>◌ half word items length_allowed option_size option_fits is_second option_run_from count_said_from package_fits piece package_of piece_of head checks_one_to_six option_run_length checks_eight_and_nine checks_one_to_nine checks_one_to_ten every_check record_of message fitted write big_endian row_of row_fits row sheet grants granted granted_packages with_entry_of released count copy_message packages_in next_number counted_on numbers_after numbered_messages numbered_bytes beside holding some_twice bad_ids taken_at first_items taken_from bytes_taken ids_fit delivering reported numbered_copy
table = record {
  first = refl;
  second = refl;
  both = refl;
  quota = refl;
  wraps = refl;
  junk_behind = refl;
  cut-within = refl;
  count-behind = refl;
  count-within = refl;
  acquired = refl;
  nothing-asked = refl;
  no_place = refl;
  none-granted = refl;
  no_room = refl;
  twice = refl;
  too_many = refl;
}
