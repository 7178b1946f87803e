-- What was worked out by hand holds, by computation.
use Prim.Native.Nat.{ℕ, ◌<◌}
use mathlib.Core.Path.{◌≡◌, refl}
use mathlib.Core.List.{List}
use borrow.Author.Tests.{lt-ltb}
use lib.ListN.{length}
use Rattle.rules.specs.Outcome.{LARGE, refuse, ◌>>◌, ◌>>=◌, ◌∷>◌}
use Rattle.rules.specs.Bytes.{half, word}
use Rattle.rules.specs.Options.{length_allowed, option_size, option_fits, is_second, option_run_from, count_said_from}
use Rattle.rules.specs.Items.{items, count}
use Rattle.rules.specs.Packages.{package_fits, piece, package_of, piece_of}
use Rattle.rules.specs.Message.{head, checks_one_to_six, option_run_length, checks_eight_and_nine, checks_one_to_nine, checks_one_to_ten, every_check, record_of, message}
use Rattle.rules.specs.Clean.{clean_piece, clean_bytes, clean_form}
use Rattle.rules.specs.Buffer.{unwritten, fitted, stored}
use Rattle.fragments.specs.Fragment.{parts, is_offset, offset_in, without_offset, fragment_of, fragment, fragment_bytes}
use Rattle.fragments.specs.Cutting.{whole_of, later_fragments, fragments_with, no_offset, fragments_of, cut_whole, cut_into, room_for_all, cut_stored, cutter}
use Rattle.fragments.specs.Joining.{begins, goesOn, follows, in_place, complete, fragments_from, kept_options, joined_with, at_start, clean_joined, joined, joiner}
use Rattle.fragments.specs.Worked.{uncut, WorkedCuts, WorkedJoins}

cut-large : (s b : List ℕ) → 65536 < length s → cutter 12 s b ≡ (uncut LARGE 65536, b)
unfolding cutter cut_stored cut_into refuse ◌>>◌ ◌>>=◌
cut-large s b l = rw (lt-ltb 65536 (length s) l)

join-large : (s b : List ℕ) → 65536 < length s → joiner s b ≡ (unwritten LARGE 65536, b)
unfolding joiner joined stored refuse ◌>>◌ ◌>>=◌
join-large s b l = rw (lt-ltb 65536 (length s) l)

pub worked_cuts : WorkedCuts
unfolding refuse ◌>>◌ ◌>>=◌ ◌∷>◌ half word items count length_allowed option_size option_fits is_second option_run_from count_said_from package_fits piece package_of piece_of head checks_one_to_six option_run_length checks_eight_and_nine checks_one_to_nine checks_one_to_ten every_check record_of message fitted parts is_offset fragment_bytes whole_of later_fragments fragments_with no_offset fragments_of cut_whole cut_into room_for_all cut_stored cutter
worked_cuts = record {
  three = refl;
  fits = refl;
  behind = refl;
  room = refl;
  no_words = λ b. refl;
  no_bytes = λ b. refl;
  offset = λ b. refl;
  size-first = λ b. refl;
  no_place = λ b. refl;
  last-place = refl;
  nothing = λ b. refl;
  large = cut-large;
}

pub worked_joins : WorkedJoins
unfolding refuse ◌>>◌ ◌>>=◌ ◌∷>◌ half word items count length_allowed option_size option_fits is_second option_run_from count_said_from package_fits piece head checks_one_to_six option_run_length checks_eight_and_nine checks_one_to_nine checks_one_to_ten every_check clean_piece clean_bytes clean_form fitted stored parts is_offset offset_in without_offset fragment_of fragment fragment_bytes begins goesOn follows in_place complete fragments_from kept_options joined_with at_start clean_joined joined joiner
worked_joins = record {
  three = refl;
  one = refl;
  empty = refl;
  room = refl;
  no_first = λ b. refl;
  no_middle = λ b. refl;
  no_last = λ b. refl;
  twice = λ b. refl;
  swapped = λ b. refl;
  another_id = λ b. refl;
  another_time = λ b. refl;
  another_flag = λ b. refl;
  another_number = λ b. refl;
  another_offset = λ b. refl;
  no_offset = λ b. refl;
  reserved = refl;
  behind = λ b. refl;
  nothing = λ b. refl;
  gap-first = λ b. refl;
  short-first = λ b. refl;
  standard = λ b. refl;
  bad_package = λ b. refl;
  count = λ b. refl;
  large = join-large;
}
