-- What was worked out by hand holds, by computation.
use Prim.Native.Nat.{ℕ, ◌<◌}
use mathlib.Core.Path.{◌≡◌, refl}
use mathlib.Core.List.{List}
use borrow.Author.Tests.{lt-ltb}
use lib.ListN.{length}
use Rattle.rules.specs.Outcome.{bad, LARGE, refuse, ◌>>◌, ◌>>=◌, ◌∷>◌}
use Rattle.rules.specs.Bytes.{half, word}
use Rattle.rules.specs.Options.{length_allowed, option_size, option_fits, is_second, option_run_from, count_said_from}
use Rattle.rules.specs.Items.{items, count}
use Rattle.rules.specs.Packages.{package_fits, piece, package_of, piece_of}
use Rattle.rules.specs.Message.{head, checks_one_to_six, option_run_length, checks_eight_and_nine, checks_one_to_nine, checks_one_to_ten, every_check, record_of, message, recording}
use Rattle.rules.specs.Clean.{clean_piece, clean_bytes, clean_form}
use Rattle.rules.specs.Buffer.{fitted}
use Rattle.rules.proofs.Outcomes.{halt}
use Rattle.capture.specs.File.{half_in, word_in, header_good, order_of, packet, packets, record_in, file_in}
use Rattle.capture.specs.Frame.{for_us, lengths_fit, data_of, carried, ones_sum, checksum, frame_of}
use Rattle.capture.specs.Reading.{takes, one_message, class_of, counted, taken_of, taken, recording_of, room_for_taken, read_stored, read_capture}
use Rattle.capture.specs.Writing.{packet_of, datagram, datagrams, file_of, room_for_file, write_stored, write_capture}
use Rattle.capture.specs.Worked.{Worked}

too_large : (s : List ℕ) → 65536 < length s → packets s ≡ bad LARGE 65536
unfolding packets
too_large s l = halt _ _ _ _ (lt-ltb 65536 (length s) l)

pub worked_out : Worked
unfolding refuse ◌>>◌ ◌>>=◌ ◌∷>◌ half word items count length_allowed option_size option_fits is_second option_run_from count_said_from package_fits piece package_of piece_of head checks_one_to_six option_run_length checks_eight_and_nine checks_one_to_nine checks_one_to_ten every_check record_of message recording clean_piece clean_bytes clean_form fitted half_in word_in header_good order_of packet packets record_in file_in for_us lengths_fit data_of carried ones_sum checksum frame_of takes one_message class_of counted taken_of taken recording_of room_for_taken read_stored read_capture packet_of datagram datagrams file_of room_for_file write_stored write_capture
worked_out = record {
  number = refl;
  checksums = refl;
  written = refl;
  none = refl;
  again = refl;
  elsewhere = refl;
  foreign = refl;
  kept = refl;
  others = refl;
  bads = refl;
  two = refl;
  cuts = refl;
  above = refl;
  first = refl;
  headers = refl;
  ends = refl;
  large = too_large;
  read-refused = refl;
  read-room = refl;
  write-room = refl;
  write-checks = refl;
  write-version = refl;
}
