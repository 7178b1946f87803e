-- The table P1 to P12 holds, by computation; the later bytes of P12 by the period.
use Prim.Native.Nat.{ℕ}
use mathlib.Core.Path.{◌≡◌, refl, ap₂}
use mathlib.Core.List.{List, [], ◌∷◌}
use native.Mathlib.Omega.{arith}
use borrow.Author.Tests.{le-ltb, lt-ltb}
use lib.Dec.{leb-suc-zero}
use lib.ListN.{length}
use Rattle.rules.specs.Outcome.{bad, SHORT, refuse, ◌>>◌, ◌>>=◌, ◌∷>◌}
use Rattle.rules.specs.Bytes.{half, word}
use Rattle.rules.specs.Options.{length_allowed, option_size, option_fits, is_second, option_run_from, count_said_from}
use Rattle.rules.specs.Items.{items, count}
use Rattle.rules.specs.Packages.{package_fits, piece, package_of, piece_of}
use Rattle.rules.specs.Message.{head, checks_one_to_six, option_run_length, checks_eight_and_nine, checks_one_to_nine, checks_one_to_ten, every_check, record_of, message, recording}
use Rattle.rules.specs.Buffer.{fitted}
use Rattle.rules.specs.Writer.{write}
use Rattle.rules.specs.Reading.{header, option_run}
use Rattle.rules.specs.Sheet.{big_endian, row_of, row_fits, row, sheet, grants}
use Rattle.rules.specs.Copy.{granted, granted_packages, with_entry_of, released, copy_message, copy_messages, copy_bytes, packages_in, released_of, room_for, answered, reported, filled, copy}
use Rattle.rules.specs.Burst.{bits, byte_of, sequence_byte}
use Rattle.rules.specs.Table.{Table}
use Rattle.rules.proofs.Outcomes.{pass, halt, stop, stop_before}
use Rattle.rules.proofs.Walk.{items_stop}
use Rattle.rules.proofs.Sequence.{byte_periods}

-- fewer than 24 bytes, whatever they are
short : (s : List ℕ) → length s ≡ 23 → recording s ≡ bad SHORT 0
unfolding recording message every_check checks_one_to_ten checks_one_to_nine option_run_length checks_one_to_six
short s l =
    pass _ _ _ _ (le-ltb 65536 (length s) (omega arith))
    (items_stop message 0 s (omega arith)
    (stop _ _ (stop _ _ (stop _ _ (stop _ _ (stop_before _ _ (halt _ _ _ _ (lt-ltb (length s) 24 (omega arith)))))))))

pub table : Table
unfolding refuse ◌>>◌ ◌>>=◌ ◌∷>◌ half word items count length_allowed option_size option_fits is_second option_run_from count_said_from package_fits piece package_of piece_of head checks_one_to_six option_run_length checks_eight_and_nine checks_one_to_nine checks_one_to_ten every_check record_of message recording header option_run write big_endian row_of row_fits row sheet grants granted granted_packages with_entry_of released copy_message copy_messages copy_bytes packages_in released_of room_for fitted answered reported filled copy bits byte_of sequence_byte
table = record {
  P1 = λ buffer. rw (leb-suc-zero (length buffer));
  P2 = short;
  P3 = refl;
  P4 = refl;
  P5 = refl;
  P6-refused = refl;
  P6-passes = (_, refl);
  P7-run = refl;
  P7-refused = refl;
  P8-11 = refl;
  P8-33 = refl;
  P8-17 = refl;
  P8-16 = (_, refl);
  P9 = refl;
  P10 = refl;
  P10-room = refl;
  P11 = refl;
  P12 = ap₂ (λ (x y : ℕ). 0xFF ∷ 0x48 ∷ 0x0E ∷ 0xC0 ∷ 0x9A ∷ x ∷ y ∷ []) (byte_periods 1 0) (byte_periods 3 3);
}
