-- The edges hold, by computation.
use Prim.Native.Nat.{ℕ}
use mathlib.Core.Path.{◌≡◌, refl, ap, ap₂}
use mathlib.Core.List.{List, [], ◌∷◌, ◌++◌}
use mathlib.Core.Bool.{false}
use native.Mathlib.Omega.{arith}
use borrow.Author.Tests.{le-ltb, lt-ltb, le-leb, lt-leb}
use lib.Dec.{ltb}
use lib.ListN.{length, replicate}
use Rattle.rules.specs.Outcome.{Outcome, good, bad, VERSION, PACKAGE, LARGE, MARKER, refuse, ◌>>◌, ◌>>=◌, ◌∷>◌}
use Rattle.rules.specs.Bytes.{half, word}
use Rattle.rules.specs.Options.{length_allowed, option_size, option_fits, is_second, option_run_from, count_said_from}
use Rattle.rules.specs.Items.{items, count}
use Rattle.rules.specs.Packages.{package_fits, piece, package_of, piece_of}
use Rattle.rules.specs.Message.{not_large, head, checks_one_to_six, option_run_length, checks_eight_and_nine, checks_one_to_nine, checks_one_to_ten, every_check, record_of, message, recording}
use Rattle.rules.specs.Buffer.{fitted, stored}
use Rattle.rules.specs.Writer.{write, drafted, accepted, written, writer}
use Rattle.rules.specs.Reading.{header, option_start, message_spot, message_at}
use Rattle.rules.specs.Walk.{package_spot, package_at, data_at, start_at, next_at}
use Rattle.rules.specs.Clean.{clean_piece, clean_bytes, clean_form, cleaner}
use Rattle.rules.specs.Sheet.{Row, big_endian, row_of, row_fits, row, sheet, sheet_rows, shown_rows, grants}
use Rattle.rules.specs.Copy.{granted, granted_packages, with_entry_of, released, copy_message, copy_messages, copy_bytes, packages_in, released_of, room_for, answered, reported, filled, copy}
use Rattle.rules.specs.Burst.{opening, randomized_answer, randomizer}
use Rattle.rules.specs.Table.{R}
use Rattle.rules.specs.Edges.{Edges, told, readings}
use Rattle.rules.proofs.Outcomes.{pass, halt, step, stop, stop_before}
use Rattle.rules.proofs.Walk.{items_stop}

-- ---- 65,536 bytes and one more, of which all behind the first twelve are any

and : {x y : ℕ × ℕ} {l m : List (ℕ × ℕ)} → x ≡ y → l ≡ m → x ∷ l ≡ y ∷ m
and e q = ap₂ (λ (x : ℕ × ℕ) (l : List (ℕ × ℕ)). x ∷ l) e q

-- what cleaner and randomizer report of an outcome
abbrev cleaner_told : Outcome (List ℕ) → ℕ × ℕ
cleaner_told o = ((stored [] o).0.number, (stored [] o).0.place)

abbrev randomizer_told : List ℕ → Outcome (List ℕ) → ℕ × ℕ
randomizer_told s o = ((randomized_answer s o).0.number, (randomized_answer s o).0.place)

passes-R : (rs : List Row) × (sheet R ≡ good rs)
unfolding refuse ◌>>◌ ◌>>=◌ ◌∷>◌ items big_endian row_of row_fits row sheet
passes-R = (_, refl)

module _ (s : List ℕ) where
  abbrev input : List ℕ
  input = replicate 12 0 ++ s

  module _ (e : length s ≡ 65525) where
    large : {A : Type 0} (o : Outcome A) → (not_large input >> o) ≡ bad LARGE 65536
    large o = halt _ _ _ _ (lt-ltb 65536 (length input) (omega arith))

    all_large : readings input ≡ replicate 8 (LARGE, 65536)
    unfolding package_at recording header message_at released_of opening cleaner stored randomizer randomized_answer
    all_large =
        and (ap told (large _))
        (and (ap told (large _))
        (and (ap told (large _))
        (and (ap told (large _))
        (and (ap told (step _ _ passes-R.1 (stop _ _ (large _))))
        (and (ap told (large _))
        (and (ap cleaner_told (stop _ _ (large _)))
        (and (ap (randomizer_told input) (large _)) refl)))))))

  module _ (e : length s ≡ 65524) where
    fits : ltb 65536 (length input) ≡ false
    fits = le-ltb 65536 (length input) (omega arith)

    -- the first message's version is 0, and its first package's L
    version : checks_one_to_six 0 input (head input) ≡ bad VERSION 0
    unfolding checks_one_to_six head
    version = pass _ _ _ _ (le-ltb (length input) 24 (omega arith)) (halt _ _ _ _ refl)

    checks : every_check 0 input (head input) ≡ bad VERSION 0
    unfolding every_check checks_one_to_ten checks_one_to_nine option_run_length
    checks = stop _ _ (stop _ _ (stop _ _ (stop_before _ _ version)))

    recorded : recording input ≡ bad VERSION 0
    unfolding recording message
    recorded = pass _ _ _ _ fits (items_stop message 0 input (omega arith) (stop _ _ checks))

    walked : package_at input 0 ≡ bad PACKAGE 0
    unfolding package_at piece package_fits half
    walked = pass _ _ _ _ fits (rw (lt-leb (length input) 0 (omega arith)) (stop _ _ (halt _ _ _ _ (rw (le-leb 12 (length input) (omega arith))))))

    all_fit : readings input ≡ (PACKAGE, 0) ∷ (VERSION, 0) ∷ (VERSION, 0) ∷ (VERSION, 0) ∷ (VERSION, 0) ∷ (MARKER, 0) ∷ (VERSION, 0) ∷ (0, 0) ∷ []
    unfolding header option_run_length message_at released_of opening word cleaner clean_form stored randomizer randomized_answer
    all_fit =
        and (ap told walked)
        (and (ap told recorded)
        (and (ap told (pass _ _ _ _ fits (stop _ _ (stop_before _ _ version))))
        (and (ap told (pass _ _ _ _ fits (stop _ _ checks)))
        (and (ap told (step _ _ passes-R.1 (stop _ _ recorded)))
        (and (ap told (pass _ _ _ _ fits (halt _ _ _ _ (rw (le-leb 8 (length input) (omega arith))))))
        (and (ap cleaner_told (stop _ _ (pass _ _ _ _ fits (stop _ _ checks))))
        (and (ap (randomizer_told input) (pass _ _ _ _ fits refl)) refl)))))))

-- ---- all of them

pub edges : Edges
unfolding refuse ◌>>◌ ◌>>=◌ ◌∷>◌ half word items length_allowed option_size option_fits is_second option_run_from count_said_from package_fits piece package_of piece_of head checks_one_to_six option_run_length checks_eight_and_nine checks_one_to_nine checks_one_to_ten every_check record_of message recording header option_start message_spot message_at package_spot package_at data_at start_at next_at write drafted accepted written writer clean_piece clean_bytes clean_form cleaner fitted stored big_endian row_of row_fits row sheet sheet_rows shown_rows grants granted granted_packages with_entry_of released count copy_message copy_messages copy_bytes packages_in released_of room_for answered reported filled copy opening randomized_answer randomizer
edges = record {
  header_fields = refl;
  lengths = refl;
  starts = refl;
  runs = refl;
  package_fields = refl;
  sizes = refl;
  steps = refl;
  bytes = refl;
  clean = refl;
  row_fields = refl;
  sheets = refl;
  shown = refl;
  granted = refl;
  acquired = refl;
  flags = refl;
  marked = refl;
  markers = refl;
  blocks = refl;
  most = λ s. (λ e. rw e, λ e. rw e);
  numbers = refl;
  checks = refl;
  messages = refl;
  order = refl;
  header_alone = refl;
  counted = refl;
  fits = all_fit;
  large = all_large;
  sheet_first = λ s. refl;
  drafts = refl;
  drafts_counted = refl;
  drafts_large = λ o q e. (λ f. rw (e, f), λ f. rw (e, f));
}
