-- The worked lines and ranges hold, by computation.
use Prim.Native.Nat.{ℕ}
use mathlib.Core.Path.{◌≡◌, refl, ap}
use mathlib.Core.List.{List}
use native.Mathlib.Omega.{arith}
use borrow.Author.Tests.{lt-ltb}
use lib.ListN.{length}
use Rattle.rules.specs.Outcome.{bad, refuse, ◌>>◌, ◌>>=◌, ◌∷>◌, LARGE}
use Rattle.rules.specs.Buffer.{fitted, stored}
use Rattle.rules.specs.Edges.{told}
use Rattle.rules.proofs.Outcomes.{halt}
use Rattle.ids.specs.Line.{decimal}
use Rattle.ids.specs.Reader.{digits, id_at, item_behind, item_at, list_at, item_fits, ranges_of, id_ranges, read_ids, shown_ranges}
use Rattle.ids.specs.Writer.{spelled, item_text, line_text, ranges_kept, line_of, write_ids}
use Rattle.ids.specs.Worked.{Worked}

too_large : (s : List ℕ) → length s ≡ 65537 → id_ranges s ≡ bad LARGE 65536
unfolding id_ranges
too_large s e = halt _ _ _ _ (lt-ltb 65536 (length s) (omega arith))

pub worked_out : Worked
unfolding refuse ◌>>◌ ◌>>=◌ ◌∷>◌ fitted stored decimal digits id_at item_behind item_at list_at item_fits ranges_of id_ranges read_ids shown_ranges spelled item_text line_text ranges_kept line_of write_ids
worked_out = record {
  number = refl;
  read = refl;
  broken = refl;
  faulty = refl;
  items = refl;
  large = λ s e. ap told (too_large s e);
  shown = refl;
  refused = refl;
  written = refl;
  unwritten = refl;
  rooms = refl;
}
