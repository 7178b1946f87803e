-- The purge refuses what measuring the copy refuses: both read the sheet, then the recording.
use Prim.Native.Nat.{ℕ}
use mathlib.Core.Path.{◌≡◌, refl}
use mathlib.Core.List.{List}
use Rattle.rules.specs.Outcome.{Outcome, good, bad, ◌>>=◌}
use Rattle.rules.specs.Message.{Message, recording}
use Rattle.rules.specs.Buffer.{Written}
use Rattle.rules.specs.Sheet.{Row, sheet}
use Rattle.rules.specs.Copy.{Entry, released, released_of, reported}
use Rattle.purge.specs.Purge.{kept_records, kept_of, purged, purge}

abbrev Alike : Written → Outcome (List Entry) → Type 0
Alike a o = (a.number ≡ (reported o).number) × (a.place ≡ (reported o).place) × ((a.number ≡ 0 → ⊥) → a.bytes ≡ 0)

pub alike : (buffer sheetBytes : List ℕ) → Alike (purge buffer sheetBytes).0 (released_of buffer sheetBytes)
unfolding purge kept_of purged released_of reported ◌>>=◌
alike buffer sheetBytes = go (sheet sheetBytes) (recording buffer)
  where
    go : (r : Outcome (List Row)) (m : Outcome (List Message))
        → Alike (purged buffer (r >>= λ (rs : List Row). m >>= λ (ms : List Message). good (kept_records rs ms))).0
        (r >>= λ (rs : List Row). m >>= λ (ms : List Message). good (released rs ms))
    go (bad n p) m = (refl, refl, λ h. refl)
    go (good rs) (bad n p) = (refl, refl, λ h. refl)
    go (good rs) (good ms) = (refl, refl, λ h. absurd (h refl))
