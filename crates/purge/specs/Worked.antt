-- Document 02, A9, worked out by hand: a recording of four messages purged under three sheets, and what is refused.
use Rattle.std.specs.Prelude.{ℕ, ◌<◌, ◌≡◌, List, [], ◌∷◌, ◌++◌, length, replicate}
use Rattle.rules.specs.Outcome.{SHORT, ROW, LARGE, COUNT}
use Rattle.rules.specs.Message.{most_bytes}
use Rattle.rules.specs.Buffer.{Written, unwritten}
use Rattle.rules.specs.Table.{words, R, options_with}
use Rattle.purge.specs.Purge.{purge}

-- Two packages, of which R grants the first, with a count, options behind an 0x00, reserved bits, a reserved byte and padding.
abbrev pub loses_one : List ℕ
loses_one = words
    (0x12A05BCF ∷ 0x00000007 ∷ 0x00000005 ∷ 0x00000040 ∷ 0x00000064 ∷ 0x00000000 ∷ 0x87060000 ∷ 0x000200FF
    ∷ 0x00000001 ∷ 0x000D0000 ∷ 0x00000000 ∷ 0xAA112233 ∷ 0x00000002 ∷ 0x00105500 ∷ 0x0000000A ∷ 0xDEADBEEF ∷ [])

-- One package, which R grants.
abbrev pub loses_last : List ℕ
loses_last = words (0x10000080 ∷ 0x00000007 ∷ 0x00000006 ∷ 0x00000028 ∷ 0x00000064 ∷ 0x00000000 ∷ 0x00000001 ∷ 0x000D0000 ∷ 0x00000000 ∷ 0xAA112233 ∷ [])

-- No package, and three option words for an option of one byte.
abbrev pub had_none : List ℕ
had_none = words (0x13000000 ∷ 0x00000007 ∷ 0x00000007 ∷ 0x00000024 ∷ 0x00000064 ∷ 0x00000000 ∷ 0x0100FFFF ∷ 0xFFFFFFFF ∷ 0xFFFFFFFF ∷ [])

-- One package of another message id, which R does not grant.
abbrev pub loses_none : List ℕ
loses_none = words (0x10000080 ∷ 0x00000008 ∷ 0xFFFFFFFF ∷ 0x00000028 ∷ 0x00000064 ∷ 0x00000000 ∷ 0x00000001 ∷ 0x000D7703 ∷ 0x00000000 ∷ 0xAA112233 ∷ [])

abbrev pub recorded : List ℕ
recorded = loses_one ++ (loses_last ++ (had_none ++ loses_none))

-- Every package of every message, from 0 s up to 4,294,967,295 s.
abbrev pub everything : List ℕ
everything = words (0x00000000 ∷ 0xFFFFFFFF ∷ 0x00000000 ∷ 0xFFFFFFFF ∷ 0x00000000 ∷ 0x00000003 ∷ 0xFFFFFFFC ∷ 0x00000000 ∷ [])

-- What is left under R.
abbrev pub left : List ℕ
left = words
    (0x120000CF ∷ 0x00000007 ∷ 0x00000005 ∷ 0x00000030 ∷ 0x00000064 ∷ 0x00000000 ∷ 0x87060000 ∷ 0x00010000 ∷ 0x00000002 ∷ 0x00100000 ∷ 0x0000000A ∷ 0xDEADBEEF
    ∷ 0x11000000 ∷ 0x00000007 ∷ 0x00000007 ∷ 0x0000001C ∷ 0x00000064 ∷ 0x00000000 ∷ 0x01000000
    ∷ 0x10000080 ∷ 0x00000008 ∷ 0xFFFFFFFF ∷ 0x00000028 ∷ 0x00000064 ∷ 0x00000000 ∷ 0x00000001 ∷ 0x000D0003 ∷ 0x00000000 ∷ 0xAA000000 ∷ [])

-- What is left under a sheet without rows.
abbrev pub cleaned : List ℕ
cleaned = words
    (0x120000CF ∷ 0x00000007 ∷ 0x00000005 ∷ 0x00000040 ∷ 0x00000064 ∷ 0x00000000 ∷ 0x87060000 ∷ 0x00020000
    ∷ 0x00000001 ∷ 0x000D0000 ∷ 0x00000000 ∷ 0xAA000000 ∷ 0x00000002 ∷ 0x00100000 ∷ 0x0000000A ∷ 0xDEADBEEF
    ∷ 0x10000080 ∷ 0x00000007 ∷ 0x00000006 ∷ 0x00000028 ∷ 0x00000064 ∷ 0x00000000 ∷ 0x00000001 ∷ 0x000D0000 ∷ 0x00000000 ∷ 0xAA000000
    ∷ 0x11000000 ∷ 0x00000007 ∷ 0x00000007 ∷ 0x0000001C ∷ 0x00000064 ∷ 0x00000000 ∷ 0x01000000
    ∷ 0x10000080 ∷ 0x00000008 ∷ 0xFFFFFFFF ∷ 0x00000028 ∷ 0x00000064 ∷ 0x00000000 ∷ 0x00000001 ∷ 0x000D0003 ∷ 0x00000000 ∷ 0xAA000000 ∷ [])

-- The one that had no package.
abbrev pub emptied : List ℕ
emptied = words (0x11000000 ∷ 0x00000007 ∷ 0x00000007 ∷ 0x0000001C ∷ 0x00000064 ∷ 0x00000000 ∷ 0x01000000 ∷ [])

abbrev pub used : ℕ → Written
used n = record { number = 0; place = 0; bytes = n }

pub record Worked : Type 0 where
  pub purged : purge recorded R ≡ (used 116, left ++ replicate 64 0)
  pub again : purge left R ≡ (used 116, left)
  pub no_rows : purge recorded [] ≡ (used 172, cleaned ++ replicate 8 0)
  pub all-granted : purge recorded everything ≡ (used 28, emptied ++ replicate 152 0)
  pub nothing : purge [] R ≡ (used 0, [])
  pub row : purge recorded (replicate 31 0) ≡ (unwritten ROW 31, recorded)
  pub row_first : (buffer : List ℕ) → purge buffer (replicate 32 0) ≡ (unwritten ROW 0, buffer)
  pub large : (buffer : List ℕ) → most_bytes < length buffer → purge buffer R ≡ (unwritten LARGE most_bytes, buffer)
  pub late : purge (recorded ++ replicate 23 0) R ≡ (unwritten SHORT 180, recorded ++ replicate 23 0)
  pub count : purge (loses_last ++ options_with 0x87060000) R ≡ (unwritten COUNT 40, loses_last ++ options_with 0x87060000)
  pub appended : purge (left ++ loses_last) R ≡ (used 116, left ++ replicate 40 0)
