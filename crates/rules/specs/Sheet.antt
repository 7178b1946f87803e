-- Document 01, 'The order sheet', with the windows of document 02, A4, and its acquired data only, A8: rows of 256 bits, most significant first; which rows keep the rules, and
-- which packages a row grants.
use Rattle.std.specs.Prelude.{ℕ, zero, ◌+◌, ◌-◌, ◌*◌, ◌/◌, ◌%◌, ◌^◌, Bool, not, ◌&&◌, ◌||◌, List, [], ◌∷◌, ◌++◌, leb, ltb, eqb, length, take, replicate}
use Rattle.rules.specs.Outcome.{Outcome, good, bad, refuse, ◌>>◌, ◌>>=◌, ROW}
use Rattle.rules.specs.Items.{items}
use Rattle.rules.specs.Packages.{instant}
use Rattle.rules.specs.Message.{most_nanos}

-- the number n, followed by the digits s at base 256
unfoldable pub big_endian : ℕ → List ℕ → ℕ
big_endian n [] = n
big_endian n (x ∷ s) = big_endian (n * 256 + x) s

-- the bytes of a row, and the most rows of a sheet
abbrev pub row_bytes : ℕ
row_bytes = 32

abbrev pub most_rows : ℕ
most_rows = 32

pub record Row : Type 0 where
  pub first_message : ℕ
  pub last_message : ℕ
  pub first_package : ℕ
  pub last_package : ℕ
  pub start_seconds : ℕ
  pub start_nanos : ℕ
  pub end_seconds : ℕ
  pub end_nanos : ℕ
  pub spare : ℕ
  pub acquired_only : Bool

-- the fields of a row's 256 bits, the first the highest
unfoldable pub row_of : ℕ → Row
row_of n = record { first_message = n / 2 ^ 224 % 2 ^ 32; last_message = n / 2 ^ 192 % 2 ^ 32; first_package = n / 2 ^ 160 % 2 ^ 32; last_package = n / 2 ^ 128 % 2 ^ 32; start_seconds = n / 2 ^ 96 % 2 ^ 32; start_nanos = n / 2 ^ 66 % 2 ^ 30; end_seconds = n / 2 ^ 34 % 2 ^ 32; end_nanos = n / 2 ^ 4 % 2 ^ 30; spare = n / 2 % 2 ^ 3; acquired_only = eqb (n % 2) 1 }

-- when a row's window starts, and when it ends
abbrev pub start_of : Row → ℕ
start_of r = instant r.start_seconds r.start_nanos

abbrev pub end_of : Row → ℕ
end_of r = instant r.end_seconds r.end_nanos

-- in each pair of ids first ≤ last; nanoseconds within a second; start < end; the three spare bits zero
unfoldable pub row_fits : Row → Bool
row_fits r =
    leb r.first_message r.last_message && leb r.first_package r.last_package
    && leb r.start_nanos most_nanos && leb r.end_nanos most_nanos && ltb (start_of r) (end_of r) && eqb r.spare 0

-- the row at the start of s, which stands at place p; and how long it is
unfoldable pub row : ℕ → List ℕ → Outcome (Row × ℕ)
row p s = do
  let r = row_of (big_endian 0 (take row_bytes s))
  refuse (not (row_fits r)) ROW p
  good (r, row_bytes)

-- the rows of a sheet: its size is looked at before its rows
unfoldable pub sheet : List ℕ → Outcome (List Row)
sheet s = do
  refuse (ltb (most_rows * row_bytes) (length s) || not (eqb (length s % row_bytes) 0)) ROW (length s)
  items row zero zero s

-- what reading hands out: as many rows as a sheet can have, zero behind the last, and how many of them are the sheet's
unfoldable pub sheet_rows : List ℕ → Outcome (List Row × ℕ)
sheet_rows s = do
  rs ← sheet s
  good (rs ++ replicate (most_rows - length rs) (row_of 0), length rs)

-- and what it shows: zero rows, none of them the sheet's, where the sheet is refused
unfoldable pub shown_rows : Outcome (List Row × ℕ) → List Row × ℕ
shown_rows (good x) = x
shown_rows (bad n p) = (replicate most_rows (row_of 0), 0)

-- message id and package id lie in the row's ranges, ends included, and package time in its window, start included and end not; and the message is not
-- simulated where the row grants acquired data only
unfoldable pub grants : ℕ → Bool → ℕ → ℕ → Row → Bool
grants messageId simulated packageId time r =
    leb r.first_message messageId && leb messageId r.last_message
    && leb r.first_package packageId && leb packageId r.last_package
    && leb (start_of r) time && ltb time (end_of r) && not (r.acquired_only && simulated)
