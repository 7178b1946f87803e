-- Document 01, 'Packages' and 'Package time': packages with the standard header, the cut of a payload into them, and the pieces that fill a payload.
use Rattle.std.specs.Prelude.{ℕ, zero, ◌+◌, ◌*◌, ◌≤◌, ◌≡◌, Bool, not, ◌&&◌, List, ◌∷◌, leb, length, take}
use Rattle.rules.specs.Outcome.{Outcome, good, refuse, ◌>>◌, PACKAGE}
use Rattle.rules.specs.Bytes.{at, half, word, put16, put32, pad, padded, part}
use Rattle.rules.specs.Items.{items}

-- the bytes of a standard header
abbrev pub package_header : ℕ
package_header = 12

-- the package id, status, time delta and data of a package; its length L is that of header and data
pub record Package : Type 0 where
  pub id : ℕ
  pub status : ℕ
  pub delta : ℕ
  pub content : List ℕ

-- the length L that the package at the start of s says
abbrev pub package_length : List ℕ → ℕ
package_length s = half s 4

-- the package at the start of s keeps the rules
unfoldable pub package_fits : List ℕ → Bool
package_fits s = leb package_header (length s) && leb package_header (package_length s) && leb (pad (package_length s)) (length s)

-- the piece that the package at the start of s takes, with its padding, s standing at place p; and how long the piece is
unfoldable pub piece : ℕ → List ℕ → Outcome (List ℕ × ℕ)
piece p s = do
  refuse (not (package_fits s)) PACKAGE p
  good (take (pad (package_length s)) s, pad (package_length s))

-- the pieces that the packages of s take, s standing at place p
abbrev pub cut : ℕ → List ℕ → Outcome (List (List ℕ))
cut p s = items piece zero p s

-- the package that a piece holds
unfoldable pub package_of : List ℕ → Package
package_of s = record { id = word s 0; status = at s 7; delta = word s 8; content = part package_header (package_length s) s }

-- the piece that holds a package: reserved byte and padding zero
unfoldable pub piece_of : Package → List ℕ
piece_of p = put32 p.id (put16 (package_header + length p.content) (0 ∷ p.status ∷ put32 p.delta (padded p.content)))

-- c is one package with its padding
pub record Piece (c : List ℕ) : Type 0 where
  pub least : package_header ≤ package_length c
  pub whole : length c ≡ pad (package_length c)

-- a time as a whole number of nanoseconds
abbrev pub instant : ℕ → ℕ → ℕ
instant seconds nanos = seconds * 1000000000 + nanos

-- the package time, by its message's time and its own delta
abbrev pub package_time : ℕ → ℕ → ℕ → ℕ
package_time seconds nanos delta = instant seconds nanos + delta
