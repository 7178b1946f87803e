-- Document 01, 'Packages': a package walk, which carries the run it walks and its place.
use Rattle.std.specs.Prelude.{ℕ, ◌+◌, ◌≡◌, true, false, List, [], ◌∷◌, leb, length, drop}
use Rattle.std.proofs.Math.Option.{Option, none, some}
use Rattle.rules.specs.Outcome.{Outcome, good, bad, ◌>>◌, ◌>>=◌}
use Rattle.rules.specs.Bytes.{at, word, part}
use Rattle.rules.specs.Packages.{Package, package_header, package_length, piece}
use Rattle.rules.specs.Message.{not_large}

-- a package where it stands in a run: its numbers, where its data begin and end, and the place behind its padding
pub record PackageSpot : Type 0 where
  pub id : ℕ
  pub size : ℕ
  pub status : ℕ
  pub delta : ℕ
  pub from : ℕ
  pub to : ℕ
  pub next : ℕ

-- the package that takes the piece c, n bytes from place p on
unfoldable pub package_spot : ℕ → List ℕ → ℕ → PackageSpot
package_spot p c n = record { id = word c 0; size = package_length c; status = at c 7; delta = word c 8; from = p + package_header; to = p + package_length c; next = p + n }

-- what a step finds at place p of the run s: LARGE, the end, PACKAGE, or a package
unfoldable pub package_at : List ℕ → ℕ → Outcome (Option PackageSpot)
package_at s p = do
  not_large s
  elim (leb (length s) p) [
    | true ↦ good none
    | false ↦ do
      (c, n) ← piece p (drop p s)
      good (some (package_spot p c n))
  ]

-- what a step from place i shows: of a package its data, as a part of the run, where they begin, and where the walk then stands, behind the padding;
-- at the end and at a refusal nothing, and the walk has not moved
abbrev pub shown_in : List ℕ → ℕ → Outcome (Option PackageSpot) → List ℕ × ℕ × ℕ
shown_in s i (good (some k)) = (part k.from k.to s, k.from, k.next)
shown_in s i (good none) = ([], 0, i)
shown_in s i (bad n p) = ([], 0, i)

unfoldable pub data_at : List ℕ → ℕ → List ℕ
data_at s i = (shown_in s i (package_at s i)).0

unfoldable pub start_at : List ℕ → ℕ → ℕ
start_at s i = (shown_in s i (package_at s i)).1

unfoldable pub next_at : List ℕ → ℕ → ℕ
next_at s i = (shown_in s i (package_at s i)).2

-- the package that a step has found, with its data
abbrev pub package_in : List ℕ → PackageSpot → Package
package_in s k = record { id = k.id; status = k.status; delta = k.delta; content = part k.from k.to s }

-- from place p on the steps show these packages, in order, and then the end
pub data Walks (s : List ℕ) : ℕ → List Package → Type 0 where
  ends : {p : ℕ} → package_at s p ≡ good none → Walks s p []
  shows : {p : ℕ} {k : PackageSpot} {ks : List Package} → package_at s p ≡ good (some k) → Walks s (next_at s p) ks → Walks s p (package_in s k ∷ ks)
