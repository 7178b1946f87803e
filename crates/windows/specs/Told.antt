-- What `windows::extent` finds.
use Rattle.std.specs.Prelude.{ℕ, ◌≤◌, ◌<◌, ◌≡◌, List, length, Option, Some, None}
use Rattle.rules.specs.Outcome.{good, bad}
use Rattle.windows.specs.Window.{extent}

-- the message at the start of s is whole, and has r bytes by its length alone
pub record Whole (s : List ℕ) (r : ℕ) : Type 0 where
  pub least : 0 < r
  pub most : r ≤ length s
  pub reads : (p : ℕ) → extent p s ≡ good (tt, r)

-- o is how many bytes the message at the start of s has by its length alone, if it is whole
abbrev pub Extends : List ℕ → Option ℕ → Type 0
Extends s None = (p : ℕ) → (n : ℕ) × (extent p s ≡ bad n p)
Extends s (Some r) = Whole s r
