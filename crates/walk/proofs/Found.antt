-- What is shown, and where the walk then stands, by what a step finds.
use Prim.Native.Nat.{ℕ}
use mathlib.Core.Path.{◌≡◌}
use mathlib.Core.List.{List, []}
use mathlib.Core.Option.{none, some}
use Rattle.rules.specs.Outcome.{good, bad}
use Rattle.rules.specs.Bytes.{part}
use Rattle.rules.specs.Walk.{PackageSpot, package_at, data_at, start_at, next_at}

pub record Steps (s : List ℕ) (i : ℕ) (l : List ℕ) (a n : ℕ) : Type 0 where
  pub shows : l ≡ data_at s i
  pub start : a ≡ start_at s i
  pub next : n ≡ next_at s i

module _ (s : List ℕ) (i : ℕ) where
  pub there : (k : PackageSpot) → good (some k) ≡ package_at s i → Steps s i (part k.from k.to s) k.from k.next
  unfolding data_at start_at next_at
  there k e = record { shows = rw (← e, data_at); start = rw (← e, start_at); next = rw (← e, next_at) }

  pub over : good none ≡ package_at s i → Steps s i [] 0 i
  unfolding data_at start_at next_at
  over e = record { shows = rw (← e, data_at); start = rw (← e, start_at); next = rw (← e, next_at) }

  pub refused : {n p : ℕ} → bad n p ≡ package_at s i → Steps s i [] 0 i
  unfolding data_at start_at next_at
  refused e = record { shows = rw (← e, data_at); start = rw (← e, start_at); next = rw (← e, next_at) }
