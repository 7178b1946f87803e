-- When a row grants a package, test by test; and that some row grants is what the rules say.
use Prim.Native.Nat.{ℕ, ◌≤◌, ◌<◌}
use mathlib.Core.Path.{◌≡◌, refl, ap, ◌∙◌}
use mathlib.Core.Bool.{Bool, true, false, not, ◌&&◌, ◌||◌}
use mathlib.Core.List.{List, [], ◌∷◌, map}
use borrow.Author.Tests.{le-leb, lt-leb, le-ltb, lt-ltb}
use Rattle.rules.specs.Packages.{Package, package_time}
use Rattle.rules.specs.Message.{is_simulated, Message}
use Rattle.rules.specs.Sheet as rules
use Rattle.rules.specs.Sheet.{start_of, end_of, grants}
use Rattle.rules.specs.Copy.{granted}
use Rattle.sheet.specs.declared.Row.{Row}
use Rattle.sheet.specs.Rows.{row_in, some_grants}

module _ (r : rules.Row) (m : ℕ) (simulated : Bool) (p t : ℕ) where
  pub below-message : m < r.first_message → false ≡ grants m simulated p t r
  unfolding grants
  below-message a = rw (lt-leb _ _ a)

  pub above-message : r.first_message ≤ m → r.last_message < m → false ≡ grants m simulated p t r
  unfolding grants
  above-message a b = rw (le-leb _ _ a, lt-leb _ _ b)

  -- its message id lies in the range
  module _ (a : r.first_message ≤ m) (b : m ≤ r.last_message) where
    pub below_package : p < r.first_package → false ≡ grants m simulated p t r
    unfolding grants
    below_package c = rw (le-leb _ _ a, le-leb _ _ b, lt-leb _ _ c)

    pub above_package : r.first_package ≤ p → r.last_package < p → false ≡ grants m simulated p t r
    unfolding grants
    above_package c d = rw (le-leb _ _ a, le-leb _ _ b, le-leb _ _ c, lt-leb _ _ d)

    -- and so does its package id
    module _ (c : r.first_package ≤ p) (d : p ≤ r.last_package) where
      pub by-start : t < start_of r → false ≡ grants m simulated p t r
      unfolding grants
      by-start e = rw (le-leb _ _ a, le-leb _ _ b, le-leb _ _ c, le-leb _ _ d, lt-leb (start_of r) t e)

      pub by_end : start_of r ≤ t → end_of r ≤ t → false ≡ grants m simulated p t r
      unfolding grants
      by_end e f = rw (le-leb _ _ a, le-leb _ _ b, le-leb _ _ c, le-leb _ _ d, le-leb (start_of r) t e, le-ltb t (end_of r) f)

      -- and its time in the window
      module _ (e : start_of r ≤ t) (f : t < end_of r) where
        by-window : not (r.acquired_only && simulated) ≡ grants m simulated p t r
        unfolding grants
        by-window = rw (le-leb _ _ a, le-leb _ _ b, le-leb _ _ c, le-leb _ _ d, le-leb (start_of r) t e, lt-ltb t (end_of r) f)

        pub for_acquired : r.acquired_only ≡ true → not simulated ≡ grants m simulated p t r
        for_acquired o = (rw o) ∙ by-window

        pub for_all_lem : r.acquired_only ≡ false → true ≡ grants m simulated p t r
        for_all_lem o = (rw o) ∙ by-window

-- the search is the rules'
pub search_is : (rs : List Row) (m : Message) (p : Package)
    → granted (map row_in rs) m p ≡ some_grants rs m.id (is_simulated m.flags) p.id (package_time m.seconds m.nanos p.delta)
unfolding granted some_grants
search_is [] m p = refl
search_is (r ∷ rs) m p = ap (λ (b : Bool). grants m.id (is_simulated m.flags) p.id (package_time m.seconds m.nanos p.delta) (row_in r) || b) (search_is rs m p)
