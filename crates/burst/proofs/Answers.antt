-- What the randomizer and the opening of a burst answer, by the tests that lead to each answer.
use Prim.Native.Nat.{ℕ, ◌<◌, ◌≤◌}
use mathlib.Core.Path.{◌≡◌, refl, sym, ap}
use mathlib.Core.Bool.{true, false, not}
use mathlib.Core.List.{List, ◌++◌}
use borrow.Author.Tests.{le-ltb, lt-ltb}
use lib.ListN.{length, take, drop}
use Rattle.rules.specs.Outcome.{LARGE, MARKER, BLOCKS}
use Rattle.rules.specs.Burst.{randomized, marked, codeblocks, blocks_fit, opening, Randomized, Opened, randomized_answer, opened_answer, randomizer, opener}
use Rattle.rules.proofs.Outcomes.{pass, halt}

abbrev told : ℕ → ℕ → List ℕ → Randomized × List ℕ
told n p s = (record { number = n; place = p }, s)

abbrev opened : ℕ → ℕ → ℕ → List ℕ → Opened × List ℕ
opened n p b s = (record { number = n; place = p; blocks = b }, s)

module _ (s : List ℕ) where
  pub randomizer-large : 65536 < length s → told LARGE 65536 s ≡ randomizer s
  unfolding randomizer randomized_answer
  randomizer-large h = sym (ap (randomized_answer s) (halt _ _ _ _ (lt-ltb 65536 (length s) h)))

  pub randomizer-done : (t : List ℕ) → length s ≤ 65536 → t ≡ randomized 0 s → told 0 0 t ≡ randomizer s
  unfolding randomizer randomized_answer
  randomizer-done t h e = rw e (sym (ap (randomized_answer s) (pass _ _ _ _ (le-ltb 65536 (length s) h) refl)))

  pub opener-large : 65536 < length s → opened LARGE 65536 0 s ≡ opener s
  unfolding opener opening opened_answer
  opener-large h = sym (ap (opened_answer s) (halt _ _ _ _ (lt-ltb 65536 (length s) h)))

  module _ (h : length s ≤ 65536) where
    pub opener-marker : marked s ≡ false → opened MARKER 0 0 s ≡ opener s
    unfolding opener opening opened_answer
    opener-marker m = sym (ap (opened_answer s) (pass _ _ _ _ (le-ltb 65536 (length s) h) (halt _ _ _ _ (ap not m))))

    module _ (m : marked s ≡ true) where
      pub opener-blocks : blocks_fit (length s) ≡ false → opened BLOCKS (length s) 0 s ≡ opener s
      unfolding opener opening opened_answer
      opener-blocks b = sym (ap (opened_answer s) (pass _ _ _ _ (le-ltb 65536 (length s) h) (pass _ _ _ _ (ap not m) (halt _ _ _ _ (ap not b)))))

      pub opener-done : (n : ℕ) (t : List ℕ) → blocks_fit (length s) ≡ true → n ≡ codeblocks (length s) → t ≡ take 8 s ++ randomized 0 (drop 8 s) → opened 0 0 n t ≡ opener s
      unfolding opener opening opened_answer
      opener-done n t b f e = rw (f, e) (sym (ap (opened_answer s) (pass _ _ _ _ (le-ltb 65536 (length s) h) (pass _ _ _ _ (ap not m) (pass _ _ _ _ (ap not b) refl)))))
