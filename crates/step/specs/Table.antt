-- Numbers to check by: document 01's M and R, taken step by step.
use Rattle.std.specs.Prelude.{ℕ, zero, suc, ◌-◌, ◌^◌, ◌≡◌, List, [], ◌∷◌, ◌++◌, replicate}
use Rattle.rules.specs.Outcome.{SHORT, COUNT, ROOM}
use Rattle.refusal.specs.Numbers.{IDS}
use Rattle.rules.specs.Table.{words, message_with, options_with, M, R}
use Rattle.numbered.specs.Numbering.{State}
use Rattle.numbered.specs.Quota.{Report}
use Rattle.step.specs.Step.{step}
use Rattle.step.specs.Claims.{nothing}

-- a state with no id, and one that holds id 7 with this next number; zero in the other places
abbrev pub fresh : State
fresh = record { ids = replicate 64 0; next = replicate 64 0; held = 0 }

abbrev pub seven : ℕ → State
seven n = record { ids = 7 ∷ replicate 63 0; next = n ∷ replicate 63 0; held = 1 }

-- a state that is full: ids 100 to 163
abbrev pub up_from : ℕ → ℕ → List ℕ
up_from x zero = []
up_from x (suc n) = x ∷ up_from (suc x) n

abbrev pub full : State
full = record { ids = up_from 100 64; next = replicate 64 0; held = 64 }

-- M with flag bit 3, M with an option 0x87 that says 1 of its 2 packages, and R for acquired data alone
abbrev pub simulated_m : List ℕ
simulated_m = message_with 0x10000088 0x38 0 0x000D0000

abbrev pub miscounted_m : List ℕ
miscounted_m = options_with 0x87060000

abbrev pub acquired_r : List ℕ
acquired_r = words (0x00000007 ∷ 0x00000007 ∷ 0x00000001 ∷ 0x00000001 ∷ 0x00000064 ∷ 0x00000000 ∷ 0x00000194 ∷ 0x00000001 ∷ [])

-- the copy of M under R with sequence number n
abbrev pub copied : ℕ → List ℕ
copied n = words (0x100000C0 ∷ 0x00000007 ∷ n ∷ 0x00000028 ∷ 0x00000064 ∷ 0x00000000 ∷ 0x00000001 ∷ 0x000D0000 ∷ 0x00000000 ∷ 0xAA000000 ∷ [])

abbrev pub one : Report
one = record { number = 0; place = 0; handled = 1; consumed = 56; bytes = 40; messages = 1; packages = 1 }

pub record Table : Type 0 where
  pub first : step M R 1 fresh (replicate 40 0xEE) ≡ (one, seven 1, copied 0)
  pub second : step M R 1 (seven 1) (replicate 40 0xEE) ≡ (one, seven 2, copied 1)
  pub both : step (M ++ M) R 9 fresh (replicate 80 0xEE) ≡ (record { number = 0; place = 0; handled = 2; consumed = 112; bytes = 80; messages = 2; packages = 2 }, seven 2, copied 0 ++ copied 1)
  pub quota : step (M ++ M) R 1 fresh (replicate 40 0xEE) ≡ (one, seven 1, copied 0)
  pub wraps : step M R 1 (seven (2 ^ 32 - 1)) (replicate 40 0xEE) ≡ (one, seven 0, copied (2 ^ 32 - 1))
  pub junk_behind : step (M ++ 1 ∷ []) R 1 fresh (replicate 40 0xEE) ≡ (one, seven 1, copied 0)
  pub cut-within : step (M ++ 1 ∷ []) R 2 fresh (replicate 40 0xEE) ≡ (nothing SHORT 56, fresh, replicate 40 0xEE)
  pub count-behind : step (M ++ miscounted_m) R 1 fresh (replicate 40 0xEE) ≡ (one, seven 1, copied 0)
  pub count-within : step (M ++ miscounted_m) R 2 fresh (replicate 80 0xEE) ≡ (nothing COUNT 56, fresh, replicate 80 0xEE)
  pub acquired : step (M ++ simulated_m ++ M) acquired_r 3 fresh (replicate 80 0xEE) ≡ (record { number = 0; place = 0; handled = 3; consumed = 168; bytes = 80; messages = 2; packages = 2 }, seven 2, copied 0 ++ copied 1)
  pub nothing-asked : step (1 ∷ []) R 0 fresh [] ≡ (nothing 0 0, fresh, [])
  pub no_place : step (M ++ M) R 2 full [] ≡ (nothing IDS 0, full, [])
  pub none-granted : step M [] 1 full [] ≡ (record { number = 0; place = 0; handled = 1; consumed = 56; bytes = 0; messages = 0; packages = 0 }, full, [])
  pub no_room : step M R 1 fresh (replicate 39 0xEE) ≡ (nothing ROOM 40, fresh, replicate 39 0xEE)
  pub twice : step [] R 1 (record { ids = 7 ∷ 7 ∷ replicate 62 0; next = replicate 64 0; held = 2 }) [] ≡ (nothing IDS 0, record { ids = 7 ∷ 7 ∷ replicate 62 0; next = replicate 64 0; held = 2 }, [])
  pub too_many : step [] R 1 (record { ids = replicate 64 0; next = replicate 64 0; held = 65 }) [] ≡ (nothing IDS 0, record { ids = replicate 64 0; next = replicate 64 0; held = 65 }, [])
