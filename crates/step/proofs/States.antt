-- States that a caller can hand over: the running numbers that they hold, and the states that hold running numbers.
use Prim.Native.Nat.{ℕ, zero, suc, ◌^◌, ◌≤◌, ◌<◌}
use mathlib.Core.Path.{◌≡◌, ap, ap₂, sym, ◌∙◌}
use mathlib.Core.Bool.{false}
use mathlib.Core.List.{List, [], ◌∷◌, map}
use native.Mathlib.Omega.{arith}
use borrow.Author.Tests.{le-ltb}
use lib.ListN.{length, get_or, take, set, length-map, length-take}
use lib.Seq.{sets, length-sets, length-take-le}
use Rattle.rules.specs.Items.{All, all_nil, all_cons, count}
use Rattle.rules.proofs.Kept.{take-sets}
use Rattle.numbered.specs.Numbering.{Running, beside, State, running_in, id_of, next_of, holding}
use Rattle.numbered.specs.Quota.{bad_ids, bad_state}
use Rattle.numbered.proofs.Numbers.{Low}
use Rattle.numbered.proofs.States.{beside-ids, beside-next, beside-length, beside_maps, sets_same, good-few}
use Rattle.numbered.proofs.Twice.{once-twice}
use Rattle.step.specs.Claims.{StateFits}

-- ---- numbers of 32 bits

abbrev Lows : List ℕ → Type 0
Lows l = (k : ℕ) → get_or l k 0 < 2 ^ 32

lows_take : (h : ℕ) (l : List ℕ) → Lows l → Lows (take h l)
lows_take zero l w k = omega arith
lows_take (suc h) [] w k = omega arith
lows_take (suc h) (x ∷ l) w zero = w zero
lows_take (suc h) (x ∷ l) w (suc k) = lows_take h l (λ i. w (suc i)) k

lows_set : (l : List ℕ) (i v : ℕ) → Lows l → v < 2 ^ 32 → Lows (set l i v)
lows_set [] i v w h k = w k
lows_set (x ∷ l) zero v w h zero = h
lows_set (x ∷ l) zero v w h (suc k) = w (suc k)
lows_set (x ∷ l) (suc i) v w h zero = w zero
lows_set (x ∷ l) (suc i) v w h (suc k) = lows_set l i v (λ j. w (suc j)) h k

lows_sets : (l : List ℕ) (i : ℕ) {ns : List Running} → Lows l → All Low ns → Lows (sets l i (map next_of ns))
lows_sets l i w all_nil = w
lows_sets l i w (all_cons {a = n} {l = ns} h a) = lows_sets (set l i n.next) (suc i) (lows_set l i n.next w h) a

beside-low : (xs ns : List ℕ) → Lows ns → All Low (beside xs ns)
unfolding beside
beside-low [] ns w = all_nil
beside-low (x ∷ xs) [] w = all_nil
beside-low (x ∷ xs) (n ∷ ns) w = all_cons (w zero) (beside-low xs ns (λ k. w (suc k)))

-- ---- states

beside-few : (xs ns : List ℕ) → length (beside xs ns) ≤ length xs
unfolding beside
beside-few [] ns = omega arith
beside-few (x ∷ xs) [] = omega arith
beside-few (x ∷ xs) (n ∷ ns) = omega (arith, beside-few xs ns)

-- the ids of a state's running numbers
pub running_ids : (state : State) → length state.ids ≡ length state.next → map id_of (running_in state) ≡ take state.held state.ids
running_ids state l = beside-ids (take state.held state.ids) (take state.held state.next) (omega (arith, l, length-take state.held state.ids, length-take state.held state.next))

pub running_few : (state : State) → bad_state 64 state ≡ false → length (running_in state) ≤ 64
running_few state b =
    omega (arith, beside-few (take state.held state.ids) (take state.held state.next), length-take state.held state.ids, good-few 64 state.ids state.held b)

module _ (state : State) (fits : StateFits state) where
  pub running_low : All Low (running_in state)
  running_low = beside-low (take state.held state.ids) (take state.held state.next) (lows_take state.held state.next fits.below)

  -- the numbers held, where they fit
  module _ (few : state.held ≤ 64) where
    ids-long : length (take state.held state.ids) ≡ state.held
    ids-long = length-take-le state.held state.ids (omega (arith, fits.ids))

    next-long : length (take state.held state.next) ≡ state.held
    next-long = length-take-le state.held state.next (omega (arith, fits.next))

    pub running_length : length (running_in state) ≡ state.held
    running_length = beside-length _ _ (ids-long ∙ sym next-long) ∙ ids-long

    -- a state holds its own numbers
    pub holding_same : holding state (running_in state) ≡ state
    unfolding holding
    holding_same =
        rw (
          running_ids state (fits.ids ∙ sym fits.next),
          beside-next (take state.held state.ids) (take state.held state.next) (ids-long ∙ sym next-long),
          sets_same state.held state.ids (omega (arith, fits.ids)),
          sets_same state.held state.next (omega (arith, fits.next)),
          running_length,
        )

  module _ (ns : List Running) (few : length ns ≤ 64) where
    ids-back : take (length ns) (sets state.ids 0 (map id_of ns)) ≡ map id_of ns
    ids-back = ap (λ (k : ℕ). take k (sets state.ids 0 (map id_of ns))) (sym (length-map ns id_of)) ∙ take-sets state.ids (map id_of ns) (omega (arith, length-map ns id_of, fits.ids))

    -- what is held comes back
    pub running_holding : running_in (holding state ns) ≡ ns
    unfolding holding
    running_holding =
        let b : take (length ns) (sets state.next 0 (map next_of ns)) ≡ map next_of ns =
        ap (λ (k : ℕ). take k (sets state.next 0 (map next_of ns))) (sym (length-map ns next_of)) ∙ take-sets state.next (map next_of ns) (omega (arith, length-map ns next_of, fits.next)) in
        ap₂ beside ids-back b ∙ beside_maps ns

    pub fits-holding : All Low ns → StateFits (holding state ns)
    unfolding holding
    fits-holding low = record {
      ids = length-sets state.ids 0 (map id_of ns) ∙ fits.ids;
      next = length-sets state.next 0 (map next_of ns) ∙ fits.next;
      below = lows_sets state.next 0 fits.below low;
    }

    -- ids that stand once each can be held
    pub good-holding : ((y : ℕ) → count y (map id_of ns) ≤ 1) → bad_state 64 (holding state ns) ≡ false
    unfolding holding bad_ids
    good-holding once = rw (le-ltb 64 (length ns) few, ids-back) (once-twice (map id_of ns) once)
