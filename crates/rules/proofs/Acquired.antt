-- Rows for acquired data only: they release of messages that are acquired what they release without that bit, and of simulated ones nothing.
use Prim.Native.Nat.{ℕ, ◌*◌, ◌/◌, ◌%◌, ◌^◌}
use mathlib.Core.Path.{◌≡◌, refl, ap, ap₂, sym, ◌∙◌}
use mathlib.Core.Bool.{Bool, true, false, not, ◌||◌}
use mathlib.Core.List.{List, [], ◌∷◌, map}
use native.Mathlib.Nat.{div-div-eq-div-mul}
use native.Mathlib.Omega.{arith}
use borrow.Author.Tests.{eqb-true, eq-eqb}
use Rattle.rules.specs.Items.{All, all_nil, all_cons, passing}
use Rattle.rules.specs.Packages.{Package, package_time}
use Rattle.rules.specs.Message.{is_simulated, Message}
use Rattle.rules.specs.Sheet.{Row, row_of, grants}
use Rattle.rules.specs.Copy.{granted, granted_packages, with_entry_of, released}
use Rattle.rules.specs.Claims.{InRanges, Some, here, there}
use Rattle.rules.proofs.Granted.{bit_clear, only-by, granted-exactly}
use Rattle.rules.proofs.Growing.{granted_alike}

-- a row without the bit
abbrev for_all : Row → Row
for_all r = record {
  first_message = r.first_message;
  last_message = r.last_message;
  first_package = r.first_package;
  last_package = r.last_package;
  start_seconds = r.start_seconds;
  start_nanos = r.start_nanos;
  end_seconds = r.end_seconds;
  end_nanos = r.end_nanos;
  spare = r.spare;
  acquired_only = false;
}

-- its number has the same bits but for the lowest
above : (n k : ℕ) → n / 2 * 2 / (2 * k) ≡ n / (2 * k)
above n k =
    let e : n / 2 * 2 / 2 ≡ n / 2 = omega arith in
    sym (div-div-eq-div-mul (n / 2 * 2) 2 k) ∙ ap (λ (m : ℕ). m / k) e ∙ div-div-eq-div-mul n 2 k

below : (n : ℕ) → n / 2 * 2 % 2 ≡ 0
below n = omega arith

without : (n : ℕ) → row_of (n / 2 * 2) ≡ for_all (row_of n)
unfolding row_of
without n = rw (
  above n (2 ^ 223),
  above n (2 ^ 191),
  above n (2 ^ 159),
  above n (2 ^ 127),
  above n (2 ^ 95),
  above n (2 ^ 65),
  above n (2 ^ 33),
  above n (2 ^ 3),
  above n 1,
  below n,
)

all_without : (ns : List ℕ) → map (λ n. row_of (n / 2 * 2)) ns ≡ map for_all (map row_of ns)
all_without [] = refl
all_without (n ∷ ns) = ap₂ (λ (r : Row) (rows : List Row). r ∷ rows) (without n) (all_without ns)

all-only : {ns : List ℕ} → All (λ (n : ℕ). n % 2 ≡ 1) ns → All (λ (r : Row). r.acquired_only ≡ true) (map row_of ns)
unfolding row_of
all-only all_nil = all_nil
all-only (all_cons {a = n} o a) = all_cons (eq-eqb (n % 2) 1 o) (all-only a)

-- ---- a message that is not simulated

module _ (m : Message) (e : m.flags / 8 % 2 ≡ 0) where
  by_all : (k : Package) (r : Row)
      → grants m.id (is_simulated m.flags) k.id (package_time m.seconds m.nanos k.delta) r
      ≡ grants m.id (is_simulated m.flags) k.id (package_time m.seconds m.nanos k.delta) (for_all r)
  unfolding grants
  by_all k r = rw (only-by r.acquired_only m.flags (λ _. e))

  granted-all : (rows : List Row) (k : Package) → granted rows m k ≡ granted (map for_all rows) m k
  unfolding granted
  granted-all [] k = refl
  granted-all (r ∷ rows) k = ap₂ (λ (a b : Bool). a || b) (by_all k r) (granted-all rows k)

  as_for_all : (rows : List Row) → granted_packages rows m m.packages ≡ granted_packages (map for_all rows) m m.packages
  as_for_all rows = granted_alike rows (map for_all rows) m m (granted-all rows) m.packages

kept_by_lem : (rows : List Row) (ms : List Message) → All (λ (m : Message). m.flags / 8 % 2 ≡ 0) ms → released rows ms ≡ released (map for_all rows) ms
unfolding released
kept_by_lem rows [] a = refl
kept_by_lem rows (m ∷ ms) (all_cons e a) = rw (as_for_all m e rows, kept_by_lem rows ms a)

pub kept : (ns : List ℕ) (ms : List Message) → All (λ (m : Message). m.flags / 8 % 2 ≡ 0) ms → released (map row_of ns) ms ≡ released (map (λ n. row_of (n / 2 * 2)) ns) ms
kept ns ms a = rw (all_without ns) (kept_by_lem (map row_of ns) ms a)

-- ---- a simulated message

module _ (m : Message) (e : is_simulated m.flags ≡ true) where
  outside : {rows : List Row} → All (λ (r : Row). r.acquired_only ≡ true) rows → (k : Package) → Some (InRanges m k) rows → ⊥
  outside all_nil k s = elim s [ ]
  outside (all_cons o a) k (here i) = omega (arith, eqb-true (m.flags / 8 % 2) 1 e, i.6 o)
  outside (all_cons o a) k (there s) = outside a k s

  ungranted : {rows : List Row} → All (λ (r : Row). r.acquired_only ≡ true) rows → (k : Package) → granted rows m k ≡ false
  ungranted {rows} a k = go (granted rows m k) refl
    where
      go : (b : Bool) → granted rows m k ≡ b → b ≡ false
      go true q = absurd (outside a k ((granted-exactly m k rows).0 q))
      go false q = refl

  none-granted : {rows : List Row} → All (λ (r : Row). r.acquired_only ≡ true) rows → (ks : List Package) → granted_packages rows m ks ≡ []
  unfolding granted_packages
  none-granted a [] = refl
  none-granted a (k ∷ ks) = rw (ungranted a k, granted_packages) (none-granted a ks)

abbrev acquired : Message → Bool
acquired m = not (is_simulated m.flags)

dropped-by : (rows : List Row) (ms : List Message) → All (λ (r : Row). r.acquired_only ≡ true) rows → released rows ms ≡ released (map for_all rows) (passing acquired ms)
unfolding released with_entry_of
dropped-by rows [] o = refl
dropped-by rows (m ∷ ms) o = go (is_simulated m.flags) refl (dropped-by rows ms o)
  where
    go : (b : Bool) → is_simulated m.flags ≡ b → released rows ms ≡ released (map for_all rows) (passing acquired ms)
        → released rows (m ∷ ms) ≡ released (map for_all rows) (elim (not b) [ true ↦ m ∷ passing acquired ms | false ↦ passing acquired ms ])
    go true e h = rw (none-granted m e o m.packages) h
    go false e h = rw (as_for_all m (bit_clear m.flags e) rows, h)

pub dropped : (ns : List ℕ) (ms : List Message) → All (λ (n : ℕ). n % 2 ≡ 1) ns → released (map row_of ns) ms ≡ released (map (λ n. row_of (n / 2 * 2)) ns) (passing acquired ms)
dropped ns ms o = rw (all_without ns) (dropped-by (map row_of ns) ms (all-only o))
