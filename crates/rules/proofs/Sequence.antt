-- The randomizer's sequence repeats after 255 bits, so its bytes repeat after 255 bytes, and one table holds a period. Randomizing twice gives the bytes back.
-- A window is the latest eight of the bits so far. It alone tells the next window, so a window that comes again brings all that follows it again.
use Prim.Native.Nat.{ℕ, zero, suc, ◌+◌, ◌*◌, ◌/◌, ◌%◌, ◌<◌}
use mathlib.Core.Path.{◌≡◌, refl, sym, ap, ap₂, ◌∙◌}
use mathlib.Core.List.{List, [], ◌∷◌, ◌++◌}
use native.Mathlib.Nat.{add-zero, zero-add, add-suc, suc-add}
use native.Mathlib.Omega.{arith}
use lib.Arith.{bin_ind}
use lib.Bits.{bit_xor, differ, xor_step, xor_zero_l, xor_self}
use lib.ListN.{length, get_or, take, replicate}
use lib.Seq.{get_or-take, take-take}
use Rattle.rules.specs.Burst.{◌xor◌, before, next_bit, bits, bit, byte_of, sequence_byte, sequence_bytes, randomized}

next_bit_lem : (n : ℕ) → bit (suc (suc (suc (suc (suc (suc (suc (suc n)))))))) ≡ bit n xor bit (suc (suc (suc n))) xor bit (suc (suc (suc (suc (suc n))))) xor bit (suc (suc (suc (suc (suc (suc (suc n)))))))
unfolding bit bits
next_bit_lem n = refl

-- The recurrence by the bits' numbers.
pub recurrence : (n : ℕ) → bit (8 + n) ≡ bit n xor bit (3 + n) xor bit (5 + n) xor bit (7 + n)
recurrence n =
    let a : 3 + n ≡ suc (suc (suc n)) = omega arith in
    let b : 5 + n ≡ suc (suc (3 + n)) = omega arith in
    let c : 7 + n ≡ suc (suc (5 + n)) = omega arith in
    let d : 8 + n ≡ suc (7 + n) = omega arith in
    rw (d, c, b, a) (next_bit_lem n)

abbrev window : ℕ → List ℕ
window n = take 8 (bits n)

-- the window one place on, and m places on
unfoldable pub shifted : ℕ → List ℕ → List ℕ
shifted zero w = w
shifted (suc m) w = shifted m (next_bit w ∷ take 7 w)

next-window : (n : ℕ) → next_bit (window n) ∷ take 7 (window n) ≡ window (suc n)
unfolding bits
next-window n =
    let b = bits n in
    rw (get_or-take 8 b 7 0 (omega arith), get_or-take 8 b 4 0 (omega arith), get_or-take 8 b 2 0 (omega arith), get_or-take 8 b 0 0 (omega arith), take-take 7 8 b (omega arith))

shifted-window : (m n : ℕ) → shifted m (window n) ≡ window (m + n)
unfolding shifted
shifted-window zero n = rw zero-add
shifted-window (suc m) n = ap (shifted m) (next-window n) ∙ rw (suc-add, ← add-suc) (shifted-window m (suc n))

-- the first window comes again after 255 places
again : shifted 255 (replicate 8 1) ≡ replicate 8 1
unfolding shifted
again = refl

windows : (n : ℕ) → window (n + 255) ≡ window n
unfolding bits
windows n = sym (shifted-window n 255) ∙ ap (shifted n) (sym (shifted-window 255 0) ∙ again) ∙ shifted-window n 0 ∙ ap window (add-zero n)

-- It repeats after 255 bits.
pub bit-period : (n : ℕ) → bit (n + 255) ≡ bit n
unfolding bit
bit-period n = sym (get_or-take 8 (bits (n + 255)) 7 0 (omega arith)) ∙ ap (before 8) (windows n) ∙ get_or-take 8 (bits n) 7 0 (omega arith)

windows_many : (m n : ℕ) → window (255 * m + n) ≡ window n
windows_many zero n = ap window (omega arith)
windows_many (suc m) n = ap window (omega arith) ∙ windows (255 * m + n) ∙ windows_many m n

-- Its bytes repeat after 255 bytes, and so after any number of periods.
pub byte_periods : (m k : ℕ) → sequence_byte (255 * m + k) ≡ sequence_byte k
unfolding sequence_byte
byte_periods m k = ap byte_of (ap window (omega arith) ∙ windows_many (8 * m) (8 * k))

-- the bytes from a window on, as antt computes them
unfoldable pub values : ℕ → List ℕ → List ℕ
values zero w = []
values (suc n) w = byte_of w ∷ values n (shifted 8 w)

values-bytes : (n k : ℕ) → values n (window (8 * k)) ≡ sequence_bytes k n
unfolding values sequence_bytes sequence_byte
values-bytes zero k = refl
values-bytes (suc n) k =
    ap (λ (t : List ℕ). byte_of (window (8 * k)) ∷ t)
    (ap (values n) (shifted-window 8 (8 * k) ∙ ap window (omega arith)) ∙ values-bytes n (suc k))

-- One period, as a table is compared with it.
pub period : values 255 (replicate 8 1) ≡ sequence_bytes 0 255
unfolding bits
period = values-bytes 255 0

-- entry j of n bytes from byte k on
pub bytes-at : (n k j : ℕ) → j < n → get_or (sequence_bytes k n) j 0 ≡ sequence_byte (k + j)
unfolding sequence_bytes
bytes-at zero k j h = absurd (omega arith)
bytes-at (suc n) k zero h = ap sequence_byte (sym (add-zero k))
bytes-at (suc n) k (suc j) h = bytes-at n (suc k) j (omega arith) ∙ ap sequence_byte (omega arith)

-- Byte k of the sequence is entry k % 255 of one period, for every k.
pub byte-entry : (k : ℕ) → sequence_byte k ≡ get_or (sequence_bytes 0 255) (k % 255) 0
byte-entry k =
    ap sequence_byte (omega arith) ∙ byte_periods (k / 255) (k % 255)
    ∙ sym (bytes-at 255 0 (k % 255) (omega arith) ∙ ap sequence_byte (zero-add (k % 255)))

-- exclusive-or with a number twice
differ_twice : (i j : ℕ) → i < 2 → j < 2 → (differ i j < 2) × (differ (differ i j) j ≡ i)
differ_twice zero zero h k = (omega arith, refl)
differ_twice zero (suc zero) h k = (omega arith, refl)
differ_twice zero (suc (suc j)) h k = absurd (omega arith)
differ_twice (suc zero) zero h k = (omega arith, refl)
differ_twice (suc zero) (suc zero) h k = (omega arith, refl)
differ_twice (suc zero) (suc (suc j)) h k = absurd (omega arith)
differ_twice (suc (suc i)) j h k = absurd (omega arith)

step : (a : ℕ) → ((b : ℕ) → bit_xor (bit_xor (a / 2) b) b ≡ a / 2) → (b : ℕ) → bit_xor (bit_xor a b) b ≡ a
step a ih b =
    let (l, w) = differ_twice (a % 2) (b % 2) (omega arith) (omega arith) in
    let e : bit_xor a b ≡ bit_xor (a / 2) (b / 2) * 2 + differ (a % 2) (b % 2) = xor_step a b in
    let p : bit_xor a b / 2 ≡ bit_xor (a / 2) (b / 2) = omega arith in
    let q : bit_xor a b % 2 ≡ differ (a % 2) (b % 2) = omega arith in
    xor_step (bit_xor a b) b ∙ rw (p, q, ih (b / 2), w) (omega arith)

pub xor_twice : (a b : ℕ) → bit_xor (bit_xor a b) b ≡ a
xor_twice = bin_ind (λ (a : ℕ). (b : ℕ) → bit_xor (bit_xor a b) b ≡ a) (λ b. rw (xor_zero_l, xor_self)) step

-- Randomizing twice gives the bytes back.
pub randomized-twice : (k : ℕ) (s : List ℕ) → randomized k (randomized k s) ≡ s
unfolding randomized
randomized-twice k [] = refl
randomized-twice k (x ∷ s) = ap₂ (λ (y : ℕ) (t : List ℕ). y ∷ t) (xor_twice x (sequence_byte k)) (randomized-twice (suc k) s)

pub randomized-length : (k : ℕ) (s : List ℕ) → length (randomized k s) ≡ length s
unfolding randomized
randomized-length k [] = refl
randomized-length k (x ∷ s) = ap suc (randomized-length (suc k) s)

-- a list in two parts
pub randomized-append : (k : ℕ) (p q : List ℕ) → randomized k (p ++ q) ≡ randomized k p ++ randomized (k + length p) q
unfolding randomized
randomized-append k [] q = rw add-zero
randomized-append k (x ∷ p) q = rw (add-suc, ← suc-add, randomized-append (suc k) p q)

-- The sequence starts again after whole periods.
pub randomized_periods : (m k : ℕ) (s : List ℕ) → randomized (255 * m + k) s ≡ randomized k s
unfolding randomized
randomized_periods m k [] = refl
randomized_periods m k (x ∷ s) = rw (byte_periods m k, ← add-suc) (ap (λ (t : List ℕ). (x xor sequence_byte k) ∷ t) (randomized_periods m (suc k) s))

-- byte j of what is randomized
pub randomized-at : (k : ℕ) (s : List ℕ) (j : ℕ) → j < length s → get_or (randomized k s) j 0 ≡ get_or s j 0 xor sequence_byte (k + j)
unfolding randomized
randomized-at k [] j h = absurd (omega arith)
randomized-at k (x ∷ s) zero h = rw add-zero
randomized-at k (x ∷ s) (suc j) h = rw (add-suc, ← suc-add) (randomized-at (suc k) s j (omega arith))
