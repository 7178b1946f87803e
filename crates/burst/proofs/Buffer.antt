-- A buffer that is randomized byte by byte, part by part, or behind its first bytes only.
use Prim.Native.Nat.{ℕ, zero, suc, ◌+◌, ◌-◌, ◌*◌, ◌/◌, ◌%◌, ◌<◌, ◌≤◌}
use mathlib.Core.Path.{◌≡◌, refl, sym, ap, ◌∙◌}
use mathlib.Core.List.{List, ◌++◌, append-nil, append_assoc}
use native.Mathlib.Nat.{zero-add}
use native.Mathlib.Omega.{arith}
use lib.ListN.{length, get_or, set, take, drop, length-set, length-append, length-drop, drop_of_length-le, take-append-drop}
use lib.Seq.{take_all, length-take-le, take-suc-set, drop-set-lt, drop-cons, append_snoc, take_at, drop_at}
use borrow.Rule.Slice.PartMut.{put_mid}
use Rattle.rules.specs.Burst.{◌xor◌, sequence_byte, sequence_bytes, randomized}
use Rattle.rules.proofs.Sequence.{bytes-at, randomized-length, randomized-append, randomized_periods}

-- s with what is left of it, its bytes from k on, randomized from byte j of the sequence on
abbrev pub left : ℕ → ℕ → List ℕ → List ℕ
left j k s = take k s ++ randomized j (drop k s)

-- what is still to be randomized, one byte fewer
one_less : (j k : ℕ) (s : List ℕ) → k < length s → left (suc j) (suc k) (set s k (get_or s k 0 xor sequence_byte j)) ≡ left j k s
unfolding randomized
one_less j k s h =
    let v = get_or s k 0 xor sequence_byte j in
    rw (take-suc-set s k v h, drop-set-lt (suc k) s k v (omega arith), drop-cons s k 0 h) (append_snoc (take k s) v (randomized (suc j) (drop (suc k) s)))

-- and nothing
pub none_left : (j k : ℕ) (s : List ℕ) → length s ≤ k → left j k s ≡ s
unfolding randomized
none_left j k s h = rw (take_all k s h, drop_of_length-le s h) (append-nil s)

-- after whole periods the sequence goes on as it did before them
pub goes_on : (a f : ℕ) (s : List ℕ) → a % 255 ≡ f → randomized a s ≡ randomized f s
goes_on a f s w =
    let e : a ≡ 255 * (a / 255) + f = omega arith in
    ap (λ (n : ℕ). randomized n s) e ∙ randomized_periods (a / 255) f s

in_two : (a f k : ℕ) (s : List ℕ) → a % 255 ≡ f → k ≤ length s → randomized a s ≡ randomized f (take k s) ++ randomized (a + k) (drop k s)
in_two a f k s w h =
    ap (randomized a) (sym (take-append-drop k s)) ∙ randomized-append a (take k s) (drop k s)
    ∙ rw (length-take-le k s h, goes_on a f (take k s) w)

-- what is still to be randomized, k bytes fewer: those from a to e, randomized as a list of their own from byte f of a period on
pub part-less : (a f k e : ℕ) (s ys : List ℕ) → a % 255 ≡ f → a + k ≡ e → e ≤ length s → ys ≡ randomized f (take k (drop a s)) → left e e (put_mid a k s ys) ≡ left a a s
part-less a f k e s ys w g h q =
    let fits : k ≤ length (drop a s) = omega (arith, length-drop a s) in
    let many : length ys ≡ k = ap length q ∙ randomized-length f (take k (drop a s)) ∙ length-take-le k (drop a s) fits in
    let front : length (take a s ++ ys) ≡ e = omega (arith, length-append (take a s) ys, length-take-le a s (omega arith)) in
    let rest = drop k (drop a s) in
    rw (← append_assoc (take a s) ys rest, take_at (take a s ++ ys) rest e front, drop_at (take a s ++ ys) rest e front, in_two a f k (drop a s) w fits, q, g)
    (append_assoc (take a s) (randomized f (take k (drop a s))) (randomized e rest))

-- all behind the first a bytes, randomized as a list of its own
pub behind : (f a : ℕ) (s ys : List ℕ) → ys ≡ randomized f (take (length s - a) (drop a s)) → put_mid a (length s - a) s ys ≡ left f a s
behind f a s ys q =
    let all : length (drop a s) ≤ length s - a = omega (arith, length-drop a s) in
    rw (q, take_all (length s - a) (drop a s) all, drop_of_length-le (drop a s) all) (ap (λ (t : List ℕ). take a s ++ t) (append-nil (randomized f (drop a s))))

bytes-long : (n k : ℕ) → length (sequence_bytes k n) ≡ n
unfolding sequence_bytes
bytes-long zero k = refl
bytes-long (suc n) k = ap suc (bytes-long n (suc k))

-- a table of the sequence's first n bytes, and what whoever lends it shows where m of them are used
module _ (n : ℕ) (t : List ℕ) (e : t ≡ sequence_bytes 0 n) where
  pub table_long : length t ≡ n
  table_long = ap length e ∙ bytes-long n 0

  pub lent : (m : ℕ) → m ≤ n → (m ≤ length t) × (t ≡ sequence_bytes 0 (length t))
  lent m h = (rw table_long h, e ∙ ap (sequence_bytes 0) (sym table_long))

-- what is still to be randomized, one byte fewer: byte k, by entry j of the table
pub byte-less : (n : ℕ) (t s : List ℕ) (j k : ℕ) → t ≡ sequence_bytes 0 n → j < n → k < length s → left (suc j) (suc k) (set s k (get_or s k 0 xor get_or t j 0)) ≡ left j k s
byte-less n t s j k e l h = rw (e, bytes-at n 0 j l, zero-add) (one_less j k s h)

-- three bytes or fewer, one by one
module _ (t : List ℕ) (e : t ≡ sequence_bytes 0 255) where
  -- s with byte k randomized by the table
  abbrev with : List ℕ → ℕ → List ℕ
  with s k = set s k (get_or s k 0 xor get_or t k 0)

  on : (s : List ℕ) (k : ℕ) → k < 255 → k < length s → left (suc k) (suc k) (with s k) ≡ left k k s
  on s k l h = byte-less 255 t s k k e l h

  module _ (s : List ℕ) where
    pub few-none : length s < 1 → s ≡ randomized 0 s
    few-none h = sym (none_left 0 0 s (omega arith))

    pub few-one : length s ≡ 1 → with s 0 ≡ randomized 0 s
    few-one h = sym (none_left 1 1 (with s 0) (rw length-set (omega arith))) ∙ on s 0 (omega arith) (omega arith)

    pub few-two : length s ≡ 2 → with (with s 0) 1 ≡ randomized 0 s
    few-two h =
        sym (none_left 2 2 (with (with s 0) 1) (rw (length-set, length-set) (omega arith)))
        ∙ on (with s 0) 1 (omega arith) (rw length-set (omega arith))
        ∙ on s 0 (omega arith) (omega arith)

    pub few-three : length s ≡ 3 → with (with (with s 0) 1) 2 ≡ randomized 0 s
    few-three h =
        sym (none_left 3 3 (with (with (with s 0) 1) 2) (rw (length-set, length-set, length-set) (omega arith)))
        ∙ on (with (with s 0) 1) 2 (omega arith) (rw (length-set, length-set) (omega arith))
        ∙ on (with s 0) 1 (omega arith) (rw length-set (omega arith))
        ∙ on s 0 (omega arith) (omega arith)
