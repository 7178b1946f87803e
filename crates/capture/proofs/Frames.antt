-- A frame that is written is seen to be for its port, its lengths fit, its data is what was written, and its checksum is right.
use Prim.Native.Nat.{ℕ, ◌+◌, ◌-◌, ◌*◌, ◌/◌, ◌%◌, ◌≤◌, ◌<◌}
use mathlib.Core.Path.{◌≡◌, refl, ap, ◌∙◌}
use mathlib.Core.Bool.{Bool, true, ◌&&◌}
use mathlib.Core.List.{List, []}
use native.Mathlib.Nat.{zero-add}
use native.Mathlib.Omega.{arith}
use borrow.Author.Tests.{le-leb}
use lib.Dec.{eqb}
use lib.ListN.{length}
use lib.Seq.{take_all}
use Rattle.rules.specs.Bytes.{half}
use Rattle.rules.proofs.Numbers.{half-put16}
use Rattle.capture.specs.Frame.{ip_of, ip_header, for_us, lengths_fit, data_of, carried, ones_sum, ip_with, checksum, frame_of}

and_true : {a b : Bool} → a ≡ true → b ≡ true → (a && b) ≡ true
and_true {a} {b} e f = rw (e, f)

module _ (port : ℕ) (c : List ℕ) where
  pub frame_length : length (frame_of port c) ≡ 42 + length c
  unfolding frame_of
  frame_length = omega arith

  ip-length : length (ip_of (frame_of port c)) ≡ 28 + length c
  unfolding frame_of
  ip-length = omega arith

  -- the header says that it has 20 bytes
  twenty : ip_header (ip_of (frame_of port c)) ≡ 20
  unfolding frame_of
  twenty = refl

  module _ (small : length c ≤ 65507) where
    total : half (ip_of (frame_of port c)) 2 ≡ 28 + length c
    unfolding frame_of half
    total = half-put16 (28 + length c) [] (omega arith)

    udp : half (ip_of (frame_of port c)) 24 ≡ 8 + length c
    unfolding frame_of half
    udp = half-put16 (8 + length c) [] (omega arith)

    pub fits : lengths_fit (ip_of (frame_of port c)) ≡ true
    unfolding lengths_fit
    fits = rw (twenty, total, ip-length, udp)
        (and_true (and_true (and_true
        (le-leb 28 (28 + length c) (omega arith))
        (le-leb (28 + length c) (28 + length c) (omega arith)))
        (le-leb 8 (8 + length c) (omega arith)))
        (le-leb (20 + (8 + length c)) (28 + length c) (omega arith)))

    pub content : data_of (ip_of (frame_of port c)) ≡ c
    unfolding data_of frame_of
    content =
        let e : 20 + (8 + length c) - 28 ≡ length c = omega arith in
        rw (udp, e) (take_all (length c) c (omega arith))

  -- it is for its port, and for no other
  pub for_port : (other : ℕ) → port < 65536 → for_us other (frame_of port c) ≡ eqb port other
  unfolding for_us frame_of half
  for_port other h =
      rw (le-leb 34 (length (frame_of port c)) (omega (arith, frame_length)), le-leb 24 (length (ip_of (frame_of port c))) (omega (arith, ip-length)))
      (ap (λ (x : ℕ). eqb x other) (half-put16 port [] h))

-- the checksum is right
digits : (x : ℕ) → x < 65536 → x / 256 % 256 * 256 + x % 256 ≡ x
digits x h = omega arith

pub carried-low : (x : ℕ) → x < 65536 → carried x ≡ x
unfolding carried
carried-low x h = omega arith

pub carried-lt : (x : ℕ) → x < 131071 → carried x < 65536
unfolding carried
carried-lt x h = omega arith

carried_some : (x : ℕ) → 1 ≤ x → 1 ≤ carried x
unfolding carried
carried_some x h = omega arith

-- a carry takes 65,535 away
carried-by : (x : ℕ) → carried x + 65535 * (x / 65536) ≡ x
unfolding carried
carried-by x = omega arith

-- the header's sum, with checksum x
pub summed : (x n : ℕ) → x < 65536 → n ≤ 65507 → ones_sum 10 0 (ip_with x n) ≡ carried (17664 + carried (28 + n + carried (17 + x)))
unfolding ones_sum half
summed x n h k =
    let low : carried (17 + x) < 65536 = carried-lt (17 + x) (omega arith) in
    let z : x + 0 ≡ x = omega arith in
    let none : carried 0 ≡ 0 = carried-low 0 (omega arith) in
    let twice : carried (0 + carried (0 + carried (17 + x))) ≡ carried (17 + x) = rw (zero-add, zero-add, carried-low (carried (17 + x)) low) (carried-low (carried (17 + x)) low) in
    rw (none, none, none, none, digits x h, digits (28 + n) (omega arith), z, carried-low x h, twice)

-- with all of the carries, the sum is a multiple of 65,535; and it is not 0
sixteen_ones : (n a q x b c r i j k l m : ℕ) → a + 65535 * i ≡ 28 + n + 17 → q + 65535 * j ≡ 17664 + a → q < 65536 → x ≡ 65535 - q → b + 65535 * k ≡ 17 + x
    → c + 65535 * l ≡ 28 + n + b → r + 65535 * m ≡ 17664 + c → 1 ≤ r → r < 65536 → r ≡ 65535
sixteen_ones n a q x b c r i j k l m ha hq lq hx hb hc hr some lr = omega arith

right : (x n : ℕ) → n ≤ 65507 → x ≡ 65535 - carried (17664 + carried (28 + n + 17)) → carried (17664 + carried (28 + n + carried (17 + x))) ≡ 65535
right x n h e =
    let la = carried-lt (28 + n + 17) (omega arith) in
    let lq = carried-lt (17664 + carried (28 + n + 17)) (omega arith) in
    let lb = carried-lt (17 + x) (omega arith) in
    let lc = carried-lt (28 + n + carried (17 + x)) (omega arith) in
    let lr = carried-lt (17664 + carried (28 + n + carried (17 + x))) (omega arith) in
    sixteen_ones n _ _ x _ _ _ _ _ _ _ _ (carried-by (28 + n + 17)) (carried-by (17664 + carried (28 + n + 17))) lq e (carried-by (17 + x))
    (carried-by (28 + n + carried (17 + x))) (carried-by (17664 + carried (28 + n + carried (17 + x)))) (carried_some (17664 + carried (28 + n + carried (17 + x))) (omega arith)) lr

pub checksum-right : (n : ℕ) → n ≤ 65507 → ones_sum 10 0 (ip_with (checksum n) n) ≡ 65535
unfolding checksum
checksum-right n h =
    let e : ones_sum 10 0 (ip_with 0 n) ≡ carried (17664 + carried (28 + n + 17)) = summed 0 n (omega arith) h ∙ rw (carried-low 17 (omega arith)) in
    summed (checksum n) n (omega arith) h ∙ right (checksum n) n h (rw e)
