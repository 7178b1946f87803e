-- What is stored before the data of a packet, one store behind the other.
use Prim.Native.Nat.{ℕ, ◌+◌, ◌-◌, ◌/◌, ◌%◌, ◌≤◌, ◌<◌}
use mathlib.Core.Path.{◌≡◌, refl, ap, sym, ◌∙◌}
use mathlib.Core.List.{List, [], ◌∷◌, ◌++◌}
use native.Mathlib.Omega.{arith}
use lib.ListN.{length, replicate}
use lib.Seq.{sets}
use Rattle.rules.specs.Bytes.{put16, put32}
use Rattle.rules.proofs.Loops.{sets-sets}
use Rattle.capture.specs.Frame.{carried, checksum, ip_with}
use Rattle.capture.specs.Told.{record_front, ip_front, udp_front, front_of}
use Rattle.capture.proofs.Frames.{carried-low, carried-lt, summed}

pub behind : (b : List ℕ) {b' b'' : List ℕ} (i : ℕ) (xs ys : List ℕ) → b' ≡ sets b i xs → b'' ≡ sets b' (i + length xs) ys → b'' ≡ sets b i (xs ++ ys)
behind b i xs ys e f = f ∙ ap (λ (z : List ℕ). sets z (i + length xs) ys) e ∙ sets-sets xs ys b i

pub carry_is : (n : ℕ) → n < 131071 → (n % 65536 + n / 65536 ≡ carried n) × (n % 65536 + n / 65536 < 65536)
unfolding carried
carry_is n h = (refl, carried-lt n h)

pub checksum-is : (n a c r : ℕ) → n ≤ 65507 → a ≡ carried (28 + n + 17) → c ≡ carried (17664 + a) → r ≡ 65535 - c → r ≡ checksum n
unfolding checksum
checksum-is n a c r h ea ec er = er ∙ ap (λ (x : ℕ). 65535 - x) (ec ∙ ap (λ (x : ℕ). carried (17664 + x)) ea ∙ sym (summed 0 n (omega arith) h ∙ ap (λ (x : ℕ). carried (17664 + carried (28 + n + x))) (carried-low 17 (omega arith))))

module _ (b b1 b2 b3 b4 : List ℕ) (to n : ℕ) where
  pub record_stored : (s m z : ℕ) → z ≡ 42 + n → b1 ≡ sets b to (put32 s []) → b2 ≡ sets b1 (to + 4) (put32 (m / 1000) []) → b3 ≡ sets b2 (to + 8) (put32 z []) → b4 ≡ sets b3 (to + 12) (put32 z [])
      → b4 ≡ sets b to (record_front s m n)
  unfolding record_front
  record_stored s m z ez e1 e2 e3 e4 =
      behind b to (put32 s (put32 (m / 1000) (put32 z []))) (put32 z []) (behind b to (put32 s (put32 (m / 1000) [])) (put32 z []) (behind b to (put32 s []) (put32 (m / 1000) []) e1 e2) e3) e4
      ∙ ap (λ (x : ℕ). sets b to (put32 s (put32 (m / 1000) (put32 x (put32 x []))))) ez

  pub udp_stored : (port z : ℕ) → z ≡ 8 + n → b1 ≡ sets b to (put16 0 []) → b2 ≡ sets b1 (to + 2) (put16 port []) → b3 ≡ sets b2 (to + 4) (put16 z []) → b4 ≡ sets b3 (to + 6) (put16 0 [])
      → b4 ≡ sets b to (udp_front port n)
  unfolding udp_front
  udp_stored port z ez e1 e2 e3 e4 =
      behind b to (put16 0 (put16 port (put16 z []))) (put16 0 []) (behind b to (put16 0 (put16 port [])) (put16 z []) (behind b to (put16 0 []) (put16 port []) e1 e2) e3) e4
      ∙ ap (λ (x : ℕ). sets b to (put16 0 (put16 port (put16 x (put16 0 []))))) ez

pub ip-stored : (b b1 b2 b3 b4 b5 b6 b7 b8 : List ℕ) (to n t c : ℕ) → t ≡ 28 + n → c ≡ checksum n → b1 ≡ sets b to (replicate 12 0) → b2 ≡ sets b1 (to + 12) (put16 0x0800 []) → b3 ≡ sets b2 (to + 14) (put16 0x4500 [])
    → b4 ≡ sets b3 (to + 16) (put16 t []) → b5 ≡ sets b4 (to + 18) (put32 0 []) → b6 ≡ sets b5 (to + 22) (put16 17 []) → b7 ≡ sets b6 (to + 24) (put16 c []) → b8 ≡ sets b7 (to + 26) (replicate 8 0)
    → b8 ≡ sets b to (ip_front n)
unfolding ip_front
ip-stored b b1 b2 b3 b4 b5 b6 b7 b8 to n t c et ec e1 e2 e3 e4 e5 e6 e7 e8 =
    let x1 : List ℕ = replicate 12 0 in
    let x2 = x1 ++ put16 0x0800 [] in
    let x3 = x2 ++ put16 0x4500 [] in
    let x4 = x3 ++ put16 t [] in
    let x5 = x4 ++ put32 0 [] in
    let x6 = x5 ++ put16 17 [] in
    let x7 = x6 ++ put16 c [] in
    behind b to x7 (replicate 8 0) (behind b to x6 (put16 c []) (behind b to x5 (put16 17 []) (behind b to x4 (put32 0 []) (behind b to x3 (put16 t []) (behind b to x2 (put16 0x4500 []) (behind b to x1 (put16 0x0800 []) e1 e2) e3) e4) e5) e6) e7) e8
    ∙ ap (λ (x : ℕ). sets b to (replicate 12 0 ++ put16 0x0800 (0x45 ∷ 0 ∷ put16 x (put32 0 (0 ∷ 17 ∷ put16 c (put32 0 (put32 0 []))))))) et
    ∙ ap (λ (x : ℕ). sets b to (replicate 12 0 ++ put16 0x0800 (ip_with x n))) ec

pub front-stored : (b b1 b2 b3 : List ℕ) (to s m port n : ℕ) → b1 ≡ sets b to (record_front s m n) → b2 ≡ sets b1 (to + 16) (ip_front n) → b3 ≡ sets b2 (to + 50) (udp_front port n) → b3 ≡ sets b to (front_of s m port n)
unfolding front_of record_front ip_front
front-stored b b1 b2 b3 to s m port n e1 e2 e3 = behind b to (record_front s m n ++ ip_front n) (udp_front port n) (behind b to (record_front s m n) (ip_front n) e1 e2) e3
