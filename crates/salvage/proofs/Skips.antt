-- Where skips end, and that no message stands at an offset on the way.
use Prim.Native.Nat.{ℕ, zero, suc, ◌+◌, ◌-◌, ◌/◌, ◌≤◌, ◌<◌, min}
use mathlib.Core.Path.{◌≡◌, refl, sym, ◌∙◌}
use mathlib.Core.Bool.{Bool, true, false}
use mathlib.Core.List.{List, [], ◌∷◌}
use native.Mathlib.Nat.{add-zero}
use native.Mathlib.Omega.{arith}
use borrow.Author.Tests.{ltb-true, ltb-false, leb-true, leb-false, eq-eqb, ne_eqb}
use lib.Dec.{ltb, leb, eqb}
use lib.ListN.{length, get_or, drop, length-drop, drop_of_length-le}
use lib.Seq.{drop-drop, drop-cons, drop-nil, get_or-drop}
use Rattle.rules.specs.Outcome.{bad}
use Rattle.rules.specs.Bytes.{at}
use Rattle.rules.specs.Message.{head, checks_one_to_six, option_run_length, checks_one_to_nine, checks_one_to_ten, every_check, message}
use Rattle.rules.proofs.Outcomes.{stop, stop_before}
use Rattle.message.proofs.Checks.{short, version}
use Rattle.salvage.specs.Told.{skips_end}
use Rattle.salvage.proofs.Pieces.{Lost, piece-lost}

-- skips end behind their place, and inside s
within : (k p : ℕ) (s : List ℕ) → (p ≤ skips_end k p s) × (skips_end k p s ≤ p + length s)
unfolding skips_end
within k p [] = (omega arith, omega arith)
within (suc k) p (x ∷ s) = let w = within k (suc p) s in (omega (arith, w.0), omega (arith, w.1))
within zero p (x ∷ s) = go (eqb (x / 16) 1) (within 3 (suc p) s)
  where
    go : (b : Bool) → (suc p ≤ skips_end 3 (suc p) s) × (skips_end 3 (suc p) s ≤ suc p + length s)
        → (p ≤ elim b [ true ↦ p | false ↦ skips_end 3 (suc p) s ]) × (elim b [ true ↦ p | false ↦ skips_end 3 (suc p) s ] ≤ p + suc (length s))
    go true w = (omega arith, omega arith)
    go false w = (omega (arith, w.0), omega (arith, w.1))

-- bytes that are skipped are dropped
dropped : (k p : ℕ) (s : List ℕ) → skips_end k p s ≡ skips_end 0 (p + min k (length s)) (drop k s)
unfolding skips_end
dropped k p [] = let z : p + min k 0 ≡ p = omega arith in rw (drop-nil, z)
dropped zero p (x ∷ s) = let z : p + min 0 (suc (length s)) ≡ p = omega arith in rw z
dropped (suc k) p (x ∷ s) = let z : p + min (suc k) (suc (length s)) ≡ suc p + min k (length s) = omega arith in rw z (dropped k (suc p) s)

module _ (s : List ℕ) (p : ℕ) where
  -- the first skip, from place p on
  pub first : p ≤ length s → skips_end 4 p (drop p s) ≡ skips_end 0 (p + min 4 (length s - p)) (drop (p + min 4 (length s - p)) s)
  first h = dropped 4 p (drop p s) ∙ rw length-drop (go (leb 4 (length s - p)) refl)
    where
      go : (b : Bool) → leb 4 (length s - p) ≡ b → skips_end 0 (p + min 4 (length s - p)) (drop 4 (drop p s)) ≡ skips_end 0 (p + min 4 (length s - p)) (drop (p + min 4 (length s - p)) s)
      go true e =
          let l = leb-true 4 (length s - p) e in
          let z : p + min 4 (length s - p) ≡ p + 4 = omega arith in
          rw (z, drop-drop)
      go false e =
          let l = leb-false 4 (length s - p) e in
          let z : p + min 4 (length s - p) ≡ length s = omega arith in
          let n : length (drop p s) ≤ 4 = omega (arith, length-drop p s) in
          let m : length s ≤ length s = omega arith in
          rw (z, drop_of_length-le (drop p s) n, drop_of_length-le s m)

  -- at an offset whose byte says another version the skips go on; at one that says version 1, and at the end, they end
  pub goes_on : p < length s → (get_or s p 0 / 16 ≡ 1 → ⊥) → skips_end 0 p (drop p s) ≡ skips_end 4 p (drop p s)
  unfolding skips_end
  goes_on l c = rw (drop-cons s p 0 l, ne_eqb (get_or s p 0 / 16) 1 c, skips_end)

  pub ends-here : p < length s → get_or s p 0 / 16 ≡ 1 → skips_end 0 p (drop p s) ≡ p
  unfolding skips_end
  ends-here l c = rw (drop-cons s p 0 l, eq-eqb (get_or s p 0 / 16) 1 c, skips_end)

  pub ended : length s ≤ p → skips_end 0 p (drop p s) ≡ p
  unfolding skips_end
  ended l = rw (drop_of_length-le s l)

  pub inside : p < length s → (p < skips_end 4 p (drop p s)) × (skips_end 4 p (drop p s) ≤ length s)
  inside l =
      let q = p + min 4 (length s - p) in
      (omega (arith, first (omega arith), (within 0 q (drop q s)).0), omega (arith, (within 4 p (drop p s)).1, length-drop p s))

-- no message begins with a byte that says another version
other-version : (p : ℕ) (s : List ℕ) → (at s 0 / 16 ≡ 1 → ⊥) → (n : ℕ) × (q : ℕ) × (message p s ≡ bad n q)
unfolding message every_check checks_one_to_ten checks_one_to_nine option_run_length head
other-version p s c = go (ltb (length s) 24) refl
  where
    refused : {n q : ℕ} → bad n q ≡ checks_one_to_six p s (head s) → message p s ≡ bad n q
    refused e = stop _ _ (stop _ _ (stop _ _ (stop _ _ (stop_before _ _ (sym e)))))

    go : (b : Bool) → ltb (length s) 24 ≡ b → (n : ℕ) × (q : ℕ) × (message p s ≡ bad n q)
    go true e = (_, _, refused (short p s (head s) (ltb-true _ _ e)))
    go false e = (_, _, refused (version p s (head s) (ltb-false _ _ e) c))

pub lost-byte : (s : List ℕ) (p : ℕ) → (get_or s p 0 / 16 ≡ 1 → ⊥) → Lost s p
lost-byte s p c = let (n, q, e) = other-version p (drop p s) (λ z. c (rw (get_or-drop p s 0 0, add-zero) at z)) in piece-lost p (drop p s) e
