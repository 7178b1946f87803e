-- What the code that reads a TLV finds: a law for each answer, over plain numbers and lists.
use Prim.Native.Nat.{ℕ, zero, suc, ◌+◌, ◌-◌, ◌≤◌, ◌<◌}
use mathlib.Core.Path.{◌≡◌, refl, sym, ap}
use mathlib.Core.Bool.{true, false}
use mathlib.Core.List.{List}
use mathlib.Core.Option.{none, some}
use native.Mathlib.Omega.{arith}
use borrow.Author.Tests.{eq-eqb, ne_eqb, le-leb, lt-leb, le-ltb, lt-ltb}
use lib.IntN.{ℤ, pos, negsuc}
use lib.Ieee.{Float}
use lib.ListN.{length, take, drop}
use mir.Syntax.{w8}
use mir.Val.{to_z, of_z, SFits}
use mir.Facts.{to_z-of_z}
use Rattle.rules.specs.Outcome.{good, bad, LARGE}
use Rattle.refusal.specs.Numbers.{RADIO}
use Rattle.rules.proofs.Outcomes.{pass, halt, step, stop}
use Rattle.rules.proofs.Loops.{rest}
use Rattle.radio.specs.Quotient.{quotient}
use Rattle.radio.specs.Row.{level_of, rate_of}
use Rattle.radio.specs.Tlv.{signed, tlv_size, typed, keeps_rules, tlv}
use Rattle.radio.specs.Radio.{tlv_at}
use Rattle.radio.proofs.Tlvs.{signed-fits}
use Rattle.radio.specs.declared.Reading.TheVariants.{Missing, Level, Rate}
use Rattle.radio.specs.declared.Tlv.{Tlv}

-- ---- readings: 128 is how -128 stands in a byte

pub level_missing : (z : ℤ) → SFits w8 z → of_z w8 z ≡ 128 → Missing ≡ level_of z
unfolding level_of
level_missing (pos n) f e = let l : n < 128 = f.sfits in absurd (omega arith)
level_missing (negsuc n) f e = let k : n ≡ 127 = omega arith in rw (eq-eqb n 127 k, level_of)

pub level_there : (z : ℤ) → SFits w8 z → (of_z w8 z ≡ 128 → ⊥) → (x : Float) → x ≡ quotient z 1 → Level x ≡ level_of z
unfolding level_of
level_there (pos n) f d x e = ap Level e
level_there (negsuc n) f d x e = rw (ne_eqb n 127 (λ k. d (omega arith)), level_of, e)

pub rate_missing : (n : ℕ) → n ≡ 0 → Missing ≡ rate_of n
unfolding rate_of
rate_missing n e = rw e

pub rate_there : (n : ℕ) → (n ≡ 0 → ⊥) → (x : Float) → x ≡ quotient (pos n) 256 → Rate x ≡ rate_of n
unfolding rate_of
rate_there zero d x e = absurd (d refl)
rate_there (suc n) d x e = ap Rate e

-- ---- a TLV

module _ (p : ℕ) (s : List ℕ) where
  pub untyped : {n q : ℕ} → bad n q ≡ typed p s → bad n q ≡ tlv p s
  unfolding tlv
  untyped e = sym (stop _ _ (sym e))

  module _ (t : Tlv) (e : good t ≡ typed p s) where
    pub broken : keeps_rules t s ≡ false → bad RADIO p ≡ tlv p s
    unfolding tlv
    broken f = sym (step _ _ (sym e) (halt _ _ _ _ (rw f)))

    pub whole : keeps_rules t s ≡ true → good (t, tlv_size t) ≡ tlv p s
    unfolding tlv
    whole f = sym (step _ _ (sym e) (pass _ _ _ _ (rw f) refl))

-- ---- a step

module _ (s : List ℕ) (p : ℕ) where
  pub large : 65536 < length s → bad LARGE 65536 ≡ tlv_at s p
  unfolding tlv_at
  large a = sym (halt _ _ _ _ (lt-ltb 65536 (length s) a))

  module _ (a : length s ≤ 65536) where
    pub over : length s ≤ p → good none ≡ tlv_at s p
    unfolding tlv_at
    over b = sym (pass _ _ _ _ (le-ltb 65536 (length s) a) (rw (le-leb (length s) p b)))

    module _ (b : p < length s) where
      pub no_tlv : {n q : ℕ} → bad n q ≡ tlv p (take (length s - p) (drop p s)) → bad n q ≡ tlv_at s p
      unfolding tlv_at
      no_tlv e = sym (pass _ _ _ _ (le-ltb 65536 (length s) a) (rw (lt-leb (length s) p b) (stop _ _ (sym (rw rest at e)))))

      pub a-tlv : (t : Tlv) (n : ℕ) → n ≡ tlv_size t → good (t, tlv_size t) ≡ tlv p (take (length s - p) (drop p s)) → good (some (t, p + n)) ≡ tlv_at s p
      unfolding tlv_at
      a-tlv t n en e = sym (pass _ _ _ _ (le-ltb 65536 (length s) a) (rw (lt-leb (length s) p b) (step _ _ (sym (rw rest at e)) (rw en))))

-- ---- a signed byte that is kept

pub read-signed : (b : ℕ) → b < 256 → to_z w8 (of_z w8 (signed b)) ≡ signed b
read-signed b h = to_z-of_z {w = w8} {z = signed b} (record { sfits = signed-fits b h })
