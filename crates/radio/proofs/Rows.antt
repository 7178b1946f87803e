-- A row says of a link metric what it should.
use Prim.Native.Nat.{ℕ, zero, suc, ◌<◌}
use mathlib.Core.Path.{◌≡◌, refl, sym, ap, subst, ◌∙◌}
use mathlib.Core.Bool.{Bool, true, false}
use native.Mathlib.Omega.{arith}
use borrow.Author.Tests.{eqb-true, eqb-false}
use lib.Dec.{eqb}
use lib.IntN.{ℤ, pos, negsuc}
use lib.Signed.{mag}
use Rattle.radio.specs.Quotient.{quotient}
use Rattle.radio.specs.Row.{level_of, rate_of, link_row, SaysLevel, SaysRate, Says}
use Rattle.radio.specs.Tlv.{FieldsFit}
use Rattle.radio.specs.declared.LinkMetric.{LinkMetric}
use Rattle.radio.specs.declared.LinkRow.{LinkRow}
use Rattle.radio.specs.declared.Reading.{Reading}
use Rattle.radio.specs.declared.Tlv.TheVariants as tlvs
use Rattle.radio.specs.declared.Reading.TheVariants.{Missing, Level, Rate}
use Rattle.radio.proofs.Quotients.{quotient_exact, exact_same}

apart : (m n : ℕ) → pos m ≡ negsuc n → ⊥
apart m n e = let z : ◌≡◌ {A = ℕ} 0 1 = cc in omega arith

negsuc_inj : {m n : ℕ} → negsuc m ≡ negsuc n → m ≡ n
negsuc_inj e = cc

says_level : (z : ℤ) → mag z < 128 → SaysLevel (level_of z) z
unfolding level_of
says_level (pos n) h = (apart n 127, quotient_exact (pos n) 0 (omega arith) (omega arith))
says_level (negsuc n) h = go (eqb n 127) refl
  where
    go : (b : Bool) → eqb n 127 ≡ b → SaysLevel (elim b [ true ↦ Missing | false ↦ Level (quotient (negsuc n) 1) ]) (negsuc n)
    go true e = ap negsuc (eqb-true n 127 e)
    go false e = (λ d. eqb-false n 127 e (negsuc_inj d), quotient_exact (negsuc n) 0 (omega arith) (omega arith))

says_rate : (n : ℕ) → n < 256 → SaysRate (rate_of n) n
unfolding rate_of
says_rate zero h = refl
says_rate (suc n) h = (λ e. omega arith, quotient_exact (pos (suc n)) 8 (omega arith) (omega arith))

pub row_exact : (m : LinkMetric) → FieldsFit (tlvs.LinkMetric m) → Says m (link_row m)
unfolding link_row
row_exact m (f, r, c, e) = record {
  frequency = quotient_exact (pos m.frequency) 2 (omega arith) (omega arith);
  rssi = says_level m.rssi r;
  cinr = says_level m.cinr c;
  errors = says_rate m.errors e;
}

-- ---- a row tells link metrics apart

same_level : (r : Reading) (y z : ℤ) → SaysLevel r y → SaysLevel r z → y ≡ z
same_level Missing y z a b = a ∙ sym b
same_level (Level x) y z a b = exact_same x y z 1 a.1 b.1
same_level (Rate x) y z a b = absurd a

same_rate : (r : Reading) (m n : ℕ) → SaysRate r m → SaysRate r n → m ≡ n
same_rate Missing m n a b = a ∙ sym b
same_rate (Level x) m n a b = absurd a
same_rate (Rate x) m n a b = let e : pos m ≡ pos n = exact_same x (pos m) (pos n) 256 a.1 b.1 in cc

pub row_apart : (m n : LinkMetric) → FieldsFit (tlvs.LinkMetric m) → FieldsFit (tlvs.LinkMetric n) → link_row m ≡ link_row n
    → (m.frequency ≡ n.frequency) × (m.rssi ≡ n.rssi) × (m.cinr ≡ n.cinr) × (m.errors ≡ n.errors)
row_apart m n f g e =
    let r : LinkRow = link_row m in
    let a : Says m r = row_exact m f in
    let b : Says n r = subst (Says n) (sym e) (row_exact n g) in
    let q : pos m.frequency ≡ pos n.frequency = exact_same r.frequency (pos m.frequency) (pos n.frequency) 4 a.frequency b.frequency in
    (cc, same_level r.rssi m.rssi n.rssi a.rssi b.rssi, same_level r.cinr m.cinr n.cinr a.cinr b.cinr, same_rate r.errors m.errors n.errors a.errors b.errors)
