-- Fields within their bounds: looked at one by one, and each of them where all are.
use Prim.Native.Nat.{ℕ, zero, suc, ◌+◌, ◌-◌, ◌^◌, ◌≤◌, ◌<◌}
use mathlib.Core.Path.{◌≡◌, sym, subst, ◌∙◌}
use mathlib.Core.Logic.{⊎_elim}
use mathlib.Core.Bool.{Bool, true, false}
use mathlib.Core.List.{List}
use native.Mathlib.Nat.{eq-or-lt_of_le, le_refl}
use mir.Syntax.{Width}
use mir.Val.{Fits, bits}
use borrow.Author.Rules.{Fits-under}
use native.Mathlib.Omega.{arith}
use borrow.Author.Tests.{le-leb, lt-leb, leb-true, eq-eqb, ne_eqb}
use lib.Dec.{T, leb, ltb, lit<, le→leb}
use Rattle.rules.specs.Bytes.{at}
use Rattle.rules.proofs.Outcomes.{both}
use Rattle.radio.specs.declared.Tlv.{Tlv}
use Rattle.hibernaxo.specs.Radio.{all_within, if_within, opportunity_in, heartbeat_in, metric_in, report_in, handed}
use Rattle.std.specs.Prelude.{Some, None}

module _ (fields bounds : List ℕ) where
  -- a field within its bound is passed over
  passed_over : (k i : ℕ) → at fields i ≤ at bounds i → all_within (suc k) i fields bounds ≡ all_within k (suc i) fields bounds
  unfolding all_within
  passed_over k i h = rw (le-leb (at fields i) (at bounds i) h)

  pub within-next : (n i : ℕ) → i < n → at fields i ≤ at bounds i → all_within (n - i) i fields bounds ≡ all_within (n - (i + 1)) (i + 1) fields bounds
  within-next n i l h =
      let e : n - i ≡ suc (n - (i + 1)) = omega arith in
      let d : i + 1 ≡ suc i = omega arith in
      rw (e, passed_over (n - (i + 1)) i h, d)

  -- and one above it is found
  found : (k i : ℕ) → at bounds i < at fields i → all_within (suc k) i fields bounds ≡ false
  unfolding all_within
  found k i h = rw (lt-leb (at fields i) (at bounds i) h)

  pub within_stop : (n i : ℕ) → i < n → at bounds i < at fields i → all_within (n - i) i fields bounds ≡ false
  within_stop n i l h =
      let e : n - i ≡ suc (n - (i + 1)) = omega arith in
      rw (e, found (n - (i + 1)) i h)

  pub within_end : (n i : ℕ) → n ≤ i → all_within (n - i) i fields bounds ≡ true
  unfolding all_within
  within_end n i l =
      let e : n - i ≡ 0 = omega arith in
      rw e

  -- where all are within, each is
  pub within-at : (k i j : ℕ) → all_within k i fields bounds ≡ true → i ≤ j → j < i + k → at fields j ≤ at bounds j
  unfolding all_within
  within-at zero i j e l h = absurd (omega arith)
  within-at (suc k) i j e l h =
      let b = both (leb (at fields i) (at bounds i)) (all_within k (suc i) fields bounds) e in
      ⊎_elim (λ d. subst (λ (x : ℕ). at fields x ≤ at bounds x) d (leb-true (at fields i) (at bounds i) b.0)) (λ m. within-at k (suc i) j b.1 m (omega arith)) (eq-or-lt_of_le l)

  -- as the code tests it: the bounds are asked, and answer so
  module _ {b : Bool} (asked : b ≡ all_within 11 0 fields bounds) where
    pub field_lt : (j m : ℕ) → b ≡ true → T (ltb j 11) → T (ltb (at bounds j) m) → at fields j < m
    field_lt j m e l h =
        let k : at fields j ≤ at bounds j = within-at 11 0 j (sym asked ∙ e) (omega arith) (omega (arith, lit< l)) in
        omega (arith, lit< h)

    -- so each fits the width that holds its bound
    pub field_fits : (w : Width) (j : ℕ) → b ≡ true → T (ltb j 11) → T (ltb (at bounds j) (2 ^ bits w)) → Fits w (at fields j)
    field_fits w j e l h = Fits-under w (at fields j) (2 ^ bits w) (field_lt j (2 ^ bits w) e l h) (le→leb _ _ (le_refl _))

    -- a TLV whose fields are within their bounds, and none
    pub if_within_lem : (t : Tlv) → b ≡ true → Some t ≡ if_within fields bounds t
    unfolding if_within
    if_within_lem t e = sym (rw (sym asked ∙ e, if_within))

    pub if_not : (t : Tlv) → b ≡ false → None ≡ if_within fields bounds t
    unfolding if_within
    if_not t e = sym (rw (sym asked ∙ e, if_within))

-- by the type's number
module _ (kind : ℕ) (f : List ℕ) where
  pub is_one : kind ≡ 1 → handed kind f ≡ opportunity_in f
  unfolding handed
  is_one a = rw (eq-eqb kind 1 a, handed)

  module _ (n1 : kind ≡ 1 → ⊥) where
    pub is_five : kind ≡ 5 → handed kind f ≡ heartbeat_in f
    unfolding handed
    is_five a = rw (ne_eqb kind 1 n1, eq-eqb kind 5 a, handed)

    module _ (n5 : kind ≡ 5 → ⊥) where
      pub is-six : kind ≡ 6 → handed kind f ≡ metric_in f
      unfolding handed
      is-six a = rw (ne_eqb kind 1 n1, ne_eqb kind 5 n5, eq-eqb kind 6 a, handed)

      module _ (n6 : kind ≡ 6 → ⊥) where
        pub is_ten : kind ≡ 10 → handed kind f ≡ report_in f
        unfolding handed
        is_ten a = rw (ne_eqb kind 1 n1, ne_eqb kind 5 n5, ne_eqb kind 6 n6, eq-eqb kind 10 a, handed)

        pub is-other : (kind ≡ 10 → ⊥) → handed kind f ≡ None
        unfolding handed
        is-other n10 = rw (ne_eqb kind 1 n1, ne_eqb kind 5 n5, ne_eqb kind 6 n6, ne_eqb kind 10 n10, handed)
