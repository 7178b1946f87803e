-- The whole answer, by what the survey reports.
use Prim.Native.Nat.{ℕ, ◌-◌, ◌≤◌, ◌<◌}
use mathlib.Core.Path.{◌≡◌, refl, sym, ap, ap₂, subst, ◌∙◌}
use mathlib.Core.List.{List, [], ◌++◌, map}
use native.Mathlib.Omega.{arith}
use borrow.Author.Tests.{le-ltb, lt-ltb}
use lib.ListN.{length, take, replicate}
use lib.Seq.{sets, take_at}
use Rattle.rules.specs.Outcome.{Outcome, good, bad, ◌>>=◌, ROOM}
use Rattle.std.specs.Prelude.{Ok, Err}
use Rattle.rules.specs.Buffer.{fitted}
use Rattle.rules.proofs.Outcomes.{pass, halt, step, stop}
use Rattle.refusal.specs.declared.Refusal.{Refusal}
use Rattle.refusal.specs.declared.Why.TheVariants.{Room}
use Rattle.refusal.proofs.Numbers.{number_positive}
use Rattle.salvage.specs.Salvage as rule
use Rattle.salvage.specs.Salvage.{salvaged, room_for, answered, salvage}
use Rattle.salvage.specs.Claims as Claim
use Rattle.salvage.specs.Claims.{without}
use Rattle.salvage.specs.Told.{stretch_in, report, told, surveyed, reported, Fit}
use Rattle.salvage.specs.declared.Salvaged.{Salvaged}
use Rattle.salvage.proofs.Cover.{stretches-fit}
use Rattle.salvage.proofs.Surveying.{reported_bad}
use Rattle.salvage.proofs.Claims.{kept_of_lem, refused-exactly, output-is-rest}

-- a refusal has a number
refused-number : (s : List ℕ) {n p : ℕ} → Claim.Refused s n p → n ≡ 0 → ⊥
refused-number s (Claim.large h) e = omega arith
refused-number s (Claim.holes l r h) e = omega arith

answer-bad : (b : List ℕ) (n p : ℕ) → answered b (bad n p) ≡ ((answered [] (bad n p)).0, b)
unfolding answered
answer-bad b n p = refl

answer-good : (b : List ℕ) (x : rule.Salvage) → answered b (good x) ≡ ((answered [] (good x)).0, sets b 0 x.text)
unfolding answered
answer-good b x = refl

number-good : (x : rule.Salvage) → (answered [] (good x)).0.number ≡ 0
unfolding answered
number-good x = refl

number-bad : (n p : ℕ) → (answered [] (bad n p)).0.number ≡ n
unfolding answered
number-bad n p = refl

bytes_good : (x : rule.Salvage) → (answered [] (good x)).0.bytes ≡ length x.text
unfolding answered
bytes_good x = refl

stretches-good : (x : rule.Salvage) → (answered [] (good x)).0.stretches ≡ x.stretches ++ replicate (64 - length x.stretches) rule.no_stretch
unfolding answered
stretches-good x = refl

count-good : (x : rule.Salvage) → (answered [] (good x)).0.count ≡ length x.stretches
unfolding answered
count-good x = refl

-- what the survey found, if it is not refused: n bytes, and these stretches
pub record Ready (s : List ℕ) (n : ℕ) (hs : List rule.Stretch) (k : ℕ) : Type 0 where
  pub salvage : rule.Salvage
  pub good : salvaged s ≡ good salvage
  pub bytes : n ≡ length salvage.text
  pub small : length s ≤ 65536
  pub few : k ≤ 64
  pub fit : Fit 0 (length s) hs
  pub kept : without hs 0 s ≡ salvage.text

ready_of : (s : List ℕ) (n : ℕ) (x : rule.Salvage) (hs : List rule.Stretch) (k : ℕ) → salvaged s ≡ good x → n ≡ length x.text → x.stretches ≡ hs → k ≡ length x.stretches → Ready s n hs k
ready_of s n x hs k e l h c =
    let y = kept_of_lem s x e in
    record {
      salvage = x;
      good = e;
      bytes = l;
      small = y.small;
      few = omega (arith, y.few);
      fit = subst (Fit 0 (length s)) (sym y.stretches ∙ h) (stretches-fit s y.pieces y.salvages);
      kept = ap (λ (z : List rule.Stretch). without z 0 s) (sym h) ∙ sym (output-is-rest s x e);
    }

-- the survey is refused
pub salvage-refused : (s : List ℕ) (x : Refusal) (b : List ℕ) → report (Err x) ≡ surveyed s → told (Err x) b ≡ salvage s b
unfolding salvage
salvage-refused s x b q = go (salvaged s) refl
  where
    go : (o : Outcome rule.Salvage) → salvaged s ≡ o → told (Err x) b ≡ answered b (salvaged s >>= room_for b)
    go (good y) f = absurd (number_positive x.why (ap (λ (a : rule.Answer). a.number) (q ∙ ap (λ (o : Outcome rule.Salvage). (answered [] o).0) f) ∙ number-good y))
    go (bad n p) f = ap (λ (a : rule.Answer). (a, b)) (q ∙ ap (λ (o : Outcome rule.Salvage). (answered [] o).0) f) ∙ sym (ap (answered b) (stop _ _ f) ∙ answer-bad b n p)

-- it is not
module _ (s : List ℕ) (r : Salvaged) (q : report (Ok r) ≡ surveyed s) where
  abbrev shown : List rule.Stretch
  shown = reported r.stretches r.count

  by-outcome : {o : Outcome rule.Salvage} → salvaged s ≡ o → report (Ok r) ≡ (answered [] o).0
  by-outcome f = q ∙ ap (λ (o : Outcome rule.Salvage). (answered [] o).0) f

  shown-are : (x : rule.Salvage) → salvaged s ≡ good x → (x.stretches ≡ shown) × (r.count ≡ length x.stretches)
  shown-are x f =
      let c : r.count ≡ length x.stretches = ap (λ (a : rule.Answer). a.count) (by-outcome f) ∙ count-good x in
      let h : map stretch_in r.stretches ≡ x.stretches ++ replicate (64 - length x.stretches) rule.no_stretch = ap (λ (a : rule.Answer). a.stretches) (by-outcome f) ∙ stretches-good x in
      (sym (ap (take r.count) h ∙ take_at x.stretches _ r.count (sym c)), c)

  pub ready : Ready s r.bytes shown r.count
  ready = go (salvaged s) refl
    where
      go : (o : Outcome rule.Salvage) → salvaged s ≡ o → Ready s r.bytes shown r.count
      go (bad k p) f = absurd (refused-number s ((refused-exactly s k p).0 f) (sym (number-bad k p) ∙ sym (ap (λ (a : rule.Answer). a.number) (by-outcome f))))
      go (good x) f = ready_of s r.bytes x shown r.count f (ap (λ (a : rule.Answer). a.bytes) (by-outcome f) ∙ bytes_good x) (shown-are x f).0 (shown-are x f).1

  pub salvage-roomless : (b : List ℕ) → length b < r.bytes → told (Err (record { why = Room; place = r.bytes })) b ≡ salvage s b
  unfolding salvage room_for fitted
  salvage-roomless b l =
      let y = ready in
      let g : (salvaged s >>= room_for b) ≡ bad ROOM r.bytes = step _ _ y.good (stop _ _ (halt _ _ _ _ (lt-ltb (length b) (length y.salvage.text) (omega (arith, y.bytes))))) ∙ ap (bad ROOM) (sym y.bytes) in
      ap (λ (z : rule.Answer). (z, b)) (reported_bad (record { why = Room; place = r.bytes })) ∙ sym (ap (answered b) g ∙ answer-bad b ROOM r.bytes)

  pub salvage-done : (b c : List ℕ) → r.bytes ≤ length b → c ≡ sets b 0 (without shown 0 s) → told (Ok r) c ≡ salvage s b
  unfolding salvage room_for fitted
  salvage-done b c l f =
      let y = ready in
      let g : (salvaged s >>= room_for b) ≡ good y.salvage = step _ _ y.good (step _ _ (pass _ _ _ _ (le-ltb (length b) (length y.salvage.text) (omega (arith, y.bytes))) refl) refl) in
      let k : c ≡ sets b 0 y.salvage.text = f ∙ ap (sets b 0) y.kept in
      ap₂ (λ (z : rule.Answer) (w : List ℕ). (z, w)) (by-outcome y.good) k ∙ sym (ap (answered b) g ∙ answer-good b y.salvage)
