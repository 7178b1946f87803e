-- A number belongs to one case of the table only, and none is 0: equal outcomes are equal refusals.
use mathlib.Core.Path.{◌≡◌, refl, sym, ap, ap₂, ◌∙◌}
use mathlib.Core.Bool.{true}
use mathlib.Core.List.{[], ◌∷◌}
use borrow.Author.Rules.{rules}
use Prim.Native.Nat.{ℕ, ◌-◌}
use native.Mathlib.Omega.{arith}
use lib.ListN.{get_or}
use Rattle.rules.specs.Outcome.{Outcome, good}
use Rattle.rules.specs.Claims.{TellsApart}
use Rattle.rules.proofs.Outcomes.{good_inj, bad_inj, good≢bad}
use Rattle.std.specs.Prelude.{Some, None, Result, Ok, Err, IsErrAnd, is_ok}
use Rattle.std.proofs.lemmas.Result.{err_from_is_err_and}
use Rattle.std.specs.Prelude as std
use Rattle.std.proofs.Math.Option as maybe
use Rattle.refusal.specs.Numbers.{number_of, refused, outcome_by, outcome_of, option_by}
use Rattle.refusal.specs.declared.Why.{Why}
use Rattle.refusal.specs.declared.Why.TheVariants.{Short, Version, Kind, Length, Cut, Time, Option, Fragment, Standard, Package, Row, Large, Room, Marker, Blocks, Text, Count, Capture, Radio, Ids, Gap, Holes}
use Rattle.refusal.specs.declared.Refusal.{Refusal}

-- the case that has a number: the table's cases by their numbers, the first one where the table leaves a number out
why_of : ℕ → Why
why_of n = get_or (Short ∷ Version ∷ Kind ∷ Length ∷ Cut ∷ Time ∷ Option ∷ Fragment ∷ Standard ∷ Package ∷ Row ∷ Large ∷ Room ∷ Marker ∷ Blocks ∷ Text ∷ Count ∷ Capture ∷ Radio ∷ Ids ∷ Gap ∷ Holes ∷ []) (n - 1) Short

back : (w : Why) → why_of (number_of w) ≡ w
unfolding why_of
back Short = refl
back Version = refl
back Kind = refl
back Length = refl
back Cut = refl
back Time = refl
back Option = refl
back Fragment = refl
back Standard = refl
back Package = refl
back Row = refl
back Large = refl
back Room = refl
back Marker = refl
back Blocks = refl
back Text = refl
back Count = refl
back Capture = refl
back Radio = refl
back Ids = refl
back Gap = refl
back Holes = refl

pub number_injective : TellsApart number_of
number_injective v w e = sym (back v) ∙ ap why_of e ∙ back w

pub number_positive : (w : Why) → number_of w ≡ 0 → ⊥
unfolding why_of
number_positive w e =
    let z : ◌≡◌ {A = ℕ} 1 0 = ap number_of (ap why_of (sym e) ∙ back w) ∙ e in
    omega arith

-- the same refusal, by its number and its place
pub same_refusal : (r q : Refusal) → number_of r.why ≡ number_of q.why → r.place ≡ q.place → r ≡ q
same_refusal r q e f = ap₂ (λ (w : Why) (p : ℕ). record { why = w; place = p }) (number_injective r.why q.why e) f

pub refused_injective : {A : Type 0} (r q : Refusal) → ◌≡◌ {A = Outcome A} (refused r) (refused q) → r ≡ q
refused_injective r q e = let b = bad_inj e in same_refusal r q b.0 b.1

-- answers are told apart where their values are: where something leads back from what a value is told as
pub same_answer : {A B : Type 0} (f : A → B) (back : B → A) → ((a : A) → back (f a) ≡ a) → TellsApart (outcome_by f)
same_answer f back h (Ok a) (Ok b) e = ap Ok (sym (h a) ∙ ap back (good_inj e) ∙ h b)
same_answer f back h (Ok a) (Err r) e = absurd (good≢bad (sym e))
same_answer f back h (Err r) (Ok a) e = absurd (good≢bad e)
same_answer f back h (Err r) (Err q) e = ap Err (refused_injective r q e)

pub same_outcome : {A : Type 0} → TellsApart (outcome_of {A = A})
same_outcome = same_answer (λ a. a) (λ a. a) (λ a. refl)

-- and back from what may be none
pub option_back : {A B : Type 0} → (B → A) → maybe.Option B → std.Option A
option_back back (maybe.some b) = Some (back b)
option_back back maybe.none = None

pub option-back : {A B : Type 0} (f : A → B) (back : B → A) → ((a : A) → back (f a) ≡ a) → (o : std.Option A) → option_back back (option_by f o) ≡ o
unfolding option_back
option-back f back h (Some a) = ap Some (h a)
option-back f back h None = refl

-- what `?` hands on is the same refusal; and it is told as it was
pub passed_on : {A : Type 0} (r : Result A Refusal) (e : Refusal) → IsErrAnd r (λ (q : Refusal). q ≡ e) → r ≡ Err e
passed_on r e a = let p = err_from_is_err_and r a in p.1 ∙ ap Err p.2

pub handed_on : {A B : Type 0} (f : A → B) (r : Result A Refusal) (e : Refusal) {o : Outcome B} → IsErrAnd r (λ (q : Refusal). q ≡ e) → refused e ≡ o → outcome_by f r ≡ o
handed_on f r e a h = rw (passed_on r e a) h

-- checks that pass
pub passes : (r : Result (Unit {0}) Refusal) → is_ok r ≡ true → good tt ≡ outcome_of r
passes (Ok u) e = refl
passes (Err q) e = absurd (search rules)
