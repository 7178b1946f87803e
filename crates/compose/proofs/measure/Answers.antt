-- `compose::measure` meets its contract: each answer with the tests that led to it.
use Prim.Native.Nat.{◌≤◌}
use mathlib.Core.Path.{◌≡◌, ap, sym, ◌∙◌}
use native.Mathlib.Omega.{arith}
use mathlib.Core.List.{[]}
use lib.ListN.{length}
use Rattle.rules.specs.Outcome.{good}
use Rattle.rules.specs.Options.{option_run_from}
use Rattle.rules.specs.Writer.{Draft}
use Rattle.refusal.specs.Numbers.{outcome_of}
use Rattle.refusal.proofs.Numbers.{handed_on}
use Rattle.compose.specs.Payload.{size_of}
use Rattle.compose.specs.Told.{draft_of}
use Rattle.compose.proofs.Accepting.{Early, is-large, is-late, is-long, is-broken, is-ended, is-uncut, is_miscounted, is-accepted, options-read, cut-refused, cut_made}
use Rattle.compose.proofs.measure.Goals as goal
use Rattle.compose.proofs.measure.Goals.{Else-options-gt60, In_ok-end}

-- the draft behind the three early tests
abbrev D : Else-options-gt60 → Draft
D c = draft_of c.args.r c.args.options.now c.args.packages.now

early : (c : Else-options-gt60) → Early (D c)
early c = record { small = omega arith; nanos = omega arith; short = omega arith }

-- the option run's length, as it was read
ran : (c : In_ok-end) → good c.in_ok-end.end ≡ option_run_from [] 0 0 0 (D (goal.at.In_ok-end c).Else-options-gt60).options
ran c = c.in_ok-end.ensures ∙ options-read _ (early (goal.at.In_ok-end c).Else-options-gt60).short

-- the packages' size
few : (c : Else-options-gt60) → length (D c).packages ≤ 65536
few c = omega (arith, (early c).small)

exact : (c : Else-options-gt60) → c.size_of-n.result ≡ size_of (D c)
exact c = omega arith

pub returns-then-n-gt65536 : goal.returns-then-n-gt65536
returns-then-n-gt65536 c =
    let a = c.args in
    ap outcome_of c.refuse.ensures ∙ is-large (draft_of a.r a.options.now a.packages.now) (omega arith)

pub returns-then-r-gt999999999 : goal.returns-then-r-gt999999999
returns-then-r-gt999999999 c =
    let a = c.args in
    ap outcome_of c.refuse-then-r-gt999999999.ensures ∙ is-late (draft_of a.r a.options.now a.packages.now) (omega arith) (omega arith)

pub returns-then-options-gt60 : goal.returns-then-options-gt60
returns-then-options-gt60 c =
    let a = c.args in
    ap outcome_of c.refuse-then-options-gt60.ensures ∙ is-long (draft_of a.r a.options.now a.packages.now) (omega arith) (omega arith) (omega arith)

pub returns-then-end-options : goal.returns-then-end-options
returns-then-end-options c =
    ap outcome_of c.refuse-then-end-options.ensures ∙ is-ended (D (goal.at.returns-then-end-options c).Else-options-gt60) (early (goal.at.returns-then-end-options c).Else-options-gt60) (ran (goal.at.returns-then-end-options c).In_ok-end) (omega arith)

pub returns-then-miscounts : goal.returns-then-miscounts
returns-then-miscounts c =
    let (made, many) = cut_made _ (few (goal.at.returns-then-miscounts c).Else-options-gt60) (c.in_ok-count.ensures) in
    ap outcome_of c.refuse-then-miscounts.ensures ∙ is_miscounted (D (goal.at.returns-then-miscounts c).Else-options-gt60) (early (goal.at.returns-then-miscounts c).Else-options-gt60) (ran (goal.at.returns-then-miscounts c).In_ok-end) (omega arith) made (rw many (sym c.miscounts.ensures ∙ c.if-miscounts.true))

pub returns-in_err-end : goal.returns-in_err-end
returns-in_err-end c =
    handed_on _ _ _ c.from_residual.ensures.1 (is-broken (D (goal.at.returns-in_err-end c).Else-options-gt60) (early (goal.at.returns-in_err-end c).Else-options-gt60) (c.in_err-end.ensures ∙ options-read _ (early (goal.at.returns-in_err-end c).Else-options-gt60).short))

pub returns-in_err-count : goal.returns-in_err-count
returns-in_err-count c =
    handed_on _ _ _ c.from_residual-in_err-count.ensures.1 (is-uncut (D (goal.at.returns-in_err-count c).Else-options-gt60) (early (goal.at.returns-in_err-count c).Else-options-gt60) (ran (goal.at.returns-in_err-count c).In_ok-end) (omega arith) (cut-refused _ (few (goal.at.returns-in_err-count c).Else-options-gt60) (c.in_err-count.ensures)))

pub returns : goal.returns
returns c =
    let (made, many) = cut_made _ (few (goal.at.returns c).Else-options-gt60) (c.in_ok-count.ensures) in
    ap good (exact (goal.at.returns c).Else-options-gt60) ∙ is-accepted (D (goal.at.returns c).Else-options-gt60) (early (goal.at.returns c).Else-options-gt60) (ran (goal.at.returns c).In_ok-end) (omega arith) made (rw many (sym c.miscounts.ensures ∙ c.if-miscounts.false))
