-- `capture::weigh` meets its contract: in the loop the sums are those of the messages before `at`.
use borrow.Author.Rules.{rules}
use Prim.Native.Nat.{ℕ, ◌+◌, ◌≤◌, ◌<◌}
use mathlib.Core.Path.{◌≡◌, sym, subst, ◌∙◌}
use mathlib.Core.List.{List}
use native.Mathlib.Omega.{arith}
use lib.ListN.{length}
use Rattle.rules.specs.Writer.{write}
use Rattle.rules.specs.Reading.{MessageSpot}
use Rattle.message.specs.Answers.{spot_of_message}
use Rattle.refusal.proofs.Numbers.{passed_on}
use Rattle.capture.proofs.Weighing.{Spotted, spotted, unread, fits-none, refused-one, Weighing, weighing_start, weighing_end, weighing_bad, weighing_next}
use Rattle.capture.proofs.weigh.Goals as goal
use Rattle.capture.proofs.weigh.Goals.{In_ok-m}

-- a message was read
abbrev Read : Type 0
Read = In_ok-m

abbrev S : Read → List ℕ
S c = c.args.recording.now

abbrev K : Read → MessageSpot
K c = spot_of_message c.in_ok-m.m

spot : (c : Read) → Spotted (S c) c.loop-at.at (K c)
spot c = spotted (S c) c.loop-at.at (K c) (record { below = λ k. omega (arith, c.type_inv.recording k) }) (sym c.in_ok-m.ensures)

before : (c : Read) → c.loop-at.at < length (S c)
before c = search rules

pub loop-at-init : goal.loop-at-init
loop-at-init c = (search rules, weighing_start c.args.recording.now)

pub clean_size-n-requires : goal.clean_size-n-requires
clean_size-n-requires c =
    let w = spot c in
    (w.next, omega (arith, w.most, c.loop-at.invariant.0), w.run)

pub returns-then-n-gt65507 : goal.returns-then-n-gt65507
returns-then-n-gt65507 c =
    let l = c.loop-at in
    let w = spot (goal.at.returns-then-n-gt65507 c).In_ok-m in
    let n : length (write w.held) ≡ c.clean_size-n.result = w.size ∙ sym c.clean_size-n.ensures in
    let m : 65507 < c.clean_size-n.result = search rules in
    rw c.refuse.ensures record { right = λ port. weighing_bad (S (goal.at.returns-then-n-gt65507 c).In_ok-m) l.bytes l.messages l.at l.invariant.1 (before (goal.at.returns-then-n-gt65507 c).In_ok-m) port _ _ (fits-none (S (goal.at.returns-then-n-gt65507 c).In_ok-m) l.at (K (goal.at.returns-then-n-gt65507 c).In_ok-m) w port (omega (arith, n))) }

pub loop-at-smaller : goal.loop-at-smaller
loop-at-smaller c =
    let w = spot (goal.at.loop-at-smaller c).In_ok-m in
    omega (arith, w.payload, w.next, before (goal.at.loop-at-smaller c).In_ok-m)

pub loop-at-preserved : goal.loop-at-preserved
loop-at-preserved c =
    let l = c.loop-at in
    let w = spot (goal.at.loop-at-preserved c).In_ok-m in
    let n : length (write w.held) ≡ c.clean_size-n.result = w.size ∙ sym c.clean_size-n.ensures in
    let m : c.clean_size-n.result ≤ 65507 = search rules in
    (l.invariant.0, subst (λ (x : ℕ). Weighing (S (goal.at.loop-at-preserved c).In_ok-m) (l.bytes + (58 + x)) (l.messages + 1) (K (goal.at.loop-at-preserved c).In_ok-m).next) n (weighing_next (S (goal.at.loop-at-preserved c).In_ok-m) l.bytes l.messages l.at l.invariant.1 (before (goal.at.loop-at-preserved c).In_ok-m) (K (goal.at.loop-at-preserved c).In_ok-m) w (omega (arith, n))))

pub returns-in_err-m : goal.returns-in_err-m
returns-in_err-m c =
    let l = c.loop-at in
    let s = c.args.recording.now in
    let h : l.at < length s = search rules in
    let e = unread s l.at _ _ l.invariant.0 c.in_err-m.ensures in
    rw (passed_on _ _ c.from_residual.ensures.1) (record { right = λ port. weighing_bad s l.bytes l.messages l.at l.invariant.1 h port _ _ (refused-one s l.at port _ _ e) })

pub returns : goal.returns
returns c =
    let l = c.loop-at in
    record { right = weighing_end c.args.recording.now l.bytes l.messages l.at l.invariant.1 (search rules) }
