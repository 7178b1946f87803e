-- `capture::put_messages` meets its contract: in the loop the records of the messages before `at` are stored.
use borrow.Author.Rules.{rules}
use Prim.Native.Nat.{ℕ, ◌<◌}
use mathlib.Core.Path.{sym}
use mathlib.Core.List.{List}
use native.Mathlib.Omega.{arith}
use lib.ListN.{length}
use Rattle.message.specs.declared.Message.{Message}
use Rattle.message.specs.Answers.{spot_of_message}
use Rattle.capture.specs.Told.{Roomy}
use Rattle.capture.proofs.Weighing.{Spotted, spotted, unread, refused-one}
use Rattle.capture.proofs.Laying.{laying_start, laying_end, laying_bad, sendable, laying_next}
use Rattle.capture.proofs.put_messages.Goals as goal
use Rattle.capture.proofs.put_messages.Goals.{In-Ok}

-- a message was read
abbrev Read : Type 0
Read = In-Ok

abbrev S : Read → List ℕ
S c = c.args.recording.now

abbrev K : Read → Message
K c = c.in-Ok.m

spot : (c : Read) → Spotted (S c) c.loop-at.at (spot_of_message (K c))
spot c = spotted (S c) c.loop-at.at (spot_of_message (K c)) (record { below = λ k. omega (arith, c.type_inv.recording k) }) (sym c.in-Ok.ensures)

before : (c : Read) → c.loop-at.at < length (S c)
before c = search rules

pub loop-at-init : goal.loop-at-init
loop-at-init c =
    let a = c.args in
    let q : Roomy a.recording.now a.port (length a.out.now) = search rules in
    (search rules, q, laying_start a.recording.now a.port a.out.now q)

pub returns-in_default : goal.returns-in_default
returns-in_default c =
    let l = c.loop-at in
    let a = c.args in
    let e = unread a.recording.now l.at _ _ l.invariant.0 c.in_default.ensures in
    absurd (laying_bad a.recording.now a.port a.out.now l.invariant.1 l.out l.to l.at l.invariant.2 (search rules) _ _ (refused-one a.recording.now l.at a.port _ _ e))

pub put_message-to-requires : goal.put_message-to-requires
put_message-to-requires c =
    let l = c.loop-at in
    let a = c.args in
    sendable (S (goal.at.put_message-to-requires c).In-Ok) a.port a.out.now l.invariant.1 l.out l.to l.at l.invariant.2 (before (goal.at.put_message-to-requires c).In-Ok) (K (goal.at.put_message-to-requires c).In-Ok) (spot (goal.at.put_message-to-requires c).In-Ok) l.invariant.0

pub loop-at-smaller : goal.loop-at-smaller
loop-at-smaller c =
    let w = spot (goal.at.loop-at-smaller c).In-Ok in
    omega (arith, w.payload, w.next, before (goal.at.loop-at-smaller c).In-Ok)

pub loop-at-preserved : goal.loop-at-preserved
loop-at-preserved c =
    let l = c.loop-at in
    let a = c.args in
    (l.invariant.0, l.invariant.1, laying_next (S (goal.at.loop-at-preserved c).In-Ok) a.port a.out.now l.invariant.1 l.out l.to l.at l.invariant.2 (before (goal.at.loop-at-preserved c).In-Ok) (K (goal.at.loop-at-preserved c).In-Ok) (spot (goal.at.loop-at-preserved c).In-Ok) _ _ c.put_message-to.ensures)

pub returns : goal.returns
returns c =
    let l = c.loop-at in
    let a = c.args in
    laying_end a.recording.now a.port a.out.now l.invariant.1 l.out l.to l.at l.invariant.2 (search rules)
