-- `purge::keep_messages` meets its contract: in the loop what is kept of the messages before `at` ends at `to`, and the messages from `at` on are as they were.
use borrow.Author.Rules.{rules}
use mathlib.Core.Path.{◌≡◌, sym, ap, ◌∙◌}
use native.Mathlib.Omega.{arith}
use Rattle.rules.specs.Outcome.{good}
use Rattle.rules.specs.Reading.{message_at}
use Rattle.message.specs.declared.Message.{Message}
use Rattle.message.specs.Answers.{spot_of_message, told_message}
use Rattle.sheet.specs.Table.{rows_in}
use Rattle.purge.proofs.Moving.{Stood, stood}
use Rattle.purge.proofs.Purging.{purge-start, purge-ended, purge-refused, next-on, next-within, purge-next}
use Rattle.purge.proofs.keep_messages.Goals as goal
use Rattle.purge.proofs.keep_messages.Goals.{In-Ok}

-- a message was read
abbrev Read : Type 0
Read = In-Ok

abbrev which : Read → Message
which c = c.in-Ok.m

read : (c : Read) → good (spot_of_message (which c)) ≡ message_at c.loop-at.s c.loop-at.at
read c = ap told_message (sym c.in-Ok.is) ∙ c.message_at.ensures

stands : (c : Read) → Stood c.loop-at.s c.loop-at.at (which c)
stands c = stood c.loop-at.s c.loop-at.at (which c) (read c)

pub loop-at-init : goal.loop-at-init
loop-at-init c = purge-start (rows_in c.args.table.now) c.args.s.now c.requires.0

pub shape_of-s-in_default : goal.shape_of-s-in_default
shape_of-s-in_default c = c.loop-at.invariant.long

pub returns-in_default : goal.returns-in_default
returns-in_default c =
    let v = c.loop-at in
    purge-refused (rows_in c.args.table.now) c.args.s.now c.requires.0 v.s v.to v.at v.invariant (search rules) c.in_default.field-0 (ap told_message (sym c.in_default.is) ∙ c.message_at.ensures)

pub keep_message-to-requires : goal.keep_message-to-requires
keep_message-to-requires c =
    let v = c.loop-at in
    (v.invariant.ahead, omega (arith, v.invariant.long, c.requires.0), read (goal.at.keep_message-to-requires c).In-Ok, c.requires.1)

pub loop-at-smaller : goal.loop-at-smaller
loop-at-smaller c =
    let v = c.loop-at in
    omega (arith, v.invariant.long, next-on (rows_in c.args.table.now) c.args.s.now c.requires.0 v.s v.to v.at v.invariant (search rules) (which (goal.at.loop-at-smaller c).In-Ok) (stands (goal.at.loop-at-smaller c).In-Ok), next-within (rows_in c.args.table.now) c.args.s.now c.requires.0 v.s v.to v.at v.invariant (search rules) (which (goal.at.loop-at-smaller c).In-Ok) (stands (goal.at.loop-at-smaller c).In-Ok))

pub loop-at-preserved : goal.loop-at-preserved
loop-at-preserved c =
    let v = c.loop-at in
    purge-next (rows_in c.args.table.now) c.args.s.now c.requires.0 v.s v.to v.at v.invariant (search rules) (which (goal.at.loop-at-preserved c).In-Ok) (stands (goal.at.loop-at-preserved c).In-Ok) _ _ c.keep_message-to.ensures

pub shape_of-s : goal.shape_of-s
shape_of-s c = c.loop-at.invariant.long

pub returns : goal.returns
returns c =
    let v = c.loop-at in
    purge-ended (rows_in c.args.table.now) c.args.s.now c.requires.0 v.s v.to v.at v.invariant (search rules)
