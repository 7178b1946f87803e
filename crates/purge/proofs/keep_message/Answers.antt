-- `purge::keep_message` meets its contract: the option run, the packages, then counts and header, or nothing of it.
use Prim.Native.Nat.{ℕ, ◌+◌, ◌≤◌}
use mathlib.Core.List.{List}
use mathlib.Core.Path.{◌≡◌, sym, ◌∙◌}
use native.Mathlib.Omega.{arith}
use lib.ListN.{length}
use lib.Seq.{sets, length-take-le}
use Rattle.rules.specs.Bytes.{Bytes, pad, part, padded}
use Rattle.sheet.specs.Table.{rows_in}
use Rattle.purge.proofs.Moving.{Stood, stood, run_short, run_room, forth, within, long₁, room, goes, ready, stays}
use Rattle.purge.proofs.keep_message.Goals as goal
use Rattle.purge.proofs.keep_message.Goals.{After-slice_known-1}

-- the message that was read
abbrev Known : Type 0
Known = After-slice_known-1

met : (k : Known) → Stood k.args.s.now k.args.at k.args.m
met k = stood k.args.s.now k.args.at k.args.m k.requires.2

bytes : (k : Known) → Bytes k.args.s.now
bytes k = record { below = λ i. omega (arith, k.type_inv.s i) }

-- its options in whole words, its payload and its end lie behind one another in the buffer
inside : (k : Known) → (k.args.at + 24 + pad k.args.m.header.run ≤ k.args.m.payload) × (k.args.m.payload ≤ k.args.m.next) × (k.args.m.next ≤ length k.args.s.now)
inside k =
    let a = k.args in
    let f = met k in
    let b = bytes k in
    (run_room a.s.now a.at a.m f b k.requires.1, forth a.s.now a.at a.m f b k.requires.1, within a.s.now a.at a.m f b k.requires.1)

-- and the buffer with the options moved is as long, so that its part up to the message's end is
moved : (k : Known) (s₁ : List ℕ) → s₁ ≡ sets k.args.s.now (k.args.to + 24) (padded (part (k.args.at + 24) (k.args.at + 24 + k.args.m.header.run) k.args.s.now)) → k.args.m.next ≤ length s₁
moved k s₁ e =
    let a = k.args in
    omega (arith, (inside k).2, long₁ a.s.now a.at a.m (met k) (bytes k) k.requires.1 a.to k.requires.0 s₁ e)

pub overflow_add-body : goal.overflow_add-body
overflow_add-body c =
    let i = inside (goal.at.overflow_add-body c).After-slice_known-1 in
    omega (arith, c.requires.0, c.requires.1, i.0, i.1, i.2)

pub round_up-requires : goal.round_up-requires
round_up-requires c =
    let a = c.args in
    let k = (goal.at.round_up-requires c).After-slice_known-1 in
    omega (arith, run_short a.s.now a.at a.m (met k) (bytes k) c.requires.1)

pub overflow_add-body-2 : goal.overflow_add-body-2
overflow_add-body-2 c =
    let i = inside (goal.at.overflow_add-body-2 c).After-slice_known-1 in
    omega (arith, c.requires.0, c.requires.1, c.round_up.ensures, i.0, i.1, i.2)

pub overflow_add-to : goal.overflow_add-to
overflow_add-to c =
    let i = inside (goal.at.overflow_add-to c).After-slice_known-1 in
    omega (arith, c.requires.0, c.requires.1, i.0, i.1, i.2)

pub overflow_add-at : goal.overflow_add-at
overflow_add-at c =
    let i = inside (goal.at.overflow_add-at c).After-slice_known-1 in
    omega (arith, c.requires.1, i.0, i.1, i.2)

pub move_run-requires : goal.move_run-requires
move_run-requires c =
    let i = inside (goal.at.move_run-requires c).After-slice_known-1 in
    (omega (arith, c.requires.0), omega (arith, i.0, i.1, i.2), c.requires.1)

pub slice_bounds-keep_packages-end : goal.slice_bounds-keep_packages-end
slice_bounds-keep_packages-end c = moved (goal.at.slice_bounds-keep_packages-end c).After-slice_known-1 _ c.move_run.ensures

pub slice_bounds-keep_packages-end-2 : goal.slice_bounds-keep_packages-end-2
slice_bounds-keep_packages-end-2 c =
    sym (length-take-le c.args.m.next c.move_run.new.s (moved (goal.at.slice_bounds-keep_packages-end-2 c).After-slice_known-1 _ c.move_run.ensures))

pub keep_packages-left-requires : goal.keep_packages-left-requires
keep_packages-left-requires c =
    let k = (goal.at.keep_packages-left-requires c).After-slice_known-1 in
    let i = inside k in
    let l = length-take-le c.args.m.next c.move_run.new.s (moved k _ c.move_run.ensures) in
    (omega (arith, c.requires.0, c.round_up.ensures, i.0), omega (arith, i.1, l), omega (arith, i.2, l, c.requires.1), c.requires.3)

pub returns-then-loses_last : goal.returns-then-loses_last
returns-then-loses_last c =
    let a = c.args in
    let k = (goal.at.returns-then-loses_last c).After-slice_known-1 in
    let p = c.keep_packages-left in
    goes a.s.now a.at a.m (met k) (bytes k) c.requires.1 a.to c.requires.0 _ c.move_run.ensures (rows_in a.table.now) _ p.result (rw c.round_up.ensures at p.ensures) (sym c.loses_last.ensures ∙ c.if-loses_last.true)

pub put_front-requires : goal.put_front-requires
put_front-requires c =
    let a = c.args in
    let k = (goal.at.put_front-requires c).After-slice_known-1 in
    let p = c.keep_packages-left in
    ready a.s.now a.at a.m (met k) (bytes k) c.requires.1 a.to c.requires.0 _ c.move_run.ensures (rows_in a.table.now) _ p.result (rw c.round_up.ensures at p.ensures)

pub overflow_add-result : goal.overflow_add-result
overflow_add-result c =
    let a = c.args in
    let k = (goal.at.overflow_add-result c).After-slice_known-1 in
    let p = c.keep_packages-left in
    omega (arith, c.round_up.ensures, (inside k).2, c.requires.1, room a.s.now a.at a.m (met k) (bytes k) c.requires.1 a.to c.requires.0 _ c.move_run.ensures (rows_in a.table.now) _ p.result (rw c.round_up.ensures at p.ensures))

pub returns : goal.returns
returns c =
    let a = c.args in
    let k = (goal.at.returns c).After-slice_known-1 in
    let p = c.keep_packages-left in
    rw (c.put_front.ensures, c.round_up.ensures) (stays a.s.now a.at a.m (met k) (bytes k) c.requires.1 a.to c.requires.0 _ c.move_run.ensures (rows_in a.table.now) _ p.result (rw c.round_up.ensures at p.ensures) (sym c.loses_last.ensures ∙ c.if-loses_last.false))
