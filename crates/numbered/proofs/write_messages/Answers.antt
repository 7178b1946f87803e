-- `numbered::write_messages` meets its contract: in the loop the copy of the messages before `at` is stored, and the numbers after them are held.
use borrow.Author.Rules.{rules}
use native.Mathlib.Omega.{arith}
use Rattle.message.specs.declared.Header.{Header}
use Rattle.message.proofs.Fronts.{Fronted}
use Rattle.sheet.specs.Table.{rows_in}
use Rattle.numbered.proofs.Marks.{sees-none}
use Rattle.numbered.proofs.Written.{write-start, write-ended, write-there, ready, fits, write-next}
use Rattle.numbered.proofs.write_messages.Goals as goal
use Rattle.numbered.proofs.write_messages.Goals.{After-header_in-h}

-- a header was read
abbrev H : After-header_in-h → Header
H c = c.header_in-h.result

places : (c : After-header_in-h) → Fronted c.args.recording.now c.loop-at.at (H c)
places c =
    let v = c.loop-at in
    let a = c.args in
    write-there (rows_in a.table.now) a.recording.now a.ids.now a.next.now a.held a.out.now v.invariant.1 v.out v.ids v.next v.seen v.reached v.at v.passed v.invariant.3 v.invariant.0 (search rules) (H c) c.header_in-h.ensures

pub see-requires : goal.see-requires
see-requires c = sees-none 512

pub loop-at-init : goal.loop-at-init
loop-at-init c =
    let a = c.args in
    let p = c.requires in
    (p.0, p.1, p.2, write-start (rows_in a.table.now) a.recording.now a.ids.now a.next.now a.held a.out.now p.1 _ c.see.ensures (search rules))

pub slice_bounds-write_packages-count : goal.slice_bounds-write_packages-count
slice_bounds-write_packages-count c = (places (goal.at.slice_bounds-write_packages-count c).After-header_in-h).forth

pub slice_bounds-write_packages-start : goal.slice_bounds-write_packages-start
slice_bounds-write_packages-start c = (places (goal.at.slice_bounds-write_packages-start c).After-header_in-h).forth

pub slice_bounds-write_packages-end : goal.slice_bounds-write_packages-end
slice_bounds-write_packages-end c = (places (goal.at.slice_bounds-write_packages-end c).After-header_in-h).within

pub deliver-reached-requires : goal.deliver-reached-requires
deliver-reached-requires c =
    let w = c.write_packages-kept in
    let v = c.loop-at in
    let a = c.args in (
      fits (rows_in a.table.now) a.recording.now a.ids.now a.next.now a.held a.out.now v.invariant.1 v.out v.ids v.next v.seen v.reached v.at v.passed v.invariant.3 v.invariant.0 (search rules) a.marks.now v.invariant.2 (H (goal.at.deliver-reached-requires c).After-header_in-h) c.header_in-h.ensures _ w.result w.ensures,
      ready (rows_in a.table.now) a.recording.now a.ids.now a.next.now a.held a.out.now v.invariant.1 v.out v.ids v.next v.seen v.reached v.at v.passed v.invariant.3 v.invariant.0 (search rules) a.marks.now v.invariant.2 (H (goal.at.deliver-reached-requires c).After-header_in-h) c.header_in-h.ensures _ w.result w.ensures,
    )

pub loop-at-smaller : goal.loop-at-smaller
loop-at-smaller c =
    let s = places (goal.at.loop-at-smaller c).After-header_in-h in
    omega (arith, s.on, s.within)

pub loop-at-preserved : goal.loop-at-preserved
loop-at-preserved c =
    let d = c.deliver-reached in
    let w = c.write_packages-kept in
    let v = c.loop-at in
    let a = c.args in
    (v.invariant.0, v.invariant.1, v.invariant.2, write-next (rows_in a.table.now) a.recording.now a.ids.now a.next.now a.held a.out.now v.invariant.1 v.out v.ids v.next v.seen v.reached v.at v.passed v.invariant.3 v.invariant.0 (search rules) a.marks.now v.invariant.2 (H (goal.at.loop-at-preserved c).After-header_in-h) c.header_in-h.ensures _ w.result w.ensures _ _ _ _ _ d.ensures)

pub returns : goal.returns
returns c =
    let v = c.loop-at in
    let a = c.args in
    write-ended (rows_in a.table.now) a.recording.now a.ids.now a.next.now a.held a.out.now v.invariant.1 v.out v.ids v.next v.seen v.reached v.at v.passed v.invariant.3 (search rules)
