-- `capture::count` meets its contract: in the loop the counts are those of the records before `at`.
use borrow.Author.Rules.{rules}
use Prim.Native.Nat.{◌+◌, ◌-◌, ◌≤◌, ◌<◌}
use mathlib.Core.Path.{◌≡◌}
use native.Mathlib.Omega.{arith}
use lib.ListN.{length, take, drop, length-drop, length-take}
use Rattle.capture.specs.Told.{order_by, slot_of}
use Rattle.std.specs.Prelude.{Some}
use Rattle.capture.proofs.Tallying.{Slotted, counting_start, low, counting_end, counting_cut, slot_here, counting_next}
use Rattle.capture.proofs.count.Goals as goal
use Rattle.capture.proofs.count.Goals.{In-Some}

-- a record was read
abbrev Read : Type 0
Read = In-Some

slot_is : (c : Read) → Some c.in-Some.slot ≡ slot_of (order_by c.args.big) (take (length c.args.file.now - c.loop-at.at) (drop c.loop-at.at c.args.file.now))
slot_is c = c.in-Some.ensures

before : (c : Read) → c.loop-at.at < length c.args.file.now
before c = search rules

slot : (c : Read) → Slotted (order_by c.args.big) (drop c.loop-at.at c.args.file.now) c.in-Some.slot
slot c = slot_here (order_by c.args.big) c.args.file.now c.loop-at.invariant.1.done c.loop-at.at c.loop-at.invariant.1.walk (before c) _ (slot_is c)

-- it ends within the file
within : (c : Read) → c.loop-at.at + c.in-Some.slot.size ≤ length c.args.file.now
within c = omega (arith, (slot c).most, length-drop c.loop-at.at c.args.file.now, before c)

pub loop-at-init : goal.loop-at-init
loop-at-init c =
    let a = c.args in
    (search rules, counting_start (order_by a.big) a.port a.file.now c.default-counts.result a.spots.now c.default-counts.ensures (search rules) (search rules))

pub overflow_add-next : goal.overflow_add-next
overflow_add-next c = omega (arith, within (goal.at.overflow_add-next c).In-Some, c.loop-at.invariant.0)

pub slice_bounds-with_packet-count : goal.slice_bounds-with_packet-count
slice_bounds-with_packet-count c = omega (arith, (slot (goal.at.slice_bounds-with_packet-count c).In-Some).least)

pub slice_bounds-with_packet-start : goal.slice_bounds-with_packet-start
slice_bounds-with_packet-start c = omega (arith, (slot (goal.at.slice_bounds-with_packet-start c).In-Some).least)

pub slice_bounds-with_packet-end : goal.slice_bounds-with_packet-end
slice_bounds-with_packet-end c = within (goal.at.slice_bounds-with_packet-end c).In-Some

pub with_packet-counts-requires : goal.with_packet-counts-requires
with_packet-counts-requires c =
    let l = c.loop-at in
    let a = c.args in
    record { frame_bound = omega (arith, length-take (l.at + c.in-Some.slot.size - (l.at + 16)) (drop (l.at + 16) a.file.now), within (goal.at.with_packet-counts-requires c).In-Some, (slot (goal.at.with_packet-counts-requires c).In-Some).least, l.invariant.0); low = low (order_by a.big) a.port a.file.now l.counts l.spots l.at l.invariant.1 l.invariant.0 }

pub loop-at-smaller : goal.loop-at-smaller
loop-at-smaller c = omega (arith, (slot (goal.at.loop-at-smaller c).In-Some).least, before (goal.at.loop-at-smaller c).In-Some)

pub loop-at-preserved : goal.loop-at-preserved
loop-at-preserved c =
    let l = c.loop-at in
    let a = c.args in
    (l.invariant.0, counting_next (order_by a.big) a.port a.file.now l.counts l.spots l.at l.invariant.1 (before (goal.at.loop-at-preserved c).In-Some) _ (slot_is (goal.at.loop-at-preserved c).In-Some) _ _ l.invariant.0 c.with_packet-counts.ensures)

pub returns-in_default : goal.returns-in_default
returns-in_default c =
    let l = c.loop-at in
    let a = c.args in
    rw c.refuse.ensures (counting_cut (order_by a.big) a.port a.file.now l.counts l.spots l.at l.invariant.1 (search rules) c.in_default.ensures)

pub returns : goal.returns
returns c =
    let l = c.loop-at in
    let a = c.args in
    counting_end (order_by a.big) a.port a.file.now l.counts l.spots l.at l.invariant.1 (search rules)
