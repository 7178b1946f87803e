-- `fragments::follow` meets its contract: the fragments before `i` are read, each in its place.
use mathlib.Core.Path.{refl, sym, ◌∙◌}
use native.Mathlib.Nat.{zero-add}
use native.Mathlib.Omega.{arith}
use Rattle.rules.specs.Bytes.{Bytes}
use Rattle.message.specs.Answers.{head_of_header}
use Rattle.refusal.proofs.Numbers.{handed_on}
use Rattle.fragments.proofs.Gathering.{Headed, headed, first-words, first_small, begun_by, Nexted, nexted, next-refused, last_missing, all_there, gathered-few}
use Rattle.fragments.proofs.follow.Goals as goal
use Rattle.fragments.proofs.follow.Goals.{After-shared_slice_known-1, In_ok-f}

bytes : (c : After-shared_slice_known-1) → Bytes c.args.s.now
bytes c = record { below = λ k. omega (arith, c.type_inv.s k) }

-- the first header, and its fragment
first : (c : After-shared_slice_known-1) → Headed c.args.s.now 0 (head_of_header c.args.h) c.args.h.run
first c = headed c.args.s.now 0 (bytes c) c.requires.s_len_bound (head_of_header c.args.h) c.args.h.run c.requires.begun.read

-- the fragment behind those that are read
next : (c : In_ok-f) → Nexted c.args.s.now (head_of_header c.args.h) c.loop-i.i c.loop-i.last c.loop-i.q c.loop-i.o c.loop-i.st c.in_ok-f.f.from c.in_ok-f.f.to c.in_ok-f.f.bits
next c =
    let a = c.args in
    let l = c.loop-i in
    nexted a.s.now (head_of_header a.h) l.i l.last l.q l.o l.st (record { below = λ k. omega (arith, c.type_inv.s k) }) c.requires.s_len_bound l.invariant.0 (omega arith) _ _ _ c.in_ok-f.ensures

pub slice_bounds-scan_run-count : goal.slice_bounds-scan_run-count
slice_bounds-scan_run-count c = omega (arith, (first (goal.at.slice_bounds-scan_run-count c).After-shared_slice_known-1).start)

pub slice_bounds-scan_run-start : goal.slice_bounds-scan_run-start
slice_bounds-scan_run-start c = omega (arith, (first (goal.at.slice_bounds-scan_run-start c).After-shared_slice_known-1).start)

pub slice_bounds-scan_run-end : goal.slice_bounds-scan_run-end
slice_bounds-scan_run-end c = omega (arith, (first (goal.at.slice_bounds-scan_run-end c).After-shared_slice_known-1).most)

pub scan_run-st-requires : goal.scan_run-st-requires
scan_run-st-requires c =
    let a = c.args in
    let w = first (goal.at.scan_run-st-requires c).After-shared_slice_known-1 in
    (omega arith, omega arith, first-words a.s.now (head_of_header a.h) a.h.run w refl refl, first_small a.s.now (head_of_header a.h) a.h.run w refl refl)

pub overflow_sub-o : goal.overflow_sub-o
overflow_sub-o c = omega (arith, (first (goal.at.overflow_sub-o c).After-shared_slice_known-1).start)

pub loop-i-init : goal.loop-i-init
loop-i-init c =
    let a = c.args in
    let w = first (goal.at.loop-i-init c).After-shared_slice_known-1 in
    let st = c.scan_run-st.ensures in
    rw c.fragment_bits-last.ensures (begun_by a.s.now (head_of_header a.h) a.h.run w refl refl c.requires.begun.begins st.0 (st.1 ∙ zero-add _) refl, st.2)

pub next_fragment-requires : goal.next_fragment-requires
next_fragment-requires c = (omega arith, c.requires.s_len_bound)

pub returns-in_err-f : goal.returns-in_err-f
returns-in_err-f c =
    let a = c.args in
    let l = c.loop-i in
    handed_on _ _ _ c.from_residual.ensures.1 (next-refused a.s.now (head_of_header a.h) l.i l.last l.q l.o l.st (bytes (goal.at.returns-in_err-f c).After-shared_slice_known-1) c.requires.s_len_bound l.invariant.0 (omega arith) c.in_err-f.ensures)

pub slice_bounds-scan_run-count-in-loop-i : goal.slice_bounds-scan_run-count-in-loop-i
slice_bounds-scan_run-count-in-loop-i c = omega (arith, (next (goal.at.slice_bounds-scan_run-count-in-loop-i c).In_ok-f).start)

pub slice_bounds-scan_run-start-in-loop-i : goal.slice_bounds-scan_run-start-in-loop-i
slice_bounds-scan_run-start-in-loop-i c = omega (arith, (next (goal.at.slice_bounds-scan_run-start-in-loop-i c).In_ok-f).start)

pub slice_bounds-scan_run-end-in-loop-i : goal.slice_bounds-scan_run-end-in-loop-i
slice_bounds-scan_run-end-in-loop-i c = omega (arith, (next (goal.at.slice_bounds-scan_run-end-in-loop-i c).In_ok-f).most)

pub scan_run-st-requires-in-loop-i : goal.scan_run-st-requires-in-loop-i
scan_run-st-requires-in-loop-i c =
    let a = c.args in
    let l = c.loop-i in
    let k = next (goal.at.scan_run-st-requires-in-loop-i c).In_ok-f in
    (l.invariant.1, gathered-few a.s.now (head_of_header a.h) l.i l.last l.q l.o l.st l.invariant.0 c.requires.s_len_bound, k.words, k.small)

pub overflow_sub-o-in-loop-i : goal.overflow_sub-o-in-loop-i
overflow_sub-o-in-loop-i c = omega (arith, (next (goal.at.overflow_sub-o-in-loop-i c).In_ok-f).start)

pub overflow_add-o : goal.overflow_add-o
overflow_add-o c =
    let k = next (goal.at.overflow_add-o c).In_ok-f in
    omega (arith, k.start, k.most, c.loop-i.invariant.0.most, c.requires.s_len_bound)

pub loop-i-smaller : goal.loop-i-smaller
loop-i-smaller c =
    let k = next (goal.at.loop-i-smaller c).In_ok-f in
    omega (arith, k.less, k.most)

pub loop-i-preserved : goal.loop-i-preserved
loop-i-preserved c =
    let st = c.scan_run-st-in-loop-i.ensures in
    ((next (goal.at.loop-i-preserved c).In_ok-f).on st.0 st.1 refl, st.2)

pub returns-then-goes_on : goal.returns-then-goes_on
returns-then-goes_on c =
    let l = c.loop-i in
    rw c.refuse.ensures (last_missing c.args.s.now (head_of_header c.args.h) l.i l.last l.q l.o l.st l.invariant.0 (omega arith) (sym c.goes_on.ensures ∙ c.if-goes_on.true) refl)

pub returns : goal.returns
returns c =
    let l = c.loop-i in
    all_there c.args.s.now (head_of_header c.args.h) l.i l.last l.q l.o l.st l.invariant.0 (omega arith) (sym c.goes_on.ensures ∙ c.if-goes_on.false)
