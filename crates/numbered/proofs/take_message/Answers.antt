-- `numbered::take_message` meets its contract: the front refused, or what is left once the packages were walked over.
use mathlib.Core.Path.{◌≡◌}
use native.Mathlib.Omega.{arith}
use Rattle.message.specs.declared.Header.{Header}
use Rattle.std.specs.Prelude.{Ok}
use Rattle.message.specs.Answers.{told_header, front_at}
use Rattle.message.proofs.Fronts.{front-bad, front-good, Fronted, fronted}
use Rattle.sheet.specs.Table.{rows_in}
use Rattle.refusal.proofs.Numbers.{passed_on}
use Rattle.numbered.proofs.Packages.{took_refused, took_walked}
use Rattle.numbered.proofs.take_message.Goals as goal
use Rattle.numbered.proofs.take_message.Goals.{After-header_in-h}

-- the front was read
abbrev H : After-header_in-h → Header
H c = c.header_in-h.result

read : (c : After-header_in-h) → told_header (Ok (H c)) ≡ front_at c.args.input.now c.args.at
read c = front-good _ _ _ _ c.in_ok-run.ensures c.header_in-h.ensures

places : (c : After-header_in-h) → Fronted c.args.input.now c.args.at (H c)
places c = fronted _ _ (H c) (read c)

pub overflow_add-from-2 : goal.overflow_add-from-2
overflow_add-from-2 c = let f = places (goal.at.overflow_add-from-2 c).After-header_in-h in omega (arith, f.whole, f.within, f.forth)

pub overflow_add-next : goal.overflow_add-next
overflow_add-next c = let f = places (goal.at.overflow_add-next c).After-header_in-h in omega (arith, f.whole, f.within, f.forth)

pub slice_bounds-measure_packages-count : goal.slice_bounds-measure_packages-count
slice_bounds-measure_packages-count c = (places (goal.at.slice_bounds-measure_packages-count c).After-header_in-h).forth

pub slice_bounds-measure_packages-start : goal.slice_bounds-measure_packages-start
slice_bounds-measure_packages-start c = (places (goal.at.slice_bounds-measure_packages-start c).After-header_in-h).forth

pub slice_bounds-measure_packages-end : goal.slice_bounds-measure_packages-end
slice_bounds-measure_packages-end c = (places (goal.at.slice_bounds-measure_packages-end c).After-header_in-h).within

pub measure_packages-walked-requires : goal.measure_packages-walked-requires
measure_packages-walked-requires c =
    let f = places (goal.at.measure_packages-walked-requires c).After-header_in-h in
    (omega (arith, f.long, f.within, f.behind, c.requires.0, c.requires.1), c.requires.2)

pub finish_message-requires : goal.finish_message-requires
finish_message-requires c =
    let f = places (goal.at.finish_message-requires c).After-header_in-h in
    (f.whole, f.forth, f.within, omega (arith, f.run, f.forth, f.within), omega (arith, c.measure_packages-walked.ensures.inside, f.small))

pub returns-in_err-run : goal.returns-in_err-run
returns-in_err-run c =
    let a = c.args in
    rw (passed_on _ _ c.from_residual.ensures.1) (took_refused (rows_in a.table.now) a.input.now a.at a.marks.now _ a.first _ (front-bad _ _ c.in_err-run.ensures))

pub returns : goal.returns
returns c =
    let a = c.args in
    let w = c.measure_packages-walked in
    took_walked (rows_in a.table.now) a.input.now a.at a.marks.now _ a.first (H (goal.at.returns c).After-header_in-h) (read (goal.at.returns c).After-header_in-h) w.result w.ensures c.finish_message.result c.finish_message.ensures
