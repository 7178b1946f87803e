-- `sheet::grants` meets its contract: a law for each `return`.
use Rattle.sheet.specs.Rows.{row_in}
use Rattle.sheet.proofs.Granting.{below-message, above-message, below_package, above_package, by-start, by_end, for_acquired, for_all_lem}
use Rattle.sheet.proofs.grants.Goals as goal

pub returns-then-m-row : goal.returns-then-m-row
returns-then-m-row c = below-message (row_in c.args.row) _ _ _ _ c.if-m-row.true

pub returns-then-row-m : goal.returns-then-row-m
returns-then-row-m c = above-message (row_in c.args.row) _ _ _ _ c.if-m-row.false c.if-row-m.true

pub returns-then-p-row : goal.returns-then-p-row
returns-then-p-row c =
    below_package (row_in c.args.row) _ _ _ _ c.if-m-row.false c.if-row-m.false c.if-p-row.true

pub returns-then-row-p : goal.returns-then-row-p
returns-then-row-p c =
    above_package (row_in c.args.row) _ _ _ _ c.if-m-row.false c.if-row-m.false c.if-p-row.false c.if-row-p.true

pub returns-then-t-nanos_of : goal.returns-then-t-nanos_of
returns-then-t-nanos_of c =
    by-start (row_in c.args.row) _ _ _ _ c.if-m-row.false c.if-row-m.false c.if-p-row.false c.if-row-p.false (rw c.nanos_of.ensures at c.if-t-nanos_of.true)

pub returns-then-nanos_of-t : goal.returns-then-nanos_of-t
returns-then-nanos_of-t c =
    by_end (row_in c.args.row) _ _ _ _ c.if-m-row.false c.if-row-m.false c.if-p-row.false c.if-row-p.false (rw c.nanos_of.ensures at c.if-t-nanos_of.false)
    (rw c.nanos_of-2.ensures at c.if-nanos_of-t.true)

pub returns-then-row : goal.returns-then-row
returns-then-row c =
    for_acquired (row_in c.args.row) _ _ _ _ c.if-m-row.false c.if-row-m.false c.if-p-row.false c.if-row-p.false (rw c.nanos_of.ensures at c.if-t-nanos_of.false)
    (rw c.nanos_of-2.ensures at c.if-nanos_of-t.false) c.if-row.true

pub returns : goal.returns
returns c =
    for_all_lem (row_in c.args.row) _ _ _ _ c.if-m-row.false c.if-row-m.false c.if-p-row.false c.if-row-p.false (rw c.nanos_of.ensures at c.if-t-nanos_of.false)
    (rw c.nanos_of-2.ensures at c.if-nanos_of-t.false) c.if-row.false
