-- `purge::purge` meets its contract: the sheet refused, the recording refused, or what is kept with zeros behind it.
use mathlib.Core.Path.{sym}
use mathlib.Core.List.{List}
use Prim.Native.Nat.{ℕ, ◌*◌}
use native.Mathlib.Omega.{arith}
use lib.ListN.{take, length-replicate}
use lib.Seq.{length-take-le}
use Rattle.rules.specs.Sheet as rows
use Rattle.sheet.specs.Table.{rows_in}
use Rattle.sheet.proofs.TableRows.{RowsRead, rows-read, sheet-refused as read-refused}
use Rattle.purge.proofs.Answers.{sheet-refused, recording-refused, short, used, all_done}
use Rattle.refusal.proofs.Numbers.{passed_on}
use Rattle.purge.proofs.purge.Goals as goal
use Rattle.purge.proofs.purge.Goals.{In_ok-rows}

-- the sheet's rows are read: so many, and the table that has them
abbrev Read : Type 0
Read = In_ok-rows

abbrev many : Read → ℕ
many c = c.in_ok-rows.rows

abbrev tableIn : Read → List ℕ
tableIn c = c.read_table.new.table

abbrev sheetIn : Read → List rows.Row
sheetIn c = rows_in (take (7 * many c) (tableIn c))

read : (c : Read) → RowsRead c.args.sheet.now (tableIn c) (many c)
read c = let q = c.read_table in rows-read _ _ _ q.result q.ensures.0 q.ensures.1 (length-replicate {A = ℕ} 224 0) _ c.in_ok-rows.was

pub overflow_mul-end : goal.overflow_mul-end
overflow_mul-end c = omega (arith, (read (goal.at.overflow_mul-end c).In_ok-rows).0)

pub slice_bounds-table-end : goal.slice_bounds-table-end
slice_bounds-table-end c = (read (goal.at.slice_bounds-table-end c).In_ok-rows).1

pub slice_bounds-keep_messages-end : goal.slice_bounds-keep_messages-end
slice_bounds-keep_messages-end c = sym (length-take-le _ _ (read (goal.at.slice_bounds-keep_messages-end c).In_ok-rows).1)

pub keep_messages-bytes-requires : goal.keep_messages-bytes-requires
keep_messages-bytes-requires c =
    (short c.args.buffer.now c.args.sheet.now (sheetIn (goal.at.keep_messages-bytes-requires c).In_ok-rows) (read (goal.at.keep_messages-bytes-requires c).In_ok-rows).2 _ (c.in_ok-check.ensures), omega (arith, (read (goal.at.keep_messages-bytes-requires c).In_ok-rows).0, length-take-le (7 * many (goal.at.keep_messages-bytes-requires c).In_ok-rows) (tableIn (goal.at.keep_messages-bytes-requires c).In_ok-rows) (read (goal.at.keep_messages-bytes-requires c).In_ok-rows).1))

pub overflow_sub-buffer : goal.overflow_sub-buffer
overflow_sub-buffer c =
    used c.args.buffer.now c.args.sheet.now (sheetIn (goal.at.overflow_sub-buffer c).In_ok-rows) (read (goal.at.overflow_sub-buffer c).In_ok-rows).2 _ (c.in_ok-check.ensures) _ _ c.keep_messages-bytes.ensures

pub returns-in_err-rows : goal.returns-in_err-rows
returns-in_err-rows c =
    let q = c.read_table in
    rw (passed_on _ _ c.from_residual.ensures.1) (sheet-refused c.args.buffer.now c.args.sheet.now c.in_err-rows.field-0.0 (read-refused _ _ _ q.result q.ensures.0 q.ensures.1 _ c.in_err-rows.was))

pub returns-in_err-check : goal.returns-in_err-check
returns-in_err-check c =
    rw (passed_on _ _ c.from_residual-in_err-check.ensures.1) (recording-refused c.args.buffer.now c.args.sheet.now (sheetIn (goal.at.returns-in_err-check c).In_ok-rows) (read (goal.at.returns-in_err-check c).In_ok-rows).2 c.in_err-check.field-0.0 (c.in_err-check.ensures))

pub returns : goal.returns
returns c =
    all_done c.args.buffer.now c.args.sheet.now (sheetIn (goal.at.returns c).In_ok-rows) (read (goal.at.returns c).In_ok-rows).2 _ (c.in_ok-check.ensures) _ _ c.keep_messages-bytes.ensures _ c.put_zeros.ensures
