-- `numbered::read_rows` meets its contract: the ids or the sheet refused, or its rows at the start of the table.
use mathlib.Core.Path.{sym, ◌∙◌}
use borrow.Author.Rules.{rules}
use native.Mathlib.Omega.{arith}
use Rattle.rules.proofs.Outcomes.{halt, pass, refused-only}
use Rattle.sheet.proofs.TableRows.{RowsRead, rows-read}
use Rattle.refusal.proofs.Numbers.{passed_on}
use Rattle.numbered.proofs.read_rows.Goals as goal
use Rattle.numbered.proofs.read_rows.Goals.{In_ok-n}

-- the sheet's rows are read
table-read : (c : In_ok-n) → RowsRead c.args.sheet.now c.read_table.new.table c.in_ok-n.n
table-read c =
    let t = c.read_table in
    rows-read c.args.sheet.now _ _ t.result t.ensures.0 t.ensures.1 (search rules) _ c.in_ok-n.was

pub returns-then-bad_ids : goal.returns-then-bad_ids
returns-then-bad_ids c = rw c.refuse.ensures (record { why = halt _ _ _ _ (sym c.bad_ids.ensures ∙ c.if-bad_ids.true) })

pub returns-in_err-n : goal.returns-in_err-n
returns-in_err-n c = rw (passed_on _ _ c.from_residual.ensures.1) (record { why = pass _ _ _ _ (sym c.bad_ids.ensures ∙ c.if-bad_ids.false) (refused-only _ _ (sym c.in_err-n.ensures.0)) })

pub overflow_mul-result : goal.overflow_mul-result
overflow_mul-result c = omega (arith, (table-read c).0)

pub returns : goal.returns
returns c =
    let t = table-read (goal.at.returns c).In_ok-n in
    record { held_good = sym c.bad_ids.ensures ∙ c.if-bad_ids.false; few = t.0; inside = t.1; read = t.2 }
