-- `fragments::header_at` meets its contract: the place of a refusal is moved.
use native.Mathlib.Omega.{arith}
use Rattle.fragments.proofs.Headers.{header_read, header_refused, place-refused}
use Rattle.fragments.proofs.header_at.Goals as goal

pub overflow_add-i : goal.overflow_add-i
overflow_add-i c = omega (arith, place-refused c.args.s.now c.args.i c.in-Err.ensures)

pub returns-in-Ok : goal.returns-in-Ok
returns-in-Ok c = header_read c.args.s.now c.args.i (omega arith) c.in-Ok.ensures

pub returns-in-Err : goal.returns-in-Err
returns-in-Err c = rw c.refuse.ensures (header_refused c.args.s.now c.args.i (omega arith) c.in-Err.ensures)
