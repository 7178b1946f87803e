-- `fragments::join` meets its contract: too large, refused while it is gathered, or finished.
use native.Mathlib.Omega.{arith}
use Rattle.refusal.proofs.Numbers.{passed_on}
use Rattle.fragments.proofs.Finishing.{too_large, not_gathered, never, some-input}
use Rattle.fragments.proofs.join.Goals as goal

pub returns-then-s-gt65536 : goal.returns-then-s-gt65536
returns-then-s-gt65536 c = let a = c.args in rw c.refuse.ensures (too_large a.s.now a.out.now (omega arith))

pub finish_join-requires : goal.finish_join-requires
finish_join-requires c = record { read = c.in_ok-h.ensures; all = c.in_ok-all.ensures; small = omega arith }

pub returns-in_err-all : goal.returns-in_err-all
returns-in_err-all c = let a = c.args in rw (passed_on _ _ c.from_residual.ensures.1) (not_gathered a.s.now a.out.now (omega arith) c.in_err-all.ensures)

pub returns-in_err-h : goal.returns-in_err-h
returns-in_err-h c = let a = c.args in never a.s.now (some-input a.s.now c.in_ok-all.ensures) c.in_err-h.ensures c.in_ok-all.ensures
