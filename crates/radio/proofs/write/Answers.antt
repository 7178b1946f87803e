-- `radio::write` meets its contract: LARGE, RADIO, or finished.
use Rattle.refusal.proofs.Numbers.{passed_on}
use Rattle.radio.proofs.Storing.{write-large, write-empty, write-refused, write_checked}
use Rattle.radio.proofs.write.Goals as goal

pub returns-then-run-gt65526 : goal.returns-then-run-gt65526
returns-then-run-gt65526 c = rw c.refuse.ensures (write-large c.args.h c.args.run.now c.args.out.now c.if-run-gt65526.true)

pub returns-then-run-eq0 : goal.returns-then-run-eq0
returns-then-run-eq0 c = rw c.refuse-then-run-eq0.ensures (write-empty c.args.h c.args.run.now c.args.out.now c.if-run-gt65526.false c.if-run-eq0.true)

pub finish-requires : goal.finish-requires
finish-requires c = write_checked c.args.h c.args.run.now c.args.out.now c.if-run-gt65526.false c.if-run-eq0.false c.in_ok-count_tlvs.ensures

pub returns-in_err-count_tlvs : goal.returns-in_err-count_tlvs
returns-in_err-count_tlvs c = rw (passed_on _ _ c.from_residual.ensures.1) (write-refused c.args.h c.args.run.now c.args.out.now c.if-run-gt65526.false c.if-run-eq0.false c.in_err-count_tlvs.ensures)
