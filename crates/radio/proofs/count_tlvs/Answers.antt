-- `radio::count_tlvs` meets its contract: in the loop the TLVs before index i are whole.
use Rattle.refusal.proofs.Numbers.{handed_on}
use Rattle.radio.proofs.Storing.{Onward, start, next, stopped, ended}
use Rattle.radio.proofs.count_tlvs.Goals as goal
use Rattle.radio.proofs.count_tlvs.Goals.{After-size_of-i}

pub loop-i-init : goal.loop-i-init
loop-i-init c = start _

pub returns-in_err-t : goal.returns-in_err-t
returns-in_err-t c = handed_on _ _ _ c.from_residual.ensures.1 (stopped _ _ _ c.loop-i.invariant c.loop-i-test.true c.in_err-t.ensures)

-- a turn behind a TLV
on : (c : After-size_of-i) → Onward c.args.run.now c.loop-i.i c.loop-i.n c.size_of-i.result
on c = next _ _ _ c.loop-i.invariant _ _ c.size_of-i.ensures.0 c.loop-i-test.true c.in_ok-t.ensures

pub loop-i-preserved : goal.loop-i-preserved
loop-i-preserved c = (on c).counting

pub returns : goal.returns
returns c = ended _ _ _ c.loop-i.invariant c.loop-i-test.false
