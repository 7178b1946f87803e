-- `radio::put_run` meets its contract: the TLVs before index i are stored, and they are i bytes.
use Rattle.radio.proofs.Storing.{storing_start, storing_here, storing_next, storing_ended}
use Rattle.radio.proofs.put_run.Goals as goal

pub loop-i-init : goal.loop-i-init
loop-i-init c = storing_start _ _

pub put_next-i-requires-clause-here : goal.put_next-i-requires-clause-here
put_next-i-requires-clause-here c =
    let l = c.loop-i in
    storing_here c.args.run.now c.args.out.now l.out l.i l.invariant c.requires.checked c.loop-i-test.true

pub loop-i-preserved : goal.loop-i-preserved
loop-i-preserved c =
    let l = c.loop-i in
    storing_next c.args.run.now c.args.out.now l.out l.i l.invariant c.loop-i-test.true c.put_next-i.ensures

pub returns : goal.returns
returns c =
    let l = c.loop-i in
    storing_ended c.args.run.now c.args.out.now l.out l.i l.invariant c.loop-i-test.false
