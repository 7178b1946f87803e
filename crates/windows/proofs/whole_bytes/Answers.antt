-- `windows::whole_bytes` meets its contract: in the loop the messages before `at` are whole by their lengths.
use Rattle.windows.proofs.Lengths.{lengths-start, lengths-end, lengths-next}
use Rattle.windows.proofs.whole_bytes.Goals as goal

pub loop-n-init : goal.loop-n-init
loop-n-init c = lengths-start _

pub loop-n-preserved : goal.loop-n-preserved
loop-n-preserved c = lengths-next _ _ c.loop-n.invariant _ c.in-Some.ensures

pub returns : goal.returns
returns c = lengths-end _ _ c.loop-n.invariant c.in_default.ensures
