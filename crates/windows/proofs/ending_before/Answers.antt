-- `windows::ending_before` meets its contract.
use Rattle.windows.proofs.Handing.{before-some, before_small, before-none}
use Rattle.windows.proofs.ending_before.Goals as goal
use Rattle.windows.proofs.ending_before.Goals.{else-place-eq0-via-then-place-eq0+else-length-ge65536, else-place-eq0-via-else-place-eq0}

pub returns-then-length-ge65536 : goal.returns-then-length-ge65536
returns-then-length-ge65536 c = rw c.refuse.ensures (before-none _ _ c.if-place-eq0.true c.if-length-ge65536.true)

pub returns : goal.returns
returns c = elim c.else-place-eq0.branch [
  | else-place-eq0-via-then-place-eq0+else-length-ge65536 w ↦ before_small _ _ w.if-length-ge65536.false
  | else-place-eq0-via-else-place-eq0 w ↦ before-some _ _ w.if-place-eq0.false
]
