-- `salvage::salvage` meets its contract: the survey decides, and only then are messages stored.
use Rattle.std.proofs.lemmas.Result.{err_from_is_err_and}
use Rattle.salvage.proofs.Answering.{ready, salvage-refused, salvage-roomless, salvage-done}
use Rattle.salvage.proofs.salvage.Goals as goal

pub returns-in_err-found : goal.returns-in_err-found
returns-in_err-found c = let p = err_from_is_err_and c.from_residual.result c.from_residual.ensures.1 in rw (p.1, p.2) (salvage-refused _ _ _ c.in_err-found.ensures)

pub returns-then-out-found : goal.returns-then-out-found
returns-then-out-found c = rw c.refuse.ensures (salvage-roomless _ _ c.in_ok-found.ensures _ c.if-out-found.true)

pub deliver-requires : goal.deliver-requires
deliver-requires c = let y = ready _ _ c.in_ok-found.ensures in (y.small, y.few, y.fit)

pub returns : goal.returns
returns c = salvage-done _ _ c.in_ok-found.ensures _ _ c.if-out-found.false c.deliver.ensures
