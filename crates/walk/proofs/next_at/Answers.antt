-- `walk::next_at` meets its contract: the place behind the package, or the place handed in.
use Rattle.walk.proofs.Found.{there, over, refused}
use Rattle.walk.proofs.next_at.Goals as goal

pub returns-in-Ok-Some : goal.returns-in-Ok-Some
returns-in-Ok-Some c = (there _ _ _ (rw c.in-Ok-Some.field-0-is at c.in-Ok-Some.ensures)).next

pub returns-in-Ok-None : goal.returns-in-Ok-None
returns-in-Ok-None c = (over _ _ (rw c.in-Ok-None.field-0-is at c.in-Ok-None.ensures)).next

pub returns-in-Err : goal.returns-in-Err
returns-in-Err c = (refused _ _ c.in-Err.ensures).next
