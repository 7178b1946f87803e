-- `fragments::put_at` meets its contract: the part that was lent from the fragment's place on has it at its start.
use native.Mathlib.Omega.{arith}
use Rattle.fragments.specs.Stored.{numbered}
use Rattle.fragments.proofs.Beginning.{lent-stored}
use Rattle.fragments.proofs.put_at.Goals as goal

pub returns : goal.returns
returns c = let a = c.args in lent-stored a.out.now c.put_later.new.out (numbered a.r a.q) a.bits a.offset a.at a.from a.n (omega (arith, c.requires.movable.behind)) c.put_later.ensures
