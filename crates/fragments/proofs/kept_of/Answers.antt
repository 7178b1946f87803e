-- `fragments::kept_of` meets its contract.
use mathlib.Core.Path.{ap, ◌∙◌}
use native.Mathlib.Omega.{arith}
use lib.ListN.{length}
use Rattle.fragments.proofs.Finishing.{kept_whole, kept-cut}
use Rattle.fragments.proofs.kept_of.Goals as goal

pub returns-then-bits-eq0 : goal.returns-then-bits-eq0
returns-then-bits-eq0 c = let a = c.args in ap length (kept_whole a.bits a.run.now (omega arith))

pub returns : goal.returns
returns c = let a = c.args in c.kept_size.ensures ∙ ap length (kept-cut a.bits a.run.now c.if-bits-eq0.false)
