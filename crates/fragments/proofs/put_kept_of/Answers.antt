-- `fragments::put_kept_of` meets its contract.
use mathlib.Core.Path.{ap, ◌∙◌}
use native.Mathlib.Omega.{arith}
use lib.Seq.{sets}
use Rattle.fragments.proofs.Finishing.{kept_whole, kept-cut, part-all}
use Rattle.fragments.proofs.put_kept_of.Goals as goal

pub returns-then-bits-eq0 : goal.returns-then-bits-eq0
returns-then-bits-eq0 c = let a = c.args in c.put_part.ensures ∙ ap (sets a.out.now 24) (part-all a.run.now ∙ kept_whole a.bits a.run.now (omega arith))

pub returns : goal.returns
returns c = let a = c.args in c.put_kept.ensures ∙ ap (sets a.out.now 24) (kept-cut a.bits a.run.now c.if-bits-eq0.false)
