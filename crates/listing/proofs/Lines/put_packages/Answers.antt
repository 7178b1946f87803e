-- In the loop of `listing::Lines::put_packages` the next package begins within the run.
use Rattle.std.proofs.Common.{arith, sym}
use Rattle.message.proofs.Pieces.{shown, inside}
use Rattle.listing.proofs.Lines.put_packages.Goals as goal

pub loop-preserved : goal.loop-preserved
loop-preserved c =
    let e = sym (rw c.in-Ok-Some.field-0-is at c.in-Ok-Some.ensures) in
    omega (arith, (shown _ _ _ e).small, (inside _ _ _ e).most)
