-- `compose::finish` meets its contract: no room, or the message stored.
use mathlib.Core.Path.{refl}
use native.Mathlib.Omega.{arith}
use Rattle.compose.specs.Told.{draft_of}
use Rattle.compose.proofs.Answered.{roomless, done}
use Rattle.compose.proofs.finish.Goals as goal

pub returns-then-out-n : goal.returns-then-out-n
returns-then-out-n c =
    rw c.refuse.ensures (roomless (draft_of c.args.r c.args.options.now c.args.packages.now) c.args.out.now c.requires.fit (omega arith))

pub store-requires : goal.store-requires
store-requires c =
    let p = c.requires in
    record { halved = p.halved; ready = record { fit = record { short = p.fit.short; size = refl; small = omega (arith, p.fit.size, p.fit.small); cuts = p.fit.cuts }; room = omega (arith, p.fit.size) } }

pub returns : goal.returns
returns c =
    let s = c.store in
    done (draft_of c.args.r c.args.options.now c.args.packages.now) c.args.out.now c.requires.fit s.new.out (omega arith) s.ensures
