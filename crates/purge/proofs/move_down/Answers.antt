-- `purge::move_down` meets its contract: what stays is as it was, and what moves goes by chunks, then byte by byte.
use mathlib.Core.Path.{◌≡◌, ◌∙◌}
use Prim.Native.Nat.{◌+◌, ◌-◌}
use native.Mathlib.Omega.{arith}
use Rattle.purge.proofs.Moves.{moved_on, stays_put}
use borrow.Author.Rules.{rules}
use Rattle.purge.proofs.move_down.Goals as goal

pub returns-then-to-from : goal.returns-then-to-from
returns-then-to-from c =
    let e : c.args.to ≡ c.args.from = search rules in
    rw e (stays_put c.args.s.now c.args.from c.args.n c.requires.1)

pub returns : goal.returns
returns c =
    let r = c.move_chunks-i.result in
    let z : r + (c.args.n - r) ≡ c.args.n = omega (arith, c.move_chunks-i.ensures.0) in
    c.move_bytes.ensures
    ∙ rw c.move_chunks-i.ensures.1 (rw z at (moved_on c.args.s.now c.args.to c.args.from r (c.args.n - r) c.requires.0 (omega (arith, c.move_chunks-i.ensures.0, c.requires.1))))
