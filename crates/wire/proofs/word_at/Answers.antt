-- `wire::word_at` meets its contract: four bytes are a number, and so are they in the other order, reversed.
use mathlib.Core.Path.{◌∙◌}
use native.Mathlib.Omega.{arith}
use Rattle.wire.proofs.Order.{turned}
use Rattle.wire.proofs.Stores.{whole}
use Rattle.wire.proofs.word_at.Goals as goal

pub returns-then-s-k-ge4 : goal.returns-then-s-k-ge4
returns-then-s-k-ge4 c = c.reverse.ensures ∙ turned _ _ (λ i. omega (arith, c.type_inv.s i)) c.reversed_at.ensures

pub returns : goal.returns
returns c =
    let a = c.args in
    c.from_be_bytes.ensures ∙ whole a.s.now a.k c.byte_at.ensures c.byte_behind.ensures c.byte_behind-2.ensures c.byte_behind-3.ensures
