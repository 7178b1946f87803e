-- `numbered::place_seen` meets its contract: an id whose bit is not set stands nowhere.
use mathlib.Core.Path.{sym, ap, ◌∙◌}
use Prim.Native.Nat.{ℕ}
use lib.Dec.{eqb}
use Rattle.wire.specs.Bits.{bit_at}
use Rattle.numbered.proofs.Marks.{unseen}
use Rattle.numbered.proofs.place_seen.Goals as goal

pub returns : goal.returns
returns c =
    let a = c.args in
    unseen a.seen.now a.ids.now c.requires.2 a.id
    (ap (λ (k : ℕ). eqb (bit_at a.seen.now k) 1) (sym c.slot_of.ensures) ∙ sym c.bit_at.ensures ∙ c.if-bit_at.false)
