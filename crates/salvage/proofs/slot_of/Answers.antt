-- `salvage::slot_of` meets its contract.
use mathlib.Core.Path.{◌≡◌, refl}
use Prim.Native.Nat.{ℕ, zero, suc, ◌-◌}
use native.Mathlib.Omega.{arith}
use borrow.Author.Tests.{eq-eqb, ne_eqb}
use Rattle.salvage.specs.Told.{slot_of}
use Rattle.salvage.proofs.slot_of.Goals as goal

slot-none : (count end p : ℕ) → count ≡ 0 → 0 ≡ slot_of count end p
unfolding slot_of
slot-none count end p z = rw z

slot_on : (count end p : ℕ) → (count ≡ 0 → ⊥) → end ≡ p → count - 1 ≡ slot_of count end p
unfolding slot_of
slot_on zero end p h e = absurd (h refl)
slot_on (suc count) end p h e = rw (eq-eqb end p e, slot_of) (omega arith)

slot_new : (count end p : ℕ) → (count ≡ 0 → ⊥) → (end ≡ p → ⊥) → count ≡ slot_of count end p
unfolding slot_of
slot_new zero end p h e = absurd (h refl)
slot_new (suc count) end p h e = rw (ne_eqb end p e, slot_of)

pub returns-then-count-eq0 : goal.returns-then-count-eq0
returns-then-count-eq0 c = slot-none _ _ _ c.if-count-eq0.true

pub returns-then-end-at : goal.returns-then-end-at
returns-then-end-at c = slot_on _ _ _ c.if-count-eq0.false c.if-end-at.true

pub returns-else-end-at : goal.returns-else-end-at
returns-else-end-at c = slot_new _ _ _ c.if-count-eq0.false c.if-end-at.false
