-- `salvage::start_of` meets its contract.
use mathlib.Core.Path.{◌≡◌, refl}
use Prim.Native.Nat.{ℕ, zero, suc}
use borrow.Author.Tests.{eq-eqb, ne_eqb}
use Rattle.salvage.specs.Told.{start_of}
use Rattle.salvage.proofs.start_of.Goals as goal

start_none : (count last end p : ℕ) → count ≡ 0 → p ≡ start_of count last end p
unfolding start_of
start_none count last end p z = rw z

start-on : (count last end p : ℕ) → (count ≡ 0 → ⊥) → end ≡ p → last ≡ start_of count last end p
unfolding start_of
start-on zero last end p h e = absurd (h refl)
start-on (suc count) last end p h e = rw (eq-eqb end p e, start_of)

start-new : (count last end p : ℕ) → (count ≡ 0 → ⊥) → (end ≡ p → ⊥) → p ≡ start_of count last end p
unfolding start_of
start-new zero last end p h e = absurd (h refl)
start-new (suc count) last end p h e = rw (ne_eqb end p e, start_of)

pub returns-then-count-eq0 : goal.returns-then-count-eq0
returns-then-count-eq0 c = start_none _ _ _ _ c.if-count-eq0.true

pub returns-then-end-at : goal.returns-then-end-at
returns-then-end-at c = start-on _ _ _ _ c.if-count-eq0.false c.if-end-at.true

pub returns-else-end-at : goal.returns-else-end-at
returns-else-end-at c = start-new _ _ _ _ c.if-count-eq0.false c.if-end-at.false
