-- What the code answers is what the rule has.
use Prim.Native.Nat.{ℕ, ◌≤◌, ◌<◌}
use mathlib.Core.Path.{◌≡◌, refl, ap, sym}
use mathlib.Core.Bool.{Bool, true, false, ◌&&◌}
use mathlib.Core.List.{List}
use borrow.Author.Tests.{lt-leb, le-leb, eq-eqb, ne_eqb}
use lib.Dec.{leb, eqb}
use lib.ListN.{length}
use Rattle.rules.specs.Outcome.{good, bad, LARGE}
use Rattle.rules.specs.Message.{Message, recording}
use Rattle.rules.specs.Reading.{checked_recording}
use Rattle.rules.proofs.Outcomes.{pass, halt, stepped, refused-only}
use Rattle.windows.specs.Window.{is_cut, ending_before, handed_by, handed_over}

pub before-some : (size p : ℕ) → (p ≡ 0 → ⊥) → good p ≡ ending_before size p
unfolding ending_before
before-some size p l = sym (pass _ _ _ _ (rw (ne_eqb p 0 l)) refl)

pub before_small : (size p : ℕ) → size < 65536 → good p ≡ ending_before size p
unfolding ending_before
before_small size p l = sym (pass _ _ _ _ (go (eqb p 0)) refl)
  where
    go : (b : Bool) → (b && leb 65536 size) ≡ false
    go true = lt-leb 65536 size l
    go false = refl

pub before-none : (size p : ℕ) → p ≡ 0 → 65536 ≤ size → bad LARGE 0 ≡ ending_before size p
unfolding ending_before
before-none size p z l = sym (halt _ _ _ _ (rw (eq-eqb p 0 z, le-leb 65536 size l)))

-- what was checked, as it is read
read-good : (window : List ℕ) (r : ℕ × ℕ) → checked_recording window ≡ good r → (ms : List Message) × (recording window ≡ good ms)
unfolding checked_recording
read-good window r e = let (ms, g, f) = stepped _ _ e in (ms, g)

read-bad : (window : List ℕ) (n p : ℕ) → checked_recording window ≡ bad n p → recording window ≡ bad n p
unfolding checked_recording
read-bad window n p e = refused-only _ _ e

pub handed-whole : (goesOn : Bool) (window : List ℕ) (r : ℕ × ℕ) → checked_recording window ≡ good r → good (length window) ≡ handed_over goesOn window
unfolding handed_over handed_by
handed-whole goesOn window r e = let (ms, g) = read-good window r e in sym (ap (handed_by goesOn (length window)) g)

-- a window that is refused, by whether it is cut while the recording goes on
pub handed-refused : (goesOn : Bool) (window : List ℕ) (n p : ℕ) (c : Bool) → (goesOn && is_cut n) ≡ c → checked_recording window ≡ bad n p
    → elim c [ true ↦ ending_before (length window) p | false ↦ bad n p ] ≡ handed_over goesOn window
unfolding handed_over handed_by
handed-refused goesOn window n p c z e = rw (← z) (sym (ap (handed_by goesOn (length window)) (read-bad window n p e)))
