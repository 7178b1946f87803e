-- `salvage::survey` meets its contract: what is before `at` is surveyed, and a 65th stretch ends the survey.
use borrow.Author.Rules.{rules}
use mathlib.Core.Path.{sym, ◌∙◌}
use Prim.Native.Nat.{ℕ, ◌≤◌, ◌<◌}
use native.Mathlib.Omega.{arith}
use lib.ListN.{length, drop}
use mathlib.Core.List.{List}
use Rattle.salvage.specs.Told.{skips_end, slot_of, start_of}
use Rattle.salvage.proofs.Pieces.{Lost}
use Rattle.salvage.proofs.Skips.{inside}
use Rattle.salvage.proofs.Ending.{kept-end, lost-end}
use Rattle.salvage.proofs.Surveying.{KeptAt, survey_start, survey_kept, start-before, slot_most, survey_skips, survey_full, survey_ended, survey_large}
use Rattle.salvage.proofs.survey.Goals as goal
use Rattle.salvage.proofs.survey.Goals.{Else-slot-eq64, In-None, In-Some}

-- the message that was found
kept : (c : In-Some) → KeptAt c.args.s.now c.loop-at.at c.in-Some.next
kept c = kept-end c.args.s.now c.loop-at.at c.in-Some.next c.loop-at-test.true c.in-Some.ensures

-- none was found
module _ (c : In-None) where
  abbrev input : List ℕ
  input = c.args.s.now

  abbrev place : ℕ
  place = c.loop-at.at

  lost : Lost input place
  lost = lost-end input place c.loop-at.invariant.0 c.in-None.ensures

  -- the skips end behind the place, and the stretch begins at the place or before
  behind : (start_of c.loop-at.count c.loop-at.last c.loop-at.end place ≤ place) × ((place < skips_end 4 place (drop place input)) × (skips_end 4 place (drop place input) ≤ length input))
  behind = (start-before _ _ _ _ _ _ _ _ c.loop-at.invariant.1 c.loop-at-test.true lost, inside input place c.loop-at-test.true)

-- it is not the 65th
room : (c : Else-slot-eq64) → slot_of c.loop-at.count c.loop-at.end c.loop-at.at < 64
room c = let o = slot_most _ _ _ _ _ _ _ _ c.loop-at.invariant.1 c.loop-at-test.true (lost (goal.at.Else-slot-eq64 c).In-None) in omega (arith, o, c.slot_of-slot.ensures)

pub returns-then-s-gt65536 : goal.returns-then-s-gt65536
returns-then-s-gt65536 c = rw c.refuse.ensures (survey_large _ c.if-s-gt65536.true)

pub loop-at-init : goal.loop-at-init
loop-at-init c = let d = c.default-stretches.ensures in rw (d.0, d.1) (c.if-s-gt65536.false, survey_start _)

pub overflow_sub-bytes : goal.overflow_sub-bytes
overflow_sub-bytes c = let k = kept c in omega (arith, k.next)

pub loop-at-smaller-in-Some : goal.loop-at-smaller-in-Some
loop-at-smaller-in-Some c = let k = kept c in omega (arith, k.next, k.least, k.inside)

pub loop-at-preserved-in-Some : goal.loop-at-preserved-in-Some
loop-at-preserved-in-Some c =
    let v = c.loop-at in
    (v.invariant.0, survey_kept _ _ _ _ _ _ _ _ v.invariant.1 c.loop-at-test.true _ (kept c))

pub returns-then-slot-eq64 : goal.returns-then-slot-eq64
returns-then-slot-eq64 c = rw c.refuse-then-slot-eq64.ensures (survey_full _ _ _ _ _ _ _ _ c.loop-at.invariant.1 c.loop-at-test.true (lost (goal.at.returns-then-slot-eq64 c).In-None) (sym c.slot_of-slot.ensures ∙ c.if-slot-eq64.true) c.loop-at.invariant.0)

pub stretch_of-requires : goal.stretch_of-requires
stretch_of-requires c = let (a, b) = behind (goal.at.stretch_of-requires c).In-None in omega (arith, c.start_of-last.ensures, c.skips_end-end.ensures, a, b.0)

pub offset_bounds-stretches-slot : goal.offset_bounds-stretches-slot
offset_bounds-stretches-slot c = let h = room (goal.at.offset_bounds-stretches-slot c).Else-slot-eq64 in omega (arith, h, c.slot_of-slot.ensures)

pub bounds-stretches-slot : goal.bounds-stretches-slot
bounds-stretches-slot c = let h = room (goal.at.bounds-stretches-slot c).Else-slot-eq64 in omega (arith, h, c.slot_of-slot.ensures)

pub overflow_add-count : goal.overflow_add-count
overflow_add-count c = let h = room (goal.at.overflow_add-count c).Else-slot-eq64 in omega (arith, h, c.slot_of-slot.ensures)

pub loop-at-smaller : goal.loop-at-smaller
loop-at-smaller c = let (a, b) = behind (goal.at.loop-at-smaller c).In-None in omega (arith, c.skips_end-end.ensures, b.0, b.1)

pub loop-at-preserved : goal.loop-at-preserved
loop-at-preserved c =
    let v = c.loop-at in
    (v.invariant.0, rw (c.stretch_of.ensures, c.skips_end-end.ensures, c.slot_of-slot.ensures, c.start_of-last.ensures) (survey_skips _ _ _ _ _ _ _ _ v.invariant.1 c.loop-at-test.true (lost (goal.at.loop-at-preserved c).In-None) (room (goal.at.loop-at-preserved c).Else-slot-eq64)))

pub returns : goal.returns
returns c = let v = c.loop-at in survey_ended _ _ _ _ _ _ _ _ v.invariant.1 v.invariant.0 (search rules)
