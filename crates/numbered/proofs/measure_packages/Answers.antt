-- `numbered::measure_packages` meets its contract: in the loop what is done are the packages before what is left, and their flags are marked.
use mathlib.Core.Path.{◌≡◌, ap, ap₂, ◌∙◌}
use mathlib.Core.List.{List}
use Prim.Native.Nat.{ℕ, ◌≤◌}
use native.Mathlib.Omega.{arith}
use borrow.Author.Rules.{rules}
use lib.ListN.{length}
use Rattle.message.specs.declared.Mdid.{Mdid}
use Rattle.message.specs.declared.Package.{Package}
use Rattle.rules.specs.Message.{is_simulated}
use Rattle.rules.specs.Walk.{package_at}
use Rattle.sheet.specs.Table.{rows_in, near_grants}
use Rattle.numbered.specs.Parts.{message_by}
use Rattle.message.proofs.Left.{gone, none-gone, left-all, left-long, more-gone, left-on}
use Rattle.message.proofs.Moved.{moved}
use Rattle.numbered.proofs.Found.{Found, on, still}
use Rattle.sheet.proofs.TableRows.{near_laid}
use Rattle.numbered.proofs.Packages.{NoPackage, found-behind, near_asked, walk_start, walk_ended, walk_stopped, walk_next}
use Rattle.numbered.proofs.measure_packages.Goals as goal
use Rattle.numbered.proofs.measure_packages.Goals.{In-Ok-Some, In_default, in_default-via-in-Ok+in_default, in_default-via-in_default}

-- a package was read
abbrev Read : Type 0
Read = In-Ok-Some

abbrev which : Read → Package
which c = c.in-Ok-Some.p

-- or none was
no-package : (c : In_default) → NoPackage c.package_at.result
no-package c =
    elim c.in_default.branch [
      | in_default-via-in-Ok+in_default w ↦ λ p e. absurd (search rules)
      | in_default-via-in_default w ↦ λ p e. absurd (search rules)
    ]

-- where it stands in the run
at : Read → ℕ
at c = gone c.args.run.now c.loop-rest.rest.now

place : (c : Read) → Found c.args.run.now (at c) (moved (at c) (which c))
unfolding at
place c =
    let v = c.loop-rest in
    found-behind c.args.run.now (at c) (omega (arith, v.invariant.0)) (which c) (rw c.in-Ok-Some.field-0-is at c.in-Ok-Some.ensures ∙ ap (λ (l : List ℕ). package_at l 0) v.invariant.3.is)

-- and that it lies in what is left
fit : (c : Read) → (which c).next ≤ length c.loop-rest.rest.now
unfolding at
fit c = omega (arith, still _ _ _ (place c), c.loop-rest.invariant.3.most)

pub loop-rest-init : goal.loop-rest-init
loop-rest-init c =
    let a = c.args in
    let n = c.near_rows-many in
    let m = c.source_of.ensures in
    let (l, e) = near_laid a.table.now a.near.now _ n.result _ a.h.id.0 _ (is_simulated a.h.flags) (ap (λ (x : Mdid). x.0) m.0) m.1 c.requires.1 (search rules) n.ensures.0 n.ensures.1 in
    (c.requires.0, l, e, left-all _, rw (none-gone a.run.now) (walk_start (rows_in a.table.now) (message_by a.h) a.run.now a.marks.now a.first (search rules)))

pub returns-in_default : goal.returns-in_default
returns-in_default c =
    let v = c.loop-rest in
    let a = c.args in
    walk_stopped (rows_in a.table.now) (message_by a.h) a.run.now a.marks.now a.first v.size v.all v.marks _ v.invariant.4 (omega (arith, v.invariant.0)) (omega (arith, c.loop-rest-test.true, v.invariant.3.most)) c.package_at.result (no-package c) (c.package_at.ensures ∙ ap (λ (l : List ℕ). package_at l 0) v.invariant.3.is)

pub with_package-size-requires : goal.with_package-size-requires
with_package-size-requires c =
    let i = c.loop-rest.invariant in
    (omega (arith, i.0, i.4.small, i.4.keeping.inside), omega (arith, i.0, i.4.few, i.4.keeping.inside), omega (arith, i.0, i.3.most, fit (goal.at.with_package-size-requires c).In-Ok-Some))

pub slice_bounds-rest-count : goal.slice_bounds-rest-count
slice_bounds-rest-count c = fit (goal.at.slice_bounds-rest-count c).In-Ok-Some

pub slice_bounds-rest-start : goal.slice_bounds-rest-start
slice_bounds-rest-start c = fit (goal.at.slice_bounds-rest-start c).In-Ok-Some

pub loop-rest-smaller : goal.loop-rest-smaller
unfolding at
loop-rest-smaller c =
    omega (arith, on _ _ _ (place (goal.at.loop-rest-smaller c).In-Ok-Some), fit (goal.at.loop-rest-smaller c).In-Ok-Some, left-long _ _ _ c.loop-rest.invariant.3 (fit (goal.at.loop-rest-smaller c).In-Ok-Some))

pub loop-rest-preserved : goal.loop-rest-preserved
unfolding at
loop-rest-preserved c =
    let v = c.loop-rest in
    let a = c.args in
    let g = c.near_grants-granted in
    let asked = g.ensures ∙ ap₂ (λ (t : ℕ) (l : List ℕ). near_grants (which (goal.at.loop-rest-preserved c).In-Ok-Some).id.0 t l) c.package_time-time.ensures v.invariant.2 ∙ near_asked a.table.now a.h a.run.now (at (goal.at.loop-rest-preserved c).In-Ok-Some) (moved (at (goal.at.loop-rest-preserved c).In-Ok-Some) (which (goal.at.loop-rest-preserved c).In-Ok-Some)) (place (goal.at.loop-rest-preserved c).In-Ok-Some) in
    (v.invariant.0, v.invariant.1, v.invariant.2, left-on _ _ _ v.invariant.3 (fit (goal.at.loop-rest-preserved c).In-Ok-Some), rw (more-gone _ _ _ v.invariant.3 (fit (goal.at.loop-rest-preserved c).In-Ok-Some), c.with_package-size.ensures, c.put_bit.ensures) (walk_next (rows_in a.table.now) (message_by a.h) a.run.now a.marks.now a.first v.size v.all v.marks (at (goal.at.loop-rest-preserved c).In-Ok-Some) v.invariant.4 (omega (arith, v.invariant.0)) (omega (arith, c.loop-rest-test.true, v.invariant.3.most)) v.invariant.0 (which (goal.at.loop-rest-preserved c).In-Ok-Some) (place (goal.at.loop-rest-preserved c).In-Ok-Some) g.result asked))

pub returns : goal.returns
returns c =
    let v = c.loop-rest in
    let a = c.args in
    let z : gone a.run.now v.rest.now ≡ length a.run.now = omega (arith, c.loop-rest-test.false) in
    rw z at (walk_ended (rows_in a.table.now) (message_by a.h) a.run.now a.marks.now a.first v.size v.all v.marks _ v.invariant.4 (omega (arith, z)))
