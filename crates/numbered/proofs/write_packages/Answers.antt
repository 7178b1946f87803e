-- `numbered::write_packages` meets its contract: in the loop the marked packages before what is left are stored.
use borrow.Author.Rules.{rules}
use mathlib.Core.Path.{◌≡◌, refl, ap, ◌∙◌}
use Prim.Native.Nat.{ℕ, ◌≤◌, ◌<◌}
use native.Mathlib.Omega.{arith}
use mathlib.Core.List.{List}
use lib.ListN.{length, drop}
use lib.Seq.{length-sets}
use Rattle.message.specs.declared.Package.{Package}
use Rattle.std.specs.Prelude.{Some, Ok}
use Rattle.message.specs.Answers.{told_package}
use Rattle.rules.specs.Bytes.{Bytes}
use Rattle.rules.specs.Walk.{package_at}
use Rattle.rules.proofs.Claims.{premises_met}
use Rattle.message.proofs.Left.{gone, none-gone, left-all, left-long, more-gone, left-on}
use Rattle.message.proofs.Moved.{moved}
use Rattle.numbered.proofs.Found.{Found, on, still}
use Rattle.numbered.proofs.Packages.{NoPackage, found-behind, store_start, store_ended, store_stopped, store_placed, store_next}
use Rattle.numbered.proofs.write_packages.Goals as goal
use Rattle.numbered.proofs.write_packages.Goals.{In-Ok-Some, In_default, in_default-via-in-Ok+in_default, in_default-via-in_default}

-- a package was read
abbrev Read : Type 0
Read = In-Ok-Some

abbrev which : Read → Package
which c = c.in-Ok-Some.p

-- or none was
no-package : (c : In_default) → NoPackage c.package_at.result
no-package c =
    elim c.in_default.branch [
      | in_default-via-in-Ok+in_default w ↦ λ p e. absurd (search rules)
      | in_default-via-in_default w ↦ λ p e. absurd (search rules)
    ]

-- where it stands in the run
at : Read → ℕ
at c = gone c.args.run.now c.loop-rest.rest.now

read : (c : Read) → told_package (Ok (Some (which c))) ≡ package_at (drop (at c) c.args.run.now) 0
unfolding at
read c = rw c.in-Ok-Some.field-0-is at c.in-Ok-Some.ensures ∙ ap (λ (l : List ℕ). package_at l 0) c.loop-rest.invariant.2.is

place : (c : Read) → Found c.args.run.now (at c) (moved (at c) (which c))
place c = found-behind c.args.run.now (at c) c.loop-rest.invariant.0 (which c) (read c)

-- and that it lies in what is left
fit : (c : Read) → (which c).next ≤ length c.loop-rest.rest.now
unfolding at
fit c = omega (arith, still _ _ _ (place c), c.loop-rest.invariant.2.most)

inside : (c : Read) → at c < length c.args.run.now
unfolding at
inside c = omega (arith, c.loop-rest-test.true, c.loop-rest.invariant.2.most)

bytes : (c : Read) → Bytes c.args.run.now
bytes c = premises_met.bytes _ (λ k. omega (arith, c.type_inv.run k))

pub loop-rest-init : goal.loop-rest-init
loop-rest-init c =
    let a = c.args in
    (search rules, refl, left-all _, rw (none-gone a.run.now) (store_start a.marks.now a.first a.run.now a.out.now a.to))

pub returns-in_default : goal.returns-in_default
returns-in_default c =
    let v = c.loop-rest in
    let a = c.args in
    store_stopped a.marks.now a.first a.run.now a.out.now a.to v.out v.end v.all _ v.invariant.3 v.invariant.0 (omega (arith, c.loop-rest-test.true, v.invariant.2.most)) c.package_at.result (no-package c) (c.package_at.ensures ∙ ap (λ (l : List ℕ). package_at l 0) v.invariant.2.is)

pub write_granted-end-requires : goal.write_granted-end-requires
unfolding at
write_granted-end-requires c =
    let v = c.loop-rest in
    let a = c.args in
    let i = v.invariant.3 in
    (omega (arith, i.most, i.keeping.inside, v.invariant.0, c.requires.2), rw v.invariant.2.is (store_placed a.marks.now a.first a.run.now a.out.now a.to v.out v.end v.all (at (goal.at.write_granted-end-requires c).In-Ok-Some) i v.invariant.0 (inside (goal.at.write_granted-end-requires c).In-Ok-Some) (which (goal.at.write_granted-end-requires c).In-Ok-Some) (read (goal.at.write_granted-end-requires c).In-Ok-Some)))

pub slice_bounds-rest-count : goal.slice_bounds-rest-count
slice_bounds-rest-count c = fit (goal.at.slice_bounds-rest-count c).In-Ok-Some

pub slice_bounds-rest-start : goal.slice_bounds-rest-start
slice_bounds-rest-start c = fit (goal.at.slice_bounds-rest-start c).In-Ok-Some

pub loop-rest-smaller : goal.loop-rest-smaller
loop-rest-smaller c =
    omega (arith, on _ _ _ (place (goal.at.loop-rest-smaller c).In-Ok-Some), fit (goal.at.loop-rest-smaller c).In-Ok-Some, left-long _ _ _ c.loop-rest.invariant.2 (fit (goal.at.loop-rest-smaller c).In-Ok-Some))

pub loop-rest-preserved : goal.loop-rest-preserved
unfolding at
loop-rest-preserved c =
    let w = c.write_granted-end in
    let b = c.bit_at in
    let v = c.loop-rest in
    let a = c.args in
    let i = store_next a.marks.now a.first a.run.now a.out.now a.to v.out v.end v.all (at (goal.at.loop-rest-preserved c).In-Ok-Some) v.invariant.3 v.invariant.0 (inside (goal.at.loop-rest-preserved c).In-Ok-Some) (which (goal.at.loop-rest-preserved c).In-Ok-Some) (read (goal.at.loop-rest-preserved c).In-Ok-Some) (bytes (goal.at.loop-rest-preserved c).In-Ok-Some) b.result b.ensures _ _ (rw v.invariant.2.is at w.ensures) in
    (search rules, ap length i.stored ∙ simp length-sets, left-on _ _ _ v.invariant.2 (fit (goal.at.loop-rest-preserved c).In-Ok-Some), rw (more-gone _ _ _ v.invariant.2 (fit (goal.at.loop-rest-preserved c).In-Ok-Some)) i)

pub returns : goal.returns
returns c =
    let v = c.loop-rest in
    let a = c.args in
    store_ended a.marks.now a.first a.run.now a.out.now a.to v.out v.end v.all _ v.invariant.3 (omega (arith, c.loop-rest-test.false))
