-- `purge::keep_packages` meets its contract: in the loop the packages before `at` are done, those kept stand from `to` on, and what is not read yet is as it was.
use borrow.Author.Rules.{rules}
use mathlib.Core.Path.{◌≡◌, sym, ap, ap₂, ◌∙◌}
use mathlib.Core.List.{List}
use Prim.Native.Nat.{ℕ}
use native.Mathlib.Omega.{arith}
use lib.Seq.{length-take-le}
use Rattle.message.specs.declared.Mdid.{Mdid}
use Rattle.message.specs.declared.Package.{Package}
use Rattle.std.specs.Prelude.{Some, Ok}
use Rattle.message.specs.Answers.{told_package}
use Rattle.rules.specs.Bytes.{Bytes}
use Rattle.rules.specs.Message.{is_simulated}
use Rattle.rules.specs.Walk.{package_at}
use Rattle.sheet.specs.Table.{near_grants}
use Rattle.sheet.proofs.TableRows.{near_laid}
use Rattle.purge.proofs.Sliding.{slide_start, slide_ended, slide_stopped, slide_standing, behind, slide_on, slide_still, slide_next}
use Rattle.purge.proofs.keep_packages.Goals as goal
use Rattle.purge.proofs.keep_packages.Goals.{In-Ok-Some}

-- a package was read
abbrev Read : Type 0
Read = In-Ok-Some

abbrev which : Read → Package
which c = c.in-Ok-Some.p

read : (c : Read) → told_package (Ok (Some (which c))) ≡ package_at c.loop-at.s c.loop-at.at
read c = rw c.in-Ok-Some.field-0-is at c.in-Ok-Some.ensures

bytes : (c : Read) → Bytes c.args.s.now
bytes c = record { below = λ i. omega (arith, c.slice_known-1.given i) }

pub loop-at-init : goal.loop-at-init
loop-at-init c =
    let n = c.near_rows-many in
    let m = c.source_of.ensures in
    let (l, e) = near_laid c.args.table.now c.args.near.now _ n.result _ c.args.h.id.0 _ (is_simulated c.args.h.flags) (ap (λ (x : Mdid). x.0) m.0) m.1 c.requires.3 (search rules) n.ensures.0 n.ensures.1 in
    (l, e, slide_start c.args.table.now c.args.h c.args.from c.args.to c.args.s.now c.requires.0 c.requires.1 c.requires.2)

pub shape_of-s-in_default : goal.shape_of-s-in_default
shape_of-s-in_default c = c.loop-at.invariant.2.long

pub returns-in_default : goal.returns-in_default
returns-in_default c =
    let v = c.loop-at in
    slide_stopped c.args.table.now c.args.h c.args.from c.args.to c.args.s.now c.requires.0 c.requires.1 c.requires.2 v.s v.left v.at v.invariant.2 (search rules) c.package_at.result (λ p e. absurd (search rules)) c.package_at.ensures

pub returns-in_default-2 : goal.returns-in_default-2
returns-in_default-2 c =
    let v = c.loop-at in
    slide_stopped c.args.table.now c.args.h c.args.from c.args.to c.args.s.now c.requires.0 c.requires.1 c.requires.2 v.s v.left v.at v.invariant.2 (search rules) c.package_at.result (λ p e. absurd (search rules)) c.package_at.ensures

pub slice_bounds-near_grants-end : goal.slice_bounds-near_grants-end
slice_bounds-near_grants-end c = sym (length-take-le _ _ c.loop-at.invariant.0)

pub overflow_add-to : goal.overflow_add-to
overflow_add-to c =
    let i = c.loop-at.invariant.2 in
    omega (arith, i.small, i.place, i.inside, c.requires.0, c.requires.2)

pub keep_unless-left-requires : goal.keep_unless-left-requires
keep_unless-left-requires c =
    let v = c.loop-at in (
      slide_standing c.args.table.now c.args.h c.args.from c.args.to c.args.s.now c.requires.0 c.requires.1 c.requires.2 v.s v.left v.at v.invariant.2 (search rules) (which (goal.at.keep_unless-left-requires c).In-Ok-Some) (read (goal.at.keep_unless-left-requires c).In-Ok-Some),
      behind c.args.table.now c.args.h c.args.from c.args.to c.args.s.now c.requires.0 c.requires.1 c.requires.2 v.s v.left v.at v.invariant.2,
      omega (arith, v.invariant.2.small, v.invariant.2.place, v.invariant.2.inside, c.requires.2),
      omega (arith, v.invariant.2.few, v.invariant.2.place, v.invariant.2.inside, c.requires.2),
    )

pub loop-at-smaller : goal.loop-at-smaller
loop-at-smaller c =
    let v = c.loop-at in
    omega (arith, v.invariant.2.long, slide_on c.args.table.now c.args.h c.args.from c.args.to c.args.s.now c.requires.0 c.requires.1 c.requires.2 v.s v.left v.at v.invariant.2 (search rules) (which (goal.at.loop-at-smaller c).In-Ok-Some) (read (goal.at.loop-at-smaller c).In-Ok-Some), slide_still c.args.table.now c.args.h c.args.from c.args.to c.args.s.now c.requires.0 c.requires.1 c.requires.2 v.s v.left v.at v.invariant.2 (search rules) (which (goal.at.loop-at-smaller c).In-Ok-Some) (read (goal.at.loop-at-smaller c).In-Ok-Some))

pub loop-at-preserved : goal.loop-at-preserved
loop-at-preserved c =
    let g = c.near_grants-granted in
    let v = c.loop-at in
    let asked = g.ensures ∙ ap₂ (λ (t : ℕ) (l : List ℕ). near_grants (which (goal.at.loop-at-preserved c).In-Ok-Some).id.0 t l) c.package_time-time.ensures v.invariant.1 in
    (v.invariant.0, v.invariant.1, slide_next c.args.table.now c.args.h c.args.from c.args.to c.args.s.now c.requires.0 c.requires.1 c.requires.2 v.s v.left v.at v.invariant.2 (search rules) (which (goal.at.loop-at-preserved c).In-Ok-Some) (read (goal.at.loop-at-preserved c).In-Ok-Some) _ _ (bytes (goal.at.loop-at-preserved c).In-Ok-Some) g.result asked c.keep_unless-left.ensures)

pub shape_of-s : goal.shape_of-s
shape_of-s c = c.loop-at.invariant.2.long

pub returns : goal.returns
returns c =
    let v = c.loop-at in
    slide_ended c.args.table.now c.args.h c.args.from c.args.to c.args.s.now c.requires.0 c.requires.1 c.requires.2 v.s v.left v.at v.invariant.2 (search rules)
