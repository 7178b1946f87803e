-- `salvage::end_at` meets its contract: checks 1 to 9, the packages, and their number.
use mathlib.Core.Path.{◌≡◌, sym, ap, ◌∙◌}
use mathlib.Core.List.{List}
use Prim.Native.Nat.{ℕ, ◌-◌}
use native.Mathlib.Omega.{arith}
use lib.ListN.{length, take, drop}
use Rattle.rules.specs.Outcome.{good}
use Rattle.rules.specs.Packages.{cut}
use Rattle.message.specs.declared.Header.{Header}
use Rattle.std.specs.Prelude.{Ok}
use Rattle.message.specs.Answers.{told_header, front_at, payload_from, next_from}
use Rattle.message.proofs.Fronts.{front-bad, front-good, front_stopped, Fronted, fronted, front-uncut, front-count, front-message}
use Rattle.salvage.specs.Told.{end_of}
use Rattle.salvage.proofs.Ending.{uncounted, counted}
use Rattle.salvage.proofs.end_at.Goals as goal
use Rattle.salvage.proofs.end_at.Goals.{After-header_in-h, In-Ok-count_packages}

-- the front was read
abbrev H : After-header_in-h → Header
H c = c.header_in-h.result

read : (c : After-header_in-h) → told_header (Ok (H c)) ≡ front_at c.args.s.now c.args.at
read c = front-good _ _ _ _ c.in-Ok.ensures c.header_in-h.ensures

places : (c : After-header_in-h) → Fronted c.args.s.now c.args.at (H c)
places c = fronted _ _ (H c) (read c)

-- its packages were counted
packages : (c : In-Ok-count_packages) → (cs : List (List ℕ)) × (cut 0 (take (next_from c.args.at (H (goal.at.In-Ok-count_packages c).After-header_in-h) - payload_from c.args.at (H (goal.at.In-Ok-count_packages c).After-header_in-h)) (drop (payload_from c.args.at (H (goal.at.In-Ok-count_packages c).After-header_in-h)) c.args.s.now)) ≡ good cs) × (length cs ≡ c.in-Ok-count_packages.packages)
packages c = counted _ (places (goal.at.In-Ok-count_packages c).After-header_in-h).small c.in-Ok-count_packages.ensures

pub returns-in_default : goal.returns-in_default
returns-in_default c = ap end_of (front_stopped _ _ (front-bad _ _ c.in_default.ensures))

pub overflow_add-from-2 : goal.overflow_add-from-2
overflow_add-from-2 c = let f = places (goal.at.overflow_add-from-2 c).After-header_in-h in omega (arith, f.whole, f.within, f.forth)

pub overflow_add-next : goal.overflow_add-next
overflow_add-next c = let f = places (goal.at.overflow_add-next c).After-header_in-h in omega (arith, f.whole, f.within, f.forth)

pub slice_bounds-count_packages-count : goal.slice_bounds-count_packages-count
slice_bounds-count_packages-count c = (places (goal.at.slice_bounds-count_packages-count c).After-header_in-h).forth

pub slice_bounds-count_packages-start : goal.slice_bounds-count_packages-start
slice_bounds-count_packages-start c = (places (goal.at.slice_bounds-count_packages-start c).After-header_in-h).forth

pub slice_bounds-count_packages-end : goal.slice_bounds-count_packages-end
slice_bounds-count_packages-end c = (places (goal.at.slice_bounds-count_packages-end c).After-header_in-h).within

pub returns-in_default-count_packages : goal.returns-in_default-count_packages
returns-in_default-count_packages c =
    ap end_of (front-uncut _ _ (H (goal.at.returns-in_default-count_packages c).After-header_in-h) (read (goal.at.returns-in_default-count_packages c).After-header_in-h) (uncounted _ (places (goal.at.returns-in_default-count_packages c).After-header_in-h).small c.in_default-count_packages.ensures))

pub overflow_add-options : goal.overflow_add-options
overflow_add-options c = let f = places (goal.at.overflow_add-options c).After-header_in-h in omega (arith, f.whole, f.within, f.forth, f.behind)

pub overflow_add-to : goal.overflow_add-to
overflow_add-to c = let f = places (goal.at.overflow_add-to c).After-header_in-h in omega (arith, f.whole, f.within, f.forth, f.run)

pub slice_bounds-miscounts-end : goal.slice_bounds-miscounts-end
slice_bounds-miscounts-end c = let f = places (goal.at.slice_bounds-miscounts-end c).After-header_in-h in omega (arith, f.within, f.forth, f.run)

pub returns-then-miscounts : goal.returns-then-miscounts
returns-then-miscounts c =
    let (cs, g, n) = packages (goal.at.returns-then-miscounts c).In-Ok-count_packages in
    ap end_of (front-count _ _ (H (goal.at.returns-then-miscounts c).After-header_in-h) (read (goal.at.returns-then-miscounts c).After-header_in-h) cs g (rw n (sym c.miscounts.ensures ∙ c.if-miscounts.true)))

pub returns : goal.returns
returns c =
    let (cs, g, n) = packages (goal.at.returns c).In-Ok-count_packages in
    ap end_of (front-message _ _ (H (goal.at.returns c).After-header_in-h) (read (goal.at.returns c).After-header_in-h) cs g (rw n (sym c.miscounts.ensures ∙ c.if-miscounts.false)))
