-- `compose::walk` meets its contract: the packages before the index are passed, and one of them ends at the border.
use Prim.Native.Nat.{ℕ, ◌+◌}
use mathlib.Core.Path.{◌≡◌, sym, ap, subst, ◌∙◌}
use native.Mathlib.Omega.{arith}
use lib.ListN.{drop, length-drop}
use Rattle.rules.specs.Bytes.{half, pad}
use Rattle.rules.proofs.Cut as Cut
use Rattle.rules.proofs.Numbers.{half-drop}
use Rattle.compose.proofs.Walking.{Walking, walk_start, walk_ended, walk_stopped, walk_same, walk_border}
use Rattle.compose.proofs.walk.Goals as goal
use Rattle.compose.proofs.walk.Goals.{then-i-half, else-i-half, After-half_at-l, Else-left-n}

-- the length that was read, and that of the package
long : (c : After-half_at-l) → c.half_at-l.result ≡ half (drop c.loop-i.i c.args.run.now) 4
long c = c.half_at-l.ensures ∙ sym (half-drop _ _ 4)

pub loop-i-init : goal.loop-i-init
loop-i-init c = walk_start c.args.run.now

pub returns-then-left-lt12 : goal.returns-then-left-lt12
returns-then-left-lt12 c =
    let l = c.loop-i in
    walk_stopped c.args.run.now l.i l.all l.mid l.invariant (omega arith) (λ f. omega (arith, f.header, length-drop l.i c.args.run.now))

pub overflow_add-i : goal.overflow_add-i
overflow_add-i c = omega (arith, c.requires)

pub returns-then-l-lt12 : goal.returns-then-l-lt12
returns-then-l-lt12 c =
    let l = c.loop-i in
    walk_stopped c.args.run.now l.i l.all l.mid l.invariant (omega arith) (λ f. omega (arith, f.least, long (goal.at.returns-then-l-lt12 c).After-half_at-l))

pub round_up-n-requires : goal.round_up-n-requires
round_up-n-requires c = omega arith

pub returns-then-left-n : goal.returns-then-left-n
returns-then-left-n c =
    let l = c.loop-i in
    walk_stopped c.args.run.now l.i l.all l.mid l.invariant (omega arith) (λ f. omega (arith, f.room, long (goal.at.returns-then-left-n c).After-half_at-l, c.round_up-n.ensures, length-drop l.i c.args.run.now))

pub overflow_add-mid : goal.overflow_add-mid
overflow_add-mid c = omega (arith, c.requires)

pub overflow_add-i-in-loop-i : goal.overflow_add-i-in-loop-i
overflow_add-i-in-loop-i c = omega (arith, c.requires)

pub overflow_add-all : goal.overflow_add-all
overflow_add-all c =
    let l = c.loop-i in
    omega (arith, c.requires, l.invariant.few)

pub loop-i-smaller : goal.loop-i-smaller
loop-i-smaller c = omega (arith, c.round_up-n.ensures)

-- the package that was read fits
fit : (c : Else-left-n) → Cut.Fit (drop c.loop-i.i c.args.run.now)
fit c =
    let l = c.loop-i in
    let d = length-drop l.i c.args.run.now in
    let x = long (goal.at.Else-left-n c).After-half_at-l in
    record { header = omega (arith, d); least = omega (arith, x); room = omega (arith, d, x, c.round_up-n.ensures) }

pub loop-i-preserved : goal.loop-i-preserved
loop-i-preserved c =
    let l = c.loop-i in
    let f = fit (goal.at.loop-i-preserved c).Else-left-n in
    let g = c.round_up-n.ensures ∙ ap pad (long (goal.at.loop-i-preserved c).After-half_at-l) in
    elim c.if-i-half.branch [
      | then-i-half x ↦ subst (λ (y : ℕ). Walking c.args.run.now (l.i + c.round_up-n.result) (l.all + 1) y) (sym x.mid-is) (walk_border c.args.run.now l.i l.all l.mid l.invariant (omega arith) f g)
      | else-i-half x ↦ subst (λ (y : ℕ). Walking c.args.run.now (l.i + c.round_up-n.result) (l.all + 1) y) (sym x.mid-is) (walk_same c.args.run.now l.i l.all l.mid l.invariant (omega arith) f g)
    ]

pub returns : goal.returns
returns c =
    let l = c.loop-i in
    walk_ended c.args.run.now l.i l.all l.mid l.invariant (omega arith)
