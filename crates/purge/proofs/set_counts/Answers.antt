-- `purge::set_counts` meets its contract: in the loop the options before `i` are done, and the others are as they were.
use mathlib.Core.Path.{◌∙◌}
use native.Mathlib.Omega.{arith}
use lib.ListN.{length-drop}
use borrow.Author.Rules.{rules}
use Rattle.purge.proofs.Counts.{set-start, set_ended, size_bounds, size_is, set_next}
use Rattle.purge.proofs.set_counts.Goals as goal

pub loop-i-init : goal.loop-i-init
loop-i-init c = set-start c.args.count c.args.o.now c.requires.0

pub option_size-size-requires : goal.option_size-size-requires
option_size-size-requires c = let v = c.loop-i in omega (arith, v.invariant.inside, c.requires.1)

pub set_count-requires : goal.set_count-requires
set_count-requires c = let v = c.loop-i in omega (arith, v.invariant.inside, c.requires.1)

pub overflow_add-i : goal.overflow_add-i
overflow_add-i c =
    let v = c.loop-i in
    let w = size_bounds c.args.count c.args.o.now v.o v.i v.invariant (search rules) in
    omega (arith, v.invariant.inside, c.requires.1, c.option_size-size.ensures, size_is c.args.count c.args.o.now v.o v.i v.invariant (search rules), w.most, length-drop v.i c.args.o.now)

pub loop-i-smaller : goal.loop-i-smaller
loop-i-smaller c =
    let v = c.loop-i in
    let w = size_bounds c.args.count c.args.o.now v.o v.i v.invariant (search rules) in
    omega (arith, v.invariant.inside, v.invariant.long, c.option_size-size.ensures, size_is c.args.count c.args.o.now v.o v.i v.invariant (search rules), w.least, w.most, length-drop v.i c.args.o.now)

pub loop-i-preserved : goal.loop-i-preserved
loop-i-preserved c =
    let v = c.loop-i in
    rw (c.option_size-size.ensures ∙ size_is c.args.count c.args.o.now v.o v.i v.invariant (search rules)) (set_next c.args.count c.args.o.now v.o v.i v.invariant (search rules) _ c.set_count.ensures)

pub shape_of-o : goal.shape_of-o
shape_of-o c = c.loop-i.invariant.long

pub returns : goal.returns
returns c =
    let v = c.loop-i in
    set_ended c.args.count c.args.o.now v.o v.i v.invariant (search rules)
