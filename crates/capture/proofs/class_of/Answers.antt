-- `capture::class_of` meets its contract: each test leaves its class, and a kept message lies within its frame.
use mathlib.Core.Path.{refl}
use native.Mathlib.Omega.{arith}
use Rattle.capture.proofs.Classing.{for_us-long, fitted, inside, other_port, not_whole, not_fitting, not_one, is_one}
use borrow.Author.Rules.{rules}
use Rattle.capture.proofs.class_of.Goals as goal

pub returns-then-not-for_us : goal.returns-then-not-for_us
returns-then-not-for_us c = (other_port _ _ _ _ c.for_us.ensures (c.if-not-for_us.true), tt)

pub returns-then-frame-original : goal.returns-then-frame-original
returns-then-frame-original c = (not_whole _ _ _ _ c.for_us.ensures (c.if-not-for_us.false) _ refl (search rules), tt)

pub slice_bounds-ip-count : goal.slice_bounds-ip-count
slice_bounds-ip-count c = omega (arith, (for_us-long _ _ _ c.for_us.ensures (c.if-not-for_us.false)).0)

pub slice_bounds-ip-start : goal.slice_bounds-ip-start
slice_bounds-ip-start c = omega (arith, (for_us-long _ _ _ c.for_us.ensures (c.if-not-for_us.false)).0)

pub returns-then-not-lengths_fit : goal.returns-then-not-lengths_fit
returns-then-not-lengths_fit c = (not_fitting _ _ _ _ c.for_us.ensures (c.if-not-for_us.false) _ refl (search rules) _ c.lengths_fit.ensures (c.if-not-lengths_fit.true), tt)

pub slice_bounds-one_message-count : goal.slice_bounds-one_message-count
slice_bounds-one_message-count c =
    (fitted _ _ c.lengths_fit.ensures (c.if-not-lengths_fit.false) _ c.header_of-header.ensures.0 _ c.half_at.ensures).least

pub slice_bounds-one_message-start : goal.slice_bounds-one_message-start
slice_bounds-one_message-start c =
    (fitted _ _ c.lengths_fit.ensures (c.if-not-lengths_fit.false) _ c.header_of-header.ensures.0 _ c.half_at.ensures).least

pub slice_bounds-one_message-end : goal.slice_bounds-one_message-end
slice_bounds-one_message-end c =
    (fitted _ _ c.lengths_fit.ensures (c.if-not-lengths_fit.false) _ c.header_of-header.ensures.0 _ c.half_at.ensures).most

pub returns-then-not-one_message : goal.returns-then-not-one_message
returns-then-not-one_message c =
    (not_one _ _ _ _ c.for_us.ensures (c.if-not-for_us.false) _ refl (search rules) _ c.lengths_fit.ensures (c.if-not-lengths_fit.false) _ c.header_of-header.ensures.0 _ c.half_at.ensures _ c.one_message.ensures (c.if-not-one_message.true), tt)

pub returns : goal.returns
returns c =
    let long = for_us-long _ _ _ c.for_us.ensures (c.if-not-for_us.false) in
    let fits = fitted _ _ c.lengths_fit.ensures (c.if-not-lengths_fit.false) _ c.header_of-header.ensures.0 _ c.half_at.ensures in
    (is_one _ _ _ _ c.for_us.ensures (c.if-not-for_us.false) _ refl (search rules) _ c.lengths_fit.ensures (c.if-not-lengths_fit.false) _ c.header_of-header.ensures.0 _ c.half_at.ensures _ c.one_message.ensures (c.if-not-one_message.false), inside c.args.frame.now _ _ long fits c.header_of-header.ensures.0 _ c.one_message.ensures (c.if-not-one_message.false))
