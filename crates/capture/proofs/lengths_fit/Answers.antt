-- `capture::lengths_fit` meets its contract: test by test.
use Rattle.capture.proofs.Tests.{total-low, total_high, size_low, size_fits}
use borrow.Author.Rules.{rules}
use Rattle.capture.proofs.lengths_fit.Goals as goal

pub returns-then-total-header : goal.returns-then-total-header
returns-then-total-header c = total-low _ _ c.header_of-header.ensures.0 _ c.half_at-total.ensures (search rules)

pub returns-then-ip-total : goal.returns-then-ip-total
returns-then-ip-total c = total_high _ _ c.header_of-header.ensures.0 _ c.half_at-total.ensures (search rules) (search rules)

pub returns-then-size-lt8 : goal.returns-then-size-lt8
returns-then-size-lt8 c =
    size_low _ _ c.header_of-header.ensures.0 _ c.half_at-total.ensures (search rules) (search rules) _ c.half_at-size.ensures (search rules)

pub returns : goal.returns
returns c =
    size_fits _ _ c.header_of-header.ensures.0 _ c.half_at-total.ensures (search rules) (search rules) _ c.half_at-size.ensures (search rules)
