-- What is handed over to `listing::count` lies in the window.
use Rattle.std.proofs.Common.{sym, length-take-le}
use Rattle.windows.proofs.Windows.{hands_over}
use Rattle.listing.proofs.count.Goals as goal

pub slice_bounds-check-end : goal.slice_bounds-check-end
slice_bounds-check-end c = sym (length-take-le _ _ (hands_over c.args.goes_on c.args.window.now _ (sym c.in_ok-bytes.ensures)).inside)

pub returns : goal.returns
returns c = (hands_over c.args.goes_on c.args.window.now _ (sym c.in_ok-bytes.ensures)).inside
