-- What `release_long::hand_window` takes lies in the window.
use Rattle.std.proofs.Common.{sym, length-take-le}
use Rattle.windows.proofs.Windows.{hands_over}
use Rattle.release_long.proofs.hand_window.Goals as goal

pub slice_bounds-take_part-end : goal.slice_bounds-take_part-end
slice_bounds-take_part-end c = sym (length-take-le _ _ (hands_over c.args.goes_on c.args.window.now _ (sym c.in_ok-n.ensures)).inside)
