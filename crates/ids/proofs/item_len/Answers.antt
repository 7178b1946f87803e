-- `ids::item_len` meets its contract: one id, or two with a hyphen between.
use native.Mathlib.Omega.{arith}
use Rattle.ids.specs.Told.{range_in}
use Rattle.ids.proofs.Writing.{item-single, item_double}
use Rattle.ids.proofs.item_len.Goals as goal

pub returns-then-r : goal.returns-then-r
returns-then-r c = (item-single (range_in c.args.r) _ c.if-r.true c.digits_of.ensures.0, omega (arith, c.digits_of.ensures.1))

pub returns : goal.returns
returns c = (item_double (range_in c.args.r) _ _ c.if-r.false c.digits_of-2.ensures.0 c.digits_of-3.ensures.0, omega (arith, c.digits_of-2.ensures.1, c.digits_of-3.ensures.1))
