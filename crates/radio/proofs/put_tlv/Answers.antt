-- `radio::put_tlv` meets its contract: LARGE, RADIO, ROOM, or the TLV stored.
use native.Mathlib.Omega.{arith}
use mathlib.Core.Path.{sym, ◌∙◌}
use Rattle.radio.proofs.Storing.{put_large, put_bad, put_roomless, put_done}
use Rattle.radio.proofs.put_tlv.Goals as goal

pub returns-then-at-gt65536 : goal.returns-then-at-gt65536
returns-then-at-gt65536 c = rw c.refuse.ensures (put_large c.args.t c.args.at c.args.out.now (omega arith))

pub returns-then-end-gt65536 : goal.returns-then-end-gt65536
returns-then-end-gt65536 c = rw c.refuse-then-end-gt65536.ensures (put_large c.args.t c.args.at c.args.out.now (omega (arith, c.size_of-n.ensures.0, c.if-end-gt65536.true)))

pub returns-then-not-fits : goal.returns-then-not-fits
returns-then-not-fits c = rw c.refuse-then-not-fits.ensures (put_bad c.args.t c.args.at c.args.out.now (omega (arith, c.size_of-n.ensures.0, c.if-end-gt65536.false)) (sym c.fits.ensures ∙ c.if-not-fits.true))

pub returns-then-out-end : goal.returns-then-out-end
returns-then-out-end c = rw c.refuse-then-out-end.ensures (put_roomless c.args.t c.args.at c.args.out.now (omega (arith, c.size_of-n.ensures.0, c.if-end-gt65536.false)) (sym c.fits.ensures ∙ c.if-not-fits.false) _ c.size_of-n.ensures.0 c.if-out-end.true)

pub returns : goal.returns
returns c = put_done c.args.t c.args.at c.args.out.now (omega (arith, c.size_of-n.ensures.0, c.if-end-gt65536.false)) (sym c.fits.ensures ∙ c.if-not-fits.false) _ c.size_of-n.ensures.0 c.if-out-end.false _ c.put_first.ensures
