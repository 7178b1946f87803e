-- `ids::put_id` meets its contract: the digits before the last are stored first.
use Rattle.ids.proofs.Writing.{put_one, put_more}
use Rattle.ids.proofs.+put_id.Goals as goal

pub returns-then-n-lt10 : goal.returns-then-n-lt10
returns-then-n-lt10 t c = put_one c.args.out.now c.args.at c.args.n _ c.low_digit.ensures c.ranges.n.fits _ c.if-n-lt10.true c.put_byte.ensures

pub returns : goal.returns
returns t c = put_more c.args.out.now c.args.at c.args.n _ c.low_digit-2.ensures c.ranges.n.fits _ _ _ c.if-n-lt10.false c.put_id-end.ensures.0 c.put_id-end.ensures.1 c.put_byte-2.ensures
