-- `ids::put_item` meets its contract: one id, or two with a hyphen between.
use Rattle.ids.specs.Told.{range_in}
use Rattle.ids.proofs.Writing.{put_single, put_double}
use Rattle.ids.proofs.put_item.Goals as goal

pub returns-then-r : goal.returns-then-r
returns-then-r c = put_single (range_in c.args.r) c.args.out.now _ _ _ c.put_id-end.ensures.0 c.put_id-end.ensures.1 c.put_id-end.ensures.2 c.if-r.true

pub returns : goal.returns
returns c = put_double (range_in c.args.r) c.args.out.now _ _ _ c.put_id-end.ensures.0 c.put_id-end.ensures.1 c.put_id-end.ensures.2 _ _ _ c.if-r.false c.put_byte.ensures c.put_id.ensures.0 c.put_id.ensures.1 c.put_id.ensures.2
