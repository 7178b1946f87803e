-- `ids::write_ends` meets its contract: order, room, then the stores.
use borrow.Author.Rules.{rules}
use Rattle.refusal.proofs.Numbers.{passed_on}
use Rattle.ids.proofs.Ends.{many}
use Rattle.ids.proofs.Writing.{write-none, write-few, write-room, write-bad, write_done}
use Rattle.ids.proofs.write_ends.Goals as goal

pub returns-then-count-eq0 : goal.returns-then-count-eq0
returns-then-count-eq0 c = rw c.refuse.ensures (write-none _ _ (many 32 _) _ c.if-count-eq0.true)

pub returns-in_err-order_of : goal.returns-in_err-order_of
returns-in_err-order_of c = rw (passed_on _ _ c.from_residual.ensures.1) (write-bad _ _ (many 32 _) _ c.if-count-eq0.false _ _ c.in_err-order_of.ensures)

pub line_len-bytes-requires : goal.line_len-bytes-requires
line_len-bytes-requires c = let few = write-few _ _ (many 32 _) c.args.out.now c.if-count-eq0.false c.in_ok-order_of.ensures in (few.0, few.1, search rules)

pub returns-then-out-bytes : goal.returns-then-out-bytes
returns-then-out-bytes c = rw c.refuse-then-out-bytes.ensures (write-room _ _ (many 32 _) _ c.if-count-eq0.false c.in_ok-order_of.ensures _ c.line_len-bytes.ensures c.if-out-bytes.true)

pub put_line-requires : goal.put_line-requires
put_line-requires c = let few = write-few _ _ (many 32 _) c.args.out.now c.if-count-eq0.false c.in_ok-order_of.ensures in (few.0, few.1, search rules)

pub returns : goal.returns
returns c = write_done _ _ (many 32 _) _ c.if-count-eq0.false c.in_ok-order_of.ensures _ _ c.line_len-bytes.ensures c.if-out-bytes.false c.put_line.ensures
