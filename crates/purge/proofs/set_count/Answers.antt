-- `purge::set_count` meets its contract: the number is stored exactly where a package count stands.
use Rattle.purge.proofs.Counts.{count-here, count_not}
use borrow.Author.Rules.{rules}
use Rattle.purge.proofs.set_count.Goals as goal

pub returns-then-byte_at : goal.returns-then-byte_at
returns-then-byte_at c =
    count-here c.args.o.now c.args.i c.args.count c.byte_at.ensures (search rules) c.put_word.ensures

pub returns-else-byte_at : goal.returns-else-byte_at
returns-else-byte_at c =
    count_not c.args.o.now c.args.i c.args.count c.byte_at.ensures (search rules)
