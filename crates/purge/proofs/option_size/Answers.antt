-- `purge::option_size` meets its contract: by the kind, and the length byte behind it.
use Rattle.purge.proofs.Counts.{size-short, size-long}
use borrow.Author.Rules.{rules}
use Rattle.purge.proofs.option_size.Goals as goal

pub returns-then-byte_at-lt128 : goal.returns-then-byte_at-lt128
returns-then-byte_at-lt128 c =
    size-short c.args.o.now c.args.i c.byte_at.ensures (search rules)

pub returns : goal.returns
returns c =
    size-long c.args.o.now c.args.i c.byte_at.ensures (search rules) c.byte_at-2.ensures
