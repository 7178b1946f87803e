-- The place of `listing::go_over` stays in range.
use Rattle.std.proofs.Common.{◌*◌, ◌≤◌}
use Rattle.listing.proofs.go_over.Given as goal

abbrev pub invariant-loop : goal.invariant-loop
invariant-loop l = l.counts.bytes ≤ l.counter * 65536
