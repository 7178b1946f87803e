-- In the loop of `listing::Lines::put_packages` `at` stays within the run.
use Rattle.std.proofs.Common.{◌≤◌}
use Rattle.listing.proofs.Lines.put_packages.Given as goal

abbrev pub invariant-loop : goal.invariant-loop
invariant-loop l = l.at ≤ 65536
