-- The sum of `files::rest_of` stays in range, since no read takes more than 4,096 bytes.
use Rattle.std.proofs.Common.{◌*◌, ◌≤◌}
use Rattle.files.proofs.rest_of.Given as goal

abbrev pub invariant-loop : goal.invariant-loop
invariant-loop g l = l.total ≤ l.counter * 4096
