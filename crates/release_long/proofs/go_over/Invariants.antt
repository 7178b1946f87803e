-- What is done so far is a run of steps from a state in which no id is held.
use Rattle.std.proofs.Common.{◌*◌, ◌≤◌}
use Rattle.step.specs.Told.{state_in}
use Rattle.release_long.specs.Keeps.{fresh, Led}
use Rattle.release_long.proofs.go_over.Given as goal

abbrev pub invariant-loop : goal.invariant-loop
invariant-loop l = record {
  in_range : l.done.place ≤ l.counter * 65536;
  gathered : l.used ≤ 458752;
  led : Led l.sheet l.writes fresh (state_in l.state) l.done.place;
}
