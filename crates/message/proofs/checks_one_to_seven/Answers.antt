-- `message::checks_one_to_seven` meets its contract: the first checks, then the option run.
use mathlib.Core.Path.{sym, ap, ◌∙◌}
use Prim.Native.Nat.{◌-◌}
use native.Mathlib.Omega.{arith}
use lib.ListN.{drop, length-take, length-drop}
use Rattle.message.proofs.Headers.{gate_shut, gate_open, run-behind}
use Rattle.message.specs.Answers.{head_of}
use Rattle.refusal.specs.Numbers.{outcome_of}
use Rattle.rules.proofs.Passed.{Sound}
use Rattle.refusal.proofs.Numbers.{handed_on}
use Rattle.message.proofs.checks_one_to_seven.Goals as goal
use Rattle.message.proofs.checks_one_to_seven.Goals.{In_ok-checks_one_to_six}

-- checks 1 to 6 passed
through : (c : In_ok-checks_one_to_six) → Sound c.args.m.now (head_of c.args.h)
through c = gate_open _ _ _ (ap outcome_of (sym c.in_ok-checks_one_to_six.was) ∙ c.checks_one_to_six.ensures)

pub slice_bounds-run_of-end : goal.slice_bounds-run_of-end
slice_bounds-run_of-end c = omega (arith, through (goal.at.slice_bounds-run_of-end c).In_ok-checks_one_to_six)

pub run_of-requires : goal.run_of-requires
run_of-requires c = let w = through (goal.at.run_of-requires c).In_ok-checks_one_to_six in omega (arith, w.long, length-take (c.payload_start-e.result - 24) (drop 24 c.args.m.now), length-drop 24 c.args.m.now)

pub returns-in_err-checks_one_to_six : goal.returns-in_err-checks_one_to_six
returns-in_err-checks_one_to_six c = handed_on _ _ _ c.from_residual.ensures.1 (gate_shut _ _ _ c.in_err-checks_one_to_six.ensures)

pub returns : goal.returns
returns c = run-behind _ _ _ _ c.payload_start-e.ensures.0 (ap outcome_of (sym c.in_ok-checks_one_to_six.was) ∙ c.checks_one_to_six.ensures) c.run_of.ensures
