-- `release_long::go_over` goes on, turn by turn, with a run of steps from a state in which no id is held.
use Rattle.std.proofs.Common.{ℕ, rules, arith, sym, subst}
use Rattle.numbered.specs.Numbering.{State}
use Rattle.release_long.specs.Keeps.{fresh, Led}
use Rattle.release_long.proofs.Keeping.{fresh-fits, led_none, led_on}
use Rattle.release_long.proofs.go_over.Goals as goal

pub loop-init : goal.loop-init
loop-init c =
    let place = sym c.default-done.ensures.0 in
    let led = subst (λ (n : ℕ). Led c.args.sheet.now c.args.writes fresh fresh n) place (led_none _ _ fresh fresh-fits) in
    record {
      in_range = omega (arith, place);
      gathered = omega arith;
      led = subst (λ (s : State). Led c.args.sheet.now c.args.writes fresh s c.default-done.result.place) (sym c.no_ids-state.ensures) led;
    }

pub loop-preserved : goal.loop-preserved
loop-preserved c =
    let w = c.in_ok-taken.ensures in
    let p = c.with_part-done.ensures in
    record {
      in_range = omega (arith, p, w.few, c.loop.invariant.in_range);
      gathered = search rules;
      led = led_on c.args.sheet.now c.args.writes fresh _ _ c.loop.done.place _ _ (sym p) c.loop.invariant.led w;
    }
