-- `hibernaxo::heartbeat_in` meets its contract: the fields, if each is within its bound.
use mir.Syntax.{w16}
use Rattle.hibernaxo.specs.Radio.{heartbeat_bounds, heartbeat_in}
use Rattle.hibernaxo.proofs.Within.{field_fits, if_within_lem, if_not}
use Rattle.hibernaxo.proofs.heartbeat_in.Goals as goal

pub returns-then-not-all_within : goal.returns-then-not-all_within
unfolding heartbeat_in
returns-then-not-all_within c = if_not _ _ c.all_within.ensures _ c.if-not-all_within.true

pub overflow_cast-result : goal.overflow_cast-result
overflow_cast-result c = field_fits c.args.fields.now heartbeat_bounds c.all_within.ensures w16 0 c.if-not-all_within.false tt tt

pub returns : goal.returns
unfolding heartbeat_in
returns c = if_within_lem _ _ c.all_within.ensures _ c.if-not-all_within.false
