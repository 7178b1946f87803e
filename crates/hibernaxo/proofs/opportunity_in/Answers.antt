-- `hibernaxo::opportunity_in` meets its contract: the fields, if each is within its bound.
use mir.Syntax.{w8, w16, w32}
use Rattle.hibernaxo.specs.Radio.{opportunity_bounds, opportunity_in}
use Rattle.hibernaxo.proofs.Within.{field_fits, if_within_lem, if_not}
use Rattle.hibernaxo.proofs.opportunity_in.Goals as goal

pub returns-then-not-all_within : goal.returns-then-not-all_within
unfolding opportunity_in
returns-then-not-all_within c = if_not _ _ c.all_within.ensures _ c.if-not-all_within.true

pub overflow_cast-result : goal.overflow_cast-result
overflow_cast-result c = field_fits c.args.fields.now opportunity_bounds c.all_within.ensures w16 0 c.if-not-all_within.false tt tt

pub overflow_cast-result-2 : goal.overflow_cast-result-2
overflow_cast-result-2 c = field_fits c.args.fields.now opportunity_bounds c.all_within.ensures w16 1 c.if-not-all_within.false tt tt

pub overflow_cast-result-3 : goal.overflow_cast-result-3
overflow_cast-result-3 c = field_fits c.args.fields.now opportunity_bounds c.all_within.ensures w8 2 c.if-not-all_within.false tt tt

pub overflow_cast-result-4 : goal.overflow_cast-result-4
overflow_cast-result-4 c = field_fits c.args.fields.now opportunity_bounds c.all_within.ensures w32 3 c.if-not-all_within.false tt tt

pub overflow_cast-result-5 : goal.overflow_cast-result-5
overflow_cast-result-5 c = field_fits c.args.fields.now opportunity_bounds c.all_within.ensures w32 4 c.if-not-all_within.false tt tt

pub returns : goal.returns
unfolding opportunity_in
returns c = if_within_lem _ _ c.all_within.ensures _ c.if-not-all_within.false
