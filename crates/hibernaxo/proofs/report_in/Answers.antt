-- `hibernaxo::report_in` meets its contract: the fields, if each is within its bound.
use mir.Syntax.{w8, w16, w32}
use Rattle.hibernaxo.specs.Radio.{report_bounds, report_in}
use Rattle.hibernaxo.proofs.Within.{field_fits, if_within_lem, if_not}
use Rattle.hibernaxo.proofs.report_in.Goals as goal

pub returns-then-not-all_within : goal.returns-then-not-all_within
unfolding report_in
returns-then-not-all_within c = if_not _ _ c.all_within.ensures _ c.if-not-all_within.true

pub overflow_cast-result : goal.overflow_cast-result
overflow_cast-result c = field_fits c.args.fields.now report_bounds c.all_within.ensures w8 0 c.if-not-all_within.false tt tt

pub overflow_cast-result-2 : goal.overflow_cast-result-2
overflow_cast-result-2 c = field_fits c.args.fields.now report_bounds c.all_within.ensures w32 1 c.if-not-all_within.false tt tt

pub overflow_cast-result-3 : goal.overflow_cast-result-3
overflow_cast-result-3 c = field_fits c.args.fields.now report_bounds c.all_within.ensures w32 2 c.if-not-all_within.false tt tt

pub overflow_cast-result-4 : goal.overflow_cast-result-4
overflow_cast-result-4 c = field_fits c.args.fields.now report_bounds c.all_within.ensures w16 3 c.if-not-all_within.false tt tt

pub overflow_cast-result-5 : goal.overflow_cast-result-5
overflow_cast-result-5 c = field_fits c.args.fields.now report_bounds c.all_within.ensures w16 4 c.if-not-all_within.false tt tt

pub overflow_cast-result-6 : goal.overflow_cast-result-6
overflow_cast-result-6 c = field_fits c.args.fields.now report_bounds c.all_within.ensures w16 5 c.if-not-all_within.false tt tt

pub overflow_cast-result-7 : goal.overflow_cast-result-7
overflow_cast-result-7 c = field_fits c.args.fields.now report_bounds c.all_within.ensures w16 6 c.if-not-all_within.false tt tt

pub overflow_cast-result-8 : goal.overflow_cast-result-8
overflow_cast-result-8 c = field_fits c.args.fields.now report_bounds c.all_within.ensures w16 7 c.if-not-all_within.false tt tt

pub overflow_cast-result-9 : goal.overflow_cast-result-9
overflow_cast-result-9 c = field_fits c.args.fields.now report_bounds c.all_within.ensures w16 8 c.if-not-all_within.false tt tt

pub overflow_cast-result-10 : goal.overflow_cast-result-10
overflow_cast-result-10 c = field_fits c.args.fields.now report_bounds c.all_within.ensures w16 9 c.if-not-all_within.false tt tt

pub overflow_cast-result-11 : goal.overflow_cast-result-11
overflow_cast-result-11 c = field_fits c.args.fields.now report_bounds c.all_within.ensures w16 10 c.if-not-all_within.false tt tt

pub returns : goal.returns
unfolding report_in
returns c = if_within_lem _ _ c.all_within.ensures _ c.if-not-all_within.false
