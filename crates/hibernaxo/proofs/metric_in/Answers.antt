-- `hibernaxo::metric_in` meets its contract: the fields, if each is within its bound.
use Prim.Native.Nat.{ℕ}
use mir.Syntax.{w8, w16, w32}
use Rattle.radio.proofs.Finding.{read-signed}
use Rattle.hibernaxo.specs.Radio.{metric_bounds, metric_in}
use Rattle.hibernaxo.proofs.Within.{field_fits, field_lt, if_within_lem, if_not}
use Rattle.hibernaxo.proofs.metric_in.Goals as goal

pub returns-then-not-all_within : goal.returns-then-not-all_within
unfolding metric_in
returns-then-not-all_within c = if_not _ _ c.all_within.ensures _ c.if-not-all_within.true

pub overflow_cast-fields : goal.overflow_cast-fields
overflow_cast-fields c = field_fits c.args.fields.now metric_bounds c.all_within.ensures w8 3 c.if-not-all_within.false tt tt

pub overflow_cast-fields-2 : goal.overflow_cast-fields-2
overflow_cast-fields-2 c = field_fits c.args.fields.now metric_bounds c.all_within.ensures w8 4 c.if-not-all_within.false tt tt

pub overflow_cast-result : goal.overflow_cast-result
overflow_cast-result c = field_fits c.args.fields.now metric_bounds c.all_within.ensures w8 0 c.if-not-all_within.false tt tt

pub overflow_cast-result-2 : goal.overflow_cast-result-2
overflow_cast-result-2 c = field_fits c.args.fields.now metric_bounds c.all_within.ensures w32 1 c.if-not-all_within.false tt tt

pub overflow_cast-result-3 : goal.overflow_cast-result-3
overflow_cast-result-3 c = field_fits c.args.fields.now metric_bounds c.all_within.ensures w16 2 c.if-not-all_within.false tt tt

pub overflow_cast-result-4 : goal.overflow_cast-result-4
overflow_cast-result-4 c = field_fits c.args.fields.now metric_bounds c.all_within.ensures w8 5 c.if-not-all_within.false tt tt

pub returns : goal.returns
unfolding metric_in
returns c =
    let below = λ (j : ℕ). field_lt c.args.fields.now metric_bounds c.all_within.ensures j 256 c.if-not-all_within.false in
    rw (c.signed_of-rssi.ensures, c.signed_of-cinr.ensures, read-signed _ (below 3 tt tt), read-signed _ (below 4 tt tt)) (if_within_lem _ _ c.all_within.ensures _ c.if-not-all_within.false)
