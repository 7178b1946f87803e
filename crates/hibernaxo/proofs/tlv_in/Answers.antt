-- `hibernaxo::tlv_in` meets its contract: by the type's number.
use mathlib.Core.Path.{sym, ◌∙◌}
use Rattle.hibernaxo.proofs.Within.{is_one, is_five, is-six, is_ten, is-other}
use Rattle.hibernaxo.proofs.tlv_in.Goals as goal

pub returns-then-kind-eq1 : goal.returns-then-kind-eq1
returns-then-kind-eq1 c = c.opportunity_in.ensures ∙ sym (is_one c.args.kind c.args.fields.now c.if-kind-eq1.true)

pub returns-then-kind-eq5 : goal.returns-then-kind-eq5
returns-then-kind-eq5 c = c.heartbeat_in.ensures ∙ sym (is_five c.args.kind c.args.fields.now c.if-kind-eq1.false c.if-kind-eq5.true)

pub returns-then-kind-eq6 : goal.returns-then-kind-eq6
returns-then-kind-eq6 c = c.metric_in.ensures ∙ sym (is-six c.args.kind c.args.fields.now c.if-kind-eq1.false c.if-kind-eq5.false c.if-kind-eq6.true)

pub returns-then-kind-eq10 : goal.returns-then-kind-eq10
returns-then-kind-eq10 c = c.report_in.ensures ∙ sym (is_ten c.args.kind c.args.fields.now c.if-kind-eq1.false c.if-kind-eq5.false c.if-kind-eq6.false c.if-kind-eq10.true)

pub returns : goal.returns
returns c = sym (is-other c.args.kind c.args.fields.now c.if-kind-eq1.false c.if-kind-eq5.false c.if-kind-eq6.false c.if-kind-eq10.false)
