-- `radio::read` meets its contract: the header, then the TLVs.
use mathlib.Core.Path.{◌∙◌}
use Rattle.refusal.proofs.Numbers.{handed_on}
use Rattle.radio.proofs.Storing.{read-large, read_short, read-other, read-empty, read-refused, read-good}
use Rattle.radio.proofs.read.Goals as goal

pub returns-then-s-gt65536 : goal.returns-then-s-gt65536
returns-then-s-gt65536 c = rw c.refuse.ensures (read-large c.args.s.now c.if-s-gt65536.true)

pub returns-then-s-lt10 : goal.returns-then-s-lt10
returns-then-s-lt10 c = rw c.refuse-then-s-lt10.ensures (read_short c.args.s.now c.if-s-gt65536.false c.if-s-lt10.true)

pub returns-then-from-s : goal.returns-then-from-s
returns-then-from-s c = rw c.refuse-then-from-s.ensures (read-other c.args.s.now c.if-s-gt65536.false c.if-s-lt10.false (c.from.ensures ∙ c.half_at.ensures) c.if-from-s.true)

pub returns-then-s-eq10 : goal.returns-then-s-eq10
returns-then-s-eq10 c = rw c.refuse-then-s-eq10.ensures (read-empty c.args.s.now c.if-s-gt65536.false c.if-s-lt10.false (c.from.ensures ∙ c.half_at.ensures) c.if-from-s.false c.if-s-eq10.true)

pub returns-in_err-tlvs : goal.returns-in_err-tlvs
returns-in_err-tlvs c = handed_on _ _ _ c.from_residual.ensures.1 (read-refused c.args.s.now c.if-s-gt65536.false c.if-s-lt10.false (c.from.ensures ∙ c.half_at.ensures) c.if-from-s.false c.if-s-eq10.false c.in_err-tlvs.ensures)

pub returns : goal.returns
returns c = read-good c.args.s.now c.if-s-gt65536.false c.if-s-lt10.false (c.from.ensures ∙ c.half_at.ensures) c.if-from-s.false c.if-s-eq10.false c.head_of-head.ensures c.in_ok-tlvs.ensures
