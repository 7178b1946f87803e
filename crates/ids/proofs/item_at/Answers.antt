-- `ids::item_at` meets its contract, by the digits before and behind a hyphen.
use mathlib.Core.Path.{sym, ◌∙◌}
use Prim.Native.Nat.{◌+◌}
use native.Mathlib.Omega.{arith}
use Rattle.ids.proofs.Steps.{few-digits, item_missing, item-one, item-half, item-two}
use Rattle.ids.proofs.item_at.Goals as goal

pub returns-then-a-eq0 : goal.returns-then-a-eq0
returns-then-a-eq0 c = rw c.refuse.ensures (item_missing c.args.s.now c.args.at _ _ c.digits_at-a.ensures.0 c.digits_at-a.ensures.1 c.if-a-eq0.true)

pub overflow_add-m : goal.overflow_add-m
overflow_add-m c = let n = few-digits c.args.s.now c.args.at _ _ c.digits_at-a.ensures.0 c.digits_at-a.ensures.1 in omega arith

pub returns-then-byte_at-ne45 : goal.returns-then-byte_at-ne45
returns-then-byte_at-ne45 c = item-one c.args.s.now c.args.at _ _ c.digits_at-a.ensures.0 c.digits_at-a.ensures.1 c.if-a-eq0.false (λ z. c.if-byte_at-ne45.true (c.byte_at.ensures ∙ z))

pub returns-then-b-eq0 : goal.returns-then-b-eq0
returns-then-b-eq0 c = rw c.refuse-then-b-eq0.ensures (item-half c.args.s.now c.args.at _ _ c.digits_at-a.ensures.0 c.digits_at-a.ensures.1 c.if-a-eq0.false (sym c.byte_at.ensures ∙ c.if-byte_at-ne45.false) _ _ c.digits_at-b.ensures.0 c.digits_at-b.ensures.1 c.if-b-eq0.true)

pub overflow_add-result-2 : goal.overflow_add-result-2
overflow_add-result-2 c = let n = few-digits c.args.s.now c.args.at _ _ c.digits_at-a.ensures.0 c.digits_at-a.ensures.1 in let m = few-digits c.args.s.now (c.args.at + c.digits_at-a.result.count + 1) _ _ c.digits_at-b.ensures.0 c.digits_at-b.ensures.1 in omega arith

pub returns : goal.returns
returns c = item-two c.args.s.now c.args.at _ _ c.digits_at-a.ensures.0 c.digits_at-a.ensures.1 c.if-a-eq0.false (sym c.byte_at.ensures ∙ c.if-byte_at-ne45.false) _ _ c.digits_at-b.ensures.0 c.digits_at-b.ensures.1 c.if-b-eq0.false
