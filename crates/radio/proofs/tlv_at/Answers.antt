-- `radio::tlv_at` meets its contract: LARGE, the end, or the TLV at the place.
use Rattle.refusal.proofs.Numbers.{handed_on}
use Rattle.radio.proofs.Finding.{large, over, no_tlv, a-tlv}
use Rattle.radio.proofs.tlv_at.Goals as goal

pub returns-then-s-gt65536 : goal.returns-then-s-gt65536
returns-then-s-gt65536 c = rw c.refuse.ensures (large _ _ c.if-s-gt65536.true)

pub returns-then-s-at : goal.returns-then-s-at
returns-then-s-at c = over _ _ c.if-s-gt65536.false c.if-s-at.true

pub returns-in_err-tlv : goal.returns-in_err-tlv
returns-in_err-tlv c = handed_on _ _ _ c.from_residual.ensures.1 (no_tlv _ _ c.if-s-gt65536.false c.if-s-at.false c.in_err-tlv.ensures)

pub returns : goal.returns
returns c = a-tlv _ _ c.if-s-gt65536.false c.if-s-at.false _ _ c.size_of.ensures.0 c.in_ok-tlv.ensures
