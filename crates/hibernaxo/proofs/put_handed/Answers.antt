-- `hibernaxo::put_handed` meets its contract: the TLV put, or refused where it was to stand.
use mathlib.Core.Path.{sym, ap, ◌∙◌}
use Rattle.std.specs.Prelude.{Option}
use Rattle.radio.specs.declared.Tlv.{Tlv}
use Rattle.hibernaxo.specs.Radio.{handed_put}
use Rattle.hibernaxo.proofs.put_handed.Goals as goal

pub returns-in-Some : goal.returns-in-Some
returns-in-Some c = c.put_tlv.ensures ∙ (unfold handed_put in ap (λ (h : Option Tlv). handed_put h c.args.at c.args.out.now) (sym c.in-Some.is))

pub returns-in-None : goal.returns-in-None
returns-in-None c = rw c.refuse.ensures (unfold handed_put in ap (λ (h : Option Tlv). handed_put h c.args.at c.args.out.now) (sym c.in-None.is))
