-- `radio::tlv_here` meets its contract: its type, then its rules.
use mathlib.Core.Path.{sym, ◌∙◌}
use Rattle.refusal.proofs.Numbers.{handed_on}
use Rattle.radio.proofs.Finding.{untyped, broken, whole}
use Rattle.radio.proofs.tlv_here.Goals as goal

pub returns-then-not-keeps : goal.returns-then-not-keeps
returns-then-not-keeps c = rw c.refuse.ensures (broken _ _ _ c.in_ok-t.ensures (sym c.keeps.ensures ∙ c.if-not-keeps.true))

pub returns-in_err-t : goal.returns-in_err-t
returns-in_err-t c = handed_on _ _ _ c.from_residual.ensures.1 (untyped _ _ c.in_err-t.ensures)

pub returns : goal.returns
returns c = whole _ _ _ c.in_ok-t.ensures (sym c.keeps.ensures ∙ c.if-not-keeps.false)
