-- `radio::signed_of` meets its contract.
use mathlib.Core.Path.{◌≡◌, ◌∙◌}
use native.Mathlib.Omega.{arith}
use Rattle.radio.specs.Tlv.{signed}
use Rattle.radio.proofs.Finding.{read-signed}
use Rattle.radio.proofs.Signs.{signed-is}
use Rattle.radio.proofs.signed_of.Goals as goal

pub returns : goal.returns
returns c = let e : c.cast_signed.result ≡ signed c.args.b = c.cast_signed.ensures ∙ signed-is _ (omega arith) in rw e (read-signed c.args.b (omega arith))
