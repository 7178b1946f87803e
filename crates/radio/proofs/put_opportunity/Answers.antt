-- `radio::put_opportunity` meets its contract: seven stores.
use mathlib.Core.Path.{refl}
use native.Mathlib.Omega.{arith}
use Rattle.radio.proofs.Storing.{opportunity_stored}
use Rattle.radio.proofs.Tlvs.{txop_ranges}
use Rattle.radio.proofs.put_opportunity.Goals as goal

pub overflow_mul-t : goal.overflow_mul-t
overflow_mul-t c = record { fits = let (x, y) = txop_ranges _ c.requires in omega arith }

pub overflow_add-t : goal.overflow_add-t
overflow_add-t c = record { fits = let (x, y) = txop_ranges _ c.requires in omega arith }

pub returns : goal.returns
returns c = opportunity_stored _ _ refl c.put_half.ensures c.put_half-2.ensures c.put_byte.ensures c.put_half-3.ensures c.put_byte-2.ensures c.put_word.ensures c.put_byte-3.ensures
