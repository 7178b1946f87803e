-- `compose::clean_next` meets its contract: the two stores make the package that stands there its clean piece.
use Prim.Native.Nat.{◌+◌}
use mathlib.Core.Path.{refl}
use native.Mathlib.Omega.{arith}
use Rattle.rules.proofs.Claims.{premises_met}
use Rattle.rules.proofs.Cut.{fit}
use Rattle.compose.proofs.Run.{cleaned}
use Rattle.compose.proofs.clean_next.Goals as goal

pub returns : goal.returns
returns c =
    let m = cleaned c.args.run.now c.args.out.now c.args.at (c.args.base + c.args.at) (premises_met.bytes _ (λ k. omega (arith, c.type_inv.run k))) (fit _ c.requires.run_value) c.requires.at_in_bounds.2 c.half_at-l.ensures refl c.round_up-n.ensures c.put_byte.ensures c.put_zeros.ensures in
    record { end = m.0; bytes = m.1 }
