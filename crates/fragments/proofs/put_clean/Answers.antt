-- `fragments::put_clean` meets its contract: the run is stored at the end, and cleaned there.
use mathlib.Core.Path.{sym}
use Rattle.compose.specs.Payload.{Cuts}
use mathlib.Core.Path.{subst}
use lib.ListN.{length}
use Prim.Native.Nat.{◌≤◌}
use Rattle.fragments.proofs.Beginning.{run-back, clean-stored}
use Rattle.fragments.proofs.put_clean.Goals as goal

pub clean_run-requires : goal.clean_run-requires
clean_run-requires c = let e = sym (run-back c.args.out.now c.args.run.now c.args.n c.requires.run_len_bound.0 c.requires.run_len_bound.1 c.put_part.ensures) in record { cuts = subst Cuts e c.requires.cuts; run_len_bound = subst (λ x. length x ≤ 65536) e c.requires.run_len_bound.2 }

pub returns : goal.returns
returns c = clean-stored c.args.out.now c.args.run.now c.args.n c.requires.run_len_bound.0 c.requires.run_len_bound.1 c.put_part.ensures c.clean_run.ensures
