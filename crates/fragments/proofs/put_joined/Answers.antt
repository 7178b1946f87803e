-- `fragments::put_joined` meets its contract: header, options, zeros and payload, one behind the other; then the packages are cleaned.
use mathlib.Core.Path.{sym, subst}
use native.Mathlib.Omega.{arith}
use lib.ListN.{length}
use Prim.Native.Nat.{◌≤◌}
use mathlib.Core.List.{List}
use Prim.Native.Nat.{ℕ}
use mathlib.Core.Option.{none}
use Rattle.compose.specs.Payload.{Cuts}
use Rattle.fragments.specs.Joining.{fragments_from}
use Rattle.fragments.specs.Stored.{kept_by, payloads_in}
use Rattle.fragments.proofs.Finishing.{joined_raw, pay_back, joined-clean}
use Rattle.fragments.proofs.put_joined.Goals as goal

pub clean_run-requires : goal.clean_run-requires
clean_run-requires c = let a = c.args in let t = c.requires.storable in let z = sym (pay_back a.r (kept_by a.bits a.run.now) a.s.now a.out.now a.k _ a.n (payloads_in (fragments_from none 0 0 a.s.now)) t.kept c.round_up-m.ensures t.size t.cuts t.room _ (joined_raw a.r (kept_by a.bits a.run.now) a.s.now a.out.now a.k _ a.n (payloads_in (fragments_from none 0 0 a.s.now)) t.kept c.round_up-m.ensures t.size t.cuts t.room c.put_front.ensures c.put_kept_of.ensures c.put_zeros.ensures c.put_payloads.ensures)) in record { cuts = subst Cuts z t.cuts; run_len_bound = subst (λ (x : List ℕ). length x ≤ 65536) z (omega (arith, t.payload)) }

pub returns : goal.returns
returns c = let a = c.args in let t = c.requires.storable in joined-clean a.r (kept_by a.bits a.run.now) a.s.now a.out.now a.k _ a.n (payloads_in (fragments_from none 0 0 a.s.now)) t.kept c.round_up-m.ensures t.size t.cuts t.room _ (joined_raw a.r (kept_by a.bits a.run.now) a.s.now a.out.now a.k _ a.n (payloads_in (fragments_from none 0 0 a.s.now)) t.kept c.round_up-m.ensures t.size t.cuts t.room c.put_front.ensures c.put_kept_of.ensures c.put_zeros.ensures c.put_payloads.ensures) _ c.clean_run.ensures
