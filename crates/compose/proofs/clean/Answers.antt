-- `compose::clean` meets its contract: what is checked but for its packages is refused, or cleaned.
use mathlib.Core.Path.{◌≡◌}
use mathlib.Core.List.{List}
use Prim.Native.Nat.{ℕ, ◌≤◌}
use native.Mathlib.Omega.{arith}
use lib.ListN.{length}
use Rattle.rules.specs.Outcome.{good}
use Rattle.rules.specs.Bytes.{Bytes}
use Rattle.rules.specs.Message.{Message, message}
use Rattle.rules.specs.Writer.{write}
use Rattle.rules.specs.Clean.{cleaner}
use Rattle.rules.proofs.Claims.{premises_met}
use Rattle.message.proofs.Fronts.{front_stopped}
use Rattle.std.specs.Prelude.{Result}
use Rattle.refusal.specs.declared.Refusal.{Refusal}
use Rattle.compose.specs.Told.{told}
use Rattle.compose.proofs.Claims.{Stands, promised, cleaned-again}
use Rattle.compose.proofs.Cleaning.{clean-refused}
use Rattle.refusal.proofs.Numbers.{passed_on}
use Rattle.compose.proofs.clean.Goals as goal
use Rattle.compose.proofs.clean.Goals.{After-shared_slice_known-1}

pub clean_read-requires : goal.clean_read-requires
clean_read-requires c = c.in_ok-h.ensures

pub returns-in_err-h : goal.returns-in_err-h
returns-in_err-h c =
    let a = c.args in
    rw (passed_on _ _ c.from_residual.ensures.1) (clean-refused a.s.now a.out.now (front_stopped a.s.now 0 c.in_err-h.ensures))

pub returns : goal.returns
returns c = c.clean_read.ensures

-- whatever a caller hands over is bytes
pub handed-bytes : (c : After-shared_slice_known-1) → Bytes c.args.s.now
handed-bytes c = premises_met.bytes _ (λ k. omega (arith, c.type_inv.s k))

-- so at every call the buffer that the promise allows is read as the record that was read
pub every_call : (c : After-shared_slice_known-1) (b : List ℕ) {m : Message} {n : ℕ} → length c.args.s.now ≤ 65536 → message 0 c.args.s.now ≡ good (m, n) → length (write m) ≤ length b → (a : Result ℕ Refusal) (after : List ℕ) → told a after ≡ cleaner c.args.s.now b → Stands m a after
every_call c b h e l = promised (cleaned-again c.args.s.now b _ _ (handed-bytes c) h e l)
