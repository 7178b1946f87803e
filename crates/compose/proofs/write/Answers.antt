-- `compose::write` meets its contract: what was measured, refused or finished.
use Prim.Native.Nat.{ℕ, ◌≤◌}
use mathlib.Core.Path.{◌≡◌, ◌∙◌}
use mathlib.Core.List.{List}
use native.Mathlib.Omega.{arith}
use lib.ListN.{length}
use borrow.Author.Rules.{rules}
use Rattle.rules.specs.Outcome.{good}
use Rattle.rules.specs.Message.{Message}
use Rattle.rules.specs.Writer.{write, Draft, accepted, written, writer}
use Rattle.compose.specs.Payload.{size_of_outcome}
use Rattle.compose.specs.Told.{draft_of, told}
use Rattle.std.specs.Prelude.{Result}
use Rattle.refusal.specs.declared.Refusal.{Refusal}
use Rattle.compose.proofs.Claims.{Stands, promised, written-again}
use Rattle.compose.proofs.Accepting.{fits, written-finished, written-refused}
use Rattle.compose.proofs.Run.{halved-end}
use Rattle.rules.specs.Valid.{DraftFits}
use Rattle.rules.proofs.Claims.{premises_met}
use Rattle.refusal.proofs.Numbers.{passed_on}
use Rattle.compose.proofs.write.Goals as goal
use Rattle.compose.proofs.write.Goals.{After-shared_slice_known-2-1, In_ok-n}

-- what was measured
needs-told : (c : In_ok-n) → good c.in_ok-n.n ≡ size_of_outcome (written (draft_of c.args.r c.args.options.now c.args.packages.now))
needs-told c = c.in_ok-n.ensures

pub finish-requires : goal.finish-requires
finish-requires c =
    let a = c.args in
    let f = (fits (draft_of a.r a.options.now a.packages.now) (needs-told (goal.at.finish-requires c).In_ok-n)).fit in
    record { halved = halved-end a.packages.now f.cuts; fit = f }

pub returns-in_err-n : goal.returns-in_err-n
returns-in_err-n c =
    let a = c.args in
    rw (passed_on _ _ c.from_residual.ensures.1) (written-refused (draft_of a.r a.options.now a.packages.now) a.out.now c.in_err-n.ensures)

pub returns : goal.returns
returns c =
    let a = c.args in
    c.finish.ensures ∙ written-finished (draft_of a.r a.options.now a.packages.now) a.out.now (needs-told (goal.at.returns c).In_ok-n)

-- ---- whatever a caller hands over fits; so at every call the buffer that the promise allows is read as the record that was accepted
abbrev handed : After-shared_slice_known-2-1 → Draft
handed c =
    let a = c.args in
    draft_of a.r a.options.now a.packages.now

pub handed-fits : (c : After-shared_slice_known-2-1) → DraftFits (handed c)
handed-fits c =
    premises_met.draft (handed c) (search rules) (search rules) (search rules)
    (premises_met.bytes _ (λ k. omega (arith, c.type_inv.options k)))
    (premises_met.bytes _ (λ k. omega (arith, c.type_inv.packages k)))

pub every_call : (c : After-shared_slice_known-2-1) (b : List ℕ) {m : Message} → accepted (handed c) ≡ good m → length (write m) ≤ length b → (a : Result ℕ Refusal) (after : List ℕ) → told a after ≡ writer (handed c) b → Stands m a after
every_call c b e l = promised (written-again (handed c) b (handed-fits c) e l)
