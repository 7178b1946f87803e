-- `release::write` meets its contract: what is copied, with no id held, places for all that a recording can deliver and the whole recording as quota.
use Prim.Native.Nat.{ℕ, ◌≤◌}
use mathlib.Core.Path.{◌≡◌, refl, sym, ap, ◌∙◌}
use mathlib.Core.List.{List}
use native.Mathlib.Omega.{arith}
use lib.ListN.{length, replicate, length-replicate}
use Rattle.rules.specs.Outcome.{good}
use Rattle.rules.specs.Bytes.{Bytes}
use Rattle.rules.specs.Copy.{Entry, copy_bytes, released_of, copy, delivered}
use Rattle.rules.proofs.Claims.{premises_met, different_copies}
use Rattle.numbered.specs.Told.{state_of, report}
use Rattle.numbered.proofs.Whole.{most-all}
use Rattle.numbered.proofs.First.{copied_is}
use Rattle.std.specs.Prelude.{Result}
use Rattle.refusal.specs.declared.Refusal.{Refusal}
use Rattle.numbered.specs.declared.Progress.{Progress}
use Rattle.numbered.specs.Quota.{copy_of}
use Rattle.refusal.proofs.Numbers.{passed_on}
use Rattle.release.specs.declared.Totals.{Totals}
use Rattle.release.specs.Told.{told}
use Rattle.release.proofs.write.Goals as goal
use Rattle.release.proofs.write.Goals.{After-shared_slice_known-1, After-copy-done}

-- places for all
wide : 1820 ≤ length (replicate {A = ℕ} 1820 0)
wide = omega (arith, length-replicate {A = ℕ} 1820 0)

-- what is reported, with the buffer
reports : (c : After-copy-done) → (copy_of (report c.copy-done.result.answer), c.copy-done.new.out) ≡ copy c.args.recording.now c.args.sheet.now c.args.out.now
reports c =
    let a = c.args in
    copied_is _ a.recording.now a.sheet.now (length a.recording.now) (state_of (replicate {A = ℕ} 1820 0) (replicate {A = ℕ} 1820 0) 0) a.out.now refl (omega arith) (most-all _ _ 0 refl wide wide) _ c.copy-done.ensures

pub returns-in_err-done : goal.returns-in_err-done
returns-in_err-done c =
    rw (passed_on _ _ c.from_residual.ensures.1) (ap (λ (x : Result Progress Refusal). (copy_of (report x), c.copy-done.new.out)) (sym c.in_err-done.was) ∙ reports (goal.at.returns-in_err-done c).After-copy-done)

pub returns : goal.returns
returns c = rw c.from.ensures (ap (λ (x : Result Progress Refusal). (copy_of (report x), c.copy-done.new.out)) (sym c.in_ok-done.was) ∙ reports (goal.at.returns c).After-copy-done)

-- ---- whatever a caller hands over is bytes; so at every two calls whose released lists differ, with room, the answers that the promise allows deliver copies that differ
abbrev handed : After-shared_slice_known-1 → List ℕ
handed c = c.args.recording.now

pub handed-bytes : (c : After-shared_slice_known-1) → Bytes (handed c)
handed-bytes c = premises_met.bytes _ (λ k. omega (arith, c.type_inv.recording k))

pub every-two-calls : (c c' : After-shared_slice_known-1) (sheet sheet' b b' : List ℕ) (es es' : List Entry) → released_of (handed c) sheet ≡ good es → released_of (handed c') sheet' ≡ good es' → length (copy_bytes es) ≤ length b → length (copy_bytes es') ≤ length b' → (es ≡ es' → ⊥) → (a a' : Result Totals Refusal) (after after' : List ℕ) → told a after ≡ copy (handed c) sheet b → told a' after' ≡ copy (handed c') sheet' b' → delivered (told a after) ≡ delivered (told a' after') → ⊥
every-two-calls c c' sheet sheet' b b' es es' r r' l l' differ a a' after after' e e' q =
    different_copies (handed c) (handed c') sheet sheet' b b' (handed-bytes c) (handed-bytes c') es es' r r' l l' differ (sym (ap delivered e) ∙ q ∙ ap delivered e')
