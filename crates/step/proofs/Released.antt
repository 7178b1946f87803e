-- The released list of a recording of any length is document 01's, but for LARGE; and a recording behind another adds its own.
use Prim.Native.Nat.{ℕ, ◌+◌, ◌≤◌}
use mathlib.Core.Path.{◌≡◌, refl, ap, ap₂, sym, ◌∙◌}
use mathlib.Core.Bool.{Bool, true, false}
use mathlib.Core.List.{List, ◌++◌}
use native.Mathlib.Omega.{arith}
use borrow.Author.Tests.{ltb-false}
use lib.Dec.{ltb}
use lib.ListN.{length}
use Rattle.rules.specs.Outcome.{Outcome, good, bad, ◌>>=◌, LARGE}
use Rattle.rules.specs.Items.{items}
use Rattle.rules.specs.Message.{Message, message, recording}
use Rattle.rules.specs.Sheet.{Row, sheet}
use Rattle.rules.specs.Copy.{Entry, released, released_of}
use Rattle.rules.proofs.Outcomes.{step, stop, halt, stepped, refused-only, good_inj}
use Rattle.rules.proofs.Growing.{released-append}
use Rattle.rules.proofs.Gives.{gives_good, gives_step, gives_sheet}
use Rattle.numbered.proofs.Messages.{messages-append, small-recording, NotLarge, never_large}
use Rattle.numbered.proofs.Stops.{refused-joined}
use Rattle.step.specs.Claims.{released_of_any, ReleasedAtAnyLength}

module _ (recordingBytes sheetBytes : List ℕ) where
  within : length recordingBytes ≤ 65536 → released_of_any recordingBytes sheetBytes ≡ released_of recordingBytes sheetBytes
  unfolding released_of_any released_of
  within l = ap (λ (o : Outcome (List Message)). sheet sheetBytes >>= λ rows. o >>= λ ms. good (released rows ms)) (sym (small-recording recordingBytes l))

  -- a longer one is LARGE, unless the sheet is refused before it
  unless_large : (released_of recordingBytes sheetBytes ≡ bad LARGE 65536 → ⊥) → released_of_any recordingBytes sheetBytes ≡ released_of recordingBytes sheetBytes
  unfolding released_of_any released_of recording
  unless_large not-large = go (ltb 65536 (length recordingBytes)) refl (sheet sheetBytes) refl
    where
      go : (b : Bool) → ltb 65536 (length recordingBytes) ≡ b → (o : Outcome (List Row)) → sheet sheetBytes ≡ o → released_of_any recordingBytes sheetBytes ≡ released_of recordingBytes sheetBytes
      go false l o v = within (ltb-false _ _ l)
      go true l (good rows) v = absurd (not-large (step _ _ v (stop _ _ (halt _ _ _ _ l))))
      go true l (bad n p) v = stop _ _ v ∙ sym (stop _ _ v)

  -- a recording behind one that passes
  module _ (es : List Entry) (list : released_of_any recordingBytes sheetBytes ≡ good es) (behind : List ℕ) where
    joined : (more : List Entry) → released_of_any behind sheetBytes ≡ good more → released_of_any (recordingBytes ++ behind) sheetBytes ≡ good (es ++ more)
    unfolding released_of_any
    joined more f =
        let (rows, v, e) = stepped _ _ list in
        let (ms, read, are) = stepped _ _ e in
        let (ns, read', are') = stepped (items message 0 0 behind) (λ ns. good (released rows ns)) (sym (step _ _ v refl) ∙ f) in
        step _ _ v (step _ _ (messages-append 0 0 0 recordingBytes behind (omega arith) read read') (ap good (released-append rows ms ns ∙ ap₂ (λ (a b : List Entry). a ++ b) (good_inj are) (good_inj are'))))

    joined-refused : (n p : ℕ) → released_of_any behind sheetBytes ≡ bad n p → released_of_any (recordingBytes ++ behind) sheetBytes ≡ bad n (length recordingBytes + p)
    unfolding released_of_any
    joined-refused n p f =
        let (rows, v, e) = stepped _ _ list in
        let (ms, read, are) = stepped _ _ e in
        step _ _ v (stop _ _ (refused-joined recordingBytes behind read (refused-only (items message 0 0 behind) (λ ns. released rows ns) (sym (step _ _ v refl) ∙ f))))

  pub at-any-length : ReleasedAtAnyLength recordingBytes sheetBytes
  unfolding released_of_any
  at-any-length = record {
    within = within;
    unless_large = unless_large;
    never_large = λ p e. (gives_step {P = NotLarge} (gives_sheet (λ q z. omega arith) sheetBytes) (λ rows. gives_step (never_large recordingBytes) (λ ms. gives_good))).given LARGE p e refl;
    joined = λ behind es more e. joined es e behind more;
    joined-refused = λ behind es n p e. joined-refused es e behind n p;
  }
