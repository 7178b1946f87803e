-- The whole purge: a law for each of its answers.
use Prim.Native.Nat.{ℕ, ◌+◌, ◌-◌, ◌≤◌}
use mathlib.Core.Path.{◌≡◌, refl, sym, ap, ◌∙◌}
use mathlib.Core.List.{List, ◌++◌, append-nil}
use native.Mathlib.Omega.{arith}
use borrow.Author.Tests.{ltb-false}
use lib.ListN.{length, replicate, length-replicate, drop_of_length-le}
use lib.Seq.{sets, sets-eq, length-take-le}
use Rattle.rules.specs.Outcome.{good, bad}
use Rattle.rules.specs.Message as messages
use Rattle.rules.specs.Message.{recording}
use Rattle.rules.specs.Reading.{checked_recording}
use Rattle.rules.specs.Sheet as rows
use Rattle.rules.proofs.Outcomes.{step, stop, passed, stepped, refused-only}
use Rattle.refusal.specs.declared.Refusal.{Refusal}
use Rattle.refusal.specs.Numbers.{number_of, refused}
use Rattle.std.specs.Prelude.{Ok, Err}
use Rattle.compose.specs.Told.{told}
use Rattle.purge.specs.Purge.{kept_records, kept_bytes, kept_of, purged, purge}
use Rattle.purge.specs.Parts.{KeptAll}
use Rattle.purge.proofs.Whole.{purge-is}

pub sheet-refused : (buffer sheetBytes : List ℕ) (f : Refusal) → rows.sheet sheetBytes ≡ bad (number_of f.why) f.place → told (Err f) buffer ≡ purge buffer sheetBytes
unfolding purge kept_of purged
sheet-refused buffer sheetBytes f e = sym (ap (purged buffer) (stop _ _ e))

module _ (buffer sheetBytes : List ℕ) (rs : List rows.Row) (valid : rows.sheet sheetBytes ≡ good rs) where
  pub recording-refused : (f : Refusal) → refused f ≡ checked_recording buffer → told (Err f) buffer ≡ purge buffer sheetBytes
  unfolding checked_recording purge kept_of purged
  recording-refused f e =
      let b : recording buffer ≡ bad (number_of f.why) f.place = refused-only _ _ (sym e) in
      sym (ap (purged buffer) (step _ _ valid (stop _ _ b)))

  module _ (n : ℕ × ℕ) (e : good n ≡ checked_recording buffer) where
    record Passes : Type 0 where
      ms : List messages.Message
      read : recording buffer ≡ good ms

    passes : Passes
    unfolding checked_recording
    passes = let (ms, r, q) = stepped _ _ (sym e) in record { ms = ms; read = r }

    pub short : length buffer ≤ 65536
    unfolding recording
    short = let (a, r) = passed _ _ _ _ passes.read in ltb-false _ _ a

    module _ (out : List ℕ) (r : ℕ) (z : KeptAll rs buffer out r) where
      abbrev kept : List ℕ
      kept = kept_bytes (kept_records rs passes.ms)

      kept_of_lem : kept_of buffer sheetBytes ≡ good (kept_records rs passes.ms)
      unfolding kept_of
      kept_of_lem = step _ _ valid (step _ _ passes.read refl)

      pub used : r ≤ length out
      used = omega (arith, (z.right passes.ms passes.read).0, z.long)

      used-is : r ≡ length kept
      used-is = sym (length-take-le r out used) ∙ ap length (z.right passes.ms passes.read).1

      freed : sets out r (replicate (length out - r) 0) ≡ kept ++ replicate (length buffer - length kept) 0
      freed =
          let n : length (replicate {A = ℕ} (length out - r) 0) ≡ length out - r = length-replicate {A = ℕ} (length out - r) 0 in
          let h : length out ≤ r + length (replicate {A = ℕ} (length out - r) 0) = omega (arith, used) in
          sets-eq (replicate (length out - r) 0) out r (omega (arith, used))
          ∙ rw (drop_of_length-le out h, append-nil, (z.right passes.ms passes.read).1, z.long, used-is)

      pub all_done : (after : List ℕ) → after ≡ sets out r (replicate (length out - r) 0) → told (Ok r) after ≡ purge buffer sheetBytes
      all_done after q = rw (q, freed, used-is) (sym (purge-is buffer sheetBytes (kept_records rs passes.ms) kept_of_lem))
