-- A promise allows one outcome alone; and what the promises say of records: written and read again, read and written again, cleaned twice.
use Prim.Native.Nat.{ℕ, ◌+◌, ◌≤◌}
use mathlib.Core.Path.{◌≡◌, refl, ap, sym, ◌∙◌}
use mathlib.Core.List.{List, ◌++◌}
use native.Mathlib.Omega.{arith}
use borrow.Author.Tests.{le-ltb}
use lib.ListN.{length, drop}
use lib.Seq.{sets, sets-eq}
use Rattle.rules.specs.Outcome.{Outcome, good, ◌>>◌, ◌>>=◌}
use Rattle.rules.specs.Bytes.{Bytes}
use Rattle.rules.specs.Message.{not_large, Message, message}
use Rattle.rules.specs.Writer.{write, Draft, accepted, written, writer}
use Rattle.rules.specs.Clean.{clean_form, cleaner}
use Rattle.rules.specs.Buffer as answers
use Rattle.rules.specs.Buffer.{stored, fitted}
use Rattle.rules.proofs.Apart.{beside}
use Rattle.rules.proofs.Outcomes.{pass, step}
use Rattle.rules.proofs.Numbers.{bytes_drop}
use Rattle.rules.proofs.RoundTrip.{written_read, read-written, read_valid, clean-twice}
use Rattle.rules.specs.Valid.{DraftFits}
use Rattle.rules.specs.Claims.{TellsApart}
use Rattle.rules.proofs.Writer.{accepts, accepted_valid}
use Rattle.refusal.proofs.Numbers.{number_positive, same_refusal}
use Rattle.std.specs.Prelude.{Result, Ok, Err}
use Rattle.refusal.specs.declared.Refusal.{Refusal}
use Rattle.compose.specs.Told.{numbers, told}
use Rattle.compose.proofs.Answered.{answer}

-- two answers, each with the buffer after it, that are told alike are the same: a promise of `write` or of `clean` allows one outcome alone
same_numbers : TellsApart numbers
same_numbers (Ok m) (Ok n) e = ap (λ (r : answers.Written). Ok r.bytes) e
same_numbers (Ok m) (Err x) e = absurd (number_positive x.why (sym (ap (λ (r : answers.Written). r.number) e)))
same_numbers (Err x) (Ok n) e = absurd (number_positive x.why (ap (λ (r : answers.Written). r.number) e))
same_numbers (Err x) (Err y) e =
    ap Err (same_refusal x y (ap (λ (r : answers.Written). r.number) e) (ap (λ (r : answers.Written). r.place) e))

pub tells_apart : TellsApart (λ (x : Result ℕ Refusal × List ℕ). told x.0 x.1)
tells_apart = beside numbers same_numbers

-- bytes that were stored at the start of a buffer stand there
stands : (s b : List ℕ) → length s ≤ length b → sets b 0 s ≡ s ++ drop (0 + length s) b
stands s b l = sets-eq s b 0 (omega arith)

-- an outcome with room for it, stored
kept : (o : Outcome (List ℕ)) (s b : List ℕ) → o ≡ good s → length s ≤ length b → answer 0 0 (length s) (sets b 0 s) ≡ stored b (o >>= fitted b)
unfolding stored fitted
kept o s b e l = sym (ap (stored b) (step o _ e (pass _ _ _ _ (le-ltb (length b) (length s) l) refl)))

-- an accepted draft, with room for it: the writer writes its record, and the buffer is read as that record
pub record Again (m : Message) (b : List ℕ) (w : answers.Written × List ℕ) : Type 0 where
  pub written : answer 0 0 (length (write m)) (sets b 0 (write m)) ≡ w
  pub read : message 0 (sets b 0 (write m)) ≡ good (m, length (write m))

pub written-again : (d : Draft) (b : List ℕ) {m : Message} → DraftFits d → accepted d ≡ good m → length (write m) ≤ length b → Again m b (writer d b)
unfolding writer written
written-again d b {m} f e l = record {
  written = kept (written d) (write m) b (step _ _ e refl) l;
  read = rw (stands (write m) b l) (written_read m (accepted_valid d f (accepts d e)) 0 _);
}

-- a message that passes, with room for its clean form: the cleaner writes its record
pub cleaned-again : (s b : List ℕ) (m : Message) (n : ℕ) → Bytes s → length s ≤ 65536 → message 0 s ≡ good (m, n) → length (write m) ≤ length b
    → Again m b (cleaner s b)
unfolding cleaner
cleaned-again s b m n v h e l = record {
  written = kept (not_large s >> clean_form s) (write m) b (pass _ _ _ _ (le-ltb 65536 (length s) h) (read-written s v m n e)) l;
  read = rw (stands (write m) b l) (written_read m (read_valid 0 s v h m n e) 0 _);
}

-- so the answer that a promise allows says how many bytes were written, and the buffer that it leaves is read as the record
pub record Stands (m : Message) (a : Result ℕ Refusal) (after : List ℕ) : Type 0 where
  pub bytes : a ≡ Ok (length (write m))
  pub read : message 0 after ≡ good (m, length (write m))

pub promised : {m : Message} {b : List ℕ} {w : answers.Written × List ℕ} → Again m b w → (a : Result ℕ Refusal) (after : List ℕ) → told a after ≡ w → Stands m a after
promised {m} {b} g a after e =
    let same = tells_apart (a, after) (Ok (length (write m)), sets b 0 (write m)) (e ∙ sym g.written) in
    record { bytes = ap (λ (x : Result ℕ Refusal × List ℕ). x.0) same; read = ap (λ (x : Result ℕ Refusal × List ℕ). message 0 x.1) same ∙ g.read }

-- and the buffer, cleaned again, gives the same bytes
pub cleaned-twice : (s b c : List ℕ) → Bytes s → Bytes b → length s ≤ 65536 → clean_form s ≡ good c → length c ≤ length b → clean_form (sets b 0 c) ≡ good c
cleaned-twice s b c v u h e l = rw (stands c b l) (clean-twice s c (drop (0 + length c) b) v h (bytes_drop (0 + length c) b u) e)
