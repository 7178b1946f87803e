-- What the writer and the cleaner answer, by what was measured.
use Prim.Native.Nat.{ℕ, ◌≤◌, ◌<◌}
use mathlib.Core.Path.{◌≡◌, refl, sym, ap, ◌∙◌}
use mathlib.Core.List.{List}
use borrow.Author.Tests.{le-ltb, lt-ltb}
use lib.ListN.{length}
use lib.Seq.{sets}
use Rattle.rules.specs.Outcome.{Outcome, good, bad, ◌>>=◌, ROOM}
use Rattle.rules.specs.Packages.{cut}
use Rattle.rules.specs.Writer.{Draft}
use Rattle.rules.specs.Buffer.{Written, stored, fitted}
use Rattle.rules.proofs.Outcomes.{pass, halt, step, good≢bad, good_inj}
use Rattle.compose.specs.Payload.{message_of, size_of_outcome, finished, Fit}
use Rattle.compose.proofs.Whole.{message-length}

-- an answer and its buffer
abbrev pub answer : ℕ → ℕ → ℕ → List ℕ → Written × List ℕ
answer n p k b = (record { number = n; place = p; bytes = k }, b)

-- what an outcome of so many bytes was
pub measured : {n : ℕ} (o : Outcome (List ℕ)) → good n ≡ size_of_outcome o → (s : List ℕ) × (o ≡ good s) × (length s ≡ n)
unfolding size_of_outcome
measured (good s) e = (s, refl, sym (good_inj e))
measured (bad m p) e = absurd (good≢bad (sym e))

-- the answers of a reading that comes to o, with the buffer b
module _ (b : List ℕ) where
  pub refusing : (o : Outcome (List ℕ)) {n p : ℕ} → bad n p ≡ size_of_outcome o → answer n p 0 b ≡ stored b (o >>= fitted b)
  unfolding stored size_of_outcome ◌>>=◌
  refusing (good s) e = absurd (good≢bad e)
  refusing (bad m q) {n} {p} e =
      let i : n ≡ m = cc in
      let j : p ≡ q = cc in
      rw (i, j)

-- a draft that fits: no room, or done, or the same as an outcome that comes to its message
module _ (d : Draft) (b : List ℕ) {n : ℕ} (f : Fit d n) where
  long : length (message_of d (cut 0 d.packages)) ≡ n
  long = message-length d f.cuts ∙ f.size

  pub roomless : length b < n → answer ROOM n 0 b ≡ finished d b
  unfolding finished stored fitted
  roomless l = sym (ap (stored b) (halt _ _ _ _ (rw long (lt-ltb (length b) n l))) ∙ rw long)

  pub done : (b' : List ℕ) → n ≤ length b → b' ≡ sets b 0 (message_of d (cut 0 d.packages)) → answer 0 0 n b' ≡ finished d b
  unfolding finished stored fitted
  done b' l e = sym (ap (stored b) (pass _ _ _ _ (rw long (le-ltb (length b) n l)) refl) ∙ rw (long, ← e))

pub finishing : (d : Draft) (b : List ℕ) (o : Outcome (List ℕ)) → o ≡ good (message_of d (cut 0 d.packages)) → finished d b ≡ stored b (o >>= fitted b)
unfolding finished
finishing d b o e = sym (ap (stored b) (step o _ e refl))
