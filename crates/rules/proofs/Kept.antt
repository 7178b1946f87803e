-- A refusal leaves a lent buffer as it was, and what is stored leaves what is behind it.
use Prim.Native.Nat.{ℕ, suc, ◌+◌, ◌≤◌, ◌<◌}
use mathlib.Core.Path.{◌≡◌, refl, ap, ◌∙◌}
use mathlib.Core.List.{List, [], ◌∷◌}
use native.Mathlib.Nat.{zero-add, add-suc, suc-add}
use native.Mathlib.Omega.{arith}
use borrow.Author.Tests.{le-ltb, lt-ltb}
use lib.ListN.{length, take, drop, set}
use lib.Seq.{sets, sets-eq, length-sets, drop-set-lt, take-append_seam}
use Rattle.rules.specs.Outcome.{Outcome, good, bad, ◌>>=◌, ROOM}
use Rattle.rules.specs.Buffer.{Written, unwritten, fitted, stored}
use Rattle.rules.specs.Copy.{Entry, copy_bytes, reported, filled, answered}
use Rattle.rules.specs.Burst.{randomized_answer, opened_answer}
use Rattle.rules.specs.Claims.{Careful}
use Rattle.rules.proofs.Outcomes.{pass, halt, step}

drop-sets : (s b : List ℕ) (i : ℕ) → drop (i + length s) (sets b i s) ≡ drop (i + length s) b
drop-sets [] b i = refl
drop-sets (x ∷ s) b i = rw (add-suc, ← suc-add) (drop-sets s (set b i x) (suc i) ∙ drop-set-lt (suc i + length s) b i x (omega arith))

-- s stored at the start of a buffer
pub careful_sets : (b s : List ℕ) → Careful 0 (length s) b (sets b 0 s)
careful_sets b s = record { refused = λ h. absurd (h refl); behind = rw zero-add at (drop-sets s b 0); long = length-sets b 0 s }

-- nothing stored
pub careful_none : (number : ℕ) (b : List ℕ) → Careful number 0 b b
careful_none number b = record { refused = λ h. refl; behind = refl; long = refl }

pub careful_stored : (b : List ℕ) (o : Outcome (List ℕ)) → Careful (stored b o).0.number (stored b o).0.bytes b (stored b o).1
unfolding stored
careful_stored b (good s) = careful_sets b s
careful_stored b (bad n p) = careful_none n b

pub careful_answered : (b : List ℕ) (o : Outcome (List Entry)) → Careful (answered b o).0.number (answered b o).0.bytes b (answered b o).1
unfolding answered reported filled
careful_answered b (good es) = careful_sets b (copy_bytes es)
careful_answered b (bad n p) = careful_none n b

-- what works in the buffer itself leaves it where it refuses
pub kept-randomized : (b : List ℕ) (o : Outcome (List ℕ)) → ((randomized_answer b o).0.number ≡ 0 → ⊥) → (randomized_answer b o).1 ≡ b
unfolding randomized_answer
kept-randomized b (good s) h = absurd (h refl)
kept-randomized b (bad n p) h = refl

pub kept-opened : (b : List ℕ) (o : Outcome (ℕ × List ℕ)) → ((opened_answer b o).0.number ≡ 0 → ⊥) → (opened_answer b o).1 ≡ b
unfolding opened_answer
kept-opened b (good r) h = absurd (h refl)
kept-opened b (bad n p) h = refl

-- a stored list is read back from the buffer
pub take-sets : (b r : List ℕ) → length r ≤ length b → take (length r) (sets b 0 r) ≡ r
take-sets b r l = rw (sets-eq r b 0 (omega arith), take-append_seam)

-- an outcome without room for it is refused
pub roomless : (b c : List ℕ) (o : Outcome (List ℕ)) → o ≡ good c → length b < length c → (stored b (o >>= fitted b)).0 ≡ unwritten ROOM (length c)
unfolding stored fitted
roomless b c o e l = ap (λ (r : Outcome (List ℕ)). (stored b r).0) (step _ _ e (halt _ _ _ _ (lt-ltb (length b) (length c) l)))

-- an outcome with room for it is stored
pub writes : (b c : List ℕ) (o : Outcome (List ℕ)) → o ≡ good c → length c ≤ length b
    → ((stored b (o >>= fitted b)).0 ≡ record { number = 0; place = 0; bytes = length c }) × (take (length c) (stored b (o >>= fitted b)).1 ≡ c)
unfolding stored fitted
writes b c o e l =
    let q : stored b (o >>= fitted b) ≡ (record { number = 0; place = 0; bytes = length c }, sets b 0 c) =
    ap (stored b) (step _ _ e (pass _ _ _ _ (le-ltb (length b) (length c) l) refl)) in
    (ap (λ (r : Written × List ℕ). r.0) q, ap (λ (r : Written × List ℕ). take (length c) r.1) q ∙ take-sets b c l)
