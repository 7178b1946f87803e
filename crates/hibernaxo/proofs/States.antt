-- The array that a state is handed over in.
use Prim.Native.Nat.{ℕ, zero, suc, ◌+◌}
use mathlib.Core.Path.{◌≡◌, refl, sym, ap, ◌∙◌}
use mathlib.Core.List.{List, [], ◌∷◌, ◌++◌, append-nil}
use native.Mathlib.Nat.{zero-add}
use native.Mathlib.Omega.{arith}
use lib.ListN.{length, get_or, set, replicate, length-append, length-replicate, drop_of_length-le}
use lib.Seq.{sets, sets-eq}
use Rattle.rules.proofs.Loops.{sets-sets}
use Rattle.numbered.specs.Numbering.{State}
use Rattle.numbered.specs.Quota.{Report}
use Rattle.hibernaxo.specs.Told.{numbers_from, state_values, report_values, stepped_told}

-- one number more of those from a place on
from_more : (n at : ℕ) (l : List ℕ) → numbers_from (n + 1) at l ≡ numbers_from n at l ++ (get_or l (at + n) 0 ∷ [])
unfolding numbers_from
from_more zero at l = let e : at + 0 ≡ at = omega arith in rw e
from_more (suc n) at l =
    let z : suc n + 1 ≡ suc (n + 1) = omega arith in
    let e : at + suc n ≡ suc at + n = omega arith in
    rw (z, e) (ap (λ (t : List ℕ). get_or l at 0 ∷ t) (from_more n (suc at) l))

from-long : (n at : ℕ) (l : List ℕ) → length (numbers_from n at l) ≡ n
unfolding numbers_from
from-long zero at l = refl
from-long (suc n) at l = ap suc (from-long n (suc at) l)

pub from-none : (b l : List ℕ) (at : ℕ) → b ≡ sets b 0 (numbers_from 0 at l)
unfolding numbers_from
from-none b l at = refl

pub part-next : (b s : List ℕ) (at i : ℕ) → set (sets b 0 (numbers_from i at s)) i (get_or s (at + i) 0) ≡ sets b 0 (numbers_from (i + 1) at s)
part-next b s at i =
    ap (λ (k : ℕ). set (sets b 0 (numbers_from i at s)) k (get_or s (at + i) 0)) (sym (zero-add i ∙ refl) ∙ ap (λ (k : ℕ). 0 + k) (sym (from-long i at s)))
    ∙ sets-sets (numbers_from i at s) (get_or s (at + i) 0 ∷ []) b 0 ∙ ap (sets b 0) (sym (from_more i at s))

-- all 64 of them
pub part-all : (s : List ℕ) (at : ℕ) → sets (replicate {A = ℕ} 64 0) 0 (numbers_from 64 at s) ≡ numbers_from 64 at s
part-all s at =
    let n : length (numbers_from 64 at s) ≡ 64 = from-long 64 at s in
    let r : length (replicate {A = ℕ} 64 0) ≡ 64 = length-replicate {A = ℕ} 64 0 in
    sets-eq (numbers_from 64 at s) (replicate {A = ℕ} 64 0) 0 (omega (arith, n, r))
    ∙ ap (λ (t : List ℕ). numbers_from 64 at s ++ t) (drop_of_length-le (replicate {A = ℕ} 64 0) {i = 0 + length (numbers_from 64 at s)} (omega (arith, n, r))) ∙ append-nil (numbers_from 64 at s)

-- a state stored: its first number, ids and numbers fill the array
pub state-stored : (l ids next : List ℕ) (h : ℕ) → length l ≡ 129 → length ids ≡ 64 → length next ≡ 64 → sets (sets (set l 0 h) 1 ids) 65 next ≡ h ∷ (ids ++ next)
state-stored [] ids next h a b c = absurd (omega arith)
state-stored (x ∷ l) ids next h a b c =
    let e : 1 + length ids ≡ 65 = omega arith in
    ap (λ (k : ℕ). sets (sets (h ∷ l) 1 ids) k next) (sym e) ∙ sets-sets ids next (h ∷ l) 1
    ∙ sets-eq (ids ++ next) (h ∷ l) 1 (omega (arith, length-append ids next))
    ∙ ap (λ (t : List ℕ). h ∷ ((ids ++ next) ++ t)) (drop_of_length-le (h ∷ l) {i = 1 + length (ids ++ next)} (omega (arith, length-append ids next))) ∙ ap (λ (t : List ℕ). h ∷ t) (append-nil (ids ++ next))

-- a step told: number and values, the state and the buffer left
pub step-told : {r : ℕ} {values array buffer : List ℕ} (x : Report) (s : State) {w : Report × State × List ℕ} → ◌≡◌ {A = ℕ × List ℕ} (r, values) (report_values x) → array ≡ state_values s → (x, s, buffer) ≡ w
    → ◌≡◌ {A = ℕ × List ℕ × List ℕ × List ℕ} (r, values, array, buffer) (stepped_told w)
step-told {array = array} {buffer = buffer} x s e f g =
    ap (λ (y : ℕ × List ℕ). (y.0, y.1, array, buffer)) e ∙ ap (λ (t : List ℕ). ((report_values x).0, (report_values x).1, t, buffer)) f ∙ ap stepped_told g
