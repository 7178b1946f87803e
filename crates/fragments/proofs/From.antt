-- Fragments read one behind the other.
use Prim.Native.Nat.{ℕ, zero, suc, ◌+◌, ◌-◌, ◌≤◌}
use mathlib.Core.Path.{◌≡◌, refl, ◌∙◌}
use mathlib.Core.Logic.{◌⊎◌, inl, inr}
use mathlib.Core.Bool.{true, false, ◌||◌}
use mathlib.Core.List.{List, [], ◌∷◌, ◌++◌}
use mathlib.Core.Option.{Option, none, some}
use native.Mathlib.Nat.{add-zero, add-suc, suc-add}
use native.Mathlib.Omega.{arith}
use borrow.Author.Tests.{eq-eqb}
use lib.Dec.{eqb}
use lib.ListN.{length, drop, length-append}
use lib.Seq.{drop-append_seam}
use Rattle.rules.specs.Outcome.{good, bad, ◌∷>◌}
use Rattle.refusal.specs.Numbers.{GAP}
use Rattle.rules.specs.Items.{All, all_nil, all_cons}
use Rattle.rules.proofs.Outcomes.{pass, halt, step, stop, front_of_lem}
use Rattle.fragments.specs.Fragment.{FIRST, MIDDLE, LAST, Fragment, fragment, fragment_bytes, bytes_of, next_number}
use Rattle.fragments.specs.Joining.{begins, goesOn, follows, in_place, complete, fragments_from}
use Rattle.fragments.specs.Claims.{Behind, Follow, end, next, WholeSet, one, many}
use Rattle.fragments.proofs.Again.{Valid, fragment-again, length-fragment}

-- bytes that are passed over are dropped
pub from-skip : (b : Option Fragment) (k p : ℕ) (s : List ℕ) → k ≤ length s → fragments_from b k p s ≡ fragments_from b 0 (p + k) (drop k s)
unfolding fragments_from
from-skip b zero p s l = rw add-zero
from-skip b (suc k) p [] l = absurd (omega arith)
from-skip b (suc k) p (x ∷ s) l = rw (add-suc, ← suc-add) (from-skip b k (suc p) s (omega arith))

behind : (b : Option Fragment) (n p x : ℕ) (s : List ℕ) → 1 ≤ n → n ≤ suc (length s) → fragments_from b (n - 1) (suc p) s ≡ fragments_from b 0 (p + n) (drop n (x ∷ s))
behind b zero p x s h l = absurd (omega arith)
behind b (suc n) p x s h l =
    let e : suc n - 1 ≡ n = omega arith in
    rw (e, add-suc, ← suc-add) (from-skip b n (suc p) s (omega arith))

-- it goes on behind a fragment that is in its place
pub from_next : (b : Option Fragment) (p : ℕ) (s : List ℕ) (f : Fragment) (n : ℕ) → 1 ≤ n → n ≤ length s → fragment p s ≡ good (f, n) → in_place b f ≡ true
    → fragments_from b 0 p s ≡ (f ∷> fragments_from (some f) 0 (p + n) (drop n s))
unfolding fragments_from
from_next b p [] f n h l e i = absurd (omega arith)
from_next b p (x ∷ s) f n h l e i = step _ _ e (pass _ _ _ _ (rw i) (rw (behind (some f) n p x s h l)))

-- and stops at one that is not
pub from-gap : (b : Option Fragment) (p : ℕ) (s : List ℕ) (f : Fragment) (n : ℕ) → 1 ≤ length s → fragment p s ≡ good (f, n) → in_place b f ≡ false
    → fragments_from b 0 p s ≡ bad GAP p
unfolding fragments_from
from-gap b p [] f n l e i = absurd (omega arith)
from-gap b p (x ∷ s) f n l e i = step _ _ e (halt _ _ _ _ (rw i))

pub from_stop : (b : Option Fragment) (p : ℕ) (s : List ℕ) {n q : ℕ} → 1 ≤ length s → fragment p s ≡ bad n q → fragments_from b 0 p s ≡ bad n q
unfolding fragments_from
from_stop b p [] l e = absurd (omega arith)
from_stop b p (x ∷ s) l e = stop _ _ e

pub from_end : (b : Option Fragment) (p : ℕ) → complete b ≡ true → fragments_from b 0 p [] ≡ good []
unfolding fragments_from
from_end b p c = pass _ _ _ _ (rw c) refl

pub from_missing : (b : Option Fragment) (p : ℕ) → complete b ≡ false → fragments_from b 0 p [] ≡ bad GAP p
unfolding fragments_from
from_missing b p c = halt _ _ _ _ (rw c)

-- ---- what is in its place

goes : (e : Fragment) → (e.bits ≡ FIRST) ⊎ (e.bits ≡ MIDDLE) → goesOn e ≡ true
unfolding goesOn
goes e (inl z) = rw z
goes e (inr z) = rw z

later : (e : Fragment) → (e.bits ≡ MIDDLE) ⊎ (e.bits ≡ LAST) → (eqb e.bits MIDDLE || eqb e.bits LAST) ≡ true
later e (inl z) = rw z
later e (inr z) = rw z

pub behind-follows : (e f : Fragment) → Behind e f → follows e f ≡ true
unfolding follows
behind-follows e f h =
    rw (
      goes e h.before,
      later f h.bits,
      h.offset,
      h.next,
      eq-eqb (h.start + length e.payload) (h.start + length e.payload) refl,
      eq-eqb f.sequence (next_number e.sequence) h.number,
      eq-eqb f.id e.id h.id,
      eq-eqb f.seconds e.seconds h.seconds,
      eq-eqb f.nanos e.nanos h.nanos,
      eq-eqb f.flags e.flags h.flags,
    )

-- ---- a whole set, written one behind the other, is read again

written_next : (b : Option Fragment) (f : Fragment) (t : List ℕ) (p : ℕ) {l : List Fragment} → Valid f → in_place b f ≡ true
    → fragments_from (some f) 0 (p + length (fragment_bytes f)) t ≡ good l → fragments_from b 0 p (fragment_bytes f ++ t) ≡ good (f ∷ l)
written_next b f t p v i e =
    from_next b p (fragment_bytes f ++ t) f (length (fragment_bytes f)) (omega (arith, length-fragment f v [])) (omega (arith, length-append (fragment_bytes f) t)) (fragment-again f v t p) i
    ∙ front_of_lem _ _ (rw drop-append_seam e)

pub follow_read : (e : Fragment) {fs : List Fragment} → Follow e fs → All Valid fs → (p : ℕ) → fragments_from (some e) 0 p (bytes_of fs) ≡ good fs
unfolding in_place complete goesOn
follow_read e (end z) all_nil p = from_end (some e) p (rw z)
follow_read e (next {f = f} {fs = fs} h r) (all_cons v vs) p =
    written_next (some e) f (bytes_of fs) p v (behind-follows e f h) (follow_read f r vs (p + length (fragment_bytes f)))

pub set-read : {fs : List Fragment} → WholeSet fs → All Valid fs → (p : ℕ) → fragments_from none 0 p (bytes_of fs) ≡ good fs
unfolding in_place begins complete goesOn
set-read (one {f = f} z) (all_cons v all_nil) p = written_next none f [] p v (rw z) (from_end (some f) (p + length (fragment_bytes f)) (rw z))
set-read (many {f = f} {fs = fs} z o r) (all_cons v vs) p = written_next none f (bytes_of fs) p v (rw (z, o)) (follow_read f r vs (p + length (fragment_bytes f)))
