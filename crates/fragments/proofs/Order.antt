-- Fragments that are each in their place are a whole set in order; and which can be continued to one.
use Prim.Native.Nat.{ℕ, ◌+◌, ◌≤◌, ◌<◌}
use mathlib.Core.Path.{◌≡◌, refl, sym, ap, subst, ◌∙◌}
use mathlib.Core.Logic.{◌⊎◌, inl, inr, ⊎_elim}
use mathlib.Core.Bool.{Bool, true, false, ◌&&◌, ◌||◌, false≢true}
use mathlib.Core.List.{List, [], ◌∷◌, ◌++◌, append_assoc}
use mathlib.Core.Option.{Option, none, some}
use native.Mathlib.Nat.{zero-add}
use native.Mathlib.Omega.{arith}
use borrow.Author.Tests.{eqb-true, eqb-false, eq-eqb, not-true}
use lib.Dec.{eqb}
use lib.ListN.{length}
use Rattle.rules.specs.Outcome.{good}
use Rattle.rules.specs.Items.{items, All, all_nil, all_cons}
use Rattle.rules.proofs.Outcomes.{stepped, both, good_inj, neither}
use Rattle.rules.proofs.Walk.{items-all}
use Rattle.rules.specs.Bytes.{word}
use Rattle.rules.specs.Options.{option_size}
use Rattle.fragments.specs.Fragment.{WHOLE, FIRST, MIDDLE, LAST, Fragment, parts, is_offset, offset_in, offset_of, fragment_of, fragment, next_number}
use Rattle.fragments.specs.Joining.{says_offset, begins, goesOn, behind_offset, follows, in_place, complete}
use Rattle.fragments.specs.Claims.{Behind, Follow, end, next, WholeSet, one, many, Continued}
use Rattle.fragments.proofs.From.{behind-follows}

-- every fragment is in its place, and the last is there
pub data Placed : Option Fragment → List Fragment → Type 0 where
  done : {b : Option Fragment} → complete b ≡ true → Placed b []
  more : {b : Option Fragment} {f : Fragment} {fs : List Fragment} → in_place b f ≡ true → Placed (some f) fs → Placed b (f ∷ fs)

-- ---- the tests, as facts

pub either : (a b : Bool) → (a || b) ≡ true → (a ≡ true) ⊎ (b ≡ true)
either true b e = inl refl
either false b e = inr e

pub says : (x : Option ℕ) (n : ℕ) → says_offset x n ≡ true → x ≡ some n
says none n e = cc
says (some o) n e = ap some (eqb-true o n e)

goes_bits : (e : Fragment) → goesOn e ≡ true → (e.bits ≡ FIRST) ⊎ (e.bits ≡ MIDDLE)
unfolding goesOn
goes_bits e h = ⊎_elim (λ z. inl (eqb-true _ _ z)) (λ z. inr (eqb-true _ _ z)) (either _ _ h)

follows-behind : (e f : Fragment) (o : ℕ) → offset_of e ≡ some o → follows e f ≡ true → Behind e f
unfolding follows
follows-behind e f o q h =
    let (h, flags) = both _ _ h in
    let (h, nanos) = both _ _ h in
    let (h, seconds) = both _ _ h in
    let (h, id) = both _ _ h in
    let (h, number) = both _ _ h in
    let (h, offset) = both _ _ h in
    let (h, bits) = both _ _ h in
    record {
      before = goes_bits e h;
      bits = ⊎_elim (λ z. inl (eqb-true _ _ z)) (λ z. inr (eqb-true _ _ z)) (either (eqb f.bits MIDDLE) (eqb f.bits LAST) bits);
      start = o;
      offset = q;
      next = rw (q, behind_offset) at (says (offset_of f) (behind_offset (offset_of e) e.payload) offset);
      number = eqb-true _ _ number;
      id = eqb-true _ _ id;
      seconds = eqb-true _ _ seconds;
      nanos = eqb-true _ _ nanos;
      flags = eqb-true _ _ flags;
    }

-- ---- the two ways to say it

pub set-placed : {fs : List Fragment} → WholeSet fs → Placed none fs
unfolding in_place begins complete goesOn
set-placed (one {f = f} z) = more {b = none} {f = f} (rw z) (done {b = some f} (rw z))
set-placed (many {f = f} {fs = fs} z o r) = more {b = none} {f = f} (rw (z, o)) (go f r)
  where
    go : (e : Fragment) {gs : List Fragment} → Follow e gs → Placed (some e) gs
    go e (end z) = done {b = some e} (rw z)
    go e (next {f = g} h r) = more (behind-follows e g h) (go g r)

abbrev pub Few : Fragment → Type 0
Few f = f.bits < 4

-- behind a fragment that goes on, or is the last
placed_follow : (e : Fragment) (o : ℕ) {fs : List Fragment} → Few e → 1 ≤ e.bits → offset_of e ≡ some o → All Few fs → Placed (some e) fs → Follow e fs
unfolding in_place complete goesOn
placed_follow e o b l q all_nil (done c) =
    let (x, y) = neither (eqb e.bits FIRST) (eqb e.bits MIDDLE) (not-true _ c) in
    let no1 = eqb-false _ _ x in
    let no2 = eqb-false _ _ y in
    end (only e.bits b l no1 no2)
  where
    only : (n : ℕ) → n < 4 → 1 ≤ n → (n ≡ 1 → ⊥) → (n ≡ 2 → ⊥) → n ≡ 3
    only n h l a b = omega arith
placed_follow e o b l q (all_cons {a = f} few all) (more i r) =
    let h : Behind e f = follows-behind e f o q i in
    next h (placed_follow f (h.start + length e.payload) few (later f.bits h.bits) h.next all r)
  where
    later : (n : ℕ) → (n ≡ MIDDLE) ⊎ (n ≡ LAST) → 1 ≤ n
    later n (inl z) = omega arith
    later n (inr z) = omega arith

follows_goes : (e f : Fragment) → follows e f ≡ true → goesOn e ≡ true
unfolding follows
follows_goes e f h =
    let (h, flags) = both _ _ h in
    let (h, nanos) = both _ _ h in
    let (h, seconds) = both _ _ h in
    let (h, id) = both _ _ h in
    let (h, number) = both _ _ h in
    let (h, offset) = both _ _ h in
    (both _ _ h).0

-- nothing is placed behind a whole message
whole-alone : (f : Fragment) {fs : List Fragment} → f.bits ≡ WHOLE → Placed (some f) fs → WholeSet (f ∷ fs)
unfolding in_place
whole-alone f z (done c) = one z
whole-alone f z (more {f = g} i r) = absurd (go i)
  where
    go : follows f g ≡ true → ⊥
    go i = ⊎_elim (λ y. omega arith) (λ y. omega arith) (goes_bits f (follows_goes f g i))

pub placed-set : {fs : List Fragment} → All Few fs → Placed none fs → WholeSet fs
unfolding in_place begins complete
placed-set all_nil (done c) = absurd (false≢true c)
placed-set (all_cons {a = f} {l = fs} few all) (more i r) = ⊎_elim (λ z. whole-alone f (eqb-true _ _ z) r) (λ z. first z) (either _ _ i)
  where
    first : (eqb f.bits FIRST && says_offset (offset_of f) 0) ≡ true → WholeSet (f ∷ fs)
    first z =
        let (x, y) = both _ _ z in
        let e = eqb-true _ _ x in
        many e (says _ _ y) (placed_follow f 0 few (omega arith) (says _ _ y) all r)

-- ---- what can be continued, and what not

-- fragments one behind the other, each in its place behind b; e is the last of them
pub data Chain : Option Fragment → List Fragment → Option Fragment → Type 0 where
  link_none : {b : Option Fragment} → Chain b [] b
  link : {b e : Option Fragment} {f : Fragment} {fs : List Fragment} → in_place b f ≡ true → Chain (some f) fs e → Chain b (f ∷ fs) e

pub chain_placed : {b e : Option Fragment} {fs : List Fragment} (rest : List Fragment) → Chain b fs e → Placed e rest → Placed b (fs ++ rest)
chain_placed rest link_none w = w
chain_placed rest (link t c) w = more t (chain_placed rest c w)

pub placed_chain : {b e : Option Fragment} {fs : List Fragment} (rest : List Fragment) → Chain b fs e → Placed b (fs ++ rest) → Placed e rest
placed_chain rest link_none w = w
placed_chain rest (link t c) (more u w) = placed_chain rest c w

pub chain_few : {A : Type 0} {P : A → Type 0} (l m : List A) → All P l → All P m → All P (l ++ m)
chain_few l m all_nil h = h
chain_few l m (all_cons {l = k} a r) h = all_cons a (chain_few k m r h)

-- a fragment that says this offset, whatever the number
saying : ℕ → List ℕ
saying n = 0x86 ∷ 6 ∷ 0 ∷ 0 ∷ 0 ∷ n ∷ []

-- something may stand behind: nothing, a whole message, or a last fragment
record Onward (e : Option Fragment) : Type 0 where
  rest : List Fragment
  few : All Few rest
  placed : Placed e rest

whole : Fragment
whole = record { bits = WHOLE; flags = 0; id = 0; sequence = 0; seconds = 0; nanos = 0; options = []; payload = [] }

last_behind : Fragment → Fragment
last_behind g = record {
  bits = LAST;
  flags = g.flags;
  id = g.id;
  sequence = next_number g.sequence;
  seconds = g.seconds;
  nanos = g.nanos;
  options = saying (behind_offset (offset_of g) g.payload);
  payload = [];
}

last_says : (g : Fragment) → says_offset (offset_of (last_behind g)) (behind_offset (offset_of g) g.payload) ≡ true
unfolding last_behind saying parts option_size offset_in is_offset word
last_says g = let n = behind_offset (offset_of g) g.payload in eq-eqb (0 + n) n (zero-add n)

last-follows : (g : Fragment) → goesOn g ≡ true → follows g (last_behind g) ≡ true
unfolding follows last_behind
last-follows g t =
    rw (
      t,
      last_says g,
      eq-eqb (next_number g.sequence) (next_number g.sequence) refl,
      eq-eqb g.id g.id refl,
      eq-eqb g.seconds g.seconds refl,
      eq-eqb g.nanos g.nanos refl,
      eq-eqb g.flags g.flags refl,
    )

onward : (e : Option Fragment) → Onward e
unfolding in_place begins complete goesOn whole last_behind
onward none = record { rest = whole ∷ []; few = all_cons {a = whole} (omega arith) all_nil; placed = more {b = none} {f = whole} refl (done {b = some whole} refl) }
onward (some g) = go (goesOn g) refl
  where
    go : (c : Bool) → goesOn g ≡ c → Onward (some g)
    go true t = record { rest = last_behind g ∷ []; few = all_cons {a = last_behind g} (omega arith) all_nil; placed = more {b = some g} {f = last_behind g} (last-follows g t) (done {b = some (last_behind g)} refl) }
    go false t = record { rest = []; few = all_nil; placed = done {b = some g} (rw t) }

pub continued : {e : Option Fragment} {fs : List Fragment} → All Few fs → Chain none fs e → Continued fs
continued {e} {fs} few c = let o = onward e in (o.rest, placed-set (chain_few fs o.rest few o.few) (chain_placed o.rest c o.placed))

pub not_continued : {e : Option Fragment} {fs : List Fragment} (f : Fragment) → Chain none fs e → in_place e f ≡ false → Continued (fs ++ (f ∷ [])) → ⊥
not_continued {e} {fs} f c i (rest, w) = out (placed_chain (f ∷ rest) c (rw append_assoc at (set-placed w)))
  where
    out : Placed e (f ∷ rest) → ⊥
    out (more t r) = false≢true (sym i ∙ t)

-- ---- bits 5-4 of what is read

pub bits-few : (p : ℕ) (s : List ℕ) (r : Fragment × ℕ) → fragment p s ≡ good r → Few r.0
unfolding fragment fragment_of
bits-few p s r e =
    let (n, o, e) = stepped _ _ e in
    subst (λ (k : Fragment × ℕ). k.0.bits < 4) (good_inj e) (omega arith)

pub all-few : (k p : ℕ) (s : List ℕ) {fs : List Fragment} → items fragment k p s ≡ good fs → All Few fs
all-few = items-all fragment bits-few
