-- The fragments read one behind the other: what the loop keeps.
use Prim.Native.Nat.{ℕ, ◌+◌, ◌-◌, ◌*◌, ◌%◌, ◌≤◌, ◌<◌}
use mathlib.Core.Path.{◌≡◌, refl, sym, ap, subst, ◌∙◌}
use mathlib.Core.Logic.{⊎_elim}
use mathlib.Core.Bool.{Bool, true, false, not, ◌&&◌, ◌||◌, false≢true}
use mathlib.Core.List.{List, [], ◌∷◌, ◌++◌, append-nil, append_assoc}
use mathlib.Core.Option.{none, some}
use native.Mathlib.Nat.{zero-add, add_assoc}
use native.Mathlib.Omega.{arith}
use borrow.Author.Tests.{eqb-true, not-true, not-false}
use lib.Dec.{eqb}
use lib.ListN.{length, drop, length-append, length-drop, length-take, drop_of_length-le}
use lib.Seq.{drop-drop}
use Rattle.rules.specs.Outcome.{Outcome, good, bad, refuse, ◌>>◌, ◌∷>◌}
use Rattle.refusal.specs.Numbers.{GAP}
use Rattle.rules.specs.Bytes.{Bytes, part}
use Rattle.rules.specs.Message.{Head, head, payload_start, fragment_bits, option_run_length}
use Rattle.rules.proofs.Outcomes.{pass, halt, step, stop, stepped, passed, came_after, both, good_inj, good≢bad, refused-step, refused_pass, refused-only}
use Rattle.rules.proofs.Run.{run_ends}
use Rattle.rules.proofs.Numbers.{bytes_drop}
use Rattle.rules.proofs.Loops.{◌++>◌, onward}
use Rattle.fragments.specs.Fragment.{WHOLE, FIRST, MIDDLE, other_bits, Fragment, offset_of, fragment_of, fragment, payloads_of, next_number}
use Rattle.fragments.specs.Joining.{says_offset, begins, goesOn, behind_offset, follows, in_place, complete, fragments_from}
use Rattle.fragments.specs.declared.Passed.{Passed}
use Rattle.fragments.specs.Stored.{WholeOptions, scan, starts, header_at, fits_behind, begins_by, next_fragment, gathered}
use Rattle.fragments.proofs.Again.{Valid}
use Rattle.fragments.proofs.Readings.{Read, reads}
use Rattle.fragments.proofs.From.{from_next, from-gap, from_stop, from_end, from_missing}
use Rattle.fragments.proofs.Scan.{words_append, starts-few}
use Rattle.fragments.proofs.Order.{either, says}

-- ---- a header that was read, and its fragment

pub record Headed (s : List ℕ) (i : ℕ) (g : Head) (n : ℕ) : Type 0 where
  pub held : Fragment
  pub read : fragment i (drop i s) ≡ good (held, g.size)
  pub valid : Valid held
  pub bits : held.bits ≡ fragment_bits g.flags
  pub flags : held.flags ≡ other_bits g.flags
  pub id : held.id ≡ g.id
  pub sequence : held.sequence ≡ g.sequence
  pub seconds : held.seconds ≡ g.seconds
  pub nanos : held.nanos ≡ g.nanos
  pub options : held.options ≡ part (i + 24) (i + 24 + n) s
  pub payload : held.payload ≡ part (i + payload_start g) (i + g.size) s
  pub long : length held.payload ≡ g.size - payload_start g
  pub run : n ≤ 4 * g.words
  pub start : payload_start g ≤ g.size
  pub most : i + g.size ≤ length s
  pub few : g.words ≤ 15

part_of : (s : List ℕ) (i a e : ℕ) → part a e (drop i s) ≡ part (i + a) (i + e) s
part_of s i a e = let z : i + e - (i + a) ≡ e - a = omega arith in rw (z, drop-drop)

pub short : (p : ℕ) (t : List ℕ) (h : Head) (n : ℕ) → option_run_length p t h ≡ good n → n ≤ 4 * h.words
unfolding option_run_length
short p t h n e =
    let (c, o) = came_after _ _ e in
    omega (arith, (run_ends [] 0 (p + 24) 0 (part 24 (payload_start h) t) (omega arith) o).most, length-take (payload_start h - 24) (drop 24 t))

module _ (s : List ℕ) (i : ℕ) (b : Bytes s) (l : length s ≤ 65536) where
  pub headed-by : (n : ℕ) → option_run_length i (drop i s) (head (drop i s)) ≡ good n → Headed s i (head (drop i s)) n
  unfolding fragment fragment_of
  headed-by n e =
      let t : List ℕ = drop i s in
      let r : fragment i t ≡ good (fragment_of t (head t) n, (head t).size) = step _ _ e refl in
      let w : Read t (fragment_of t (head t) n) (head t).size = reads i t (fragment_of t (head t) n, (head t).size) (bytes_drop i s b) (omega (arith, length-drop i s)) r in
      let z : 24 + n - 24 ≡ n = omega arith in
      record {
        held = fragment_of t (head t) n;
        read = r;
        valid = w.valid;
        bits = refl;
        flags = refl;
        id = refl;
        sequence = refl;
        seconds = refl;
        nanos = refl;
        options = part_of s i 24 (24 + n) ∙ ap (λ (x : ℕ). part (i + 24) x s) (sym (add_assoc i 24 n));
        payload = part_of s i (payload_start (head t)) (head t).size;
        long = w.long;
        run = short i t (head t) n e;
        start = w.start;
        most = omega (arith, w.most, length-drop i s, w.least);
        few = w.few;
      }

  pub headed : (g : Head) (n : ℕ) → good (g, n) ≡ header_at s i → Headed s i g n
  unfolding header_at
  headed g n e =
      let (m, o, f) = stepped _ _ (sym e) in
      subst (λ (x : Head × ℕ). Headed s i x.0 x.1) (good_inj f) (headed-by m o)

-- ---- what the loop keeps

-- the fragments before place i are read, each in its place: h is the first header, and the next fragment must have number q and offset o
pub record Gathering (s : List ℕ) (h : Head) (i last q o : ℕ) (st : Passed) : Type 0 where
  pub first : Fragment
  pub more : List Fragment
  pub prev : Fragment
  pub same : fragments_from none 0 0 s ≡ ((first ∷ more) ++> fragments_from (some prev) 0 i (drop i s))
  pub inside : i ≤ length s
  pub bits : prev.bits ≡ last
  pub few : last < 4
  pub number : q ≡ next_number prev.sequence
  pub offset : goesOn prev ≡ true → behind_offset (offset_of prev) prev.payload ≡ o
  pub id : prev.id ≡ h.id
  pub seconds : prev.seconds ≡ h.seconds
  pub nanos : prev.nanos ≡ h.nanos
  pub flags : prev.flags ≡ other_bits h.flags
  pub total : length (payloads_of (first ∷ more)) ≡ o
  pub state : scan 0 (payloads_of (first ∷ more)) ≡ st.state
  pub packages : starts 0 (payloads_of (first ∷ more)) ≡ st.packages
  pub words : o % 4 ≡ 0
  pub most : o ≤ i

-- as many packages as bytes at most
pub gathered-few : (s : List ℕ) (h : Head) (i last q o : ℕ) (st : Passed) → Gathering s h i last q o st → length s ≤ 65536 → st.packages ≤ 65536
gathered-few s h i last q o st w l = omega (arith, w.packages, w.total, w.most, w.inside, starts-few 0 (payloads_of (w.first ∷ w.more)))

front-good : {A : Type 0} (a : A) (o : Outcome (List A)) → (a ∷> o) ≡ ((a ∷ []) ++> o)
unfolding ◌++>◌ ◌∷>◌
front-good a (good l) = refl
front-good a (bad n p) = refl

payloads_snoc : (fs : List Fragment) (f : Fragment) → payloads_of (fs ++ (f ∷ [])) ≡ payloads_of fs ++ f.payload
payloads_snoc [] f = append-nil f.payload
payloads_snoc (g ∷ fs) f = rw (payloads_snoc fs f) (sym (append_assoc g.payload (payloads_of fs) f.payload))

begun_offset : (f : Fragment) → begins f ≡ true → goesOn f ≡ true → offset_of f ≡ some 0
unfolding begins goesOn
begun_offset f b g = ⊎_elim (λ z. absurd (no_whole (eqb-true _ _ z))) (λ z. says (offset_of f) 0 (both (eqb f.bits FIRST) (says_offset (offset_of f) 0) z).1) (either (eqb f.bits WHOLE) (eqb f.bits FIRST && says_offset (offset_of f) 0) b)
  where
    no_whole : f.bits ≡ WHOLE → ⊥
    no_whole e = false≢true (rw e at g)

-- the first fragment
module _ (s : List ℕ) (g : Head) (n : ℕ) (w : Headed s 0 g n) where
  begins-is : begins w.held ≡ begins_by g (part 24 (24 + n) s)
  unfolding begins begins_by
  begins-is = rw (w.bits, w.options)

  pub first-gap : begins_by g (part 24 (24 + n) s) ≡ false → bad GAP 0 ≡ gathered s
  unfolding gathered in_place
  first-gap e = sym (stop _ _ (from-gap none 0 s w.held g.size (omega (arith, w.most, w.start)) w.read (begins-is ∙ e)))

  pub first_begun : {st : Passed} {q : ℕ} → begins_by g (part 24 (24 + n) s) ≡ true → st.state ≡ scan 0 (part (payload_start g) g.size s)
      → st.packages ≡ starts 0 (part (payload_start g) g.size s) → q ≡ next_number g.sequence
      → Gathering s g g.size (fragment_bits g.flags) q (g.size - payload_start g) st
  unfolding in_place
  first_begun {st} {q} e f c z =
      let p : payloads_of (w.held ∷ []) ≡ w.held.payload = append-nil w.held.payload in record {
        first = w.held;
        more = [];
        prev = w.held;
        same = from_next none 0 s w.held g.size (omega (arith, w.start)) (omega (arith, w.most)) w.read (begins-is ∙ e) ∙ front-good _ _ ∙ ap (λ (x : ℕ). (w.held ∷ []) ++> fragments_from (some w.held) 0 x (drop g.size s)) (zero-add g.size);
        inside = omega (arith, w.most);
        bits = w.bits;
        few = omega arith;
        number = rw w.sequence z;
        offset = λ y. rw (begun_offset w.held (begins-is ∙ e) y) (omega (arith, w.long));
        id = w.id;
        seconds = w.seconds;
        nanos = w.nanos;
        flags = w.flags;
        total = ap length p ∙ w.long;
        state = rw (p, w.payload, zero-add (payload_start g), zero-add g.size) (sym f);
        packages = rw (p, w.payload, zero-add (payload_start g), zero-add g.size) (sym c);
        words = omega (arith, w.valid.words, w.long);
        most = omega arith;
      }

-- what a fragment in its place says
record Stands (e f : Fragment) : Type 0 where
  pub offset : says_offset (offset_of f) (behind_offset (offset_of e) e.payload) ≡ true
  pub number : f.sequence ≡ next_number e.sequence
  pub id : f.id ≡ e.id
  pub seconds : f.seconds ≡ e.seconds
  pub nanos : f.nanos ≡ e.nanos
  pub flags : f.flags ≡ e.flags
  pub before : goesOn e ≡ true

stands : (e f : Fragment) → follows e f ≡ true → Stands e f
unfolding follows
stands e f h =
    let (h, flags) = both _ _ h in
    let (h, nanos) = both _ _ h in
    let (h, seconds) = both _ _ h in
    let (h, id) = both _ _ h in
    let (h, number) = both _ _ h in
    let (h, offset) = both _ _ h in
    let (h, bits) = both _ _ h in
    record { offset = offset; number = eqb-true _ _ number; id = eqb-true _ _ id; seconds = eqb-true _ _ seconds; nanos = eqb-true _ _ nanos; flags = eqb-true _ _ flags; before = h }

-- the next one
module _ (s : List ℕ) (h : Head) (i last q o : ℕ) (st : Passed) (w : Gathering s h i last q o st) (l : i < length s) where
  pub next_stopped : {n p : ℕ} → bad n p ≡ header_at s i → bad n p ≡ gathered s
  unfolding gathered header_at fragment ◌++>◌
  next_stopped {n} {p} e =
      let z : option_run_length i (drop i s) (head (drop i s)) ≡ bad n p = refused-only _ _ (sym e) in
      sym (stop _ _ (w.same ∙ rw (from_stop (some w.prev) i (drop i s) (omega (arith, length-drop i s)) (stop _ _ z))))

  module _ (g : Head) (n : ℕ) (k : Headed s i g n) where
    follows_is : follows w.prev k.held ≡ fits_behind h last q o g (part (i + 24) (i + 24 + n) s)
    unfolding follows fits_behind goesOn
    follows_is = go (goesOn w.prev) refl
      where
        go : (b : Bool) → goesOn w.prev ≡ b → follows w.prev k.held ≡ fits_behind h last q o g (part (i + 24) (i + 24 + n) s)
        go true t = rw (w.offset t, k.bits, k.options, k.sequence, ← w.number, k.id, w.id, k.seconds, w.seconds, k.nanos, w.nanos, k.flags, w.flags, w.bits)
        go false t = rw (← w.bits, t)

    pub next-gap : fits_behind h last q o g (part (i + 24) (i + 24 + n) s) ≡ false → bad GAP i ≡ gathered s
    unfolding gathered in_place ◌++>◌
    next-gap e = sym (stop _ _ (w.same ∙ rw (from-gap (some w.prev) i (drop i s) k.held g.size (omega (arith, length-drop i s)) k.read (follows_is ∙ e))))

    pub next-on : {st' : Passed} {q' : ℕ} → fits_behind h last q o g (part (i + 24) (i + 24 + n) s) ≡ true → st'.state ≡ scan st.state (part (i + payload_start g) (i + g.size) s)
        → st'.packages ≡ st.packages + starts st.state (part (i + payload_start g) (i + g.size) s) → q' ≡ next_number q
        → Gathering s h (i + g.size) (fragment_bits g.flags) q' (o + (i + g.size - (i + payload_start g))) st'
    unfolding in_place
    next-on {st'} {q'} e f c z =
        let b : Stands w.prev k.held = stands w.prev k.held (follows_is ∙ e) in
        let len : i + g.size - (i + payload_start g) ≡ length k.held.payload = omega (arith, k.long) in
        let p = payloads_snoc (w.first ∷ w.more) k.held in
        let a = words_append 0 (payloads_of (w.first ∷ w.more)) k.held.payload (rw w.total w.words) in
        record {
          first = w.first;
          more = w.more ++ (k.held ∷ []);
          prev = k.held;
          same = w.same ∙ ap (λ (x : Outcome (List Fragment)). (w.first ∷ w.more) ++> x) (from_next (some w.prev) i (drop i s) k.held g.size (omega (arith, k.start)) (omega (arith, k.most, length-drop i s)) k.read (follows_is ∙ e))
              ∙ onward (w.first ∷ w.more) k.held _ ∙ rw drop-drop;
          inside = k.most;
          bits = k.bits;
          few = omega arith;
          number = z ∙ ap next_number (w.number ∙ sym b.number);
          offset = λ y. rw (says (offset_of k.held) _ b.offset) (omega (arith, w.offset b.before, len));
          id = b.id ∙ w.id;
          seconds = b.seconds ∙ w.seconds;
          nanos = b.nanos ∙ w.nanos;
          flags = b.flags ∙ w.flags;
          total = ap length p ∙ length-append (payloads_of (w.first ∷ w.more)) k.held.payload ∙ omega (arith, w.total, len);
          state = ap (scan 0) p ∙ a.0 ∙ rw (w.state, k.payload) (sym f);
          packages = ap (starts 0) p ∙ a.1 ∙ rw (w.state, w.packages, k.payload) (sym c);
          words = omega (arith, w.words, len, k.valid.words);
          most = omega (arith, w.most, k.start);
        }

-- the end
module _ (s : List ℕ) (h : Head) (i last q o : ℕ) (st : Passed) (w : Gathering s h i last q o st) (l : length s ≤ i) where
  at-end : fragments_from (some w.prev) 0 i (drop i s) ≡ fragments_from (some w.prev) 0 i []
  at-end = rw (drop_of_length-le s l)

  pub last_missing : {n : ℕ} → (eqb last FIRST || eqb last MIDDLE) ≡ true → n ≡ length s → bad GAP n ≡ gathered s
  unfolding gathered ◌++>◌ complete goesOn
  last_missing e z =
      let y : i ≡ length s = omega (arith, w.inside) in
      sym (stop _ _ (w.same ∙ rw (at-end, from_missing (some w.prev) i (rw (w.bits, e)), z, y)))

  pub all_there : (eqb last FIRST || eqb last MIDDLE) ≡ false → good (o, st.state, st.packages) ≡ gathered s
  unfolding gathered ◌++>◌ complete goesOn
  all_there a =
      let e : fragments_from none 0 0 s ≡ good (w.first ∷ w.more) = w.same ∙ rw (at-end, from_end (some w.prev) i (rw (w.bits, a)), append-nil) in
      sym (step _ _ e (rw (w.total, w.state, w.packages)))

none_missing : complete none ≡ false
unfolding complete
none_missing = refl

-- ---- an empty input, and one whose first header is refused

pub nothing : (s : List ℕ) → length s ≡ 0 → bad GAP 0 ≡ gathered s
unfolding gathered
nothing [] l = sym (stop _ _ (from_missing none 0 none_missing))
nothing (x ∷ s) l = absurd (omega arith)

pub first_stopped : (s : List ℕ) {n p : ℕ} → 1 ≤ length s → bad n p ≡ header_at s 0 → bad n p ≡ gathered s
unfolding gathered header_at fragment
first_stopped s {n} {p} l e = sym (stop _ _ (from_stop none 0 s l (stop _ _ (refused-only _ _ (sym e)))))

-- ---- the next fragment, as it is told

module _ (s : List ℕ) (i : ℕ) (h : Head) (last q o : ℕ) where
  pub told_stopped : {n p : ℕ} → bad n p ≡ header_at s i → bad n p ≡ next_fragment s i h last q o
  unfolding next_fragment
  told_stopped e = sym (stop _ _ (sym e))

  pub told-gap : (g : Head) (n : ℕ) → good (g, n) ≡ header_at s i → fits_behind h last q o g (part (i + 24) (i + 24 + n) s) ≡ false → bad GAP i ≡ next_fragment s i h last q o
  unfolding next_fragment
  told-gap g n e f = sym (step _ _ (sym e) (halt _ _ _ _ (rw f)))

  pub told-next : (g : Head) (n : ℕ) {a b c : ℕ} → good (g, n) ≡ header_at s i → fits_behind h last q o g (part (i + 24) (i + 24 + n) s) ≡ true
      → a ≡ i + payload_start g → b ≡ i + g.size → c ≡ fragment_bits g.flags → good (a, b, c) ≡ next_fragment s i h last q o
  unfolding next_fragment
  told-next g n e f x y z = sym (step _ _ (sym e) (pass _ _ _ _ (rw f) (rw (x, y, z))))

-- and what that says in the loop
pub record Nexted (s : List ℕ) (h : Head) (i last q o : ℕ) (st : Passed) (a b c : ℕ) : Type 0 where
  pub start : a ≤ b
  pub most : b ≤ length s
  pub less : i < b
  pub words : length (part a b s) % 4 ≡ 0
  pub small : length (part a b s) ≤ 65536
  pub few : c < 4
  pub on : {st' : Passed} {q' : ℕ} → st'.state ≡ scan st.state (part a b s) → st'.packages ≡ st.packages + starts st.state (part a b s) → q' ≡ next_number q → Gathering s h b c q' (o + (b - a)) st'

module _ (s : List ℕ) (h : Head) (i last q o : ℕ) (st : Passed) (bs : Bytes s) (k : length s ≤ 65536) (w : Gathering s h i last q o st) (l : i < length s) where
  pub nexted : (a b c : ℕ) → good (a, b, c) ≡ next_fragment s i h last q o → Nexted s h i last q o st a b c
  unfolding next_fragment
  nexted a b c e =
      let (r, x, e) = stepped _ _ (sym e) in
      let (t, e) = passed _ _ _ _ e in
      by r.0 r.1 (sym x) (not-false _ t) (good_inj e)
    where
      made : (g : Head) (n : ℕ) → good (g, n) ≡ header_at s i → fits_behind h last q o g (part (i + 24) (i + 24 + n) s) ≡ true → Nexted s h i last q o st (i + payload_start g) (i + g.size) (fragment_bits g.flags)
      made g n x t =
          let d : Headed s i g n = headed s i bs k g n x in
          record {
            start = omega (arith, d.start);
            most = d.most;
            less = omega (arith, d.start);
            words = rw (← d.payload) d.valid.words;
            small = rw (← d.payload) d.valid.size;
            few = omega arith;
            on = λ f m z. next-on s h i last q o st w l g n d t f m z;
          }

      by : (g : Head) (n : ℕ) → good (g, n) ≡ header_at s i → fits_behind h last q o g (part (i + 24) (i + 24 + n) s) ≡ true → ◌≡◌ {A = ℕ × ℕ × ℕ} (i + payload_start g, i + g.size, fragment_bits g.flags) (a, b, c) → Nexted s h i last q o st a b c
      by g n x t e = subst (λ (y : ℕ × ℕ × ℕ). Nexted s h i last q o st y.0 y.1 y.2) e (made g n x t)

  pub next-refused : {n p : ℕ} → bad n p ≡ next_fragment s i h last q o → bad n p ≡ gathered s
  unfolding next_fragment
  next-refused {n} {p} e = ⊎_elim (λ z. next_stopped s h i last q o st w l (sym z)) (λ z. gap z) (refused-step _ _ (sym e))
    where
      gap : ((r : Head × ℕ) × (header_at s i ≡ good r) × (◌≡◌ {A = Outcome (ℕ × ℕ × ℕ)} (◌>>◌ {B = ℕ × ℕ × ℕ} (refuse (not (fits_behind h last q o r.0 (part (i + 24) (i + 24 + r.1) s))) GAP i) (good (i + payload_start r.0, i + r.0.size, fragment_bits r.0.flags))) (bad n p))) → bad n p ≡ gathered s
      gap (r, x, y) = ⊎_elim (λ z. told r x z) (λ z. absurd (good≢bad (sym z))) (refused_pass _ _ _ _ y)
        where
          told : (r : Head × ℕ) → header_at s i ≡ good r → (not (fits_behind h last q o r.0 (part (i + 24) (i + 24 + r.1) s)) ≡ true) × (GAP ≡ n) × (i ≡ p) → bad n p ≡ gathered s
          told r x z = rw (← z.1, ← z.2) (next-gap s h i last q o st w l r.0 r.1 (headed s i bs k r.0 r.1 (sym x)) (not-true _ z.0))

-- ---- by the numbers that were worked out

pub headed-options : (s : List ℕ) (i : ℕ) (g : Head) (n : ℕ) → Headed s i g n → WholeOptions (part (i + 24) (i + 24 + n) s)
headed-options s i g n w = record { run = rw (← w.options) w.valid.run }

pub first-options : (s : List ℕ) (g : Head) (n : ℕ) → Headed s 0 g n → WholeOptions (part 24 (24 + n) s)
first-options s g n w = headed-options s 0 g n w

module _ (s : List ℕ) (g : Head) (n : ℕ) (w : Headed s 0 g n) {a e : ℕ} (x : a ≡ payload_start g) (y : e ≡ g.size) where
  pub first-words : length (part a e s) % 4 ≡ 0
  first-words =
      let z : w.held.payload ≡ part a e s = w.payload ∙ rw (x, y, zero-add (payload_start g), zero-add g.size) in
      rw (← z) w.valid.words

  pub first_small : length (part a e s) ≤ 65536
  first_small =
      let z : w.held.payload ≡ part a e s = w.payload ∙ rw (x, y, zero-add (payload_start g), zero-add g.size) in
      rw (← z) w.valid.size

  pub begun_by : {st : Passed} {q : ℕ} → begins_by g (part 24 (24 + n) s) ≡ true → st.state ≡ scan 0 (part a e s) → st.packages ≡ starts 0 (part a e s) → q ≡ next_number g.sequence → Gathering s g e (fragment_bits g.flags) q (e - a) st
  begun_by t f m z = rw (x, y) (first_begun s g n w t (f ∙ rw (x, y)) (m ∙ rw (x, y)) z)
