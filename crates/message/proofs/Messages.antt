-- Checks 8 to 10 and COUNT, the message at a place, and the loop over a recording.
use Prim.Native.Nat.{ℕ, suc, ◌+◌, ◌-◌, ◌*◌, ◌/◌, ◌%◌, ◌≤◌, ◌<◌}
use mathlib.Core.Path.{◌≡◌, refl, sym, ap, subst, ◌∙◌}
use mathlib.Core.Bool.{Bool, true, false}
use mathlib.Core.List.{List, [], ◌∷◌, ◌++◌}
use native.Mathlib.Omega.{arith}
use borrow.Author.Tests.{lt-ltb, le-ltb, ltb-true, ltb-false}
use lib.Dec.{ltb}
use lib.ListN.{length, take, drop, length-drop, length-append, length-map}
use lib.Seq.{drop-cons, length-take-le}
use Rattle.rules.specs.Outcome.{Outcome, good, bad, refuse, ◌>>◌, ◌>>=◌, LARGE, FRAGMENT, STANDARD, COUNT}
use Rattle.rules.specs.Bytes.{part, one_if_any}
use Rattle.rules.specs.Items.{Fills, none, more}
use Rattle.rules.specs.Options.{count_said, differs}
use Rattle.rules.specs.Packages.{cut, package_of, Piece}
use Rattle.rules.specs.Message.{Head, head, payload_start, payload, checks_eight_and_nine, checks_one_to_nine, checks_one_to_ten, every_check, Message, record_of, message, recording}
use Rattle.rules.specs.Reading.{packages_of, checked_recording}
use Rattle.rules.proofs.Outcomes.{pass, halt, pass_last, halt_last, after, step, stop, stepped, good_inj, refused-only}
use Rattle.rules.proofs.Passed.{passes}
use Rattle.rules.proofs.Loops.{Doing, doing_start, doing_next, doing_end, doing_bad}
use Rattle.rules.proofs.Cut as Cut
use Rattle.message.proofs.Tests.{is, isnt}
use Rattle.message.proofs.Headers.{Headed}
use Rattle.message.specs.Answers.{head_of_header, one_if_bytes, eight_and_nine, Opened, cut_count, spot_behind_run, span_of, message_here}
use Rattle.rules.specs.Reading.{MessageSpot, message_spot, message_at}
use Rattle.message.specs.declared.Header.{Header}

-- a part is empty or not by its ends
any_part : (s : List ℕ) (a e : ℕ) → e ≤ length s → one_if_any (part a e s) ≡ one_if_bytes a e
unfolding one_if_bytes
any_part s a e h = go (ltb a e) refl
  where
    go : (b : Bool) → ltb a e ≡ b → one_if_any (part a e s) ≡ one_if_bytes a e
    go true t =
        let l : a < e = ltb-true _ _ t in
        let m : a < length s = omega arith in
        let k : e - a ≡ suc (e - suc a) = omega arith in
        rw (t, one_if_bytes) (rw (k, drop-cons s a 0 m))
    go false t =
        let l : e ≤ a = ltb-false _ _ t in
        let k : e - a ≡ 0 = omega arith in
        rw (t, one_if_bytes) (rw k)

uncut : (p : ℕ) (s : List ℕ) {m q : ℕ} → cut_count p s ≡ bad m q → cut p s ≡ bad m q
unfolding cut_count
uncut p s e = refused-only _ _ e

-- checks 8 and 9: by the header's numbers, as the code has them, and by the payload's bytes
module _ (p : ℕ) (h : Head) where
  pub fragment : (h.flags / 16 % 4 ≡ 0 → ⊥) → bad FRAGMENT p ≡ eight_and_nine p h
  unfolding eight_and_nine
  fragment a = sym (halt _ _ _ _ (isnt (h.flags / 16 % 4) 0 a))

  module _ (a : h.flags / 16 % 4 ≡ 0) (f z : ℕ) (ef : f ≡ 24 + 4 * h.words) (ez : z ≡ h.size) (b : ℕ) (eb : b ≡ one_if_bytes f z) where
    some_bytes : one_if_bytes (payload_start h) h.size ≡ b
    some_bytes = rw (← ef, ← ez) (sym eb)

    pub standard : (h.flags / 128 % 2 ≡ b → ⊥) → bad STANDARD p ≡ eight_and_nine p h
    unfolding eight_and_nine
    standard c = sym (pass _ _ _ _ (is (h.flags / 16 % 4) 0 a) (halt_last _ _ _ (isnt (h.flags / 128 % 2) (one_if_bytes (payload_start h) h.size) (λ w. c (w ∙ some_bytes)))))

    pub fits : h.flags / 128 % 2 ≡ b → good tt ≡ eight_and_nine p h
    unfolding eight_and_nine
    fits c = sym (pass _ _ _ _ (is (h.flags / 16 % 4) 0 a) (pass_last _ _ _ (is (h.flags / 128 % 2) (one_if_bytes (payload_start h) h.size) (c ∙ sym some_bytes))))

  pub by_bytes : (s : List ℕ) → h.size ≤ length s → eight_and_nine p h ≡ checks_eight_and_nine p s h
  unfolding eight_and_nine checks_eight_and_nine
  by_bytes s l = rw (any_part s (payload_start h) h.size l)

module _ (p : ℕ) (s : List ℕ) (r : Header) (o : Opened s r p) where
  abbrev h : Head
  h = head_of_header r

  abbrev n : ℕ
  n = r.run

  module _ (f z : ℕ) (ef : f ≡ 24 + 4 * h.words) (ez : z ≡ h.size) where
    fit : checks_eight_and_nine p s h ≡ good tt
    fit = sym (o.nine ∙ by_bytes p h s o.most)

    pub no_cut : {m q : ℕ} → bad m q ≡ cut_count (p + f) (take (z - f) (drop f s)) → bad m q ≡ spot_behind_run p s h n
    unfolding spot_behind_run cut_count
    no_cut {m} {q} e =
        let g : cut_count (p + payload_start h) (part (payload_start h) h.size s) ≡ bad m q = sym (rw (ef, ez) at e) in
        sym (after _ _ fit (stop _ _ (uncut (p + payload_start h) (part (payload_start h) h.size s) g)))

    module _ (k : ℕ) (e : good k ≡ cut_count (p + f) (take (z - f) (drop f s))) where
      pub miscounted : differs (count_said (take (24 + n - 24) (drop 24 s))) k ≡ true → bad COUNT p ≡ spot_behind_run p s h n
      unfolding spot_behind_run cut_count
      miscounted x =
          let (cs, g, d) = stepped _ _ (sym (rw (ef, ez) at e)) in
          let w : length cs ≡ k = good_inj d in
          sym (after _ _ fit (step _ _ g (halt _ _ _ _ (rw w x))))

      pub whole : differs (count_said (take (24 + n - 24) (drop 24 s))) k ≡ false → good (record { head = h; run = n; payload = p + f; next = p + z; packages = k }) ≡ spot_behind_run p s h n
      unfolding spot_behind_run cut_count message_spot
      whole x =
          let (cs, g, d) = stepped _ _ (sym (rw (ef, ez) at e)) in
          let w : length cs ≡ k = good_inj d in
          sym (after _ _ fit (step _ _ g (pass _ _ _ _ (rw w x) (rw (w, ef, ez)))))

-- ---- the span of a message

pub span-bad : {n q : ℕ} {o : Outcome MessageSpot} → bad n q ≡ o → bad n q ≡ span_of o
unfolding span_of
span-bad e = sym (stop _ _ (sym e))

pub span-good : {d : MessageSpot} {o : Outcome MessageSpot} → good d ≡ o → good (d.next, d.packages) ≡ span_of o
unfolding span_of
span-good e = sym (step _ _ (sym e) refl)

-- ---- every check

-- COUNT is found of the spot or of the pieces alike
after-count : (b : Bool) (p : ℕ) (n : ℕ) (cs : List (List ℕ)) (f : ℕ × List (List ℕ) → MessageSpot)
    → ((refuse b COUNT p >> good (n, cs)) >>= λ (r : ℕ × List (List ℕ)). good (f r)) ≡ (refuse b COUNT p >> good (f (n, cs)))
unfolding refuse ◌>>◌ ◌>>=◌
after-count true p n cs f = refl
after-count false p n cs f = refl

module _ (p : ℕ) (s : List ℕ) (h : Head) where
  -- what is told of a message by what checks 1 to 9 have come to, and by its cut
  abbrev spot_of : Outcome ℕ → Outcome (List (List ℕ)) → Outcome MessageSpot
  spot_of o c =
      ((o >>= λ (n : ℕ). c >>= λ (cs : List (List ℕ)). good (n, cs)) >>= λ (r : ℕ × List (List ℕ)). (refuse (differs (count_said (part 24 (24 + r.0) s)) (length r.1)) COUNT p >> good (r.0, r.1)))
      >>= λ (r : ℕ × List (List ℕ)). good (message_spot p h r)

  regroup : (c : Outcome (Unit {0})) (o : Outcome (List (List ℕ))) (n : ℕ) → spot_of (c >> good n) o
      ≡ (c >> (o >>= λ (cs : List (List ℕ)). refuse (differs (count_said (part 24 (24 + n) s)) (length cs)) COUNT p >> good (message_spot p h (n, cs))))
  unfolding ◌>>◌ ◌>>=◌
  regroup (good tt) (good cs) n = after-count (differs (count_said (part 24 (24 + n) s)) (length cs)) p n cs (message_spot p h)
  regroup (good tt) (bad x y) n = refl
  regroup (bad x y) o n = refl

pub framing : (p : ℕ) (s : List ℕ) (h : Header) {o : Outcome MessageSpot} → Headed p s h → o ≡ spot_behind_run p s (head_of_header h) h.run → o ≡ message_here p s
unfolding message_here every_check checks_one_to_ten checks_one_to_nine spot_behind_run
framing p s h k f =
    let g : spot_behind_run p s (head_of_header h) h.run ≡ spot_behind_run p s (head s) h.run = ap (λ (x : Head). spot_behind_run p s x h.run) k.same in
    f ∙ g ∙ sym (ap (λ (o : Outcome ℕ). spot_of p s (head s) o (cut (p + payload_start (head s)) (payload s (head s)))) (step _ _ k.run refl) ∙ regroup p s (head s) _ _ _)

-- ---- the message at a place of a recording

pub here : (s : List ℕ) (p : ℕ) → length s ≤ 65536 → {o : Outcome MessageSpot} → o ≡ message_here p (drop p s) → o ≡ message_at s p
unfolding message_at message_here
here s p a e = sym (pass _ _ _ _ (le-ltb 65536 (length s) a) (sym e))

-- and what it says of the message from there on
pub there : (s : List ℕ) (p : ℕ) → length s ≤ 65536 → {o : Outcome MessageSpot} → o ≡ message_at s p → o ≡ message_here p (drop p s)
unfolding message_at message_here
there s p a e =
    let z : message_at s p ≡ message_here p (drop p s) = pass _ _ _ _ (le-ltb 65536 (length s) a) refl in
    e ∙ z

-- ---- the loop over a recording

-- pieces that fill a payload: each has 12 bytes at least
pub fill_least : {cs : List (List ℕ)} {s : List ℕ} → Fills Piece cs s → 12 * length cs ≤ length s
fill_least none = omega arith
fill_least (more {c = c} {cs = cs} {s = s} q r) = omega (arith, q.least, q.whole, fill_least r, length-append c s)

-- what a message that was read says of the recording's record
pub record Reads (p : ℕ) (s : List ℕ) (d : MessageSpot) : Type 0 where
  pub record' : Message
  pub size : ℕ
  pub reads : message p s ≡ good (record', size)
  pub next : d.next ≡ p + size
  pub packages : length record'.packages ≡ d.packages
  pub least : 24 + 12 * d.packages ≤ size
  pub most : size ≤ length s

pub reading : (p : ℕ) (s : List ℕ) (d : MessageSpot) → message_here p s ≡ good d → Reads p s d
unfolding message_here message message_spot record_of
reading p s d e =
    let (r, g, f) = stepped _ _ e in
    let q : message_spot p (head s) r ≡ d = good_inj f in
    let w = passes p s (head s) r g in
    let l = fill_least (Cut.sound 0 (p + payload_start (head s)) (part (payload_start (head s)) (head s).size s) w.packages) in
    let m : length (part (payload_start (head s)) (head s).size s) ≡ (head s).size - payload_start (head s) = length-take-le ((head s).size - payload_start (head s)) (drop (payload_start (head s)) s) (omega (arith, length-drop (payload_start (head s)) s, w.header.most)) in
    rw (← q) (record {
      record' = record_of s (head s) r;
      size = (head s).size;
      reads = step _ _ g refl;
      next = refl;
      packages = length-map r.1 package_of;
      least = omega (arith, l, w.header.least);
      most = w.header.most;
    })

no_record : (p : ℕ) (s : List ℕ) {n q : ℕ} → message_here p s ≡ bad n q → message p s ≡ bad n q
unfolding message_here message
no_record p s e = stop _ _ (refused-only _ _ e)

packages_snoc : (l : List Message) (m : Message) → packages_of (l ++ (m ∷ [])) ≡ packages_of l + length m.packages
unfolding packages_of
packages_snoc [] m = omega arith
packages_snoc (x ∷ l) m = rw (packages_snoc l m) (omega arith)

pub record Checking (s : List ℕ) (i m n : ℕ) : Type 0 where
  pub done : List Message
  pub many : length done ≡ m
  pub packs : packages_of done ≡ n
  pub few : 24 * m + 12 * n ≤ i
  pub inside : i ≤ length s
  pub doing : Doing message s done i

pub start : (s : List ℕ) → Checking s 0 0 0
unfolding packages_of
start s = record { done = []; many = refl; packs = refl; few = omega arith; inside = omega arith; doing = doing_start message s }

pub record Onward (s : List ℕ) (i m n next packages : ℕ) : Type 0 where
  pub less : i < next
  pub checking : Checking s next (m + 1) (n + packages)

module _ (s : List ℕ) (i m n : ℕ) (c : Checking s i m n) where
  behind-one : (d : MessageSpot) → i < length s → Reads i (drop i s) d → Onward s i m n d.next d.packages
  behind-one d l r =
      let x = r.record' in
      record {
        less = omega (arith, r.least, r.next);
        checking = record {
          done = c.done ++ (x ∷ []);
          many = omega (arith, length-append c.done (x ∷ []), c.many);
          packs = packages_snoc c.done x ∙ rw (c.packs, r.packages);
          few = omega (arith, r.least, r.next, c.few);
          inside = omega (arith, r.next, r.most, length-drop i s);
          doing = subst (λ (j : ℕ). Doing message s (c.done ++ (x ∷ [])) j) (sym r.next) (doing_next message s c.done i x r.size c.doing l (omega (arith, r.least)) r.reads);
        };
      }

  module _ (a : length s ≤ 65536) where
    pub next : {b k : ℕ} → i < length s → good (b, k) ≡ span_of (message_at s i) → Onward s i m n b k
    unfolding span_of
    next {b} {k} l e =
        let (d, g, f) = stepped _ _ (sym e) in
        subst (λ (x : ℕ × ℕ). Onward s i m n x.0 x.1) (good_inj f) (behind-one d l (reading i (drop i s) d (sym (there s i a (sym g)))))

    pub stopped : {k q : ℕ} → i < length s → bad k q ≡ span_of (message_at s i) → bad k q ≡ checked_recording s
    unfolding checked_recording recording span_of
    stopped l e =
        let g = refused-only _ _ (sym e) in
        sym (stop _ _ (pass _ _ _ _ (le-ltb 65536 (length s) a) (doing_bad message s c.done i c.doing l (no_record i (drop i s) (sym (there s i a (sym g)))))))

    pub ended : length s ≤ i → good (m, n) ≡ checked_recording s
    unfolding checked_recording recording
    ended l = sym (step _ _ (pass _ _ _ _ (le-ltb 65536 (length s) a) (doing_end message s c.done i c.doing l)) (rw (c.many, c.packs)))

pub too_large : (s : List ℕ) → 65536 < length s → bad LARGE 65536 ≡ checked_recording s
unfolding checked_recording recording
too_large s a = sym (stop _ _ (halt _ _ _ _ (lt-ltb 65536 (length s) a)))
