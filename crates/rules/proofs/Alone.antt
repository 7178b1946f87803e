-- A message is read and cleaned by its own bytes: what follows it changes nothing.
use Prim.Native.Nat.{ℕ, ◌+◌, ◌-◌, ◌/◌, ◌%◌, ◌≤◌}
use mathlib.Core.Path.{◌≡◌, refl, ap, sym, subst, ◌∙◌}
use mathlib.Core.List.{List, [], ◌++◌}
use native.Mathlib.Omega.{arith}
use borrow.Author.Tests.{le-ltb, eq-eqb}
use lib.ListN.{length, take, drop, length-append, length-drop, length-take, take-append-drop, get_or-append}
use lib.Seq.{take-append-le, drop-append-le, length-take-le, take-append_seam}
use Rattle.rules.specs.Outcome.{good}
use Rattle.rules.specs.Bytes.{part, one_if_any}
use Rattle.rules.specs.Message.{Head, head, payload_start, checks_one_to_six, option_run_length, checks_eight_and_nine, checks_one_to_nine, checks_one_to_ten, every_check, Message, record_of, message}
use Rattle.rules.specs.Clean.{clean_bytes, clean_form}
use Rattle.rules.proofs.Outcomes.{pass, pass_last, after, step, stepped, good_inj}
use Rattle.rules.proofs.Numbers.{word-append}
use Rattle.rules.proofs.Passed.{Passed, passes}
use Rattle.rules.proofs.Cut as Cut
use Rattle.rules.proofs.Run.{run_ends, run_moved}

pub part-append : (a e : ℕ) (s t : List ℕ) → a ≤ length s → e ≤ length s → part a e (s ++ t) ≡ part a e s
part-append a e s t l m = rw (drop-append-le a s t l, take-append-le (e - a) (drop a s) t (omega (arith, length-drop a s)))

pub head-append : (s t : List ℕ) → 24 ≤ length s → head (s ++ t) ≡ head s
unfolding head
head-append s t l =
    rw (
      get_or-append s t 0 0 (omega arith),
      get_or-append s t 0 1 (omega arith),
      get_or-append s t 0 3 (omega arith),
      word-append s t 4 (omega arith),
      word-append s t 8 (omega arith),
      word-append s t 12 (omega arith),
      word-append s t 16 (omega arith),
      word-append s t 20 (omega arith),
    )

-- a message that passes, with bytes behind it
module _ (p : ℕ) (s t : List ℕ) (r : ℕ × List (List ℕ)) (w : Passed p s (head s) r) where
  options-part : part 24 (payload_start (head s)) (s ++ t) ≡ part 24 (payload_start (head s)) s
  options-part = part-append 24 (payload_start (head s)) s t w.header.long (omega (arith, w.header.least, w.header.most))

  payload-part : part (payload_start (head s)) (head s).size (s ++ t) ≡ part (payload_start (head s)) (head s).size s
  payload-part = part-append (payload_start (head s)) (head s).size s t (omega (arith, w.header.least, w.header.most)) w.header.most

  ten_before : checks_one_to_ten p (s ++ t) (head s) ≡ good r
  unfolding checks_one_to_ten checks_one_to_nine option_run_length checks_one_to_six checks_eight_and_nine
  ten_before =
      step _ _
      (step _ _
      (after _ _
      (pass _ _ _ _ (le-ltb (length (s ++ t)) 24 (omega (arith, length-append s t, w.header.long)))
      (pass _ _ _ _ (rw (eq-eqb (head s).version 1 w.header.version))
      (pass _ _ _ _ (rw (eq-eqb (head s).kind 0 w.header.kind))
      (pass _ _ _ _ (rw (le-ltb (head s).size (payload_start (head s)) w.header.least, eq-eqb ((head s).size % 4) 0 w.header.whole))
      (pass _ _ _ _ (le-ltb (length (s ++ t)) (head s).size (omega (arith, length-append s t, w.header.most)))
      (pass_last _ _ _ (le-ltb 999999999 (head s).nanos w.header.nanos)))))))
      (rw options-part w.options))
      (after _ _
      (pass _ _ _ _ (rw (eq-eqb ((head s).flags / 16 % 4) 0 w.fragment))
      (pass_last _ _ _ (rw (payload-part, eq-eqb ((head s).flags / 128 % 2) (one_if_any (part (payload_start (head s)) (head s).size s)) w.standard))))
      refl))
      (step _ _ (rw payload-part w.packages) refl)

  inside : 24 + r.0 ≤ length s
  inside =
      let e = (run_ends [] 0 (p + 24) 0 (part 24 (payload_start (head s)) s) (omega arith) w.options).most in
      omega (arith, e, length-take (payload_start (head s) - 24) (drop 24 s), length-drop 24 s, w.header.least, w.header.most)

  run-before : part 24 (24 + r.0) (s ++ t) ≡ part 24 (24 + r.0) s
  run-before = part-append 24 (24 + r.0) s t w.header.long inside

  pub passes-before : every_check p (s ++ t) (head s) ≡ good r
  unfolding every_check
  passes-before = step _ _ ten_before (pass _ _ _ _ (rw run-before w.count) refl)

  pub cleaned-before : clean_bytes (s ++ t) r ≡ clean_bytes s r
  unfolding clean_bytes
  cleaned-before =
      rw (
        run-before,
        part-append 4 12 s t (omega (arith, w.header.long)) (omega (arith, w.header.long)),
        part-append 16 24 s t (omega (arith, w.header.long)) w.header.long,
        get_or-append s t 0 0 (omega (arith, w.header.long)),
        get_or-append s t 0 1 (omega (arith, w.header.long)),
        get_or-append s t 0 3 (omega (arith, w.header.long)),
      )

pub clean-alone : (s behind c : List ℕ) → clean_form s ≡ good c → clean_form (s ++ behind) ≡ good c
unfolding clean_form
clean-alone s behind c e =
    let (r, q, z) = stepped _ _ e in
    let w = passes 0 s (head s) r q in
    rw (head-append s behind w.header.long) (step _ _ (passes-before 0 s behind r w) (ap good (cleaned-before 0 s behind r w) ∙ z))

-- ---- a message is read by its own bytes, wherever they stand and whatever follows them

-- the message with record m takes the first n bytes of s, and is read from these alone
pub record Own (s : List ℕ) (m : Message) (n : ℕ) : Type 0 where
  pub least : 24 ≤ n
  pub most : n ≤ length s
  pub again : (q : ℕ) (t : List ℕ) → message q (take n s ++ t) ≡ good (m, n)

-- a message that passes, at another place
moved : (p q : ℕ) (s : List ℕ) (h : Head) (r : ℕ × List (List ℕ)) → Passed p s h r → Passed q s h r
moved p q s h r w = record {
  header = w.header;
  options = run_moved [] 0 (p + 24) (q + 24) 0 (part 24 (payload_start h) s) w.options;
  fragment = w.fragment;
  standard = w.standard;
  packages = Cut.complete (Cut.sound 0 (p + payload_start h) (part (payload_start h) h.size s) w.packages) (q + payload_start h);
  count = w.count;
}

-- and without what follows it
module _ (s : List ℕ) (p : ℕ) (r : ℕ × List (List ℕ)) (w : Passed p s (head s) r) where
  abbrev n : ℕ
  n = (head s).size

  abbrev u : List ℕ
  u = take n s

  long : length u ≡ n
  long = length-take-le n s w.header.most

  split : u ++ drop n s ≡ s
  split = take-append-drop n s

  same_head : head u ≡ head s
  same_head = sym (head-append u (drop n s) (omega (arith, long, w.header.least))) ∙ ap head split

  part-alone : (a e : ℕ) → a ≤ n → e ≤ n → part a e u ≡ part a e s
  part-alone a e i j = sym (part-append a e u (drop n s) (omega (arith, long)) (omega (arith, long))) ∙ ap (part a e) split

  -- the option run ends within the message
  run_inside : 24 + r.0 ≤ n
  run_inside =
      let e = (run_ends [] 0 (p + 24) 0 (part 24 (payload_start (head s)) s) (omega arith) w.options).most in
      omega (arith, e, length-take (payload_start (head s) - 24) (drop 24 s), w.header.least)

  run_alone : part 24 (24 + r.0) u ≡ part 24 (24 + r.0) s
  run_alone = part-alone 24 (24 + r.0) (omega (arith, run_inside)) run_inside

  alone : Passed p u (head s) r
  alone = record {
    header = record {
      long = omega (arith, long, w.header.least);
      version = w.header.version;
      kind = w.header.kind;
      least = w.header.least;
      whole = w.header.whole;
      most = omega (arith, long);
      nanos = w.header.nanos;
    };
    options = rw (part-alone 24 (payload_start (head s)) (omega (arith, w.header.least)) w.header.least) w.options;
    fragment = w.fragment;
    standard = rw (part-alone (payload_start (head s)) n w.header.least (omega arith)) w.standard;
    packages = rw (part-alone (payload_start (head s)) n w.header.least (omega arith)) w.packages;
    count = rw run_alone w.count;
  }

  -- the record is told by the same bytes
  same_record : (t : List ℕ) → record_of (u ++ t) (head s) r ≡ record_of s (head s) r
  unfolding record_of
  same_record t =
      rw (part-append 24 (24 + r.0) u t (omega (arith, long, w.header.least)) (omega (arith, long, run_inside)), run_alone)

  pub again-good : (q : ℕ) (t : List ℕ) → message q (u ++ t) ≡ good (record_of s (head s) r, n)
  unfolding message
  again-good q t =
      let v : Passed q u (head u) r = rw same_head (moved p q u (head s) r alone) in
      let h : head (u ++ t) ≡ head s = head-append u t v.header.long ∙ same_head in
      let c : every_check q (u ++ t) (head s) ≡ good r = rw same_head at (passes-before q u t r v) in
      rw h (step _ _ c (ap (λ (m : Message). good (m, n)) (same_record t)))

pub own : (p : ℕ) (s : List ℕ) (m : Message) (n : ℕ) → message p s ≡ good (m, n) → Own s m n
unfolding message
own p s m n e =
    let (r, q, z) = stepped _ _ e in
    let w = passes p s (head s) r q in
    subst (λ (k : Message × ℕ). Own s k.0 k.1) (good_inj z) (record { least = omega (arith, w.header.least); most = w.header.most; again = again-good s p r w })

-- so it is read the same with anything else behind it and at any other place
pub message-moved : (p q : ℕ) (c t u : List ℕ) (m : Message) → message p (c ++ t) ≡ good (m, length c) → message q (c ++ u) ≡ good (m, length c)
message-moved p q c t u m e = rw take-append_seam at ((own p (c ++ t) m (length c) e).again q u)

-- it has 24 bytes at least, and ends inside the input
pub message-inside : (p : ℕ) (s : List ℕ) (m : Message) (n : ℕ) → message p s ≡ good (m, n) → (24 ≤ n) × (n ≤ length s)
message-inside p s m n e = let w = own p s m n e in (w.least, w.most)
