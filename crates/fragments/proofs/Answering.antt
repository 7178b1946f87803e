-- What cutting answers, by what was read.
use Prim.Native.Nat.{ℕ, zero, suc, ◌+◌, ◌-◌, ◌*◌, ◌/◌, ◌%◌, ◌≤◌, ◌<◌}
use mathlib.Core.Path.{◌≡◌, refl, sym, ap, ◌∙◌}
use mathlib.Core.Bool.{Bool, true, false, not, ◌||◌}
use mathlib.Core.List.{List, [], ◌∷◌, ◌++◌, map, append-nil}
use native.Mathlib.Nat.{zero-add, zero-mul, mul-le-mul_left}
use native.Mathlib.Omega.{arith}
use borrow.Author.Tests.{lt-ltb, le-ltb, ltb-false, le-leb, lt-leb, eq-eqb, ne_eqb}
use lib.Dec.{ltb, eqb}
use lib.ListN.{length, drop, length-take, length-drop}
use lib.Seq.{sets}
use Rattle.rules.specs.Outcome.{Outcome, good, bad, refuse, ◌>>◌, ◌>>=◌, LENGTH, OPTION, ROOM}
use Rattle.rules.specs.Bytes.{Bytes, pad, part, join, one_if_any}
use Rattle.rules.specs.Items.{Fills}
use Rattle.rules.specs.Packages.{cut, package_of, piece_of, Piece}
use Rattle.rules.specs.Message.{head, payload_start, not_large, every_check, Message, record_of, message}
use Rattle.rules.specs.Reading.{MessageSpot, message_spot, message_at}
use Rattle.rules.specs.Clean.{clean_form, cleaner}
use Rattle.rules.specs.Buffer.{Written, unwritten, stored, fitted}
use Rattle.rules.specs.Valid as rules
use Rattle.rules.proofs.Outcomes.{pass, halt, step, stop, stop_before, passed, stepped, after, good_inj, good≢bad}
use Rattle.rules.proofs.Cut as Cut
use Rattle.rules.proofs.Passed.{Passed, passes}
use Rattle.rules.proofs.Cleaned.{pieces-clean, any-filled, fills, payload-bytes, flags-back}
use Rattle.rules.proofs.Valids.{valid, run_length, payload-length}
use Rattle.rules.proofs.RoundTrip.{read-written}
use Rattle.compose.specs.declared.Record.{Record}
use Rattle.compose.specs.Payload.{Cuts}
use Rattle.compose.specs.Told.{record_by}
use Rattle.message.specs.declared.Header.{Header}
use Rattle.message.specs.Answers.{head_of_header}
use Rattle.fragments.specs.Fragment.{Fragment, options_of, fragment_bytes, bytes_of}
use Rattle.fragments.specs.Cutting.{whole_of, no_offset, fragments_with, payload_parts, fragments_of, cut_whole, cut_into, CutAnswer, room_for_all, cut_stored, cutter}
use Rattle.fragments.specs.Stored.{WholeOptions, offset_place, cleaned_of, whole_by, Cuttable, fragments_by, fragments_size, fragmented, one_piece}
use Rattle.fragments.proofs.Options.{made_of}
use Rattle.fragments.proofs.Finding.{place-refused, place_clear}
use Rattle.fragments.proofs.Back.{whole-bytes}
use Rattle.fragments.proofs.Beginning.{size-all}

-- an answer and its buffer
abbrev pub answer : ℕ → ℕ → ℕ → ℕ → List ℕ → CutAnswer × List ℕ
answer n p k f b = (record { number = n; place = p; bytes = k; fragments = f }, b)

-- the numbers of a record that a reading's header has
pub record Same (r : Record) (k : MessageSpot) : Type 0 where
  pub flags : r.flags ≡ k.head.flags
  pub id : r.id.0 ≡ k.head.id
  pub sequence : r.sequence ≡ k.head.sequence
  pub seconds : r.seconds ≡ k.head.seconds
  pub nanos : r.nanos ≡ k.head.nanos

pub same_by : {q : Record} (h : Header) (n p e c : ℕ) → q ≡ record_by h → Same q (record { head = head_of_header h; run = n; payload = p; next = e; packages = c })
same_by h n p e c z = record { flags = ap (λ (x : Record). x.flags) z; id = ap (λ (x : Record). x.id.0) z; sequence = ap (λ (x : Record). x.sequence) z; seconds = ap (λ (x : Record). x.seconds) z; nanos = ap (λ (x : Record). x.nanos) z }

-- what a message that was read says where it is cut
pub record Read (s : List ℕ) (k : MessageSpot) : Type 0 where
  pub held : Message
  pub read : message 0 s ≡ good (held, k.head.size)
  pub options : held.options ≡ part 24 (24 + k.run) s
  pub run : length (part 24 (24 + k.run) s) ≡ k.run
  pub inside : 24 + k.run ≤ length s
  pub short : k.run ≤ 60
  pub fore : 24 ≤ k.payload
  pub least : k.payload ≤ k.next
  pub most : k.next ≤ length s
  pub small : length s ≤ 65536
  pub payload : length (part k.payload k.next s) ≡ k.next - k.payload
  pub cuts : Cuts (part k.payload k.next s)
  pub flags : k.head.flags / 16 % 4 ≡ 0
  pub byte : k.head.flags < 256
  pub whole : (r : Record) → Same r k → whole_of held ≡ whole_by r (part 24 (24 + k.run) s) (part k.payload k.next s)
  pub valid : rules.Valid held
  pub pay : length (whole_of held).payload ≡ k.next - k.payload
  pub long : length (whole_of held).options ≡ length (part 24 (24 + k.run) s)
  pub clean : clean_form s ≡ good (fragment_bytes (whole_of held))

module _ (s : List ℕ) (b : Bytes s) (l : length s ≤ 65536) (r : ℕ × List (List ℕ)) (e : every_check 0 s (head s) ≡ good r) where
  w : Passed 0 s (head s) r
  w = passes 0 s (head s) r e

  f : Fills Piece r.1 (part (payload_start (head s)) (head s).size s)
  f = fills 0 s r b w

  v : rules.Valid (record_of s (head s) r)
  v = valid 0 s r b w l

  message-is : message 0 s ≡ good (record_of s (head s) r, (head s).size)
  unfolding message
  message-is = step _ _ e refl

  pay_is : join (map piece_of (map package_of r.1)) ≡ cleaned_of (cut 0 (part (payload_start (head s)) (head s).size s))
  unfolding cleaned_of
  pay_is = rw (pieces-clean f (payload-bytes 0 s r b w), Cut.complete f 0)

  flags-lt : (head s).flags < 256
  unfolding head
  flags-lt = b.below 3

  whole_is : (q : Record) → q.flags ≡ (head s).flags → q.id.0 ≡ (head s).id → q.sequence ≡ (head s).sequence → q.seconds ≡ (head s).seconds → q.nanos ≡ (head s).nanos
      → whole_of (record_of s (head s) r) ≡ whole_by q (part 24 (24 + r.0) s) (part (payload_start (head s)) (head s).size s)
  unfolding whole_of record_of
  whole_is q a c d g h =
      let z : (head s).flags / 64 % 2 * 64 + (head s).flags % 16 + one_if_any (map package_of r.1) * 128 ≡ (head s).flags = flags-back (head s).flags (one_if_any (map package_of r.1)) flags-lt w.fragment (w.standard ∙ sym (any-filled f)) in
      rw (a, c, d, g, h, z, pay_is)

  run_is : length (part 24 (24 + r.0) s) ≡ r.0
  run_is = run_length 0 s r b w

  pay_size : length (whole_of (record_of s (head s) r)).payload ≡ (head s).size - payload_start (head s)
  unfolding whole_of record_of
  pay_size = payload-length 0 s r b w

  options-size : length (whole_of (record_of s (head s) r)).options ≡ length (part 24 (24 + r.0) s)
  unfolding whole_of record_of
  options-size = refl

  read-parts : Read s (record { head = head s; run = r.0; payload = payload_start (head s); next = (head s).size; packages = length r.1 })
  unfolding record_of
  read-parts = record {
    held = record_of s (head s) r;
    read = message-is;
    options = refl;
    run = run_is;
    inside = omega (arith, run_is, w.header.long, length-take (24 + r.0 - 24) (drop 24 s), length-drop 24 s);
    short = omega (arith, run_is, v.short);
    fore = omega arith;
    least = w.header.least;
    most = w.header.most;
    small = l;
    payload = rw (length-take, length-drop) (omega (arith, w.header.least, w.header.most));
    cuts = record { pieces = r.1; cuts = Cut.complete f 0 };
    flags = w.fragment;
    byte = flags-lt;
    whole = λ q m. whole_is q m.flags m.id m.sequence m.seconds m.nanos;
    valid = v;
    pay = pay_size;
    long = options-size;
    clean = read-written s b (record_of s (head s) r) (head s).size message-is ∙ ap good (sym (whole-bytes (record_of s (head s) r)));
  }

  pub read-spot : Read s (message_spot 0 (head s) r)
  unfolding message_spot
  read-spot = rw (zero-add (payload_start (head s)), zero-add (head s).size) read-parts

pub reads : (s : List ℕ) (k : MessageSpot) → Bytes s → good k ≡ message_at s 0 → Read s k
unfolding message_at
reads s k b e =
    let (t, g) = passed _ _ _ _ (sym e) in
    let (r, g, h) = stepped _ _ g in
    let q : message_spot 0 (head s) r ≡ k = good_inj h in
    rw (← q) (read-spot s b (ltb-false _ _ t) r g)

-- ---- the whole, cut

whole-fits : (w : Fragment) (size : ℕ) → length w.payload ≤ size → cut_whole size w ≡ good (w ∷ [])
unfolding cut_whole
whole-fits w size l = rw (le-leb (length w.payload) size l, cut_whole)

pub whole-full : (w : Fragment) (size : ℕ) → size < length w.payload → 54 < length w.options → cut_whole size w ≡ bad OPTION 24
unfolding cut_whole fragments_of
whole-full w size l h = rw (lt-leb (length w.payload) size l, cut_whole) (halt _ _ _ _ (lt-ltb 60 (length w.options + 6) (omega arith)))

whole_parts : (w : Fragment) (size : ℕ) → size < length w.payload → length w.options ≤ 54 → cut_whole size w ≡ good (fragments_with w (payload_parts size w.payload))
unfolding cut_whole fragments_of
whole_parts w size l h = rw (lt-leb (length w.payload) size l, cut_whole) (pass _ _ _ _ (le-ltb 60 (length w.options + 6) (omega arith)) refl)

halted : (b c : List ℕ) → ltb (length b) (length c) ≡ true → fitted b c ≡ bad ROOM (length c)
unfolding fitted
halted b c t = halt _ _ _ _ t

passing : (b c : List ℕ) → ltb (length b) (length c) ≡ false → fitted b c ≡ good c
unfolding fitted
passing b c t = pass _ _ _ _ t refl

stored-bad : (b : List ℕ) (n : ℕ) → cut_stored b (bad ROOM n) ≡ one_piece (stored b (bad ROOM n))
unfolding cut_stored stored one_piece
stored-bad b n = refl

stored-good : (b : List ℕ) (w : Fragment) → cut_stored b (good (w ∷ [])) ≡ one_piece (stored b (good (fragment_bytes w)))
unfolding cut_stored stored one_piece
stored-good b w = rw append-nil

-- one that is not cut is stored as the cleaner stores it
one-room : (w : Fragment) (buffer : List ℕ) (o : Outcome (List Fragment)) (p : Outcome (List ℕ)) → o ≡ good (w ∷ []) → p ≡ good (fragment_bytes w)
    → cut_stored buffer (o >>= room_for_all buffer) ≡ one_piece (stored buffer (p >>= fitted buffer))
unfolding room_for_all
one-room w buffer o p e f = ap (cut_stored buffer) (step _ _ e refl) ∙ go (ltb (length buffer) (length (fragment_bytes w))) refl ∙ sym (ap (λ (x : Outcome (List ℕ)). one_piece (stored buffer x)) (step _ _ f refl))
  where
    go : (b : Bool) → ltb (length buffer) (length (fragment_bytes w)) ≡ b → cut_stored buffer (fitted buffer (fragment_bytes w ++ []) >>= λ bytes. good (w ∷ [])) ≡ one_piece (stored buffer (fitted buffer (fragment_bytes w)))
    go true t = with-bad (fitted-bad t)
      where
        fitted-bad : ltb (length buffer) (length (fragment_bytes w)) ≡ true → fitted buffer (fragment_bytes w) ≡ bad ROOM (length (fragment_bytes w))
        fitted-bad t = halted buffer (fragment_bytes w) t

        with-bad : fitted buffer (fragment_bytes w) ≡ bad ROOM (length (fragment_bytes w)) → cut_stored buffer (fitted buffer (fragment_bytes w ++ []) >>= λ bytes. good (w ∷ [])) ≡ one_piece (stored buffer (fitted buffer (fragment_bytes w)))
        with-bad z = rw append-nil (ap (cut_stored buffer) (stop _ _ z) ∙ stored-bad buffer (length (fragment_bytes w)) ∙ sym (ap (λ (x : Outcome (List ℕ)). one_piece (stored buffer x)) z))
    go false t = with-good (passing buffer (fragment_bytes w) t)
      where
        with-good : fitted buffer (fragment_bytes w) ≡ good (fragment_bytes w) → cut_stored buffer (fitted buffer (fragment_bytes w ++ []) >>= λ bytes. good (w ∷ [])) ≡ one_piece (stored buffer (fitted buffer (fragment_bytes w)))
        with-good z = rw append-nil (ap (cut_stored buffer) (step _ _ z refl) ∙ stored-good buffer w ∙ sym (ap (λ (x : Outcome (List ℕ)). one_piece (stored buffer x)) z))

-- ---- the answers

same_bad : {A B C D : Type 0} (c : Outcome (Unit {0})) (o : Outcome A) (f : A → B) (h : A → Outcome C) (g : C → Outcome D) {n p : ℕ}
    → (c >> (o >>= λ a. good (f a))) ≡ bad n p → (c >> ((o >>= h) >>= g)) ≡ bad n p
unfolding ◌>>◌ ◌>>=◌
same_bad (bad m q) o f h g {n} {p} e = let i : m ≡ n = cc in let j : q ≡ p = cc in rw (i, j)
same_bad (good tt) (bad m q) f h g {n} {p} e = let i : m ≡ n = cc in let j : q ≡ p = cc in rw (i, j)
same_bad (good tt) (good a) f h g e = absurd (good≢bad (sym e))

module _ (size : ℕ) (s buffer : List ℕ) where
  -- a refusal before ROOM
  refusing : {n p : ℕ} → cut_into size s ≡ bad n p → answer n p 0 0 buffer ≡ cutter size s buffer
  unfolding cutter cut_stored
  refusing e = sym (ap (cut_stored buffer) (stop _ _ e))

  pub not_read : {n p : ℕ} → bad n p ≡ message_at s 0 → answer n p 0 0 buffer ≡ cutter size s buffer
  unfolding message_at cut_into message
  not_read e = refusing (same_bad _ _ _ _ _ (sym e))

  -- a refusal of the size
  module _ (k : MessageSpot) (r : Read s k) where
    from-size : {o : Outcome (List Fragment)} → (refuse (ltb size 4 || not (eqb (size % 4) 0)) LENGTH 0 >> (no_offset 24 (options_of r.held.options) >> cut_whole size (whole_of r.held))) ≡ o
        → cut_into size s ≡ o
    unfolding cut_into
    from-size e = pass _ _ _ _ (le-ltb 65536 (length s) r.small) (step _ _ r.read e)

    pub size_low : size < 4 → answer LENGTH 0 0 0 buffer ≡ cutter size s buffer
    size_low l = refusing (from-size (halt _ _ _ _ (rw (lt-ltb size 4 l))))

    pub size_odd : 4 ≤ size → (size % 4 ≡ 0 → ⊥) → answer LENGTH 0 0 0 buffer ≡ cutter size s buffer
    size_odd l m = refusing (from-size (halt _ _ _ _ (rw (le-ltb size 4 l, ne_eqb (size % 4) 0 m))))

    module _ (l : 4 ≤ size) (m : size % 4 ≡ 0) where
      from-options : {o : Outcome (List Fragment)} → (no_offset 24 (options_of r.held.options) >> cut_whole size (whole_of r.held)) ≡ o → cut_into size s ≡ o
      from-options e = from-size (pass _ _ _ _ (rw (le-ltb size 4 l, eq-eqb (size % 4) 0 m)) e)

      abbrev run : List ℕ
      run = part 24 (24 + k.run) s

      pub whole-options : WholeOptions run
      whole-options = record { run = rw (← r.options) r.valid.run }

      pub has_offset : (p : ℕ) → p ≡ offset_place (options_of run) → p < k.run → answer OPTION (24 + p) 0 0 buffer ≡ cutter size s buffer
      has_offset p e h =
          refusing (from-options (stop_before _ _ (rw (r.options, e) (place-refused (made_of run whole-options.run) 24 (omega (arith, r.run))))))

      module _ (p : ℕ) (e : p ≡ offset_place (options_of run)) (h : k.run ≤ p) where
        clear : no_offset 24 (options_of r.held.options) ≡ good tt
        clear = rw r.options (place_clear (made_of run whole-options.run) 24 (omega (arith, r.run)))

        from-whole : {o : Outcome (List Fragment)} → cut_whole size (whole_of r.held) ≡ o → cut_into size s ≡ o
        from-whole q = from-options (after _ _ clear q)

        -- a message whose payload fits
        pub fits-is : k.next - k.payload ≤ size → one_piece (cleaner s buffer) ≡ cutter size s buffer
        unfolding cleaner cutter
        fits-is z = sym (one-room (whole_of r.held) buffer (cut_into size s) (not_large s >> clean_form s) cut_into-is clean_is)
          where
            cut_into-is : cut_into size s ≡ good (whole_of r.held ∷ [])
            cut_into-is = from-whole (whole-fits (whole_of r.held) size (omega (arith, r.pay)))

            clean_is : (not_large s >> clean_form s) ≡ good (fragment_bytes (whole_of r.held))
            clean_is = pass _ _ _ _ (le-ltb 65536 (length s) r.small) r.clean

        pub full : size < k.next - k.payload → 54 < k.run → answer OPTION 24 0 0 buffer ≡ cutter size s buffer
        full y z = refusing (from-whole (whole-full (whole_of r.held) size (omega (arith, r.pay)) (omega (arith, r.long, r.run))))

        module _ (q : Record) (same : Same q k) (more : size < k.next - k.payload) where
          whole : whole_of r.held ≡ whole_by q run (part k.payload k.next s)
          whole = r.whole q same

          pub cuttable : k.run ≤ 54 → Cuttable q run (part k.payload k.next s) size
          cuttable z = record {
            flags = rw same.flags r.flags;
            small = rw same.flags r.byte;
            room = omega (arith, r.run);
            least = l;
            words = m;
            more = omega (arith, r.payload);
            most = omega (arith, r.payload, r.most, r.small);
            cuts = r.cuts;
          }

          pub cut-is : k.run ≤ 54 → fragmented q run (part k.payload k.next s) size buffer ≡ cutter size s buffer
          unfolding fragmented cutter
          cut-is z = sym (ap (cut_stored buffer) (step _ _ (from-whole (whole_parts (whole_of r.held) size (omega (arith, r.pay)) (omega (arith, r.long, r.run)) ∙ ap (λ (x : Fragment). good (fragments_with x (payload_parts size x.payload))) whole)) refl))

-- ---- one piece, by what the cleaner answered

pub one-refused : (n p : ℕ) (b : List ℕ) {w : Written × List ℕ} → (n ≡ 0 → ⊥) → (unwritten n p, b) ≡ w → answer n p 0 0 b ≡ one_piece w
unfolding one_piece
one-refused n p b h e = rw (← e) (rw (ne_eqb n 0 h))

pub one-done : (n : ℕ) (b : List ℕ) {w : Written × List ℕ} → (record { number = 0; place = 0; bytes = n }, b) ≡ w → answer 0 0 n 1 b ≡ one_piece w
unfolding one_piece
one-done n b e = rw (← e)

-- ---- the fragments of a message that was checked

-- how many fragments there are at least and at most
pub count-some : (n k size : ℕ) → 1 ≤ n → n ≤ k * size → 1 ≤ k
count-some n zero size h l = absurd (let z : zero * size ≡ 0 = zero-mul size in omega arith)
count-some n (suc k) size h l = omega arith

pub count-few : (n k size : ℕ) → 1 ≤ size → k * size < n + size → k ≤ n + size
count-few n k size h l = let z : k * 1 ≤ k * size = mul-le-mul_left k h in omega arith

pub size_is : (options packages : List ℕ) (c : ℕ) {m : ℕ} → m ≡ pad (length options + 6) → 24 + m + length packages + 32 * (c - 1) ≡ fragments_size options packages c
size_is options packages c e = rw e

module _ (r : Record) (options packages : List ℕ) (size : ℕ) (k : Cuttable r options packages size) (b : List ℕ) {n c : ℕ} (en : n ≡ fragments_size options packages c) (ec : c ≡ length (fragments_by r options packages size)) where
  long : length (bytes_of (fragments_by r options packages size)) ≡ n
  long = size-all r options packages size k ∙ sym (en ∙ ap (fragments_size options packages) ec)

  pub roomless : length b < n → answer ROOM n 0 0 b ≡ fragmented r options packages size b
  unfolding fragmented cut_stored room_for_all fitted
  roomless l = sym (ap (cut_stored b) (stop _ _ (halt _ _ _ _ (rw long (lt-ltb (length b) n l)))) ∙ rw long)

  pub done : (b' : List ℕ) → n ≤ length b → b' ≡ sets b 0 (bytes_of (fragments_by r options packages size)) → answer 0 0 n c b' ≡ fragmented r options packages size b
  unfolding fragmented cut_stored room_for_all fitted
  done b' l e = sym (ap (cut_stored b) (step _ _ (pass _ _ _ _ (rw long (le-ltb (length b) n l)) refl) refl) ∙ rw (long, ← e, ← ec))
