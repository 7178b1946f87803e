-- What joining answers, by what was gathered.
use lib.Dec.{ltb}
use Rattle.std.specs.Int.{from_bool}
use Prim.Native.Nat.{ℕ, suc, ◌+◌, ◌-◌, ◌*◌, ◌/◌, ◌%◌, ◌≤◌, ◌<◌}
use mathlib.Core.Path.{◌≡◌, refl, sym, ap, ◌∙◌}
use mathlib.Core.Bool.{Bool, true, false}
use mathlib.Core.List.{List, [], ◌∷◌, ◌++◌, append-nil, append_assoc}
use mathlib.Core.Option.{none}
use native.Mathlib.Nat.{add-zero, zero-add}
use native.Mathlib.Omega.{arith}
use borrow.Author.Tests.{lt-ltb, le-ltb, eq-eqb, ne_eqb}
use lib.Dec.{eqb}
use lib.ListN.{length, take, drop, replicate, length-append, length-take}
use lib.Seq.{take_all, sets, sets-eq, take_at, drop_at, take-append_seam, drop-append_seam}
use borrow.Rule.Slice.PartMut.{put_mid}
use Rattle.rules.specs.Outcome.{Outcome, good, bad, refuse, ◌>>◌, ◌>>=◌, STANDARD, PACKAGE, COUNT, ROOM, LARGE}
use Rattle.rules.specs.Bytes.{Bytes, pad, padded, part, one_if_any}
use Rattle.rules.specs.Options.{count_said, differs}
use Rattle.rules.specs.Packages.{cut}
use Rattle.rules.specs.Message.{Head, head, payload_start, fragment_bits, standard_bit, every_check}
use Rattle.rules.specs.Reading.{message_spot}
use Rattle.rules.specs.Clean.{clean_form}
use Rattle.rules.specs.Buffer.{Written, stored, fitted}
use Rattle.rules.proofs.Outcomes.{pass, halt, step, stop, stepped, good_inj, good≢bad, refused-only}
use Rattle.compose.specs.declared.Record.{Record}
use Rattle.compose.specs.Payload.{Cuts, header_of}
use Rattle.fragments.specs.Fragment.{WHOLE, other_bits, Fragment, options_of, without_offset, fragment, fragment_bytes, payloads_of}
use Rattle.fragments.specs.Told.{record_whole}
use Rattle.message.specs.declared.Header.{Header}
use Rattle.message.specs.Answers.{head_of_header}
use Rattle.fragments.specs.Cutting.{whole_of}
use Rattle.fragments.specs.Joining.{fragments_from, kept_options, joined_with, at_start, clean_joined, joined, joiner}
use Rattle.fragments.specs.declared.Passed.{Passed}
use Rattle.fragments.specs.Stored.{cleaned_of, whole_by, scan, starts, gathered, header_at, payloads_in, one_if, kept_by, Joinable, Storable, WholeOptions}
use Rattle.fragments.proofs.Gathering.{Headed, headed, nothing, first_stopped, first-options}
use Rattle.fragments.proofs.One.{standard-bit}
use Rattle.fragments.proofs.Payloads.{taken_here}
use Rattle.fragments.proofs.Options.{made_of, once_of, said-without}
use Rattle.fragments.proofs.Again.{Valid, head-again, run-part, payload-again, open_checks, whole-checks, length-fragment}
use Rattle.fragments.proofs.Readings.{ReadAll, reads_all}
use Rattle.fragments.proofs.Joining.{whole_valid, whole-bytes, whole-short}
use Rattle.fragments.proofs.Scan.{Verdict, yes, no, verdict}
use Rattle.rules.proofs.Pieces.{length-padded}
use Rattle.fragments.proofs.Stores.{glue, front_bytes}
use Rattle.fragments.proofs.Beginning.{cleaned-length}
use Rattle.fragments.proofs.Answering as Answering
use Rattle.fragments.proofs.Answering.{Same}

-- the answer of an outcome, and its buffer
abbrev pub answer : ℕ → ℕ → ℕ → List ℕ → Written × List ℕ
answer n p k b = (record { number = n; place = p; bytes = k }, b)

-- a record that has the numbers of w
abbrev pub Numbers : Record → Fragment → Type 0
Numbers q w = (q.flags ≡ w.flags) × (q.id.0 ≡ w.id) × (q.sequence ≡ w.sequence) × (q.seconds ≡ w.seconds) × (q.nanos ≡ w.nanos)

-- the clean form of a whole one, by its parts
module _ (w : Fragment) (v : Valid w) (b : Bytes (fragment_bytes w)) (l : length (fragment_bytes w) ≤ 65536) (z : w.bits ≡ WHOLE) (q : Record) (same : Numbers q w) (cs : List (List ℕ))
    (y : every_check 0 (fragment_bytes w) (head (fragment_bytes w)) ≡ good (length w.options, cs)) where
  abbrev t : List ℕ
  t = fragment_bytes w

  abbrev r : ℕ × List (List ℕ)
  r = (length w.options, cs)

  read : Answering.Read t (message_spot 0 (head t) r)
  read = Answering.read-spot t b l r y

  head-is : head t ≡ record { version = 1; words = length (padded w.options) / 4; kind = 0; flags = w.flags + w.bits * 16; id = w.id; sequence = w.sequence; size = 24 + length (padded w.options) + length w.payload; seconds = w.seconds; nanos = w.nanos }
  head-is = rw append-nil at (head-again w v [])

  flags-is : q.flags ≡ (head t).flags
  flags-is = let u : w.flags + w.bits * 16 ≡ w.flags = omega arith in rw (head-is, u) same.0

  same_spot : Same q (message_spot 0 (head t) r)
  unfolding message_spot
  same_spot = record {
    flags = flags-is;
    id = rw head-is same.1;
    sequence = rw head-is same.2;
    seconds = rw head-is same.3;
    nanos = rw head-is same.4;
  }

  options-is : part 24 (24 + length w.options) t ≡ w.options
  options-is = rw append-nil at (run-part w v [])

  payload-is : part (payload_start (head t)) (head t).size t ≡ w.payload
  payload-is = rw append-nil at (payload-again w v [])

  whole_is : whole_of read.held ≡ whole_by q w.options w.payload
  unfolding message_spot
  whole_is = read.whole q same_spot ∙ rw (options-is, zero-add (payload_start (head t)), zero-add (head t).size, payload-is)

  clean_of : clean_form t ≡ good (fragment_bytes (whole_by q w.options w.payload))
  clean_of = read.clean ∙ ap (λ (x : Fragment). good (fragment_bytes x)) whole_is

module _ (s : List ℕ) (bs : Bytes s) (l : length s ≤ 65536) (f : Fragment) (fs : List Fragment) (e : fragments_from none 0 0 s ≡ good (f ∷ fs)) where
  all : ReadAll s (f ∷ fs)
  all = reads_all none 0 0 s bs l e

  abbrev w : Fragment
  w = joined_with f fs

  v : Valid w
  v = whole_valid f fs s l all

  is_whole : w.bits ≡ WHOLE
  unfolding joined_with
  is_whole = refl

  checks : every_check 0 (fragment_bytes w) (head (fragment_bytes w)) ≡ open_checks w v [] 0
  checks = rw append-nil at (whole-checks w v [] 0 is_whole)

  -- refused, from check 9 on
  joined-bad : {n p : ℕ} (b : List ℕ) → open_checks w v [] 0 ≡ bad n p → answer n 0 0 b ≡ joiner s b
  unfolding joiner joined clean_joined clean_form at_start stored
  joined-bad b z = sym (ap (stored b) (stop _ _ (pass _ _ _ _ (le-ltb 65536 (length s) l) (step _ _ e (ap at_start (stop _ _ (checks ∙ z)))))))

  pub not_standard : (b : List ℕ) → (standard_bit w.flags ≡ one_if_any w.payload → ⊥) → answer STANDARD 0 0 b ≡ joiner s b
  not_standard b h = joined-bad b (halt _ _ _ _ (rw (ne_eqb (standard_bit w.flags) (one_if_any w.payload) h)))

  module _ (std : standard_bit w.flags ≡ one_if_any w.payload) where
    after-standard : {o : Outcome (ℕ × List (List ℕ))} → (cut (0 + (24 + length (padded w.options))) w.payload >>= λ cs. (refuse (differs (count_said w.options) (length cs)) COUNT 0 >> good (length w.options, cs))) ≡ o → open_checks w v [] 0 ≡ o
    after-standard z = pass _ _ _ _ (rw (eq-eqb (standard_bit w.flags) (one_if_any w.payload) std)) z

    pub not_packages : (b : List ℕ) → (scan 0 w.payload ≡ 0 → ⊥) → answer PACKAGE 0 0 b ≡ joiner s b
    not_packages b h = go (verdict 0 (0 + (24 + length (padded w.options))) w.payload v.words)
      where
        go : Verdict (cut (0 + (24 + length (padded w.options))) w.payload) (scan 0 w.payload) (starts 0 w.payload) → answer PACKAGE 0 0 b ≡ joiner s b
        go (yes cs y z c) = absurd (h z)
        go (no q y z) = joined-bad b (after-standard (stop _ _ y))

    pub cuts : scan 0 w.payload ≡ 0 → Cuts w.payload
    cuts z = go (verdict 0 0 w.payload v.words)
      where
        go : Verdict (cut 0 w.payload) (scan 0 w.payload) (starts 0 w.payload) → Cuts w.payload
        go (yes cs y z c) = record { pieces = cs; cuts = y }
        go (no q y n) = absurd (n z)

    pub not_counted : scan 0 w.payload ≡ 0 → (b : List ℕ) → differs (count_said w.options) (starts 0 w.payload) ≡ true → answer COUNT 0 0 b ≡ joiner s b
    not_counted z b h = go (verdict 0 (0 + (24 + length (padded w.options))) w.payload v.words)
      where
        go : Verdict (cut (0 + (24 + length (padded w.options))) w.payload) (scan 0 w.payload) (starts 0 w.payload) → answer COUNT 0 0 b ≡ joiner s b
        go (yes cs y x c) = joined-bad b (after-standard (step _ _ y (halt _ _ _ _ (rw c h))))
        go (no q y n) = absurd (n z)

    module _ (q : Record) (same : Numbers q w) (fill : scan 0 w.payload ≡ 0) (right : differs (count_said w.options) (starts 0 w.payload) ≡ false) where
      abbrev c : List ℕ
      c = fragment_bytes (whole_by q w.options w.payload)

      checks-good : (cs : List (List ℕ)) → cut (0 + (24 + length (padded w.options))) w.payload ≡ good cs → length cs ≡ starts 0 w.payload → every_check 0 (fragment_bytes w) (head (fragment_bytes w)) ≡ good (length w.options, cs)
      checks-good cs y c = checks ∙ after-standard (step _ _ y (pass _ _ _ _ (rw c right) refl))

      clean_is : clean_form (fragment_bytes w) ≡ good c
      clean_is = go (verdict 0 (0 + (24 + length (padded w.options))) w.payload v.words)
        where
          by : (cs : List (List ℕ)) → every_check 0 (fragment_bytes w) (head (fragment_bytes w)) ≡ good (length w.options, cs) → clean_form (fragment_bytes w) ≡ good c
          by cs y = clean_of w v (whole-bytes f fs s l all) (omega (arith, whole-short f fs s l all)) is_whole q same cs y

          go : Verdict (cut (0 + (24 + length (padded w.options))) w.payload) (scan 0 w.payload) (starts 0 w.payload) → clean_form (fragment_bytes w) ≡ good c
          go (yes cs y z m) = by cs (checks-good cs y m)
          go (no p y z) = absurd (z fill)

      size_is : length c ≡ 24 + pad (length w.options) + length w.payload
      unfolding fragment_bytes
      size_is = omega (arith, length-append (padded w.options) (cleaned_of (cut 0 w.payload)), length-padded w.options, cleaned-length w.payload (cuts fill))

      outcome : joined s ≡ good c
      unfolding joined clean_joined at_start
      outcome = pass _ _ _ _ (le-ltb 65536 (length s) l) (step _ _ e (ap at_start clean_is))

      pub no_room : {n : ℕ} (b : List ℕ) → n ≡ 24 + pad (length w.options) + length w.payload → length b < n → answer ROOM n 0 b ≡ joiner s b
      unfolding joiner stored fitted
      no_room {n} b z h =
          let u : length c ≡ n = size_is ∙ sym z in
          sym (ap (stored b) (step _ _ outcome (halt _ _ _ _ (rw u (lt-ltb (length b) n h)))) ∙ rw u)

      pub all-stored : {n : ℕ} (b b' : List ℕ) → n ≡ 24 + pad (length w.options) + length w.payload → n ≤ length b → b' ≡ sets b 0 c → answer 0 0 n b' ≡ joiner s b
      unfolding joiner stored fitted
      all-stored {n} b b' z h y =
          let u : length c ≡ n = size_is ∙ sym z in
          sym (ap (stored b) (step _ _ outcome (pass _ _ _ _ (rw u (le-ltb (length b) n h)) refl)) ∙ rw (u, ← y))

-- ---- stored

module _ (r : Record) (o s : List ℕ) (b : List ℕ) (k m n : ℕ) (pay : List ℕ) (ek : k ≡ length o) (em : m ≡ pad k) (en : n ≡ 24 + pad k + length pay) (cut-it : Cuts pay) (room : n ≤ length b) where
  abbrev header : List ℕ
  header = header_of (m / 4) r.flags r.id.0 r.sequence n r.seconds r.nanos

  abbrev front : List ℕ
  front = header ++ padded o

  front_long : length front ≡ 24 + m
  front_long = length-append header (padded o) ∙ omega (arith, length-padded o)

  pub joined_raw : {b₁ b₂ b₃ b₄ : List ℕ} → b₁ ≡ sets b 0 header → b₂ ≡ sets b₁ 24 o → b₃ ≡ sets b₂ (24 + k) (replicate (m - k) 0) → b₄ ≡ sets b₃ (24 + m) pay → b₄ ≡ sets b 0 (front ++ pay)
  joined_raw {b₁} {b₂} {b₃} {b₄} e f g h =
      let k₁ : b₂ ≡ sets b 0 (header ++ o) = f ∙ rw e (glue header o b 0 24 refl) in
      let k₂ : b₃ ≡ sets b 0 ((header ++ o) ++ replicate (m - k) 0) = g ∙ rw k₁ (glue (header ++ o) (replicate (m - k) 0) b 0 (24 + k) (omega (arith, length-append header o))) in
      let u : m - k ≡ pad (length o) - length o = omega arith in
      let same : (header ++ o) ++ replicate (m - k) 0 ≡ front = append_assoc header o (replicate (m - k) 0) ∙ ap (λ (x : ℕ). header ++ (o ++ replicate x 0)) u in
      let k₃ : b₃ ≡ sets b 0 front = k₂ ∙ ap (sets b 0) same in
      h ∙ rw k₃ (glue front pay b 0 (24 + m) (omega (arith, front_long)))

  module _ (b₄ : List ℕ) (e : b₄ ≡ sets b 0 (front ++ pay)) where
    all-long : length (front ++ pay) ≡ n
    all-long = length-append front pay ∙ omega (arith, front_long, en, em)

    fourth : b₄ ≡ front ++ (pay ++ drop n b)
    fourth =
        let z : 0 + length (front ++ pay) ≡ n = omega (arith, all-long) in
        e ∙ sets-eq (front ++ pay) b 0 (omega (arith, all-long)) ∙ rw z (append_assoc front pay (drop n b))

    behind : drop (24 + m) b₄ ≡ pay ++ drop n b
    behind = ap (drop (24 + m)) fourth ∙ drop_at front (pay ++ drop n b) (24 + m) front_long

    gap_is : n - (24 + m) ≡ length pay
    gap_is = omega (arith, en, em)

    pub pay_back : take (n - (24 + m)) (drop (24 + m) b₄) ≡ pay
    pay_back = rw (gap_is, behind, take-append_seam)

    pub joined-clean : (ys : List ℕ) → ys ≡ cleaned_of (cut 0 (take (n - (24 + m)) (drop (24 + m) b₄))) → put_mid (24 + m) (n - (24 + m)) b₄ ys ≡ sets b 0 (fragment_bytes (whole_by r o pay))
    joined-clean ys f =
        let y : ys ≡ cleaned_of (cut 0 pay) = f ∙ ap (λ (x : List ℕ). cleaned_of (cut 0 x)) pay_back in
        let t : take (24 + m) b₄ ≡ front = ap (take (24 + m)) fourth ∙ take_at front (pay ++ drop n b) (24 + m) front_long in
        let d : drop (n - (24 + m)) (drop (24 + m) b₄) ≡ drop n b = rw (gap_is, behind, drop-append_seam) in
        let lc : length (cleaned_of (cut 0 pay)) ≡ length pay = cleaned-length pay cut-it in
        let whole : front ++ cleaned_of (cut 0 pay) ≡ fragment_bytes (whole_by r o pay) =
        let u : 24 + m + length pay ≡ n = omega (arith, en, em) in
        let v : r.flags + 0 ≡ r.flags = add-zero r.flags in
        sym (ap (λ (x : ℕ). header_of (m / 4) x r.id.0 r.sequence n r.seconds r.nanos ++ padded o ++ cleaned_of (cut 0 pay)) v)
        ∙ sym (ap (λ (x : ℕ). header_of (m / 4) (r.flags + 0) r.id.0 r.sequence x r.seconds r.nanos ++ padded o ++ cleaned_of (cut 0 pay)) u)
        ∙ front_bytes r 0 o (cleaned_of (cut 0 pay)) m (length pay) (length-padded o ∙ sym (em ∙ ap pad ek)) lc in
        let wl : length (fragment_bytes (whole_by r o pay)) ≡ n = ap length (sym whole) ∙ length-append front (cleaned_of (cut 0 pay)) ∙ omega (arith, front_long, lc, en, em) in
        let z : 0 + length (fragment_bytes (whole_by r o pay)) ≡ n = omega (arith, wl) in
        let last : sets b 0 (fragment_bytes (whole_by r o pay)) ≡ fragment_bytes (whole_by r o pay) ++ drop n b =
        sets-eq (fragment_bytes (whole_by r o pay)) b 0 (omega (arith, wl)) ∙ ap (λ (x : ℕ). fragment_bytes (whole_by r o pay) ++ drop x b) z in
        rw (t, y, d) (sym (append_assoc front (cleaned_of (cut 0 pay)) (drop n b)) ∙ ap (λ (x : List ℕ). x ++ drop n b) whole ∙ sym last)

any-length : (q : List ℕ) → one_if_any q ≡ one_if (length q)
unfolding one_if
any-length [] = refl
any-length (x ∷ q) = sym (rw (lt-ltb 0 (suc (length q)) (omega arith), one_if))

-- ---- small ones

pub one-is : (n : ℕ) → from_bool (ltb 0 n) ≡ one_if n
unfolding one_if
one-is n = go (ltb 0 n)
  where
    go : (b : Bool) → from_bool b ≡ elim b [ true ↦ 1 | false ↦ 0 ]
    go true = refl
    go false = refl

pub kept_whole : (bits : ℕ) (run : List ℕ) → bits ≡ 0 → run ≡ kept_by bits run
unfolding kept_by
kept_whole bits run e = rw (eq-eqb bits WHOLE e, kept_by)

pub kept-cut : (bits : ℕ) (run : List ℕ) → (bits ≡ 0 → ⊥) → without_offset (options_of run) ≡ kept_by bits run
unfolding kept_by
kept-cut bits run h = rw (ne_eqb bits WHOLE h, kept_by)

pub part-all : (run : List ℕ) → part 0 (0 + length run) run ≡ run
part-all run = let z : 0 + length run - 0 ≡ length run = omega arith in rw (z, take_all (length run) run (omega arith))

-- ---- what was gathered

pub record Opened (s : List ℕ) (g : Head) (n o : ℕ) (st : Passed) : Type 0 where
  pub first : Fragment
  pub more : List Fragment
  pub read : fragments_from none 0 0 s ≡ good (first ∷ more)
  pub total : o ≡ length (payloads_of (first ∷ more))
  pub state : st.state ≡ scan 0 (payloads_of (first ∷ more))
  pub packages : st.packages ≡ starts 0 (payloads_of (first ∷ more))
  pub bits : first.bits ≡ fragment_bits g.flags
  pub flags : first.flags ≡ other_bits g.flags
  pub id : first.id ≡ g.id
  pub sequence : first.sequence ≡ g.sequence
  pub seconds : first.seconds ≡ g.seconds
  pub nanos : first.nanos ≡ g.nanos
  pub options : first.options ≡ part 24 (24 + n) s
  pub headed : Headed s 0 g n

opens : (s : List ℕ) (g : Head) (n o : ℕ) (st : Passed) → Bytes s → Joinable s g n o st → Opened s g n o st
unfolding gathered
opens s g n o st b j =
    let (fs, r, e) = stepped _ _ (sym j.all) in
    by fs r (good_inj e)
  where
    d : Headed s 0 g n
    d = headed s 0 b j.small g n j.read

    held_by : (f : Fragment) (k : List Fragment) (m : ℕ) → fragments_from none 0 0 s ≡ good (f ∷ k) → fragment 0 s ≡ good (f, m) → o ≡ length (payloads_of (f ∷ k)) → st.state ≡ scan 0 (payloads_of (f ∷ k)) → st.packages ≡ starts 0 (payloads_of (f ∷ k)) → Opened s g n o st
    held_by f k m r x y z c =
        let zf : f ≡ d.held = ap (λ (p : Fragment × ℕ). p.0) (good_inj (sym x ∙ d.read)) in
        record {
          first = f;
          more = k;
          read = r;
          total = y;
          state = z;
          packages = c;
          bits = ap (λ (p : Fragment). p.bits) zf ∙ d.bits;
          flags = ap (λ (p : Fragment). p.flags) zf ∙ d.flags;
          id = ap (λ (p : Fragment). p.id) zf ∙ d.id;
          sequence = ap (λ (p : Fragment). p.sequence) zf ∙ d.sequence;
          seconds = ap (λ (p : Fragment). p.seconds) zf ∙ d.seconds;
          nanos = ap (λ (p : Fragment). p.nanos) zf ∙ d.nanos;
          options = ap (λ (p : Fragment). p.options) zf ∙ d.options;
          headed = d;
        }

    by : (fs : List Fragment) → fragments_from none 0 0 s ≡ good fs → ◌≡◌ {A = ℕ × ℕ × ℕ} (length (payloads_of fs), scan 0 (payloads_of fs), starts 0 (payloads_of fs)) (o, st.state, st.packages) → Opened s g n o st
    by fs r z =
        let (f, k, m, q, x, y) = taken_here none 0 s (omega (arith, d.most, d.start)) r in
        held_by f k m (r ∙ ap good (sym q)) x
        (sym (ap (λ (p : ℕ × ℕ × ℕ). p.0) z) ∙ ap (λ (p : List Fragment). length (payloads_of p)) (sym q))
        (sym (ap (λ (p : ℕ × ℕ × ℕ). p.1) z) ∙ ap (λ (p : List Fragment). scan 0 (payloads_of p)) (sym q))
        (sym (ap (λ (p : ℕ × ℕ × ℕ). p.2) z) ∙ ap (λ (p : List Fragment). starts 0 (payloads_of p)) (sym q))

-- the options that are kept say the same number
kept-said : (bits : ℕ) (run : List ℕ) → WholeOptions run → count_said (kept_by bits run) ≡ count_said run
unfolding kept_by
kept-said bits run h = go (eqb bits WHOLE) refl
  where
    go : (b : Bool) → eqb bits WHOLE ≡ b → count_said (kept_by bits run) ≡ count_said run
    go true t = rw (t, kept_by)
    go false t = rw (t, kept_by) (said-without (made_of run h.run) (once_of run h.run))

kept-is : (f : Fragment) → kept_options f ≡ kept_by f.bits f.options
unfolding kept_options kept_by
kept-is f = refl

-- ---- the answers, by the first header and what was gathered

module _ (s : List ℕ) (bs : Bytes s) (h : Header) (o : ℕ) (st : Passed) (j : Joinable s (head_of_header h) h.run o st) where
  pub op : Opened s (head_of_header h) h.run o st
  op = opens s (head_of_header h) h.run o st bs j

  abbrev whole : Fragment
  whole = joined_with op.first op.more

  payload_of_lem : whole.payload ≡ payloads_of (op.first ∷ op.more)
  unfolding joined_with
  payload_of_lem = refl

  pub payload_in : payloads_in (fragments_from none 0 0 s) ≡ whole.payload
  unfolding payloads_in joined_with
  payload_in = rw op.read

  pub options_of_lem : whole.options ≡ kept_by (fragment_bits h.flags) (part 24 (24 + h.run) s)
  unfolding joined_with
  options_of_lem = kept-is op.first ∙ ap (λ (x : ℕ). kept_by x op.first.options) op.bits ∙ ap (kept_by (fragment_bits h.flags)) op.options

  standard_of : standard_bit whole.flags ≡ h.flags / 128 % 2
  unfolding joined_with
  standard_of = rw op.flags (standard-bit h.flags)

  any_of : one_if_any whole.payload ≡ one_if o
  any_of = ap one_if_any payload_of_lem ∙ any-length (payloads_of (op.first ∷ op.more)) ∙ ap one_if (sym op.total)

  numbers_of : Numbers (record_whole h) whole
  unfolding joined_with
  numbers_of = (sym op.flags, sym op.id, sym op.sequence, sym op.seconds, sym op.nanos)

  state_of_lem : scan 0 whole.payload ≡ st.state
  state_of_lem = rw payload_of_lem (sym op.state)

  pub run-whole-options : WholeOptions (part 24 (24 + h.run) s)
  run-whole-options = first-options s (head_of_header h) h.run op.headed

  -- the number that the first run says is that of the kept options
  said_of : differs (count_said whole.options) (starts 0 whole.payload) ≡ differs (count_said (part 24 (24 + h.run) s)) st.packages
  said_of =
      ap (λ (x : List ℕ). differs (count_said x) (starts 0 whole.payload)) options_of_lem
      ∙ rw (kept-said (fragment_bits h.flags) (part 24 (24 + h.run) s) run-whole-options, payload_of_lem, ← op.packages)

  pub run-few : length (part 24 (24 + h.run) s) ≤ 60
  run-few = let d = op.headed in omega (arith, d.run, d.few, length-take (24 + h.run - 24) (drop 24 s))

  pub kept-few : length (kept_by (fragment_bits h.flags) (part 24 (24 + h.run) s)) ≤ 60
  kept-few = rw (← options_of_lem) (whole_valid op.first op.more s j.small (reads_all none 0 0 s bs j.small op.read)).short

  pub payload-few : length (payloads_in (fragments_from none 0 0 s)) < 65536
  payload-few =
      let all = reads_all none 0 0 s bs j.small op.read in
      rw payload_in (omega (arith, length-fragment whole (whole_valid op.first op.more s j.small all) [], whole-short op.first op.more s j.small all, j.small))

  pub payload-long : o ≡ length (payloads_in (fragments_from none 0 0 s))
  payload-long = op.total ∙ ap length (sym payload_of_lem) ∙ ap length (sym payload_in)

  pub end-standard : (b : List ℕ) → (h.flags / 128 % 2 ≡ one_if o → ⊥) → answer STANDARD 0 0 b ≡ joiner s b
  end-standard b n = not_standard s bs j.small op.first op.more op.read b (λ z. n (sym standard_of ∙ z ∙ any_of))

  module _ (std : h.flags / 128 % 2 ≡ one_if o) where
    std_of : standard_bit whole.flags ≡ one_if_any whole.payload
    std_of = standard_of ∙ std ∙ sym any_of

    pub end_package : (b : List ℕ) → (st.state ≡ 0 → ⊥) → answer PACKAGE 0 0 b ≡ joiner s b
    end_package b n = not_packages s bs j.small op.first op.more op.read std_of b (λ z. n (sym state_of_lem ∙ z))

    module _ (zero-state : st.state ≡ 0) where
      fills : scan 0 whole.payload ≡ 0
      fills = state_of_lem ∙ zero-state

      pub end-count : (b : List ℕ) → differs (count_said (part 24 (24 + h.run) s)) st.packages ≡ true → answer COUNT 0 0 b ≡ joiner s b
      end-count b n = not_counted s bs j.small op.first op.more op.read std_of fills b (said_of ∙ n)

      pub cuts_of : Cuts (payloads_in (fragments_from none 0 0 s))
      cuts_of = rw payload_in (cuts s bs j.small op.first op.more op.read std_of fills)

      size_of_lem : {k m n : ℕ} → k ≡ length (kept_by (fragment_bits h.flags) (part 24 (24 + h.run) s)) → m ≡ pad k → n ≡ 24 + m + o → n ≡ 24 + pad (length whole.options) + length whole.payload
      size_of_lem {k} {m} {n} x y z =
          let u : k ≡ length whole.options = x ∙ ap length (sym options_of_lem) in
          let v : o ≡ length whole.payload = op.total ∙ ap length (sym payload_of_lem) in
          omega arith

      pub storable : {k m n : ℕ} (b : List ℕ) → k ≡ length (kept_by (fragment_bits h.flags) (part 24 (24 + h.run) s)) → m ≡ pad k → n ≡ 24 + m + o → n ≤ length b
          → Storable b (fragment_bits h.flags) (part 24 (24 + h.run) s) s k n
      storable {k} {m} {n} b x y z l = record {
        kept = x;
        short = run-few;
        less = rw x kept-few;
        input = j.small;
        payload = payload-few;
        cuts = cuts_of;
        size = omega (arith, payload-long);
        room = l;
      }

      pub end-room : {k m n : ℕ} (b : List ℕ) → k ≡ length (kept_by (fragment_bits h.flags) (part 24 (24 + h.run) s)) → m ≡ pad k → n ≡ 24 + m + o → length b < n
          → differs (count_said (part 24 (24 + h.run) s)) st.packages ≡ false → answer ROOM n 0 b ≡ joiner s b
      end-room b x y z l u = no_room s bs j.small op.first op.more op.read std_of (record_whole h) numbers_of fills (said_of ∙ u) b (size_of_lem x y z) l

      pub end-stored : {k m n : ℕ} (b b' : List ℕ) → k ≡ length (kept_by (fragment_bits h.flags) (part 24 (24 + h.run) s)) → m ≡ pad k → n ≡ 24 + m + o → n ≤ length b
          → b' ≡ sets b 0 (fragment_bytes (whole_by (record_whole h) (kept_by (fragment_bits h.flags) (part 24 (24 + h.run) s)) (payloads_in (fragments_from none 0 0 s)))) → differs (count_said (part 24 (24 + h.run) s)) st.packages ≡ false → answer 0 0 n b' ≡ joiner s b
      end-stored b b' x y z l e u =
          all-stored s bs j.small op.first op.more op.read std_of (record_whole h) numbers_of fills (said_of ∙ u) b b' (size_of_lem x y z) l (e ∙ ap (λ (p : List ℕ). sets b 0 (fragment_bytes (whole_by (record_whole h) p (payloads_in (fragments_from none 0 0 s))))) (sym options_of_lem) ∙ ap (λ (p : List ℕ). sets b 0 (fragment_bytes (whole_by (record_whole h) whole.options p))) payload_in)

-- ---- refusals before

pub too_large : (s b : List ℕ) → 65536 < length s → answer LARGE 65536 0 b ≡ joiner s b
unfolding joiner joined stored
too_large s b l = sym (ap (stored b) (stop _ _ (halt _ _ _ _ (lt-ltb 65536 (length s) l))))

pub not_gathered : (s b : List ℕ) {n p : ℕ} → length s ≤ 65536 → bad n p ≡ gathered s → answer n p 0 b ≡ joiner s b
unfolding joiner joined stored gathered
not_gathered s b {n} {p} l e = sym (ap (stored b) (stop _ _ (pass _ _ _ _ (le-ltb 65536 (length s) l) (stop _ _ (refused-only _ _ (sym e))))))

pub never : {A : Type 0} (s : List ℕ) {n p o st k : ℕ} → 1 ≤ length s → bad n p ≡ header_at s 0 → good (o, st, k) ≡ gathered s → A
never s l e f = absurd (good≢bad (first_stopped s l e ∙ sym f))

pub some-input : (s : List ℕ) {o st k : ℕ} → good (o, st, k) ≡ gathered s → 1 ≤ length s
some-input [] e = absurd (good≢bad (nothing [] refl ∙ sym e))
some-input (x ∷ s) e = omega arith
