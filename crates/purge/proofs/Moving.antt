-- One message moved: what its reading says of it, and the buffer once its option run, its packages, its counts and its header are in place.
use Prim.Native.Nat.{ℕ, suc, ◌+◌, ◌-◌, ◌*◌, ◌≤◌}
use mathlib.Core.Path.{◌≡◌, refl, sym, ap, subst, ◌∙◌}
use mathlib.Core.Bool.{true, false}
use mathlib.Core.List.{List, [], ◌∷◌, ◌++◌, map, append-nil, append_assoc}
use native.Mathlib.Nat.{pos_of_ne-zero}
use native.Mathlib.Omega.{arith}
use borrow.Author.Tests.{lt-ltb, ne_eqb}
use lib.Dec.{eqb}
use lib.ListN.{length, take, drop, replicate, length-append, length-drop, length-take, length-map, length-replicate, take-append-drop}
use lib.Seq.{sets, sets-eq, length-sets, drop-drop, take-add, take-take, take-append_seam, drop-append_seam, drop-append-add, length-take-le}
use Rattle.rules.specs.Outcome.{good}
use Rattle.rules.specs.Bytes.{Bytes, pad, part, padded, one_if_any}
use Rattle.rules.specs.Packages as rules
use Rattle.rules.specs.Packages.{cut, package_of}
use Rattle.rules.specs.Message as messages
use Rattle.rules.specs.Message.{head, payload_start, record_bits, is_simulated, every_check, record_of, message}
use Rattle.rules.specs.Reading.{MessageSpot, message_spot, message_at}
use Rattle.rules.specs.Writer.{write}
use Rattle.rules.specs.Valid.{Valid}
use Rattle.rules.specs.Sheet as rows
use Rattle.rules.proofs.Outcomes.{step, passed, stepped, good_inj}
use Rattle.rules.proofs.Numbers.{bytes_drop}
use Rattle.rules.proofs.Pieces.{length-padded}
use Rattle.rules.proofs.Run.{run_ends}
use Rattle.rules.proofs.Passed.{Passed, passes}
use Rattle.rules.proofs.Valids.{valid, run_length}
use Rattle.rules.proofs.Loops.{drop-sets}
use Rattle.message.specs.declared.Header.{Header}
use Rattle.message.specs.declared.Message.{Message}
use Rattle.message.specs.Answers.{spot_of_message}
use Rattle.compose.specs.Payload.{flags_with, header_by}
use Rattle.compose.specs.Told.{record_by}
use Rattle.numbered.specs.Parts.{message_by, payload_of}
use Rattle.numbered.proofs.Entries.{payload-least}
use Rattle.purge.specs.declared.Left.{Left}
use Rattle.purge.specs.Purge.{kept_packages, count_set, with_packages, loses_last, kept_records, kept_bytes}
use Rattle.purge.specs.Parts.{kept_pieces, Slid, Headed, headed, loses_by, KeptAt}
use Rattle.purge.proofs.Counts.{length-set}
use Rattle.purge.proofs.Keeping.{kept_by_lem, records-one, stays_record, goes_record}
use Rattle.purge.proofs.Stores.{take_more, drop-take}

-- ---- what was read

pub record Stood (s : List ℕ) (k : ℕ) (m : Message) : Type 0 where
  pub r : ℕ × List (List ℕ)
  pub read : every_check k (drop k s) (head (drop k s)) ≡ good r
  pub flags : (head (drop k s)).flags ≡ m.header.flags
  pub id : (head (drop k s)).id ≡ m.header.id.0
  pub sequence : (head (drop k s)).sequence ≡ m.header.sequence
  pub seconds : (head (drop k s)).seconds ≡ m.header.seconds
  pub nanos : (head (drop k s)).nanos ≡ m.header.nanos
  pub run : r.0 ≡ m.header.run
  pub payload : k + payload_start (head (drop k s)) ≡ m.payload
  pub next : k + (head (drop k s)).size ≡ m.next
  pub packages : length r.1 ≡ m.packages

pub stood : (s : List ℕ) (k : ℕ) (m : Message) → good (spot_of_message m) ≡ message_at s k → Stood s k m
unfolding message_at message_spot
stood s k m e =
    let (large, g) = passed _ _ _ _ (sym e) in
    let (r, q, f) = stepped _ _ g in
    let z = good_inj f in
    record {
      r = r;
      read = q;
      flags = ap (λ (x : MessageSpot). x.head.flags) z;
      id = ap (λ (x : MessageSpot). x.head.id) z;
      sequence = ap (λ (x : MessageSpot). x.head.sequence) z;
      seconds = ap (λ (x : MessageSpot). x.head.seconds) z;
      nanos = ap (λ (x : MessageSpot). x.head.nanos) z;
      run = ap (λ (x : MessageSpot). x.run) z;
      payload = ap (λ (x : MessageSpot). x.payload) z;
      next = ap (λ (x : MessageSpot). x.next) z;
      packages = ap (λ (x : MessageSpot). x.packages) z;
    }

-- ---- lists

-- stores over as many bytes, between what stands before and behind
pub over : (a g c t : List ℕ) (i : ℕ) → length a ≡ i → length g ≡ length c → sets (a ++ (g ++ t)) i c ≡ a ++ (c ++ t)
over a g c t i e h =
    let room : i + length c ≤ length (a ++ (g ++ t)) = omega (arith, length-append a (g ++ t), length-append g t) in
    sets-eq c (a ++ (g ++ t)) i room ∙ rw (← e, ← h, take-append_seam, drop-append-add a (g ++ t) (length g), drop-append_seam, append_assoc)

-- the part that stands behind a
pub part-behind : (a o t : List ℕ) (i n : ℕ) → length a ≡ i → length o ≡ n → part i (i + n) (a ++ (o ++ t)) ≡ o
part-behind a o t i n e h =
    let z : i + n - i ≡ length o = omega arith in
    rw (z, ← e, drop-append_seam, take-append_seam)

-- ---- how many packages are left, by their number

loses_is : (ps ks : List rules.Package) → loses_last ps ks ≡ loses_by (length ps) (length ks)
unfolding loses_last
loses_is [] ks = refl
loses_is (p ∷ ps) [] = rw (lt-ltb 0 (suc (length ps)) (omega arith))
loses_is (p ∷ ps) (k ∷ ks) = rw (lt-ltb 0 (suc (length ps)) (omega arith), ne_eqb (suc (length ks)) 0 (λ z. omega arith))

pub had_no : (had left : ℕ) → had ≡ 0 → false ≡ loses_by had left
had_no had left e = rw e

pub had_one : (had left : ℕ) → (had ≡ 0 → ⊥) → eqb left 0 ≡ loses_by had left
had_one had left e = rw (lt-ltb 0 had (pos_of_ne-zero e))

any_flag : (f : ℕ) (ks : List rules.Package) → flags_with f (length (payload_of ks)) ≡ record_bits f + one_if_any ks * 128
any_flag f [] = refl
any_flag f (k ∷ ks) = rw (ne_eqb (length (payload_of (k ∷ ks))) 0 (λ z. omega (arith, payload-least k ks)), flags_with)

-- header, options and packages are a record, written
written-by : (x : messages.Message) (h : Header) (ks : List rules.Package) (p bytes : ℕ) → x.flags ≡ record_bits h.flags → x.id ≡ h.id.0 → x.sequence ≡ h.sequence → x.seconds ≡ h.seconds → x.nanos ≡ h.nanos
    → length x.options ≡ h.run → p ≡ length ks → bytes ≡ length (payload_of ks)
    → write (with_packages x ks) ≡ header_by (record_by h) h.run bytes
    ++ (count_set p [] x.options ++ (replicate (pad (length x.options) - length x.options) 0 ++ payload_of ks))
unfolding write with_packages
written-by x h ks p bytes fl id sq sc ns run pk by =
    let o = count_set (length ks) [] x.options in
    let n : length o ≡ length x.options = length-set (length ks) [] x.options in
    let lw : length (padded o) ≡ pad (length x.options) = length-padded o ∙ ap pad n in
    let tail : padded o ++ payload_of ks ≡ o ++ (replicate (pad (length x.options) - length x.options) 0 ++ payload_of ks) = rw (n, append_assoc) in
    rw (pk, by, ← run, any_flag h.flags ks, lw, tail, fl, id, sq, sc, ns)

-- ---- the message, and the buffer step by step

module _ (s : List ℕ) (k : ℕ) (m : Message) (f : Stood s k m) (b : Bytes s) (short : length s ≤ 65536) where
  abbrev t : List ℕ
  t = drop k s

  abbrev it : messages.Message
  it = record_of t (head t) f.r

  w : Passed k t (head t) f.r
  w = passes k t (head t) f.r f.read

  it-is : message k t ≡ good (it, (head t).size)
  unfolding message
  it-is = step _ _ f.read refl

  it_valid : Valid it
  it_valid = valid k t f.r (bytes_drop k s b) w (omega (arith, length-drop k s))

  run_is : length it.options ≡ m.header.run
  unfolding record_of
  run_is = run_length k t f.r (bytes_drop k s b) w ∙ f.run

  pub run_short : m.header.run ≤ 60
  run_short = omega (arith, run_is, it_valid.short)

  -- the options in whole words end before the payload
  pub run_room : k + 24 + pad m.header.run ≤ m.payload
  run_room =
      let o = run_ends [] 0 (k + 24) 0 (part 24 (payload_start (head t)) t) (omega arith) w.options in
      omega (arith, f.run, f.payload, o.most, length-take (24 + 4 * (head t).words - 24) (drop 24 t))

  pub forth : m.payload ≤ m.next
  forth = omega (arith, f.payload, f.next, w.header.least)

  pub within : m.next ≤ length s
  within = omega (arith, f.next, w.header.most, w.header.long, length-drop k s)

  options-are : part (k + 24) (k + 24 + m.header.run) s ≡ it.options
  unfolding record_of
  options-are =
      let z : k + 24 + m.header.run - (k + 24) ≡ 24 + f.r.0 - 24 = omega (arith, f.run) in
      rw (z, ← drop-drop 24 k s)

  module _ (to : ℕ) (ahead : to ≤ k) (s₁ : List ℕ) (e₁ : s₁ ≡ sets s (to + 24) (padded (part (k + 24) (k + 24 + m.header.run) s))) where
    abbrev words : List ℕ
    words = padded it.options

    words_long : length words ≡ pad m.header.run
    words_long = rw (length-padded it.options, run_is)

    s₁_is : s₁ ≡ sets s (to + 24) words
    s₁_is = e₁ ∙ ap (λ (o : List ℕ). sets s (to + 24) (padded o)) options-are

    pub long₁ : length s₁ ≡ length s
    long₁ = rw s₁_is (length-sets s (to + 24) words)

    -- what stands from the payload on has not been stored to
    unread : (j : ℕ) → m.payload ≤ j → drop j s₁ ≡ drop j s
    unread j h = rw s₁_is (drop-sets words s (to + 24) j (omega (arith, words_long, run_room)))

    cut-is : cut m.payload (drop m.payload (take m.next s₁)) ≡ good f.r.1
    cut-is =
        let z : m.next - m.payload ≡ (head t).size - payload_start (head t) = omega (arith, f.payload, f.next) in
        let q : drop m.payload (take m.next s₁) ≡ part (payload_start (head t)) (head t).size t = drop-take m.payload m.next s₁ ∙ rw (unread m.payload (omega arith), z, ← f.payload, drop-drop) in
        rw (q, ← f.payload) w.packages

    module _ (rs : List rows.Row) (ys : List ℕ) (l : Left) (z : Slid rs (message_by m.header) m.payload (to + 24 + pad m.header.run) (take m.next s₁) ys l) where
      -- the packages that are kept
      abbrev ks : List rules.Package
      ks = kept_packages rs it it.packages

      same_kept : kept_pieces rs (message_by m.header) f.r.1 ≡ ks
      unfolding kept_pieces record_of
      same_kept = sym (kept_by_lem it (message_by m.header) f.id (ap (λ (x : ℕ). is_simulated (record_bits x)) f.flags) f.seconds f.nanos rs (map package_of f.r.1))

      abbrev body : ℕ
      body = to + 24 + pad m.header.run

      packages-are : l.packages ≡ length ks
      packages-are = rw (← same_kept) (z.right f.r.1 cut-is).0

      front-is : take (body + l.bytes) ys ≡ take body (take m.next s₁) ++ payload_of ks
      front-is = rw (← same_kept) (z.right f.r.1 cut-is).1

      next-long : length (take m.next s₁) ≡ m.next
      next-long = length-take-le m.next s₁ (omega (arith, within, long₁))

      ys_long : length ys ≡ m.next
      ys_long = z.long ∙ next-long

      pub room : body + l.bytes ≤ m.next
      room = omega (arith, z.small, next-long, run_room, forth)

      -- before the packages stand what stood there, the place of the header, and the option run
      front-before : take body (take m.next s₁) ≡ take to s ++ (take 24 (drop to s) ++ words)
      front-before =
          let n : to + 24 + pad m.header.run ≡ to + 24 + length words = omega (arith, words_long) in
          take-take body m.next s₁ (omega (arith, run_room, forth))
          ∙ rw (s₁_is, n) (take_more words s (to + 24) (omega (arith, words_long, run_room, forth, within)) ∙ rw (take-add to 24 s, append_assoc))

      -- the buffer then
      abbrev s₂ : List ℕ
      s₂ = ys ++ drop m.next s₁

      abbrev gap : List ℕ
      gap = take 24 (drop to s)

      abbrev zeros : List ℕ
      zeros = replicate (pad (length it.options) - length it.options) 0

      abbrev rest : List ℕ
      rest = drop (body + l.bytes) ys ++ drop m.next s₁

      shape : s₂ ≡ take to s ++ (gap ++ (it.options ++ (zeros ++ (payload_of ks ++ rest))))
      shape =
          let y : take (body + l.bytes) ys ++ drop (body + l.bytes) ys ≡ ys = take-append-drop (body + l.bytes) ys in
          sym (ap (λ (u : List ℕ). u ++ drop m.next s₁) y) ∙ rw (front-is, front-before) (simp append_assoc)

      pub long₂ : length s₂ ≡ length s
      long₂ = omega (arith, length-append ys (drop m.next s₁), length-drop m.next s₁, ys_long, within, long₁)

      rest₂ : drop m.next s₂ ≡ drop m.next s
      rest₂ = rw (← ys_long, drop-append_seam) (rw ys_long (unread m.next forth))

      to-long : length (take to s) ≡ to
      to-long = length-take-le to s (omega (arith, run_room, forth, within))

      gap-long : length gap ≡ 24
      gap-long = length-take-le 24 (drop to s) (omega (arith, length-drop to s, run_room, forth, within))

      loses_here : loses_last it.packages ks ≡ loses_by m.packages l.packages
      unfolding record_of
      loses_here =
          let n : length it.packages ≡ m.packages = length-map f.r.1 package_of ∙ f.packages in
          loses_is it.packages ks ∙ rw (n, ← packages-are)

      -- whatever the message is read as, it is this one
      only : (x : messages.Message) (n : ℕ) → message k (drop k s) ≡ good (x, n) → it ≡ x
      only x n e = ap (λ (y : messages.Message × ℕ). y.0) (good_inj (sym it-is ∙ e))

      -- it loses its last package: nothing of it is kept
      pub goes : loses_by m.packages l.packages ≡ true → KeptAt rs k m.next to s s₂ to
      unfolding kept_bytes
      goes e = record {
        long = long₂;
        rest = rest₂;
        small = omega (arith, run_room, forth);
        right = λ x n q. subst (λ (y : messages.Message). take to s₂ ≡ take to s ++ kept_bytes (kept_records rs (y ∷ []))) (only x n q)
            (rw (records-one rs it, goes_record it ks (loses_here ∙ e), append-nil, shape) (rw to-long at (take-append_seam (take to s) (gap ++ (it.options ++ (zeros ++ (payload_of ks ++ rest)))))));
      }

      -- the option run is in its place
      run-part : part (to + 24) (to + 24 + m.header.run) s₂ ≡ it.options
      run-part =
          let n : length (take to s ++ gap) ≡ to + 24 = omega (arith, length-append (take to s) gap, to-long, gap-long) in
          rw (shape, ← append_assoc (take to s) gap (it.options ++ (zeros ++ (payload_of ks ++ rest)))) (part-behind (take to s ++ gap) it.options (zeros ++ (payload_of ks ++ rest)) (to + 24) m.header.run n run_is)

      pub ready : Headed s₂ to m.header l
      ready = record {
        run = rw run-part it_valid.run;
        short = run_short;
        few = omega (arith, z.few, next-long, within);
        room = omega (arith, room, long₂, within);
        small = omega (arith, long₂);
      }

      abbrev set : List ℕ
      set = count_set l.packages [] it.options

      abbrev header : List ℕ
      header = header_by (record_by m.header) m.header.run l.bytes

      header-long : length header ≡ 24
      header-long = refl

      headed-is : headed s₂ to m.header l ≡ take to s ++ (header ++ (set ++ (zeros ++ (payload_of ks ++ rest))))
      headed-is =
          let n : length (take to s ++ gap) ≡ to + 24 = omega (arith, length-append (take to s) gap, to-long, gap-long) in
          let a : sets s₂ (to + 24) set ≡ take to s ++ (gap ++ (set ++ (zeros ++ (payload_of ks ++ rest)))) =
          rw (shape, ← append_assoc (take to s) gap (it.options ++ (zeros ++ (payload_of ks ++ rest)))) (over (take to s ++ gap) it.options set (zeros ++ (payload_of ks ++ rest)) (to + 24) n (sym (length-set l.packages [] it.options))
          ∙ append_assoc (take to s) gap (set ++ (zeros ++ (payload_of ks ++ rest)))) in
          rw (run-part, a) (over (take to s) gap header (set ++ (zeros ++ (payload_of ks ++ rest))) to to-long (gap-long ∙ sym header-long))

      bytes-are : l.bytes ≡ length (payload_of ks)
      bytes-are =
          let a : length (take (body + l.bytes) ys) ≡ body + l.bytes = length-take-le (body + l.bytes) ys (omega (arith, room, ys_long)) in
          let c : length (take body (take m.next s₁)) ≡ body = length-take-le body (take m.next s₁) (omega (arith, room, next-long)) in
          omega (arith, a, c, ap length front-is, length-append (take body (take m.next s₁)) (payload_of ks))

      -- header, options and packages are the record, written
      written : write (with_packages it ks) ≡ header ++ (set ++ (zeros ++ payload_of ks))
      unfolding record_of
      written = written-by it m.header ks l.packages l.bytes (ap record_bits f.flags) f.id f.sequence f.seconds f.nanos run_is packages-are bytes-are

      abbrev full : List ℕ
      full = take to s ++ (header ++ (set ++ (zeros ++ payload_of ks)))

      full-long : length full ≡ body + l.bytes
      full-long =
          omega (
            arith,
            length-append (take to s) (header ++ (set ++ (zeros ++ payload_of ks))),
            length-append header (set ++ (zeros ++ payload_of ks)),
            length-append set (zeros ++ payload_of ks),
            length-append zeros (payload_of ks),
            length-replicate {A = ℕ} (pad (length it.options) - length it.options) 0,
            length-set l.packages [] it.options,
            to-long,
            header-long,
            run_is,
            bytes-are,
          )

      headed-full : headed s₂ to m.header l ≡ full ++ rest
      headed-full = headed-is ∙ simp append_assoc

      abbrev counted : List ℕ
      counted = count_set l.packages [] (part (to + 24) (to + 24 + m.header.run) s₂)

      counted-long : length counted ≡ m.header.run
      counted-long = length-set l.packages [] (part (to + 24) (to + 24 + m.header.run) s₂) ∙ rw (run-part, run_is)

      -- it keeps a package, or had none: its record is kept
      pub stays : loses_by m.packages l.packages ≡ false → KeptAt rs k m.next to s (headed s₂ to m.header l) (to + 24 + pad m.header.run + l.bytes)
      unfolding kept_bytes
      stays e = record {
        long = rw (length-sets, length-sets) long₂;
        rest = drop-sets header (sets s₂ (to + 24) counted) to m.next (omega (arith, header-long, room)) ∙ drop-sets counted s₂ (to + 24) m.next (omega (arith, counted-long, room)) ∙ rest₂;
        small = room;
        right = λ x n q. subst (λ (y : messages.Message). take (body + l.bytes) (headed s₂ to m.header l) ≡ take to s ++ kept_bytes (kept_records rs (y ∷ []))) (only x n q)
            (rw (records-one rs it, stays_record it ks (loses_here ∙ e), append-nil, written, headed-full) (rw full-long at (take-append_seam full rest)));
      }
