-- Messages: how the released list and the copy grow, and what the two loops over a recording keep.
use Prim.Native.Nat.{ℕ, ◌+◌, ◌-◌, ◌*◌, ◌/◌, ◌%◌, ◌≤◌, ◌<◌}
use mathlib.Core.Path.{◌≡◌, refl, sym, ap, ap₂, ◌∙◌}
use mathlib.Core.Bool.{Bool, ◌||◌}
use mathlib.Core.List.{List, [], ◌∷◌, ◌++◌, map, append-nil}
use native.Mathlib.Omega.{arith}
use lib.ListN.{length, take, drop, length-append, length-drop}
use lib.Seq.{drop-drop, length-take-le}
use borrow.Author.Tests.{eq-eqb, ne_eqb, le-ltb}
use Rattle.rules.specs.Outcome.{good, bad}
use Rattle.rules.specs.Bytes.{part}
use Rattle.rules.specs.Packages as rules
use Rattle.rules.specs.Packages.{cut, package_of, piece_of, package_time}
use Rattle.rules.specs.Message as messages
use Rattle.rules.specs.Message.{head, payload_start, is_simulated, record_bits, every_check, record_of, message}
use Rattle.rules.specs.Writer.{write}
use Rattle.rules.specs.Sheet as rows
use Rattle.rules.specs.Copy.{granted, Entry, granted_packages, with_entry_of, released, copy_message, packages_in}
use Rattle.rules.proofs.Outcomes.{pass, step, stop, passed, stepped, good_inj, refused-only}
use Rattle.rules.proofs.Cut as Cut
use Rattle.rules.proofs.Passed.{Passed, passes}
use Rattle.rules.proofs.Growing.{granted_alike, released_snoc}
use Rattle.rules.proofs.Loops.{Doing, doing_next}
use Rattle.message.specs.declared.Header.{Header}
use Rattle.message.specs.declared.Message.{Message}
use Rattle.std.specs.Prelude.{Ok}
use Rattle.message.specs.Answers.{message_here, told_message}
use Rattle.rules.specs.Reading.{MessageSpot, message_spot, message_at}
use Rattle.numbered.specs.declared.Size.{Size}
use Rattle.numbered.specs.Parts.{message_by, kept, payload_of, flags_of, flags_in, with_entry, head_bytes}
use Rattle.numbered.specs.Told.{totals}
use Rattle.numbered.specs.Numbering.{Running, next_number, counted_on, numbers_after, numbered_messages, numbered_bytes}
use Rattle.numbered.proofs.Numbers.{after-append, bytes-append}
use Rattle.numbered.proofs.Marks.{flags_joined}

-- the message of the copy with sequence number n and the granted packages ps; nothing where there are none
unfoldable pub entry_bytes : Header → ℕ → List rules.Package → List ℕ
entry_bytes h n [] = []
entry_bytes h n (p ∷ ps) = head_bytes h n (24 + length (payload_of (p ∷ ps))) ++ payload_of (p ∷ ps)

-- the bytes of one entry
numbered-one : (ns : List Running) (e : Entry) → numbered_bytes ns (e ∷ []) ≡ write (copy_message (next_number e.id ns) e)
unfolding numbered_bytes numbered_messages
numbered-one ns e = append-nil (write (copy_message (next_number e.id ns) e))

-- a message that was read
pub record Met (recordingBytes : List ℕ) (k : ℕ) (m : Message) : Type 0 where
  pub r : ℕ × List (List ℕ)
  pub read : every_check k (drop k recordingBytes) (head (drop k recordingBytes)) ≡ good r
  pub flags : (head (drop k recordingBytes)).flags ≡ m.header.flags
  pub id : (head (drop k recordingBytes)).id ≡ m.header.id.0
  pub seconds : (head (drop k recordingBytes)).seconds ≡ m.header.seconds
  pub nanos : (head (drop k recordingBytes)).nanos ≡ m.header.nanos
  pub payload : k + payload_start (head (drop k recordingBytes)) ≡ m.payload
  pub next : k + (head (drop k recordingBytes)).size ≡ m.next

module _ (recordingBytes : List ℕ) (k : ℕ) where
  pub met : (m : Message) → told_message (Ok m) ≡ message_at recordingBytes k → Met recordingBytes k m
  unfolding message_at message_here message_spot
  met m e =
      let (large, g) = passed _ _ _ _ (sym e) in
      let (r, q, f) = stepped _ _ g in
      let s = good_inj f in
      record {
        r = r;
        read = q;
        flags = ap (λ (x : MessageSpot). x.head.flags) s;
        id = ap (λ (x : MessageSpot). x.head.id) s;
        seconds = ap (λ (x : MessageSpot). x.head.seconds) s;
        nanos = ap (λ (x : MessageSpot). x.head.nanos) s;
        payload = ap (λ (x : MessageSpot). x.payload) s;
        next = ap (λ (x : MessageSpot). x.next) s;
      }

  -- a message that is refused
  pub no_message_lem : length recordingBytes ≤ 65536 → {n q : ℕ} → bad n q ≡ message_at recordingBytes k → message k (drop k recordingBytes) ≡ bad n q
  unfolding message_at message_here message
  no_message_lem l e =
      let q = sym (pass _ _ _ _ (le-ltb 65536 (length recordingBytes) l) refl) ∙ sym e in
      stop _ _ (refused-only _ _ q)

-- what a grant depends on
module _ (m m' : messages.Message) (f : m.flags ≡ m'.flags) (i : m.id ≡ m'.id) (s : m.seconds ≡ m'.seconds) (n : m.nanos ≡ m'.nanos) where
  granted_same : (rs : List rows.Row) (p : rules.Package) → granted rs m p ≡ granted rs m' p
  unfolding granted
  granted_same [] p = refl
  granted_same (r ∷ rs) p =
      let e : rows.grants m.id (is_simulated m.flags) p.id (package_time m.seconds m.nanos p.delta) r
      ≡ rows.grants m'.id (is_simulated m'.flags) p.id (package_time m'.seconds m'.nanos p.delta) r = rw (f, i, s, n) in
      ap₂ (λ (a b : Bool). a || b) e (granted_same rs p)

flag_bits : (f : ℕ) → (f / 64 % 2 * 64 + f % 16) / 2 % 8 * 2 ≡ f / 2 % 8 * 2
flag_bits f =
    let a : (f / 64 % 2 * 64 + f % 16) / 2 ≡ f / 64 % 2 * 32 + f % 16 / 2 = omega arith in
    let b : f % 16 / 2 ≡ f / 2 % 8 = omega arith in
    let c : (f / 64 % 2 * 32 + f / 2 % 8) % 8 ≡ f / 2 % 8 = omega arith in
    rw (a, b, c)

module _ (recordingBytes : List ℕ) (k : ℕ) (m : Message) (f : Met recordingBytes k m) where
  abbrev t : List ℕ
  t = drop k recordingBytes

  abbrev run : List ℕ
  run = take (m.next - m.payload) (drop m.payload recordingBytes)

  -- the record of the message
  abbrev pub it : messages.Message
  it = record_of t (head t) f.r

  pub it-passes : Passed k t (head t) f.r
  it-passes = passes k t (head t) f.r f.read

  pub it-is : message k t ≡ good (it, (head t).size)
  unfolding message
  it-is = step _ _ f.read refl

  pub order : m.payload ≤ m.next
  order = omega (arith, f.payload, f.next, it-passes.header.least)

  pub inside : m.next ≤ length recordingBytes
  inside = omega (arith, f.next, it-passes.header.most, it-passes.header.long, length-drop k recordingBytes)

  pub behind : k + 24 ≤ m.payload
  behind = omega (arith, f.payload)

  pub run_length : length run ≡ m.next - m.payload
  run_length = length-take-le (m.next - m.payload) (drop m.payload recordingBytes) (omega (arith, inside, length-drop m.payload recordingBytes))

  run_is : run ≡ part (payload_start (head t)) (head t).size t
  run_is =
      let e : m.next - m.payload ≡ (head t).size - payload_start (head t) = omega (arith, f.payload, f.next) in
      rw (e, ← f.payload, drop-drop)

  pub cut-is : cut 0 run ≡ good f.r.1
  cut-is = rw run_is (Cut.complete (Cut.sound 0 (k + payload_start (head t)) (part (payload_start (head t)) (head t).size t) it-passes.packages) 0)

  module _ (rs : List rows.Row) where
    -- its granted packages
    abbrev pub ps : List rules.Package
    ps = kept rs (message_by m.header) f.r.1

    granted-are : granted_packages rs it it.packages ≡ ps
    unfolding kept record_of
    granted-are = granted_alike rs rs it (message_by m.header) (granted_same it (message_by m.header) (ap record_bits f.flags) f.id f.seconds f.nanos rs) (map package_of f.r.1)

    -- the flags of its packages
    granted-flags : map (granted rs it) it.packages ≡ flags_of rs (message_by m.header) f.r.1
    unfolding flags_of record_of
    granted-flags = flags-by f.r.1
      where
        flags-by : (cs : List (List ℕ)) → map (granted rs it) (map package_of cs) ≡ map (λ c. granted rs (message_by m.header) (package_of c)) cs
        flags-by [] = refl
        flags-by (c ∷ cs) = ap₂ (λ (b : Bool) (l : List Bool). b ∷ l) (granted_same it (message_by m.header) (ap record_bits f.flags) f.id f.seconds f.nanos rs (package_of c)) (flags-by cs)

    -- and those with the flags of the messages before it
    pub flags_grown : (done : List messages.Message) → flags_in rs (done ++ (it ∷ [])) ≡ flags_in rs done ++ flags_of rs (message_by m.header) f.r.1
    unfolding flags_in
    flags_grown done = flags_joined rs done (it ∷ []) ∙ rw (append-nil, granted-flags)

    pub grown_one : released rs (it ∷ []) ≡ with_entry_of it ps []
    unfolding released
    grown_one = rw granted-are

    pub grown : (done : List messages.Message) → released rs (done ++ (it ∷ [])) ≡ released rs done ++ with_entry_of it ps []
    grown done = rw (released_snoc rs done it, granted-are)

    -- the bytes that it adds
    flags-are : it.flags / 2 % 8 * 2 ≡ m.header.flags / 2 % 8 * 2
    unfolding record_of
    flags-are = rw f.flags (flag_bits m.header.flags)

    written : (n : ℕ) (p : rules.Package) (qs : List rules.Package)
        → write (copy_message n (record { id = it.id; seconds = it.seconds; nanos = it.nanos; flags = it.flags / 2 % 8 * 2; packages = p ∷ qs }))
        ≡ head_bytes m.header n (24 + length (payload_of (p ∷ qs))) ++ payload_of (p ∷ qs)
    unfolding write copy_message head_bytes record_of
    written n p qs =
        let e : 64 + it.flags / 2 % 8 * 2 + 128 ≡ 192 + m.header.flags / 2 % 8 * 2 = omega (arith, flags-are) in
        rw (e, f.id, f.seconds, f.nanos)

    pub id-is : it.id ≡ m.header.id.0
    unfolding record_of
    id-is = f.id

    pub bytes_grown : (ns : List Running) (es : List Entry) (qs : List rules.Package)
        → numbered_bytes ns (es ++ with_entry_of it qs []) ≡ numbered_bytes ns es ++ entry_bytes m.header (next_number m.header.id.0 (numbers_after ns es)) qs
    unfolding with_entry_of entry_bytes
    bytes_grown ns es [] = rw append-nil (sym (append-nil (numbered_bytes ns es)))
    bytes_grown ns es (p ∷ qs) =
        bytes-append ns es _
        ∙ ap (λ (s : List ℕ). numbered_bytes ns es ++ s) (numbered-one (numbers_after ns es) _ ∙ written (next_number it.id (numbers_after ns es)) p qs ∙ rw id-is)

    pub after_grown : (ns : List Running) (es : List Entry) (q : rules.Package) (qs : List rules.Package)
        → numbers_after ns (es ++ with_entry_of it (q ∷ qs) []) ≡ counted_on m.header.id.0 (numbers_after ns es)
    unfolding with_entry_of numbers_after
    after_grown ns es q qs = after-append ns es _ ∙ ap (λ (x : ℕ). counted_on x (numbers_after ns es)) id-is

-- a message of the copy has its header, and one package at least
pub entry_length : (h : Header) (n : ℕ) (p : rules.Package) (qs : List rules.Package) → length (entry_bytes h n (p ∷ qs)) ≡ 24 + length (payload_of (p ∷ qs))
unfolding entry_bytes head_bytes
entry_length h n p qs = omega arith

pub payload-least : (p : rules.Package) (qs : List rules.Package) → 12 ≤ length (payload_of (p ∷ qs))
unfolding piece_of
payload-least p qs = omega arith

packages_snoc : (es : List Entry) (e : Entry) → packages_in (es ++ (e ∷ [])) ≡ packages_in es + length e.packages
unfolding packages_in
packages_snoc [] e = omega arith
packages_snoc (d ∷ es) e = omega (arith, packages_snoc es e)

module _ (recordingBytes : List ℕ) (k : ℕ) (m : Message) (f : Met recordingBytes k m) (rs : List rows.Row) where
  -- the totals with what it adds
  pub totals_grown : (es : List Entry) (qs : List rules.Package) (s : Size) → s.bytes ≡ length (payload_of qs) → s.packages ≡ length qs
      → with_entry (totals es) s ≡ totals (es ++ with_entry_of (it recordingBytes k m f) qs [])
  unfolding with_entry_of
  totals_grown es [] s b p = rw (eq-eqb s.packages 0 p, append-nil)
  totals_grown es (q ∷ qs) s b p =
      let n : (s.packages ≡ 0 → ⊥) = λ z. omega arith in
      let n' = next_number m.header.id.0 (numbers_after [] es) in
      let e : length (numbered_bytes [] es) + 24 + s.bytes ≡ length (numbered_bytes [] (es ++ with_entry_of (it recordingBytes k m f) (q ∷ qs) [])) =
      rw (bytes_grown recordingBytes k m f rs [] es (q ∷ qs))
      (omega (arith, length-append (numbered_bytes [] es) (entry_bytes m.header n' (q ∷ qs)), entry_length m.header n' q qs)) in
      rw (ne_eqb s.packages 0 n, e, packages_snoc, p, length-append)

-- how many bytes there are does not depend on the numbers
write-length : (n k : ℕ) (e : Entry) → length (write (copy_message n e)) ≡ length (write (copy_message k e))
unfolding write copy_message
write-length n k e = refl

pub bytes-length : (ns ks : List Running) (es : List Entry) → length (numbered_bytes ns es) ≡ length (numbered_bytes ks es)
unfolding numbered_bytes numbered_messages
bytes-length ns ks [] = refl
bytes-length ns ks (e ∷ es) =
    let a = write-length (next_number e.id ns) (next_number e.id ks) e in
    let b = bytes-length (counted_on e.id ns) (counted_on e.id ks) es in
    rw (length-append, length-append, a, b)

-- one message more
module _ (recordingBytes : List ℕ) (done : List messages.Message) (k : ℕ) (doing : Doing message recordingBytes done k) (l : k < length recordingBytes) (m : Message) (f : Met recordingBytes k m) where
  pub one_more_lem : Doing message recordingBytes (done ++ (it recordingBytes k m f ∷ [])) m.next
  one_more_lem = rw (← f.next) (doing_next message recordingBytes done k (it recordingBytes k m f) (head (drop k recordingBytes)).size doing l (omega (arith, (it-passes recordingBytes k m f).header.least)) (it-is recordingBytes k m f))

-- its places are in order
pub record Spots (recordingBytes : List ℕ) (k : ℕ) (m : Message) : Type 0 where
  pub on : k < m.next
  pub forth : m.payload ≤ m.next
  pub within : m.next ≤ length recordingBytes
  pub small : length (take (m.next - m.payload) (drop m.payload recordingBytes)) ≤ 65536

pub spots : (recordingBytes : List ℕ) → length recordingBytes ≤ 65536 → (k : ℕ) (m : Message) → told_message (Ok m) ≡ message_at recordingBytes k → Spots recordingBytes k m
spots recordingBytes l k m e =
    let g = met recordingBytes k m e in
    record {
      on = omega (arith, order recordingBytes k m g, behind recordingBytes k m g);
      forth = order recordingBytes k m g;
      within = inside recordingBytes k m g;
      small = omega (arith, run_length recordingBytes k m g, inside recordingBytes k m g);
    }
