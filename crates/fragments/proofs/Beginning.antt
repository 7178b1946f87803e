-- The first fragment stored, the others begun, and all of them done.
use Prim.Native.Nat.{ℕ, suc, ◌+◌, ◌-◌, ◌*◌, ◌/◌, ◌%◌, ◌≤◌, ◌<◌, min}
use mathlib.Core.Path.{◌≡◌, refl, sym, ap, ◌∙◌}
use mathlib.Core.List.{List, ◌∷◌, ◌++◌, map, append_assoc}
use native.Mathlib.Nat.{div-div-eq-div-mul, suc-mul, mul-le-mul_right}
use native.Mathlib.Omega.{arith}
use lib.ListN.{length, take, drop, length-append, length-drop}
use lib.Seq.{sets, sets-eq, length-sets, take-append-le, drop-append-le, take-append_seam, drop-append_seam, length-take-le, take_all, drop-drop, take_at, drop_at}
use borrow.Rule.Slice.PartMut.{put_mid}
use Rattle.rules.specs.Bytes.{pad, padded, part, join}
use Rattle.rules.specs.Items.{Fills, none, more}
use Rattle.rules.specs.Packages.{cut, Piece}
use Rattle.rules.specs.Clean.{clean_piece}
use Rattle.rules.proofs.Cut as Cut
use Rattle.rules.proofs.Pieces.{length-padded}
use Rattle.rules.proofs.Loops.{drop-sets}
use Rattle.compose.specs.declared.Record.{Record}
use Rattle.compose.specs.Payload.{Cuts}
use Rattle.compose.proofs.Stores.{sets-part}
use Rattle.fragments.specs.Fragment.{FIRST, Fragment, offset_option, fragment_bytes, bytes_of, next_number}
use Rattle.fragments.specs.Cutting.{fragment_with, later_fragments, fragments_with, payload_parts}
use Rattle.fragments.specs.Stored.{cleaned_of, fragment_by, numbered, whole_by, bits_at, Cuttable, fragments_by, fragments_size, Distributing}
use Rattle.fragments.proofs.Chunks.{chunks_of, chunks-count}
use Rattle.fragments.proofs.Stores.{clean-length}
use Rattle.fragments.proofs.Distributing.{chunk, chunk-length, chunk-is, turned, later-length, later-count, next-parts, parts-joined}

-- ---- small ones

-- only one number of parts is right
pub one-count : (n size a b : ℕ) → n ≤ a * size → a * size < n + size → n ≤ b * size → b * size < n + size → a ≤ b
one-count n size a b p q r s = go (lt_or a b)
  where
    lt_or : (a b : ℕ) → (b < a → ⊥) → a ≤ b
    lt_or a b h = omega (arith, h)

    go : ((b < a → ⊥) → a ≤ b) → a ≤ b
    go k = k (λ l. let z : suc b * size ≤ a * size = mul-le-mul_right size l in let y : suc b * size ≡ b * size + size = suc-mul b size in omega arith)

-- a part of a part
pub part_shift : (out : List ℕ) (at from n : ℕ) → at ≤ from → part (from - at) (from - at + n) (take (length out - at) (drop at out)) ≡ part from (from + n) out
part_shift out at from n l =
    let a : from - at + n - (from - at) ≡ n = omega arith in
    let c : from + n - from ≡ n = omega arith in
    let d : at + (from - at) ≡ from = omega arith in
    rw (take_all (length out - at) (drop at out) (omega (arith, length-drop at out)), a, c, drop-drop, d)

-- a fragment stored in a part that was lent from its place on
pub lent-stored : (out ys : List ℕ) (r : Record) (bits offset at from n : ℕ) → at ≤ from
    → ys ≡ sets (take (length out - at) (drop at out)) 0 (fragment_bytes (fragment_by r bits (offset_option offset) (part (from - at) (from - at + n) (take (length out - at) (drop at out)))))
    → put_mid at (length out - at) out ys ≡ sets out at (fragment_bytes (fragment_by r bits (offset_option offset) (part from (from + n) out)))
lent-stored out ys r bits offset at from n l e =
    sets-part out ys (fragment_bytes (fragment_by r bits (offset_option offset) (part (from - at) (from - at + n) (take (length out - at) (drop at out))))) at e
    ∙ ap (λ (x : List ℕ). sets out at (fragment_bytes (fragment_by r bits (offset_option offset) x))) (part_shift out at from n l)

-- bits 5-4 have room beside the other flags
pub flags-room : (f b : ℕ) → f / 16 % 4 ≡ 0 → f < 256 → b < 4 → f + b * 16 < 256
flags-room f b e l h =
    let i : f / 16 / 4 ≡ f / 64 = div-div-eq-div-mul f 16 4 in
    let m : f / 16 ≡ f / 64 * 4 = omega arith in
    let k : f / 64 ≤ 3 = omega arith in
    omega arith

-- one turn, by what was asked and stored
module _ (r : Record) (options packages : List ℕ) (size n : ℕ) (least : 1 ≤ size) (b out : List ℕ) (at from q : ℕ)
    (d : Distributing (whole_by r options packages) size n b out at from q) (more : from < n) where
  pub turn : (m bits offset q' : ℕ) {out' : List ℕ} → m ≡ min size (n - from) → bits ≡ bits_at (from + m) n → offset ≡ d.offset → q' ≡ next_number q
      → out' ≡ sets out at (fragment_bytes (fragment_by (numbered r q) bits (offset_option offset) (part from (from + m) out)))
      → Distributing (whole_by r options packages) size n b out' (at + (32 + m)) (from + m) q'
  turn m bits offset q' {out'} em eb eo eq s =
      let w : Fragment = whole_by r options packages in
      let c : List ℕ = chunk w size n least b out at from q d more in
      let z : m ≡ length c = em ∙ sym (chunk-length w size n least b out at from q d more) in
      let i : fragment_by (numbered r q) bits (offset_option offset) (part from (from + m) out) ≡ fragment_with w (bits_at (from + length c) n) q (offset_option d.offset) c =
      rw (eb, eo, z, chunk-is w size n least b out at from q d more) in
      rw (eq, z) (turned w size n least b out at from q d more (fragment_by (numbered r q) bits (offset_option offset) (part from (from + m) out)) i out' s)

-- ---- the cleaned payload at the end

clean-lengths : {cs : List (List ℕ)} {s : List ℕ} → Fills Piece cs s → length (join (map clean_piece cs)) ≡ length s
clean-lengths none = refl
clean-lengths (more {c = c} {cs = cs} {s = s} h r) = omega (arith, clean-length c h, clean-lengths r, length-append (clean_piece c) (join (map clean_piece cs)), length-append c s)

pub cleaned-length : (s : List ℕ) → Cuts s → length (cleaned_of (cut 0 s)) ≡ length s
unfolding cleaned_of
cleaned-length s k = rw k.cuts (clean-lengths (Cut.sound 0 0 s k.cuts))

module _ (b run : List ℕ) (n : ℕ) (l : length run ≤ n) (m : n ≤ length b) where
  abbrev base : ℕ
  base = n - length run

  all : part 0 (0 + length run) run ≡ run
  all = let z : 0 + length run - 0 ≡ length run = omega arith in rw (z, take_all (length run) run (omega arith))

  abbrev stored : List ℕ
  stored = take base b ++ run ++ drop n b

  stored_is : {b₁ : List ℕ} → b₁ ≡ sets b base (part 0 (0 + length run) run) → b₁ ≡ stored
  stored_is e = let z : base + length run ≡ n = omega arith in e ∙ rw (all, sets-eq run b base (omega arith), z)

  base-length : length (take base b) ≡ base
  base-length = length-take-le base b (omega arith)

  pub run-back : {b₁ : List ℕ} → b₁ ≡ sets b base (part 0 (0 + length run) run) → take (n - base) (drop base b₁) ≡ run
  run-back e =
      let z : n - base ≡ length run = omega arith in
      rw (stored_is e, z, append_assoc, drop_at (take base b) (run ++ drop n b) base base-length, take-append_seam)

  pub clean-stored : {b₁ ys : List ℕ} → b₁ ≡ sets b base (part 0 (0 + length run) run) → ys ≡ cleaned_of (cut 0 (take (n - base) (drop base b₁)))
      → put_mid base (n - base) b₁ ys ≡ take base b ++ (cleaned_of (cut 0 run) ++ drop n b)
  clean-stored {b₁} {ys} e f =
      let z : n - base ≡ length run = omega arith in
      let y : ys ≡ cleaned_of (cut 0 run) = f ∙ ap (λ (x : List ℕ). cleaned_of (cut 0 x)) (run-back e) in
      let t : take base b₁ ≡ take base b = ap (take base) (stored_is e) ∙ ap (take base) (append_assoc (take base b) run (drop n b)) ∙ take_at (take base b) (run ++ drop n b) base base-length in
      let d : drop (n - base) (drop base b₁) ≡ drop n b =
      rw (stored_is e, z, append_assoc, drop_at (take base b) (run ++ drop n b) base base-length, drop-append_seam) in
      rw (t, y, d)

-- ---- all of it

module _ (r : Record) (options packages : List ℕ) (size : ℕ) (k : Cuttable r options packages size) where
  abbrev w : Fragment
  w = whole_by r options packages

  pub pay_length : length w.payload ≡ length packages
  pay_length = cleaned-length packages k.cuts

  abbrev c0 : List ℕ
  c0 = take size w.payload

  c0-length : length c0 ≡ size
  c0-length = length-take-le size w.payload (omega (arith, pay_length, k.more))

  abbrev rest : List (List ℕ)
  rest = payload_parts size (drop size w.payload)

  first-parts : payload_parts size w.payload ≡ c0 ∷ rest
  first-parts =
      let z : 0 + length c0 ≡ size = omega (arith, c0-length) in
      next-parts size (omega (arith, k.least)) w.payload 0 (omega (arith, pay_length, k.more)) ∙ ap (λ (x : ℕ). c0 ∷ payload_parts size (drop x w.payload)) z

  abbrev first : Fragment
  first = fragment_by r FIRST (options ++ offset_option 0) c0

  all_are : fragments_by r options packages size ≡ first ∷ later_fragments w size (next_number r.sequence) rest
  unfolding fragments_with
  all_are = rw first-parts (ap (λ (x : ℕ). first ∷ later_fragments w x (next_number r.sequence) rest) c0-length)

  first-length : length (fragment_bytes first) ≡ 24 + pad (length options + 6) + size
  unfolding fragment_bytes
  first-length =
      omega (arith, length-append (padded (options ++ offset_option 0)) c0, length-padded (options ++ offset_option 0), ap pad (length-append options (offset_option 0)), c0-length)

  pub count-all : length (fragments_by r options packages size) ≡ suc (length rest)
  count-all = ap length all_are ∙ ap suc (later-count w size (next_number r.sequence) rest)

  rest-length : length (bytes_of (later_fragments w size (next_number r.sequence) rest)) ≡ 32 * length rest + (length packages - size)
  rest-length = omega (arith, later-length w size (next_number r.sequence) rest, ap length (parts-joined size (omega (arith, k.least)) (drop size w.payload)), length-drop size w.payload, pay_length)

  bytes-are : bytes_of (fragments_by r options packages size) ≡ fragment_bytes first ++ bytes_of (later_fragments w size (next_number r.sequence) rest)
  bytes-are = ap bytes_of all_are

  pub size-all : length (bytes_of (fragments_by r options packages size)) ≡ fragments_size options packages (length (fragments_by r options packages size))
  size-all =
      omega (arith, ap length bytes-are, length-append (fragment_bytes first) (bytes_of (later_fragments w size (next_number r.sequence) rest)), first-length, rest-length, count-all, k.more)

  -- how many there are, by their number of bytes
  pub count-is : (a : ℕ) → length packages ≤ a * size → a * size < length packages + size → a ≡ length (fragments_by r options packages size)
  count-is a p q =
      let m = length (payload_parts size w.payload) in
      let f : m ≡ suc (length rest) = ap length first-parts in
      let (x, y) = chunks-count size (chunks_of size (omega (arith, k.least)) 0 w.payload (omega (arith, pay_length, k.more))) in
      let x' : length packages ≤ m * size = rw (← pay_length) x in
      let y' : m * size < length packages + size = rw (← pay_length) y in
      let g : a ≤ m = one-count (length packages) size a m p q x' y' in
      let h : m ≤ a = one-count (length packages) size m a x' y' p q in
      omega (arith, count-all, f, g, h)

  -- ---- stored

  module _ (n : ℕ) (is : n ≡ fragments_size options packages (length (fragments_by r options packages size))) (b : List ℕ) (l : n ≤ length b) where
    long : n ≡ length (bytes_of (fragments_by r options packages size))
    long = is ∙ sym size-all

    total : n ≡ 24 + pad (length options + 6) + length packages + 32 * length rest
    total = omega (arith, is, count-all)

    abbrev from0 : ℕ
    from0 = n - length packages

    -- what is asked of the first
    pub first-behind : 24 + pad (length options + 6) ≤ from0
    first-behind = omega (arith, total)

    module _ (b₂ : List ℕ) (e : b₂ ≡ take from0 b ++ (w.payload ++ drop n b)) where
      front_length : length (take from0 b) ≡ from0
      front_length = length-take-le from0 b (omega arith)

      pub second-length : length b₂ ≡ length b
      second-length =
          ap length e ∙ omega (arith, length-append (take from0 b) (w.payload ++ drop n b), length-append w.payload (drop n b), length-drop n b, front_length, pay_length, total)

      behind-front : drop from0 b₂ ≡ w.payload ++ drop n b
      behind-front = ap (drop from0) e ∙ drop_at (take from0 b) (w.payload ++ drop n b) from0 front_length

      c0-is : part from0 (from0 + size) b₂ ≡ c0
      c0-is =
          let z : from0 + size - from0 ≡ size = omega arith in
          rw (z, behind-front) (take-append-le size w.payload (drop n b) (omega (arith, pay_length, k.more)))

      end_same : drop n b₂ ≡ drop n b
      end_same =
          let z : from0 + length w.payload ≡ n = omega (arith, pay_length, total) in
          rw (← z) (sym (drop-drop (length w.payload) from0 b₂) ∙ rw (behind-front, drop-append_seam, z))

      module _ (b₃ : List ℕ) (f : b₃ ≡ sets b₂ 0 (fragment_bytes (fragment_by r FIRST (options ++ offset_option 0) (part from0 (from0 + size) b₂)))) where
        f-is : b₃ ≡ sets b₂ 0 (fragment_bytes first)
        f-is = f ∙ ap (λ (x : List ℕ). sets b₂ 0 (fragment_bytes (fragment_by r FIRST (options ++ offset_option 0) x))) c0-is

        abbrev at0 : ℕ
        at0 = 24 + pad (length options + 6) + size

        third-length : length b₃ ≡ length b₂
        third-length = ap length f-is ∙ length-sets b₂ 0 (fragment_bytes first)

        third-front : take at0 b₃ ≡ fragment_bytes first
        third-front =
            let z : length (fragment_bytes first) ≡ at0 = first-length in
            rw f-is (rw (sets-eq (fragment_bytes first) b₂ 0 (omega (arith, z, second-length, total, l, k.more))) (take_at (fragment_bytes first) _ at0 z))

        third-end : drop n b₃ ≡ drop n b
        third-end = ap (drop n) f-is ∙ drop-sets (fragment_bytes first) b₂ 0 n (omega (arith, first-length, total, k.more)) ∙ end_same

        pub begun : Distributing w size n b₃ b₃ at0 (from0 + size) (next_number r.sequence)
        begun = record {
          offset = size;
          inside = omega (arith, pay_length, k.more);
          place = omega (arith, pay_length, total);
          stored = rw third-front (sym bytes-are);
          room = omega (arith, rest-length, total, k.more);
          rest =
              ap (drop (from0 + size)) f-is ∙ drop-sets (fragment_bytes first) b₂ 0 (from0 + size) (omega (arith, first-length, first-behind))
              ∙ sym (drop-drop size from0 b₂) ∙ rw (behind-front, third-end) (drop-append-le size w.payload (drop n b) (omega (arith, pay_length, k.more)));
          long = refl;
          fits = omega (arith, third-length, second-length, l);
        }

        pub begun_at : {m q : ℕ} → m ≡ pad (length options + 6) → q ≡ next_number r.sequence → Distributing w size n b₃ b₃ (24 + m + size) (from0 + size) q
        begun_at e g = rw (e, g) begun

        pub third_same : length b₃ ≡ length b
        third_same = third-length ∙ second-length

        pub finished : (out : List ℕ) → out ≡ sets b₃ 0 (bytes_of (fragments_by r options packages size)) → out ≡ sets b 0 (bytes_of (fragments_by r options packages size))
        finished out g =
            let x : List ℕ = bytes_of (fragments_by r options packages size) in
            let z : 0 + length x ≡ n = omega (arith, long) in
            g ∙ sets-eq x b₃ 0 (omega (arith, long, third-length, second-length, l)) ∙ rw (z, third-end) (sym (sets-eq x b 0 (omega (arith, long, l)) ∙ rw z))
