-- What is cut: valid fragments, a whole set in order, with the whole's payload.
use Prim.Native.Nat.{ℕ, ◌+◌, ◌%◌, ◌≤◌, ◌<◌}
use mathlib.Core.Path.{◌≡◌, refl}
use mathlib.Core.Logic.{◌⊎◌, inl, inr}
use mathlib.Core.List.{List, [], ◌∷◌, ◌++◌}
use mathlib.Core.Option.{some}
use native.Mathlib.Omega.{arith}
use lib.ListN.{length, length-append}
use Rattle.rules.specs.Outcome.{good}
use Rattle.rules.specs.Bytes.{join}
use Rattle.rules.specs.Items.{All, all_nil, all_cons}
use Rattle.fragments.specs.Fragment.{FIRST, MIDDLE, LAST, Fragment, options_of, offset_option, offset_in, offset_of, payloads_of, next_number}
use Rattle.fragments.specs.Cutting.{fragment_with, later_fragments, fragments_with, no_offset}
use Rattle.fragments.specs.Claims.{Behind, Follow, end, next, WholeSet, many, Filled, last, full}
use Rattle.rules.specs.Items.{none}
use Rattle.fragments.proofs.Options.{Run, Once, made_of, once_of, run-options, run-whole, offset-run, offset-once, only-offset, offset-behind}
use Rattle.fragments.proofs.Again.{Valid}
use Rattle.fragments.proofs.Chunks.{Chunks, chunks-join}

-- ---- the later fragments

-- the offset of a later fragment
later-offset : (o : ℕ) → o < 4294967296 → offset_in (options_of (offset_option o)) ≡ some o
unfolding no_offset
later-offset o h = rw (run-options (offset-run o none)) (offset-behind [] o h 0 refl)

later-run : (o : ℕ) → Run (offset_option o ∷ []) (offset_option o)
later-run o = offset-run o none

-- ---- the fragments of a valid whole

module _ (w : Fragment) (v : Valid w) where
  valid_with : (b q : ℕ) (options c : List ℕ) {cs : List (List ℕ)} → b < 4 → q < 4294967296 → Run cs options → Once cs → length options ≤ 60
      → length c % 4 ≡ 0 → length c ≤ 65536 → Valid (fragment_with w b q options c)
  valid_with b q options c hb hq r u l m z = record {
    bits = hb;
    flags = v.flags;
    small = v.small;
    id = v.id;
    sequence = hq;
    seconds = v.seconds;
    nanos = v.nanos;
    run = run-whole r u 0;
    short = l;
    words = m;
    size = z;
  }

  later_valid : {size : ℕ} {cs : List (List ℕ)} {s : List ℕ} → Chunks size cs s → size % 4 ≡ 0 → length s % 4 ≡ 0 → length s ≤ 65536
      → (o q : ℕ) → q < 4294967296 → All Valid (later_fragments w o q cs)
  unfolding later_fragments
  later_valid (Chunks.last {c = c} a b) m n z o q h = all_cons (valid_with LAST q (offset_option o) c (omega arith) h (later-run o) (only-offset o) (omega arith) n z) all_nil
  later_valid (Chunks.full {c = c} {d = d} {cs = cs} {s = s} e r) m n z o q h =
      all_cons (valid_with MIDDLE q (offset_option o) c (omega arith) h (later-run o) (only-offset o) (omega arith) (omega arith) (omega (arith, length-append c s)))
      (later_valid r m (omega (arith, length-append c s)) (omega (arith, length-append c s)) (o + length c) (next_number q) (omega arith))

  -- e is a fragment of w that is not the last, and ends at offset o
  record Before (e : Fragment) (o q : ℕ) : Type 0 where
    pub before : (e.bits ≡ FIRST) ⊎ (e.bits ≡ MIDDLE)
    pub start : ℕ
    pub offset : offset_of e ≡ some start
    pub ends : start + length e.payload ≡ o
    pub number : q ≡ next_number e.sequence
    pub id : w.id ≡ e.id
    pub seconds : w.seconds ≡ e.seconds
    pub nanos : w.nanos ≡ e.nanos
    pub flags : w.flags ≡ e.flags

  stands : (e : Fragment) (b o q : ℕ) (c : List ℕ) → (b ≡ MIDDLE) ⊎ (b ≡ LAST) → o < 4294967296 → Before e o q → Behind e (fragment_with w b q (offset_option o) c)
  stands e b o q c k h i = record {
    before = i.before;
    bits = k;
    start = i.start;
    offset = i.offset;
    next = rw i.ends (later-offset o h);
    number = i.number;
    id = i.id;
    seconds = i.seconds;
    nanos = i.nanos;
    flags = i.flags;
  }

  later_follow : {size : ℕ} {cs : List (List ℕ)} {s : List ℕ} → Chunks size cs s → (e : Fragment) (o q : ℕ) → o + length s < 4294967296 → Before e o q
      → Follow e (later_fragments w o q cs)
  unfolding later_fragments
  later_follow (Chunks.last {c = c} a b) e o q h i = next (stands e LAST o q c (inr refl) (omega arith) i) (end refl)
  later_follow (Chunks.full {c = c} {d = d} {cs = cs} {s = s} z r) e o q h i =
      next (stands e MIDDLE o q c (inl refl) (omega arith) i)
      (later_follow r (fragment_with w MIDDLE q (offset_option o) c) (o + length c) (next_number q) (omega (arith, length-append c s)) (record {
        before = inr refl;
        start = o;
        offset = later-offset o (omega arith);
        ends = refl;
        number = refl;
        id = refl;
        seconds = refl;
        nanos = refl;
        flags = refl;
      }))

  later-payload : (cs : List (List ℕ)) (o q : ℕ) → payloads_of (later_fragments w o q cs) ≡ join cs
  unfolding later_fragments
  later-payload [] o q = refl
  later-payload (c ∷ cs) o q = rw (later-payload cs (o + length c) (next_number q))

  later-filled : {size : ℕ} {cs : List (List ℕ)} {s : List ℕ} → Chunks size cs s → (o q : ℕ) → Filled size (later_fragments w o q cs)
  unfolding later_fragments
  later-filled (Chunks.last a b) o q = last a b
  later-filled (Chunks.full {c = c} e r) o q = full e (later-filled r (o + length c) (next_number q))

  pub later-count : (cs : List (List ℕ)) (o q : ℕ) → length (later_fragments w o q cs) ≡ length cs
  unfolding later_fragments
  later-count [] o q = refl
  later-count (c ∷ cs) o q = rw (later-count cs (o + length c) (next_number q))

  -- ---- all of them: the payload has more than one part, and 0x86 fits behind the options
  module _ (p : ℕ) (clear : no_offset p (options_of w.options) ≡ good tt) (room : length w.options + 6 ≤ 60)
      (size : ℕ) (four : size % 4 ≡ 0) (c d : List ℕ) (cs : List (List ℕ)) (s : List ℕ) (e : length c ≡ size) (r : Chunks size (d ∷ cs) s)
      (words : (length c + length s) % 4 ≡ 0) (short : length c + length s ≤ 65536) where
    run : Run (options_of w.options) w.options
    run = made_of w.options v.run

    abbrev first : Fragment
    first = fragment_with w FIRST w.sequence (w.options ++ offset_option 0) c

    pub all_valid : All Valid (fragments_with w (c ∷ d ∷ cs))
    unfolding fragments_with
    all_valid =
        all_cons (valid_with FIRST w.sequence (w.options ++ offset_option 0) c (omega arith) v.sequence (offset-run 0 run) (offset-once (options_of w.options) 0 p clear (once_of w.options v.run)) (omega (arith, length-append w.options (offset_option 0))) (omega arith) (omega arith))
        (later_valid r four (omega arith) (omega arith) (length c) (next_number w.sequence) (omega arith))

    first-offset : offset_of first ≡ some 0
    first-offset = rw (run-options (offset-run 0 run)) (offset-behind (options_of w.options) 0 (omega arith) p clear)

    pub all-ordered : WholeSet (fragments_with w (c ∷ d ∷ cs))
    unfolding fragments_with
    all-ordered =
        many refl first-offset
        (later_follow r first (length c) (next_number w.sequence) (omega arith) (record {
          before = inl refl;
          start = 0;
          offset = first-offset;
          ends = omega arith;
          number = refl;
          id = refl;
          seconds = refl;
          nanos = refl;
          flags = refl;
        }))

    pub all-payload : payloads_of (fragments_with w (c ∷ d ∷ cs)) ≡ c ++ s
    unfolding fragments_with
    all-payload = rw (later-payload (d ∷ cs) (length c) (next_number w.sequence), chunks-join size r)

    pub all-filled : Filled size (fragments_with w (c ∷ d ∷ cs))
    unfolding fragments_with later_fragments
    all-filled = full e (later-filled r (length c) (next_number w.sequence))

    pub all-count : length (fragments_with w (c ∷ d ∷ cs)) ≡ length (c ∷ d ∷ cs)
    unfolding fragments_with
    all-count = rw (later-count (d ∷ cs) (length c) (next_number w.sequence))
