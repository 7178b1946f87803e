-- What the inner functions promise: where 0x86 stands, and what is stored.
use Rattle.std.specs.Prelude.{ℕ, zero, ◌+◌, ◌-◌, ◌*◌, ◌/◌, ◌%◌, ◌≤◌, ◌<◌, ◌≡◌, Bool, true, false, not, ◌&&◌, ◌||◌, List, [], ◌∷◌, ◌++◌, map, ltb, eqb, length, take, drop}
use Rattle.std.proofs.Math.Option.{none}
use Rattle.rules.specs.Outcome.{Outcome, good, bad, refuse, ◌>>◌, ◌>>=◌}
use Rattle.refusal.specs.Numbers.{GAP}
use Rattle.rules.specs.Bytes.{at, pad, half, part, join}
use Rattle.rules.specs.Options.{option_size, option_run_from}
use Rattle.rules.specs.Packages.{cut}
use Rattle.rules.specs.Message.{Head, head, payload_start, fragment_bits, option_run_length}
use Rattle.rules.specs.Buffer.{Written}
use Rattle.rules.specs.Clean.{clean_piece}
use Rattle.compose.specs.declared.Record.{Record}
use Rattle.compose.specs.Payload.{Cuts}
use Rattle.fragments.specs.Fragment.{WHOLE, FIRST, MIDDLE, LAST, other_bits, Fragment, options_of, is_offset, offset_in, without_offset, bytes_of, payloads_of}
use Rattle.fragments.specs.declared.Passed.{Passed}
use Rattle.fragments.specs.Joining.{says_offset, fragments_from}
use Rattle.fragments.specs.Cutting.{CutAnswer, payload_parts, later_fragments, fragments_with, room_for_all, cut_stored}

-- a run of whole options, none of kind 0x00
pub record WholeOptions (o : List ℕ) : Type 0 where
  pub run : option_run_from [] zero zero zero o ≡ good (length o)

-- where the first option 0x86 stands, or where the options end
unfoldable pub offset_place : List (List ℕ) → ℕ
offset_place [] = 0
offset_place (c ∷ cs) = elim (is_offset c) [ true ↦ 0 | false ↦ length c + offset_place cs ]

-- the package at index i of a run is cleaned where it stands, and the next one begins at index e
pub record CleanedAt (run : List ℕ) (i : ℕ) (after : List ℕ) (e : ℕ) : Type 0 where
  pub end : i + pad (half (drop i run) 4) ≡ e
  pub bytes : after ≡ take i run ++ (clean_piece (part i e run) ++ drop e run)

-- the packages of a run that is cut so, cleaned
unfoldable pub cleaned_of : Outcome (List (List ℕ)) → List ℕ
cleaned_of (good cs) = join (map clean_piece cs)
cleaned_of (bad n p) = []

-- Packages are passed word by word, so that they may reach over the fragments: 0 is the start of a package, 1 its second word, which begins with its length L, 2 a bad L,
-- and any other number says how many bytes of it are still to come
unfoldable pub package_step : ℕ → ℕ → ℕ
package_step state l = elim (eqb state 0) [
  | true ↦ 1
  | false ↦ elim (eqb state 1) [
    | true ↦ elim (ltb l 12) [ true ↦ 2 | false ↦ pad l - 8 ]
    | false ↦ elim (eqb state 2) [ true ↦ 2 | false ↦ state - 4 ]
  ]
]

-- the state behind the words of s
unfoldable pub scan : ℕ → List ℕ → ℕ
scan state [] = state
scan state (a ∷ []) = state
scan state (a ∷ b ∷ []) = state
scan state (a ∷ b ∷ c ∷ []) = state
scan state (a ∷ b ∷ c ∷ d ∷ s) = scan (package_step state (a * 256 + b)) s

-- how many packages begin among the words of s
unfoldable pub package_start : ℕ → ℕ
package_start state = elim (eqb state 0) [ true ↦ 1 | false ↦ 0 ]

unfoldable pub starts : ℕ → List ℕ → ℕ
starts state [] = 0
starts state (a ∷ []) = 0
starts state (a ∷ b ∷ []) = 0
starts state (a ∷ b ∷ c ∷ []) = 0
starts state (a ∷ b ∷ c ∷ d ∷ s) = package_start state + starts (package_step state (a * 256 + b)) s

-- the fragment that has these numbers, bits, options and payload
abbrev pub fragment_by : Record → ℕ → List ℕ → List ℕ → Fragment
fragment_by r bits options payload = record {
  bits = bits;
  flags = r.flags;
  id = r.id.0;
  sequence = r.sequence;
  seconds = r.seconds;
  nanos = r.nanos;
  options = options;
  payload = payload;
}

-- with sequence number q
abbrev pub numbered : Record → ℕ → Record
numbered r q = record { flags = r.flags; id = r.id; sequence = q; seconds = r.seconds; nanos = r.nanos }

-- the bits of a fragment that ends at a, where the last one ends at n
unfoldable pub bits_at : ℕ → ℕ → ℕ
bits_at a n = elim (ltb a n) [ true ↦ MIDDLE | false ↦ LAST ]

-- what is asked where a fragment with n bytes of payload, which stand from index `from` on, is stored behind a front of so many bytes
pub record Movable (out : List ℕ) (r : Record) (bits front from n : ℕ) : Type 0 where
  pub flags : r.flags + bits * 16 < 256
  pub behind : front ≤ from
  pub inside : from + n ≤ length out
  pub short : n < 65536

-- the whole message of a record, its option run and its run of packages, which is cut
abbrev pub whole_by : Record → List ℕ → List ℕ → Fragment
whole_by r options packages = fragment_by r WHOLE options (cleaned_of (cut zero packages))

-- what is known where a message is cut: 0x86 fits behind its options, and its payload has more than `size` bytes
pub record Cuttable (r : Record) (options packages : List ℕ) (size : ℕ) : Type 0 where
  pub flags : r.flags / 16 % 4 ≡ 0
  pub small : r.flags < 256
  pub room : length options ≤ 54
  pub least : 4 ≤ size
  pub words : size % 4 ≡ 0
  pub more : size < length packages
  pub most : length packages ≤ 65536
  pub cuts : Cuts packages

-- its fragments
abbrev pub fragments_by : Record → List ℕ → List ℕ → ℕ → List Fragment
fragments_by r options packages size = fragments_with (whole_by r options packages) (payload_parts size (whole_by r options packages).payload)

-- how long they are, k of them
abbrev pub fragments_size : List ℕ → List ℕ → ℕ → ℕ
fragments_size options packages k = 24 + pad (length options + 6) + length packages + 32 * (k - 1)

-- out has the cleaned payload at the end of its first n bytes, and b behind them; the fragments behind the first are still to come, from place `at` on:
-- their payloads stand from `from` on, and q is the next sequence number
pub record Distributing (w : Fragment) (size n : ℕ) (b out : List ℕ) (at from q : ℕ) : Type 0 where
  pub offset : ℕ
  pub inside : offset ≤ length w.payload
  pub place : from + length w.payload ≡ n + offset
  pub stored : take at out ++ bytes_of (later_fragments w offset q (payload_parts size (drop offset w.payload))) ≡ bytes_of (fragments_with w (payload_parts size w.payload))
  pub room : at + length (bytes_of (later_fragments w offset q (payload_parts size (drop offset w.payload)))) ≡ n
  pub rest : drop from out ≡ drop offset w.payload ++ drop n b
  pub long : length out ≡ length b
  pub fits : n ≤ length b

-- and the answer
unfoldable pub fragmented : Record → List ℕ → List ℕ → ℕ → List ℕ → CutAnswer × List ℕ
fragmented r options packages size buffer = cut_stored buffer (room_for_all buffer (fragments_by r options packages size))

-- the answer where the message is not cut: the cleaner's, with one fragment where it has written
unfoldable pub one_piece : Written × List ℕ → CutAnswer × List ℕ
one_piece (a, b) = (record { number = a.number; place = a.place; bytes = a.bytes; fragments = elim (eqb a.number 0) [ true ↦ 1 | false ↦ 0 ] }, b)

-- ---- joining

-- the header at place i, read with checks 1 to 7; and how long its option run is
unfoldable pub header_at : List ℕ → ℕ → Outcome (Head × ℕ)
header_at s i = do
  n ← option_run_length i (drop i s) (head (drop i s))
  good (head (drop i s), n)

-- whether the fragment with header g and this option run may stand behind one with bits `last`, where h is the first header, q the next number and o the next offset
unfoldable pub fits_behind : Head → ℕ → ℕ → ℕ → Head → List ℕ → Bool
fits_behind h last q o g run =
    (eqb last FIRST || eqb last MIDDLE) && (eqb (fragment_bits g.flags) MIDDLE || eqb (fragment_bits g.flags) LAST)
    && says_offset (offset_in (options_of run)) o && eqb g.sequence q
    && eqb g.id h.id && eqb g.seconds h.seconds && eqb g.nanos h.nanos && eqb (other_bits g.flags) (other_bits h.flags)

-- whether the fragment with header g and this option run may stand first
unfoldable pub begins_by : Head → List ℕ → Bool
begins_by g run = eqb (fragment_bits g.flags) WHOLE || (eqb (fragment_bits g.flags) FIRST && says_offset (offset_in (options_of run)) 0)

-- where the payload of the fragment at place i begins and ends, and its bits, if it may stand there
unfoldable pub next_fragment : List ℕ → ℕ → Head → ℕ → ℕ → ℕ → Outcome (ℕ × ℕ × ℕ)
next_fragment s i h last q o = do
  (g, n) ← header_at s i
  refuse (not (fits_behind h last q o g (part (i + 24) (i + 24 + n) s))) GAP i
  good (i + payload_start g, i + g.size, fragment_bits g.flags)

-- all the fragments read: how long the payload is, its state, and how many packages begin in it
unfoldable pub gathered : List ℕ → Outcome (ℕ × ℕ × ℕ)
gathered s = do
  fs ← fragments_from none zero zero s
  good (length (payloads_of fs), scan 0 (payloads_of fs), starts 0 (payloads_of fs))

-- the first fragment has this header and so long an option run, and may stand first
pub record Begun (s : List ℕ) (g : Head) (n : ℕ) : Type 0 where
  pub read : good (g, n) ≡ header_at s 0
  pub begins : begins_by g (part 24 (24 + n) s) ≡ true

-- how many bytes of the option at the start of o are kept: none of 0x86
unfoldable pub kept_here : List ℕ → ℕ
kept_here o = elim (eqb (at o 0) 0x86) [ true ↦ 0 | false ↦ option_size o ]

-- the payloads of fragments that were read so, one behind the other
unfoldable pub payloads_in : Outcome (List Fragment) → List ℕ
payloads_in (good fs) = payloads_of fs
payloads_in (bad n p) = []

-- the fragments of s are in order
pub record InOrder (s : List ℕ) : Type 0 where
  pub fragments : List Fragment
  pub read : fragments_from none zero zero s ≡ good fragments

-- the options that are kept of a run: all of a whole message's, of a first fragment's all but 0x86
unfoldable pub kept_by : ℕ → List ℕ → List ℕ
kept_by bits run = elim (eqb bits WHOLE) [ true ↦ run | false ↦ without_offset (options_of run) ]

-- what is known where the joined message is stored: k bytes of options and a payload that can be cut, n bytes in all
pub record Storable (out : List ℕ) (bits : ℕ) (run s : List ℕ) (k n : ℕ) : Type 0 where
  pub kept : k ≡ length (kept_by bits run)
  pub short : length run ≤ 60
  pub less : k ≤ 60
  pub input : length s ≤ 65536
  pub payload : length (payloads_in (fragments_from none zero zero s)) < 65536
  pub cuts : Cuts (payloads_in (fragments_from none zero zero s))
  pub size : n ≡ 24 + pad k + length (payloads_in (fragments_from none zero zero s))
  pub room : n ≤ length out

-- what was gathered, and the first header
pub record Joinable (s : List ℕ) (g : Head) (n payload : ℕ) (passed : Passed) : Type 0 where
  pub read : good (g, n) ≡ header_at s 0
  pub all : good (payload, passed.state, passed.packages) ≡ gathered s
  pub small : length s ≤ 65536

-- 1 where there are some
unfoldable pub one_if : ℕ → ℕ
one_if n = elim (ltb 0 n) [ true ↦ 1 | false ↦ 0 ]
