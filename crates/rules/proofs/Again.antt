-- A valid record, written and read again, is the same record.
use Prim.Native.Nat.{ℕ, ◌+◌, ◌-◌, ◌*◌, ◌/◌, ◌%◌, ◌≤◌, ◌<◌}
use mathlib.Core.Path.{◌≡◌, refl, ap, ◌∙◌}
use mathlib.Core.List.{List, [], ◌∷◌, ◌++◌, map, append_assoc}
use native.Mathlib.Nat.{add-mul-mod_self_right}
use native.Mathlib.Omega.{arith}
use borrow.Author.Tests.{eq-eqb, le-ltb}
use lib.ListN.{length, drop, length-append, length-map}
use lib.Seq.{take-append_seam, drop-append_seam, drop-drop}
use Rattle.rules.specs.Outcome.{good}
use Rattle.rules.specs.Bytes.{at, word, pad, padded, part, join, one_if_any}
use Rattle.rules.specs.Options.{count_said}
use Rattle.rules.specs.Packages.{Package, cut, piece_of}
use Rattle.rules.specs.Message.{Head, head, payload_start, checks_one_to_six, option_run_length, checks_eight_and_nine, checks_one_to_nine, checks_one_to_ten, every_check, Message, record_of, message}
use Rattle.rules.specs.Writer.{write}
use Rattle.rules.specs.Valid.{Valid}
use Rattle.rules.proofs.Outcomes.{pass, pass_last, after, step}
use Rattle.rules.proofs.Numbers.{word-put32}
use Rattle.rules.proofs.Cut.{complete}
use Rattle.rules.proofs.Run.{run_fill}
use Rattle.rules.proofs.Counts.{agrees}
use Rattle.rules.proofs.Pieces.{length-padded, packages-again, filled, any-pieces, whole_words}

-- the two parts behind a header
module _ (s o q t : List ℕ) (e : drop 24 s ≡ (o ++ q) ++ t) where
  options-part : part 24 (24 + length o) s ≡ o
  options-part =
      let c : 24 + length o - 24 ≡ length o = omega arith in
      rw (c, e, append_assoc, take-append_seam)

  payload-part : part (24 + length o) (24 + length o + length q) s ≡ q
  payload-part =
      let c : 24 + length o + length q - (24 + length o) ≡ length q = omega arith in
      rw (c, ← drop-drop, e, append_assoc, drop-append_seam, take-append_seam)

-- flag 7 does not touch the record's flags
kept : (f a : ℕ) → f / 64 % 2 * 64 + f % 16 ≡ f → (f + a * 128) / 64 % 2 * 64 + (f + a * 128) % 16 ≡ f
kept f a e =
    let b : (f + a * 128) / 64 ≡ f / 64 + a * 2 = omega arith in
    let c : (f / 64 + a * 2) % 2 ≡ f / 64 % 2 = add-mul-mod_self_right (f / 64) a 2 in
    let d : (f + a * 128) % 16 ≡ f % 16 = omega arith in
    rw (b, c, d, e)

seven : (f a : ℕ) → a ≤ 1 → f / 64 % 2 * 64 + f % 16 ≡ f → (f + a * 128) / 128 % 2 ≡ a
seven f a h e =
    let b : f < 128 = omega arith in
    let c : (f + a * 128) / 128 ≡ a = omega arith in
    rw c (omega arith)

module _ (m : Message) (v : Valid m) (t : List ℕ) where
  abbrev options : List ℕ
  options = padded m.options

  abbrev payload : List ℕ
  payload = join (map piece_of m.packages)

  abbrev header : Head
  header = record {
    version = 1;
    words = length options / 4;
    kind = 0;
    flags = m.flags + one_if_any m.packages * 128;
    id = m.id;
    sequence = m.sequence;
    size = 24 + length options + length payload;
    seconds = m.seconds;
    nanos = m.nanos;
  }

  words4 : 4 * (length options / 4) ≡ length options
  words4 = omega (arith, length-padded m.options)

  id-again : word (write m ++ t) 4 ≡ m.id
  unfolding write word
  id-again = word-put32 m.id [] v.id

  sequence-again : word (write m ++ t) 8 ≡ m.sequence
  unfolding write word
  sequence-again = word-put32 m.sequence [] v.sequence

  size-again : word (write m ++ t) 12 ≡ 24 + length options + length payload
  unfolding write word
  size-again = word-put32 (24 + length options + length payload) [] (omega (arith, v.size, length-padded m.options))

  seconds-again : word (write m ++ t) 16 ≡ m.seconds
  unfolding write word
  seconds-again = word-put32 m.seconds [] v.seconds

  nanos-again : word (write m ++ t) 20 ≡ m.nanos
  unfolding write word
  nanos-again = word-put32 m.nanos [] (omega (arith, v.nanos))

  pub version-again : at (write m ++ t) 0 / 16 ≡ 1
  unfolding write
  version-again = omega (arith, v.short, length-padded m.options)

  words-again : at (write m ++ t) 0 % 16 ≡ length options / 4
  unfolding write
  words-again = omega (arith, v.short, length-padded m.options)

  head-again : head (write m ++ t) ≡ header
  unfolding head write
  head-again = rw (id-again, sequence-again, size-again, seconds-again, nanos-again, version-again, words-again)

  pub length-write : length (write m) ≡ 24 + length options + length payload
  unfolding write
  length-write = omega (arith, length-append options payload)

  length-all : length (write m ++ t) ≡ 24 + length options + length payload + length t
  length-all = length-append (write m) t ∙ ap (λ (k : ℕ). k + length t) length-write

  body : drop 24 (write m ++ t) ≡ (options ++ payload) ++ t
  unfolding write
  body = refl

  run-part : part 24 (24 + length m.options) (write m ++ t) ≡ m.options
  run-part =
      let c : 24 + length m.options - 24 ≡ length m.options = omega arith in
      rw (c, body, append_assoc, append_assoc, take-append_seam)

  pub any-le : one_if_any m.packages ≤ 1
  any-le = go m.packages
    where
      go : (l : List Package) → one_if_any l ≤ 1
      go [] = omega arith
      go (x ∷ l) = omega arith

  module _ (p : ℕ) where
    checks_one_to_six-again : checks_one_to_six p (write m ++ t) header ≡ good tt
    unfolding checks_one_to_six
    checks_one_to_six-again =
        pass _ _ _ _ (le-ltb (length (write m ++ t)) 24 (omega (arith, length-all)))
        (pass _ _ _ _ refl
        (pass _ _ _ _ refl
        (pass _ _ _ _ (rw (
          le-ltb (24 + length options + length payload) (24 + 4 * (length options / 4)) (omega (arith, words4)),
          eq-eqb ((24 + length options + length payload) % 4) 0 (omega (arith, words4, whole_words v.packages)),
        ))
        (pass _ _ _ _ (le-ltb (length (write m ++ t)) (24 + length options + length payload) (omega (arith, length-all)))
        (pass_last _ _ _ (le-ltb 999999999 m.nanos v.nanos))))))

    run-again : option_run_length p (write m ++ t) header ≡ good (length m.options)
    unfolding option_run_length
    run-again =
        after _ _ checks_one_to_six-again
        (rw (words4, options-part (write m ++ t) options payload t body)
        (run_fill [] 0 0 (p + 24) 0 m.options (pad (length m.options) - length m.options) (omega arith) (omega arith) v.run))

    cut_again : cut (p + payload_start header) (part (payload_start header) header.size (write m ++ t)) ≡ good (map piece_of m.packages)
    cut_again = rw (words4, payload-part (write m ++ t) options payload t body) (complete (filled v.packages) (p + (24 + length options)))

    checks_eight_and_nine-again : checks_eight_and_nine p (write m ++ t) header ≡ good tt
    unfolding checks_eight_and_nine
    checks_eight_and_nine-again =
        pass _ _ _ _ (rw (eq-eqb ((m.flags + one_if_any m.packages * 128) / 16 % 4) 0 (omega (arith, v.flags, any-le))))
        (pass_last _ _ _ (rw (words4, payload-part (write m ++ t) options payload t body, any-pieces, eq-eqb ((m.flags + one_if_any m.packages * 128) / 128 % 2) (one_if_any m.packages) (seven m.flags (one_if_any m.packages) any-le v.flags))))

    checks_one_to_ten-again : checks_one_to_ten p (write m ++ t) header ≡ good (length m.options, map piece_of m.packages)
    unfolding checks_one_to_ten checks_one_to_nine
    checks_one_to_ten-again = step _ _ (step _ _ run-again (after _ _ checks_eight_and_nine-again refl)) (step _ _ cut_again refl)

    every_check-again : every_check p (write m ++ t) header ≡ good (length m.options, map piece_of m.packages)
    unfolding every_check
    every_check-again = step _ _ checks_one_to_ten-again (pass _ _ _ _ (rw (run-part, length-map) (agrees (count_said m.options) (length m.packages) v.count)) refl)

    record_again : record_of (write m ++ t) header (length m.options, map piece_of m.packages) ≡ m
    unfolding record_of
    record_again = rw (kept m.flags (one_if_any m.packages) v.flags, packages-again v.packages, run-part)

    pub message-again : message p (write m ++ t) ≡ good (m, length (write m))
    unfolding message
    message-again = rw head-again (step _ _ every_check-again (rw (record_again, length-write)))
