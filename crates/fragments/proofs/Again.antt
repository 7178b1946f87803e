-- A valid fragment, written and read again, is the same fragment; and what the checks of a whole message say of its bytes.
use Prim.Native.Nat.{ℕ, ◌+◌, ◌-◌, ◌*◌, ◌/◌, ◌%◌, ◌≤◌, ◌<◌}
use mathlib.Core.Path.{◌≡◌, refl, sym, ap, ◌∙◌}
use mathlib.Core.Bool.{not}
use mathlib.Core.List.{List, [], ◌++◌, append_assoc}
use native.Mathlib.Omega.{arith}
use borrow.Author.Tests.{eq-eqb, le-ltb}
use lib.Dec.{eqb}
use lib.ListN.{length, drop, length-append}
use lib.Seq.{take-append_seam, drop-append_seam, drop-drop}
use Rattle.rules.specs.Outcome.{Outcome, good, bad, refuse, ◌>>◌, ◌>>=◌, STANDARD, COUNT}
use Rattle.rules.specs.Bytes.{at, word, pad, padded, part, one_if_any}
use Rattle.rules.specs.Options.{option_run_from, count_said, differs}
use Rattle.rules.specs.Packages.{cut}
use Rattle.rules.specs.Message.{Head, head, payload_start, payload, standard_bit, checks_one_to_six, option_run_length, checks_eight_and_nine, checks_one_to_nine, checks_one_to_ten, every_check}
use Rattle.rules.proofs.Outcomes.{pass, pass_last, after, step}
use Rattle.rules.proofs.Numbers.{word-put32}
use Rattle.rules.proofs.Run.{run_fill}
use Rattle.rules.proofs.Pieces.{length-padded}
use Rattle.fragments.specs.Fragment.{WHOLE, other_bits, Fragment, fragment_of, fragment, fragment_bytes}

-- a fragment whose numbers fit their fields, with a run of whole options and a payload of whole words
pub record Valid (f : Fragment) : Type 0 where
  pub bits : f.bits < 4
  pub flags : other_bits f.flags ≡ f.flags
  pub small : f.flags < 256
  pub id : f.id < 4294967296
  pub sequence : f.sequence < 4294967296
  pub seconds : f.seconds < 4294967296
  pub nanos : f.nanos ≤ 999999999
  pub run : option_run_from [] 0 0 0 f.options ≡ good (length f.options)
  pub short : length f.options ≤ 60
  pub words : length f.payload % 4 ≡ 0
  pub size : length f.payload ≤ 65536

-- bits 5-4 beside the other flags
bits_back : (f b : ℕ) → b < 4 → f / 64 * 64 + f % 16 ≡ f → (f + b * 16) / 16 % 4 ≡ b
bits_back f b h e =
    let x : f ≡ f / 64 * 64 + f % 16 = sym e in
    let a : (f / 64 * 64 + f % 16 + b * 16) / 16 ≡ f / 64 * 4 + b = omega arith in
    let c : (f + b * 16) / 16 ≡ f / 64 * 4 + b = omega arith in
    rw c (omega arith)

flags-back : (f b : ℕ) → b < 4 → f / 64 * 64 + f % 16 ≡ f → (f + b * 16) / 64 * 64 + (f + b * 16) % 16 ≡ f
flags-back f b h e =
    let c : (f + b * 16) / 64 ≡ f / 64 = omega arith in
    let d : (f + b * 16) % 16 ≡ f % 16 = omega arith in
    rw (c, d, e)

bind_after : {A B : Type 0} (c : Outcome (Unit {0})) (o : Outcome A) (f : A → Outcome B) → ((c >> o) >>= f) ≡ (c >> (o >>= f))
unfolding ◌>>◌ ◌>>=◌
bind_after (good u) o f = refl
bind_after (bad n p) o f = refl

bind_then : {A B C : Type 0} (o : Outcome A) (g : A → B) (f : B → Outcome C) (h : A → Outcome C) → ((a : A) → f (g a) ≡ h a) → ((o >>= λ a. good (g a)) >>= f) ≡ (o >>= h)
unfolding ◌>>=◌
bind_then (good a) g f h e = e a
bind_then (bad n p) g f h e = refl

module _ (f : Fragment) (v : Valid f) (t : List ℕ) where
  abbrev options : List ℕ
  options = padded f.options

  abbrev header : Head
  header = record {
    version = 1;
    words = length options / 4;
    kind = 0;
    flags = f.flags + f.bits * 16;
    id = f.id;
    sequence = f.sequence;
    size = 24 + length options + length f.payload;
    seconds = f.seconds;
    nanos = f.nanos;
  }

  words4 : 4 * (length options / 4) ≡ length options
  words4 = omega (arith, length-padded f.options)

  id-again : word (fragment_bytes f ++ t) 4 ≡ f.id
  unfolding fragment_bytes word
  id-again = word-put32 f.id [] v.id

  sequence-again : word (fragment_bytes f ++ t) 8 ≡ f.sequence
  unfolding fragment_bytes word
  sequence-again = word-put32 f.sequence [] v.sequence

  size-again : word (fragment_bytes f ++ t) 12 ≡ 24 + length options + length f.payload
  unfolding fragment_bytes word
  size-again = word-put32 (24 + length options + length f.payload) [] (omega (arith, v.size, v.short, length-padded f.options))

  seconds-again : word (fragment_bytes f ++ t) 16 ≡ f.seconds
  unfolding fragment_bytes word
  seconds-again = word-put32 f.seconds [] v.seconds

  nanos-again : word (fragment_bytes f ++ t) 20 ≡ f.nanos
  unfolding fragment_bytes word
  nanos-again = word-put32 f.nanos [] (omega (arith, v.nanos))

  version-again : at (fragment_bytes f ++ t) 0 / 16 ≡ 1
  unfolding fragment_bytes
  version-again = omega (arith, v.short, length-padded f.options)

  words-again : at (fragment_bytes f ++ t) 0 % 16 ≡ length options / 4
  unfolding fragment_bytes
  words-again = omega (arith, v.short, length-padded f.options)

  pub head-again : head (fragment_bytes f ++ t) ≡ header
  unfolding head fragment_bytes
  head-again = rw (id-again, sequence-again, size-again, seconds-again, nanos-again, version-again, words-again)

  pub length-fragment : length (fragment_bytes f) ≡ 24 + length options + length f.payload
  unfolding fragment_bytes
  length-fragment = omega (arith, length-append options f.payload)

  length-all : length (fragment_bytes f ++ t) ≡ 24 + length options + length f.payload + length t
  length-all = length-append (fragment_bytes f) t ∙ ap (λ (k : ℕ). k + length t) length-fragment

  body : drop 24 (fragment_bytes f ++ t) ≡ (options ++ f.payload) ++ t
  unfolding fragment_bytes
  body = refl

  options-part : part 24 (payload_start header) (fragment_bytes f ++ t) ≡ options
  options-part =
      let c : 24 + length options - 24 ≡ length options = omega arith in
      rw (words4, c, body, append_assoc, take-append_seam)

  payload-part : part (payload_start header) header.size (fragment_bytes f ++ t) ≡ f.payload
  payload-part =
      let c : 24 + length options + length f.payload - (24 + length options) ≡ length f.payload = omega arith in
      rw (words4, c, ← drop-drop, body, append_assoc, drop-append_seam, take-append_seam)

  pub payload-again : payload (fragment_bytes f ++ t) (head (fragment_bytes f ++ t)) ≡ f.payload
  payload-again = rw head-again payload-part

  pub run-part : part 24 (24 + length f.options) (fragment_bytes f ++ t) ≡ f.options
  run-part =
      let c : 24 + length f.options - 24 ≡ length f.options = omega arith in
      rw (c, body, append_assoc, append_assoc, take-append_seam)

  module _ (p : ℕ) where
    checks_one_to_six-again : checks_one_to_six p (fragment_bytes f ++ t) header ≡ good tt
    unfolding checks_one_to_six
    checks_one_to_six-again =
        pass _ _ _ _ (le-ltb (length (fragment_bytes f ++ t)) 24 (omega (arith, length-all)))
        (pass _ _ _ _ refl
        (pass _ _ _ _ refl
        (pass _ _ _ _ (rw (
          le-ltb (24 + length options + length f.payload) (24 + 4 * (length options / 4)) (omega (arith, words4)),
          eq-eqb ((24 + length options + length f.payload) % 4) 0 (omega (arith, words4, v.words)),
        ))
        (pass _ _ _ _ (le-ltb (length (fragment_bytes f ++ t)) (24 + length options + length f.payload) (omega (arith, length-all)))
        (pass_last _ _ _ (le-ltb 999999999 f.nanos v.nanos))))))

    run-again : option_run_length p (fragment_bytes f ++ t) header ≡ good (length f.options)
    unfolding option_run_length
    run-again =
        after _ _ checks_one_to_six-again
        (rw options-part
        (run_fill [] 0 0 (p + 24) 0 f.options (pad (length f.options) - length f.options) (omega arith) (omega arith) v.run))

    record_again : fragment_of (fragment_bytes f ++ t) header (length f.options) ≡ f
    unfolding fragment_of
    record_again = rw (bits_back f.flags f.bits v.bits v.flags, flags-back f.flags f.bits v.bits v.flags, run-part, payload-part)

    pub fragment-again : fragment p (fragment_bytes f ++ t) ≡ good (f, length (fragment_bytes f))
    unfolding fragment
    fragment-again = rw head-again (step _ _ run-again (rw (record_again, length-fragment)))

    -- of a whole one only the checks from 9 on are open
    abbrev open_ten : Outcome (ℕ × List (List ℕ))
    open_ten = do
      refuse (not (eqb (standard_bit f.flags) (one_if_any f.payload))) STANDARD p
      cs ← cut (p + (24 + length options)) f.payload
      good (length f.options, cs)

    abbrev pub open_checks : Outcome (ℕ × List (List ℕ))
    open_checks = do
      refuse (not (eqb (standard_bit f.flags) (one_if_any f.payload))) STANDARD p
      cs ← cut (p + (24 + length options)) f.payload
      refuse (differs (count_said f.options) (length cs)) COUNT p
      good (length f.options, cs)

    abbrev standard : Outcome (Unit {0})
    standard = refuse (not (eqb (standard_bit f.flags) (one_if_any f.payload))) STANDARD p

    eight_nine : f.bits ≡ WHOLE → checks_eight_and_nine p (fragment_bytes f ++ t) header ≡ standard
    unfolding checks_eight_and_nine
    eight_nine z =
        let e : f.flags + f.bits * 16 ≡ f.flags = omega arith in
        let g : f.flags / 16 % 4 ≡ 0 = rw e at (bits_back f.flags f.bits v.bits v.flags ∙ z) in
        rw (payload-part, e) (pass _ _ _ _ (rw (eq-eqb (f.flags / 16 % 4) 0 g)) refl)

    nine-checks : f.bits ≡ WHOLE → checks_one_to_nine p (fragment_bytes f ++ t) header ≡ (standard >> good (length f.options))
    unfolding checks_one_to_nine
    nine-checks z = step _ _ run-again (ap (λ (o : Outcome (Unit {0})). o >> good (length f.options)) (eight_nine z))

    ten_checks : f.bits ≡ WHOLE → checks_one_to_ten p (fragment_bytes f ++ t) (head (fragment_bytes f ++ t)) ≡ open_ten
    unfolding checks_one_to_ten
    ten_checks z = rw (head-again, nine-checks z) (bind_after _ _ _ ∙ ap (λ (o : Outcome (ℕ × List (List ℕ))). standard >> o) (step _ _ refl (rw (payload-part, words4))))

    pub whole-checks : f.bits ≡ WHOLE → every_check p (fragment_bytes f ++ t) (head (fragment_bytes f ++ t)) ≡ open_checks
    unfolding every_check
    whole-checks z = rw (ten_checks z) (bind_after _ _ _ ∙ ap (λ (o : Outcome (ℕ × List (List ℕ))). refuse (not (eqb (standard_bit f.flags) (one_if_any f.payload))) STANDARD p >> o) (bind_then _ _ _ _ (λ cs. rw run-part)))
