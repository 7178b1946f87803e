-- What fragments make up is a whole message of which only the checks from 9 on are open, and its clean form is no longer than the fragments.
use Prim.Native.Nat.{ℕ, ◌+◌, ◌-◌, ◌*◌, ◌/◌, ◌%◌, ◌≤◌, ◌<◌}
use mathlib.Core.Path.{◌≡◌, refl, sym, ◌∙◌}
use mathlib.Core.Logic.{◌⊎◌, inl, inr, ⊎_elim}
use mathlib.Core.Bool.{Bool, true, false}
use mathlib.Core.List.{List, [], ◌∷◌, append-nil}
use native.Mathlib.Omega.{arith}
use lib.Dec.{eqb}
use lib.ListN.{length, drop, length-append, length-take}
use Rattle.rules.specs.Outcome.{good, bad, STANDARD, PACKAGE, COUNT}
use Rattle.rules.specs.Bytes.{Bytes, pad, padded, part}
use Rattle.rules.specs.Items.{All, all_nil, all_cons}
use Rattle.rules.specs.Options.{option_run_from}
use Rattle.rules.specs.Message.{head, payload_start, every_check, record_of}
use Rattle.rules.specs.Writer.{write}
use Rattle.rules.specs.Clean.{clean_form}
use Rattle.rules.proofs.Outcomes.{stepped, good_inj, good≢bad, refused_pass, refused-step, refused-only}
use Rattle.rules.proofs.Numbers.{bytes-cons, bytes-nil, bytes-put32, bytes-zeros, bytes-append}
use Rattle.rules.proofs.Cut as Cut
use Rattle.rules.proofs.Run.{run_ends}
use Rattle.rules.proofs.Pieces.{length-padded}
use Rattle.rules.proofs.Again.{length-write}
use Rattle.rules.proofs.Passed.{Passed, passes}
use Rattle.rules.proofs.Cleaned.{write_read}
use Rattle.rules.proofs.Valids.{valid, run_length, payload-length}
use Rattle.fragments.specs.Fragment.{WHOLE, Fragment, fragment_bytes, bytes_of, payloads_of}
use Rattle.fragments.specs.Joining.{kept_options, joined_with}
use Rattle.fragments.proofs.Options.{made_of, once_of, run-whole, run-without, once-less}
use Rattle.fragments.proofs.Again.{Valid, length-fragment, open_checks, whole-checks}
use Rattle.fragments.proofs.Readings.{ReadAll}

-- ---- the clean form of a message is no longer than the message

pub clean-short : (s c : List ℕ) → Bytes s → length s ≤ 65536 → clean_form s ≡ good c → length c ≤ length s
unfolding clean_form record_of
clean-short s c b l e =
    let (r, q, z) = stepped _ _ e in
    let w : Passed 0 s (head s) r = passes 0 s (head s) r q in
    let k : write (record_of s (head s) r) ≡ c = write_read 0 s r b w ∙ good_inj z in
    let m = run_ends [] 0 24 0 (part 24 (payload_start (head s)) s) (omega arith) w.options in
    rw (← k) (omega (
      arith,
      length-write (record_of s (head s) r) (valid 0 s r b w l) [],
      length-padded (part 24 (24 + r.0) s),
      run_length 0 s r b w,
      payload-length 0 s r b w,
      m.most,
      length-take (24 + 4 * (head s).words - 24) (drop 24 s),
      w.header.least,
      w.header.most,
    ))

-- ---- the options that are kept

pub record Kept (f : Fragment) : Type 0 where
  pub run : option_run_from [] 0 0 0 (kept_options f) ≡ good (length (kept_options f))
  pub short : length (kept_options f) ≤ length f.options
  pub bytes : Bytes f.options → Bytes (kept_options f)

pub kept : (f : Fragment) → Valid f → Kept f
unfolding kept_options
kept f v = go (eqb f.bits WHOLE) refl
  where
    go : (b : Bool) → eqb f.bits WHOLE ≡ b → Kept f
    go true t = record { run = rw (t, kept_options) v.run; short = rw (t, kept_options) (omega arith); bytes = λ b. rw (t, kept_options) b }
    go false t =
        let l = run-without (made_of f.options v.run) in
        record {
          run = rw (t, kept_options) (run-whole l.run (once-less l (once_of f.options v.run)) 0);
          short = rw (t, kept_options) l.short;
          bytes = λ b. rw (t, kept_options) (l.bytes b);
        }

-- ---- the payloads

words-all : {fs : List Fragment} → All Valid fs → length (payloads_of fs) % 4 ≡ 0
words-all all_nil = refl
words-all (all_cons {a = f} {l = fs} v vs) = omega (arith, v.words, words-all vs, length-append f.payload (payloads_of fs))

payload-short : {fs : List Fragment} → All Valid fs → length (payloads_of fs) ≤ length (bytes_of fs)
payload-short all_nil = omega arith
payload-short (all_cons {a = f} {l = fs} v vs) =
    omega (arith, payload-short vs, length-append f.payload (payloads_of fs), length-append (fragment_bytes f) (bytes_of fs), length-fragment f v [])

bytes-all : {fs : List Fragment} → All (λ (f : Fragment). Bytes f.payload) fs → Bytes (payloads_of fs)
bytes-all all_nil = bytes-nil
bytes-all (all_cons {a = f} {l = fs} b bs) = bytes-append f.payload (payloads_of fs) b (bytes-all bs)

pub bytes-fragment : (f : Fragment) → Valid f → Bytes f.options → Bytes f.payload → Bytes (fragment_bytes f)
unfolding fragment_bytes
bytes-fragment f v o q =
    bytes-cons (omega (arith, v.short, length-padded f.options)) (bytes-cons (omega arith) (bytes-cons (omega arith)
    (bytes-cons (small f.flags f.bits v.small v.bits v.flags)
    (bytes-put32 _ (bytes-put32 _ (bytes-put32 _ (bytes-put32 _ (bytes-put32 _
    (bytes-append (padded f.options) f.payload (bytes-append f.options _ o (bytes-zeros (pad (length f.options) - length f.options))) q)))))))))
  where
    small : (n b : ℕ) → n < 256 → b < 4 → n / 64 * 64 + n % 16 ≡ n → n + b * 16 < 256
    small n b h i e = let j : n / 64 < 4 = omega arith in omega arith

-- ---- the whole message

module _ (f : Fragment) (fs : List Fragment) (s : List ℕ) (l : length s ≤ 65536) (r : ReadAll s (f ∷ fs)) where
  first_valid : Valid f
  first_valid = go r.valid
    where
      go : All Valid (f ∷ fs) → Valid f
      go (all_cons v vs) = v

  first-options : Bytes f.options
  first-options = go r.options
    where
      go : All (λ (g : Fragment). Bytes g.options) (f ∷ fs) → Bytes f.options
      go (all_cons v vs) = v

  rest_valid : All Valid fs
  rest_valid = go r.valid
    where
      go : All Valid (f ∷ fs) → All Valid fs
      go (all_cons v vs) = vs

  abbrev whole : Fragment
  whole = joined_with f fs

  pub whole_valid : Valid whole
  unfolding joined_with
  whole_valid =
      let k = kept f first_valid in record {
        bits = omega arith;
        flags = first_valid.flags;
        small = first_valid.small;
        id = first_valid.id;
        sequence = first_valid.sequence;
        seconds = first_valid.seconds;
        nanos = first_valid.nanos;
        run = k.run;
        short = omega (arith, k.short, first_valid.short);
        words = words-all r.valid;
        size = omega (arith, payload-short r.valid, r.short);
      }

  pub whole-bytes : Bytes (fragment_bytes whole)
  unfolding joined_with
  whole-bytes = bytes-fragment whole whole_valid ((kept f first_valid).bytes first-options) (bytes-all r.payload)

  pub whole-short : length (fragment_bytes whole) ≤ length s
  unfolding joined_with
  whole-short =
      omega (
        arith,
        length-fragment whole whole_valid [],
        length-padded (kept_options f),
        (kept f first_valid).short,
        length-padded f.options,
        r.short,
        length-append f.payload (payloads_of fs),
        length-append (fragment_bytes f) (bytes_of fs),
        length-fragment f first_valid [],
        payload-short rest_valid,
      )

  -- what is joined is no longer than the fragments
  pub joined-short : (c : List ℕ) → clean_form (fragment_bytes whole) ≡ good c → length c ≤ length s
  joined-short c e = omega (arith, clean-short (fragment_bytes whole) c whole-bytes (omega (arith, whole-short)) e, whole-short)

  -- and only the checks from 9 on refuse it
  whole_is : whole.bits ≡ WHOLE
  unfolding joined_with
  whole_is = refl

  whole_open : every_check 0 (fragment_bytes whole) (head (fragment_bytes whole)) ≡ open_checks whole whole_valid [] 0
  whole_open = rw append-nil at (whole-checks whole whole_valid [] 0 whole_is)

  pub joined-refused : {n q : ℕ} → clean_form (fragment_bytes whole) ≡ bad n q → (n ≡ STANDARD) ⊎ (n ≡ PACKAGE) ⊎ (n ≡ COUNT)
  unfolding clean_form
  joined-refused {n} {q} e = open_refused (sym whole_open ∙ refused-only _ _ e)
    where
      open_refused : open_checks whole whole_valid [] 0 ≡ bad n q → (n ≡ STANDARD) ⊎ (n ≡ PACKAGE) ⊎ (n ≡ COUNT)
      open_refused h =
          ⊎_elim (λ z. inl (sym z.1))
          (λ z. inr (⊎_elim (λ y. inl (Cut.refused 0 _ _ y).number) (λ y. inr (⊎_elim (λ x. sym x.1) (λ x. absurd (good≢bad (sym x))) (refused_pass _ _ _ _ y.2))) (refused-step _ _ z)))
          (refused_pass _ _ _ _ h)
