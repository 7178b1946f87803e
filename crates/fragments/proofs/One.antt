-- One whole message that passes, joined, is cleaned.
use Prim.Native.Nat.{ℕ, ◌+◌, ◌*◌, ◌/◌, ◌%◌, ◌≤◌}
use mathlib.Core.Path.{◌≡◌, refl, sym, ap, ◌∙◌}
use mathlib.Core.List.{List, [], ◌∷◌, ◌++◌, append-nil}
use mathlib.Core.Option.{none, some}
use native.Mathlib.Nat.{add-zero, div-div-eq-div-mul}
use native.Mathlib.Omega.{arith}
use borrow.Author.Tests.{le-ltb, eq-eqb}
use lib.ListN.{length}
use lib.Seq.{drop-length}
use Rattle.rules.specs.Outcome.{good}
use Rattle.rules.specs.Bytes.{Bytes, one_if_any}
use Rattle.rules.specs.Message.{head, payload, checks_one_to_nine, checks_one_to_ten, every_check, record_of, message}
use Rattle.rules.specs.Clean.{clean_form}
use Rattle.rules.proofs.Outcomes.{pass, step, stepped, passed, came_after, front_of_lem, good_inj}
use Rattle.rules.proofs.Cut as Cut
use Rattle.rules.proofs.Passed.{Passed, passes}
use Rattle.rules.proofs.RoundTrip.{read-written}
use Rattle.fragments.specs.Fragment.{WHOLE, Fragment, fragment_of, fragment, fragment_bytes}
use Rattle.fragments.specs.Joining.{in_place, begins, complete, goesOn, fragments_from, kept_options, joined_with, at_start, clean_joined, joined}
use Rattle.fragments.proofs.Again.{head-again, run-part, open_checks, whole-checks}
use Rattle.fragments.proofs.From.{from_next, from_end}
use Rattle.fragments.proofs.Readings.{Read, reads}
use Rattle.fragments.proofs.Joining.{bytes-fragment}

-- bits 6, 3, 2, 1 and 0 are among the other flags
record_bits_lem : (f : ℕ) → (f / 64 * 64 + f % 16) / 64 % 2 * 64 + (f / 64 * 64 + f % 16) % 16 ≡ f / 64 % 2 * 64 + f % 16
record_bits_lem f =
    let g : (f / 64 * 64 + f % 16) / 64 ≡ f / 64 = omega arith in
    let h : (f / 64 * 64 + f % 16) % 16 ≡ f % 16 = omega arith in
    rw (g, h)

pub standard-bit : (f : ℕ) → (f / 64 * 64 + f % 16) / 128 % 2 ≡ f / 128 % 2
standard-bit f =
    let g : (f / 64 * 64 + f % 16) / 64 ≡ f / 64 = omega arith in
    let h : (f / 64 * 64 + f % 16) / 64 / 2 ≡ (f / 64 * 64 + f % 16) / 128 = div-div-eq-div-mul (f / 64 * 64 + f % 16) 64 2 in
    let i : f / 64 / 2 ≡ f / 128 = div-div-eq-div-mul f 64 2 in
    rw (← h, g, i)

whole-alone : (f : Fragment) → f.bits ≡ WHOLE → joined_with f [] ≡ f
unfolding joined_with kept_options
whole-alone f z =
    let k : kept_options f ≡ f.options = rw (eq-eqb f.bits WHOLE z, kept_options) in
    rw (k, append-nil)
    (ap (λ (n : ℕ). record { bits = n; flags = f.flags; id = f.id; sequence = f.sequence; seconds = f.seconds; nanos = f.nanos; options = f.options; payload = f.payload }) (sym z))

module _ (s : List ℕ) (b : Bytes s) (l : length s ≤ 65536) (r : ℕ × List (List ℕ)) (q : every_check 0 s (head s) ≡ good r) where
  w : Passed 0 s (head s) r
  w = passes 0 s (head s) r q

  abbrev f : Fragment
  f = fragment_of s (head s) r.0

  f-read : fragment 0 s ≡ good (f, (head s).size)
  unfolding fragment every_check checks_one_to_ten checks_one_to_nine
  f-read =
      let (x, y, e) = stepped _ _ q in
      let (k, e) = passed _ _ _ _ e in
      let (n, o, y) = stepped _ _ y in
      let (cs, g, y) = stepped _ _ y in
      let (m, o, i) = stepped _ _ o in
      let (u, i) = came_after _ _ i in
      let z : m ≡ r.0 = good_inj i ∙ ap (λ (x : ℕ × List (List ℕ)). x.0) (good_inj y ∙ good_inj e) in
      step _ _ o (rw z)

  f_valid : Read s f (head s).size
  f_valid = reads 0 s (f, (head s).size) b l f-read

  f-whole : f.bits ≡ WHOLE
  unfolding fragment_of
  f-whole = w.fragment

  f-bytes : Bytes (fragment_bytes f)
  f-bytes = bytes-fragment f f_valid.valid f_valid.options f_valid.payload

  -- what it makes up is itself
  alone : joined_with f [] ≡ f
  alone = whole-alone f f-whole

  open_good : open_checks f f_valid.valid [] 0 ≡ good (length f.options, r.1)
  unfolding fragment_of
  open_good =
      pass _ _ _ _ (rw (standard-bit (head s).flags, eq-eqb ((head s).flags / 128 % 2) (one_if_any (payload s (head s))) w.standard))
      (step _ _ (Cut.complete (Cut.sound 0 _ (payload s (head s)) w.packages) _) (pass _ _ _ _ w.count refl))

  record_same : record_of (fragment_bytes f ++ []) (head (fragment_bytes f ++ [])) (length f.options, r.1) ≡ record_of s (head s) r
  unfolding record_of fragment_of
  record_same = rw (head-again f f_valid.valid [], run-part f f_valid.valid [], w.fragment, add-zero, record_bits_lem)

  message_same : message 0 (fragment_bytes f ++ []) ≡ good (record_of s (head s) r, (head (fragment_bytes f ++ [])).size)
  unfolding message
  message_same = step _ _ (whole-checks f f_valid.valid [] 0 f-whole ∙ open_good) (rw record_same)

  clean_same : clean_form (fragment_bytes f) ≡ clean_form s
  unfolding message
  clean_same =
      let e : message 0 (fragment_bytes f) ≡ good (record_of s (head s) r, (head (fragment_bytes f)).size) = rw append-nil at message_same in
      let g : message 0 s ≡ good (record_of s (head s) r, (head s).size) = step _ _ q refl in
      read-written (fragment_bytes f) f-bytes _ _ e ∙ sym (read-written s b _ _ g)

  one_from : (head s).size ≡ length s → fragments_from none 0 0 s ≡ good (f ∷ [])
  unfolding in_place begins complete goesOn
  one_from z =
      from_next none 0 s f (length s) (omega (arith, w.header.long)) (omega arith) (rw (← z) f-read) (rw (eq-eqb f.bits WHOLE f-whole))
      ∙ front_of_lem _ _ (rw drop-length (from_end (some f) (0 + length s) (rw f-whole)))

  one-clean : clean_joined (f ∷ []) ≡ clean_form s
  unfolding clean_joined at_start clean_form
  one-clean = rw (alone, clean_same) (ap at_start (step _ _ q refl) ∙ sym (step _ _ q refl))

  pub one-joined : (head s).size ≡ length s → joined s ≡ clean_form s
  unfolding joined
  one-joined z = pass _ _ _ _ (le-ltb 65536 (length s) l) (step _ _ (one_from z) one-clean)
