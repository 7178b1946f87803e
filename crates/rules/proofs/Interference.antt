-- The copy depends on recording and sheet by their released list alone, and tells two released lists apart.
use Prim.Native.Nat.{ℕ, ◌+◌, ◌/◌, ◌%◌, ◌≤◌, ◌<◌}
use mathlib.Core.Path.{◌≡◌, refl, ap, sym, subst, ◌∙◌}
use mathlib.Core.List.{List, [], ◌∷◌, map}
use native.Mathlib.Omega.{arith}
use borrow.Author.Tests.{le-ltb, ltb-false}
use lib.ListN.{length, length-append}
use lib.Seq.{sets}
use Rattle.rules.specs.Outcome.{Outcome, good, ◌>>=◌}
use Rattle.rules.specs.Bytes.{Bytes, join}
use Rattle.rules.specs.Items.{items, All, all_nil, all_cons, count}
use Rattle.rules.specs.Message.{Message, message, recording}
use Rattle.rules.specs.Packages.{Package}
use Rattle.rules.specs.Sheet.{Row}
use Rattle.rules.specs.Writer.{write}
use Rattle.rules.specs.Valid.{Valid}
use Rattle.rules.specs.Copy.{Entry, listed_bits, granted_packages, with_entry_of, released, copy_message, copy_messages, copy_bytes, packages_in, released_of, reported, measurement, room_for, filled, answered, copy, delivered}
use Rattle.rules.proofs.Outcomes.{pass, step, passed, stepped, good_inj}
use Rattle.rules.proofs.Measured.{room_for_lem}
use Rattle.rules.proofs.Kept.{take-sets}
use Rattle.rules.proofs.RoundTrip.{all-written-read}
use Rattle.rules.proofs.Again.{length-write}
use Rattle.rules.proofs.Released.{bulk, all_valid, entries, valid_copy_messages, copy_messages_injective}

-- the copy's messages are valid
valid_released : (rs : List Row) (recordingBytes : List ℕ) (ms : List Message) → Bytes recordingBytes → recording recordingBytes ≡ good ms → All Valid (copy_messages [] (released rs ms))
unfolding recording
valid_released rs recordingBytes ms b e =
    let (large, read) = passed _ _ _ _ e in
    let fits : length recordingBytes ≤ 65536 = ltb-false _ _ large in
    let w = all_valid 0 0 recordingBytes b fits read in
    let v = entries rs w.valid in
    valid_copy_messages [] v.valid (omega (arith, w.few, v.few))

-- equal released lists, or equal refusals in their place
module _ (recordingBytes recordingBytes' sheetBytes sheetBytes' : List ℕ) (same : released_of recordingBytes sheetBytes ≡ released_of recordingBytes' sheetBytes') where
  pub same_copy : (buffer : List ℕ) → copy recordingBytes sheetBytes buffer ≡ copy recordingBytes' sheetBytes' buffer
  unfolding copy
  same_copy buffer = ap (λ (o : Outcome (List Entry)). answered buffer (o >>= room_for buffer)) same

  pub same_measurement : measurement recordingBytes sheetBytes ≡ measurement recordingBytes' sheetBytes'
  unfolding measurement
  same_measurement = ap reported same

module _ (recordingBytes sheetBytes : List ℕ) (es : List Entry) (list : released_of recordingBytes sheetBytes ≡ good es) where
  -- with room, the answer is the released list's, and its copy is stored
  pub copy_is : (buffer : List ℕ) → length (copy_bytes es) ≤ length buffer
      → copy recordingBytes sheetBytes buffer ≡ (record { number = 0; place = 0; bytes = length (copy_bytes es); messages = length es; packages = packages_in es }, sets buffer 0 (copy_bytes es))
  unfolding copy answered reported filled
  copy_is buffer l = ap (answered buffer) (step _ _ list (room_for_lem buffer es l))

  pub delivered-is : (buffer : List ℕ) → length (copy_bytes es) ≤ length buffer → delivered (copy recordingBytes sheetBytes buffer) ≡ copy_bytes es
  delivered-is buffer l = ap delivered (copy_is buffer l) ∙ take-sets buffer (copy_bytes es) l

  pub valid_list : Bytes recordingBytes → All Valid (copy_messages [] es)
  unfolding released_of
  valid_list b =
      let (rs, s, e) = stepped _ _ list in
      let (ms, passes, e) = stepped _ _ e in
      subst (λ (l : List Entry). All Valid (copy_messages [] l)) (good_inj e) (valid_released rs recordingBytes ms b passes)

-- the copy's messages have the entries' bulk
copy_messages-bulk : (seen : List ℕ) (es : List Entry) → All Valid (copy_messages seen es) → length (join (map write (copy_messages seen es))) ≡ bulk (λ (e : Entry). e.packages) es
unfolding copy_messages copy_message
copy_messages-bulk seen [] a = refl
copy_messages-bulk seen (e ∷ es) (all_cons {a = m} v a) = rw (length-append, length-write m v [], copy_messages-bulk (e.id ∷ seen) es a)

pub copy-short : (recordingBytes sheetBytes : List ℕ) (es : List Entry) → Bytes recordingBytes → released_of recordingBytes sheetBytes ≡ good es → length (copy_bytes es) ≤ length recordingBytes
unfolding released_of recording copy_bytes
copy-short recordingBytes sheetBytes es b list =
    let (rs, s, e) = stepped _ _ list in
    let (ms, passes, e) = stepped _ _ e in
    let (large, read) = passed _ _ _ _ passes in
    let w = all_valid 0 0 recordingBytes b (ltb-false _ _ large) read in
    let v = entries rs w.valid in
    let least : bulk (λ (e : Entry). e.packages) (released rs ms) ≤ length recordingBytes = omega (arith, v.small, w.small) in
    let small : bulk (λ (e : Entry). e.packages) es ≤ length recordingBytes = subst (λ (l : List Entry). bulk (λ (e : Entry). e.packages) l ≤ length recordingBytes) (good_inj e) least in
    omega (arith, copy_messages-bulk [] es (valid_list recordingBytes sheetBytes es list b), small)

-- equal copies, with room for both: equal released lists
pub same_list : (recordingBytes recordingBytes' sheetBytes sheetBytes' buffer buffer' : List ℕ) → Bytes recordingBytes → Bytes recordingBytes' → (es es' : List Entry)
    → released_of recordingBytes sheetBytes ≡ good es → released_of recordingBytes' sheetBytes' ≡ good es' → length (copy_bytes es) ≤ length buffer → length (copy_bytes es') ≤ length buffer'
    → delivered (copy recordingBytes sheetBytes buffer) ≡ delivered (copy recordingBytes' sheetBytes' buffer') → es ≡ es'
unfolding copy_bytes
same_list recordingBytes recordingBytes' sheetBytes sheetBytes' buffer buffer' b b' es es' r r' l l' e =
    let q : copy_bytes es ≡ copy_bytes es' = sym (delivered-is recordingBytes sheetBytes es r buffer l) ∙ e ∙ delivered-is recordingBytes' sheetBytes' es' r' buffer' l' in
    let a = all-written-read (valid_list recordingBytes sheetBytes es r b) 0 in
    let a' = all-written-read (valid_list recordingBytes' sheetBytes' es' r' b') 0 in
    copy_messages_injective es es' (good_inj (sym a ∙ ap (items message 0 0) q ∙ a'))

-- the copy is a recording that passes, with the released list's messages
pub copy-passes : (recordingBytes sheetBytes : List ℕ) (es : List Entry) → Bytes recordingBytes → released_of recordingBytes sheetBytes ≡ good es → recording (copy_bytes es) ≡ good (copy_messages [] es)
unfolding recording released_of copy_bytes
copy-passes recordingBytes sheetBytes es b r =
    let (rs, s, e) = stepped _ _ r in
    let (ms, passes, e) = stepped _ _ e in
    let (large, read) = passed _ _ _ _ passes in
    let fits : length recordingBytes ≤ 65536 = ltb-false _ _ large in
    pass _ _ _ _ (le-ltb 65536 (length (copy_bytes es)) (omega (arith, copy-short recordingBytes sheetBytes es b r))) (all-written-read (valid_list recordingBytes sheetBytes es r b) 0)

-- each of those is plain: bits 3, 2 and 1 are all that is listed of the flags
abbrev Plain : Message → Type 0
Plain m = (m.options ≡ []) × (m.flags / 64 % 2 ≡ 1) × (m.flags % 2 ≡ 0)

plain-copy_message : (n : ℕ) (e : Entry) → e.flags % 2 ≡ 0 → e.flags < 16 → Plain (copy_message n e)
unfolding copy_message
plain-copy_message n e h l = let g : (64 + e.flags) / 64 ≡ 1 = omega arith in (refl, rw g, omega arith)

record Even (e : Entry) : Type 0 where
  even : e.flags % 2 ≡ 0
  small : e.flags < 16

entered_even : (m : Message) (ps : List Package) {es : List Entry} → All Even es → All Even (with_entry_of m ps es)
unfolding with_entry_of
entered_even m [] a = a
entered_even m (p ∷ ps) a =
    let f : listed_bits m.flags % 2 ≡ 0 = omega arith in
    let g : listed_bits m.flags < 16 = omega arith in
    all_cons (record { even = f; small = g }) a

released_even : (rows : List Row) (ms : List Message) → All Even (released rows ms)
unfolding released
released_even rows [] = all_nil
released_even rows (m ∷ ms) = entered_even m (granted_packages rows m m.packages) (released_even rows ms)

copy_messages-plain : (seen : List ℕ) {es : List Entry} → All Even es → All Plain (copy_messages seen es)
unfolding copy_messages
copy_messages-plain seen all_nil = all_nil
copy_messages-plain seen (all_cons {a = e} v a) = all_cons (plain-copy_message (count e.id seen) e v.even v.small) (copy_messages-plain (e.id ∷ seen) a)

pub copy-plain : (rows : List Row) (ms : List Message) → All Plain (copy_messages [] (released rows ms))
copy-plain rows ms = copy_messages-plain [] (released_even rows ms)
