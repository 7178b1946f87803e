-- Each claim, proved by the laws.
use Prim.Native.Nat.{ℕ, ◌-◌, ◌≤◌}
use mathlib.Core.Path.{◌≡◌, refl, ap, sym, subst, ◌∙◌}
use mathlib.Core.List.{List, [], ◌∷◌, ◌++◌, append-nil}
use native.Mathlib.Omega.{arith}
use lib.ListN.{length, replicate}
use lib.Seq.{drop-append_seam}
use Rattle.rules.specs.Outcome.{Outcome, good, bad, ROOM, refuse, ◌>>◌, ◌>>=◌}
use Rattle.rules.specs.Bytes.{Bytes}
use Rattle.rules.specs.Items.{items, All, all_nil, all_cons}
use Rattle.rules.specs.Message.{Message, message, recording}
use Rattle.rules.specs.Clean.{clean_form}
use Rattle.rules.specs.Valid.{Valid}
use Rattle.rules.specs.Buffer.{Written}
use Rattle.rules.specs.Sheet as rules
use Rattle.rules.specs.Sheet.{Row}
use Rattle.rules.specs.Copy.{released, copy_messages, copy_bytes, released_of, reported, measurement, copy, delivered}
use Rattle.rules.proofs.Outcomes.{step}
use Rattle.rules.proofs.Interference.{delivered-is, copy-passes}
use Rattle.rules.proofs.Nevers.{never_released}
use Rattle.rules.proofs.Measured.{measured-roomless}
use Rattle.rules.proofs.RoundTrip.{read_valid, read-written}
use Rattle.rules.proofs.Growing.{all_append}
use Rattle.purge.specs.Purge.{with_packages, kept_records, kept_bytes, kept_of, purged, purge, in_use}
use Rattle.purge.specs.Worked.{Worked}
use Rattle.purge.specs.Claims.{RefusedUnchanged, RefusedAsMeasured, NeverTooLong, FreedZero, SamePurges, DifferentPurges, LeftRead, AppendedTo, PurgedTwice, NothingGrantedLeft, NoneGranted, KeptExactly, OptionsKept, CountIsRight, CountsRight, NumbersKept, LeftClean, PartsRecording, NoRows}
use Rattle.purge.proofs.Counts.{options-set}
use Rattle.purge.proofs.Refusals.{alike}
use Rattle.purge.proofs.Keeping.{kept_append, kept-taken, kept-stays, records-append, bytes-append, nothing-granted, kept_again, kept_same, ungranted, had_none_lem, keeps-some, loses}
use Rattle.purge.proofs.Worked.{worked_out}
use Rattle.purge.proofs.Parting.{records_parted}
use Rattle.purge.proofs.Whole.{whole, records_valid, fine, purge-is, in_use_lem, long, read_all, read_again, told}

pub refused_unchanged : RefusedUnchanged
unfolding purge purged
refused_unchanged buffer sheet h = go (kept_of buffer sheet) h
  where
    go : (o : Outcome (List Message)) → ((purged buffer o).0.number ≡ 0 → ⊥) → (purged buffer o).1 ≡ buffer
    go (good ks) n = absurd (n refl)
    go (bad n p) e = refl

pub refused_as_measured : RefusedAsMeasured
unfolding measurement
refused_as_measured = alike

-- no refusal of a purge is ROOM
never_room : (buffer sheet : List ℕ) → (purge buffer sheet).0.number ≡ ROOM → ⊥
never_room buffer sheet e = measured-roomless (released_of buffer sheet) (never_released ROOM (λ n l o. o) buffer sheet) (sym (alike buffer sheet).0 ∙ e)

-- under a sheet without rows nothing is granted, and every record stays
all_stay : {ms : List Message} → All Valid ms → kept_records [] ms ≡ ms
unfolding kept_records
all_stay all_nil = refl
all_stay (all_cons {a = m} v a) = rw (ungranted m m.packages, kept_same m v, all_stay a)

without-rows : (buffer : List ℕ) → Bytes buffer → kept_of buffer [] ≡ recording buffer
unfolding kept_of rules.sheet items ◌>>◌ ◌>>=◌ refuse
without-rows buffer b = go (recording buffer) refl
  where
    go : (o : Outcome (List Message)) → recording buffer ≡ o → (o >>= λ (ms : List Message). good (kept_records [] ms)) ≡ o
    go (good ms) e = ap good (all_stay (records_valid buffer ms b e))
    go (bad n p) e = refl

stays-clean : (s : List ℕ) (m : Message) (n : ℕ) → Bytes s → length s ≤ 65536 → message 0 s ≡ good (m, n) → clean_form s ≡ good (kept_bytes (kept_records [] (m ∷ [])))
unfolding kept_bytes
stays-clean s m n b l e =
    let v : Valid m = read_valid 0 s b l m n e in
    read-written s b m n e ∙ rw (all_stay (all_cons v all_nil), append-nil)

-- what is in use, and how long the buffer is
record Fits (buffer : List ℕ) (o : Outcome (List Message)) : Type 0 where
  used : (purged buffer o).0.bytes ≤ length buffer
  stays : length (purged buffer o).1 ≡ length buffer

fits : (buffer sheet : List ℕ) → Bytes buffer → (o : Outcome (List Message)) → kept_of buffer sheet ≡ o → Fits buffer o
unfolding purged
fits buffer sheet b (good ks) e =
    let l = (fine buffer sheet ks b e).small in
    record { used = l; stays = long buffer sheet ks e l }
fits buffer sheet b (bad n p) e = record { used = omega arith; stays = refl }

pub never_too_long : NeverTooLong
unfolding purge
never_too_long = record {
  used = λ buffer sheet b. (fits buffer sheet b (kept_of buffer sheet) refl).used;
  long = λ buffer sheet b. (fits buffer sheet b (kept_of buffer sheet) refl).stays;
  room = λ buffer sheet e. never_room buffer sheet e;
}

pub freed_zero : FreedZero
freed_zero buffer sheet ks e = rw (purge-is buffer sheet ks e) (drop-append_seam (kept_bytes ks) (replicate (length buffer - length (kept_bytes ks)) 0))

pub same_purges : SamePurges
same_purges buffer buffer' sheet sheet' ks l e e' =
    purge-is buffer sheet ks e ∙ ap (λ (n : ℕ). (record { number = 0; place = 0; bytes = length (kept_bytes ks) }, kept_bytes ks ++ replicate (n - length (kept_bytes ks)) 0)) l
    ∙ sym (purge-is buffer' sheet' ks e')

kept-left : (buffer sheet : List ℕ) (rs : List Row) (ks : List Message) → rules.sheet sheet ≡ good rs → recording buffer ≡ good ks → kept_records rs ks ≡ ks → kept_of buffer sheet ≡ good ks
unfolding kept_of
kept-left buffer sheet rs ks s r e = step _ _ s (step _ _ r (ap good e))

pub different_purges : DifferentPurges
different_purges buffer buffer' sheet sheet' ks ks' b b' e e' differ q =
    let f = fine buffer sheet ks b e in
    let f' = fine buffer' sheet' ks' b' e' in
    differ (told f.valid f'.valid (length buffer - length (kept_bytes ks)) (length buffer' - length (kept_bytes ks'))
    (sym (ap (λ (a : Written × List ℕ). a.1) (purge-is buffer sheet ks e)) ∙ q ∙ ap (λ (a : Written × List ℕ). a.1) (purge-is buffer' sheet' ks' e')))

pub left-read : LeftRead
left-read buffer sheet ks b e = rw (in_use_lem buffer sheet ks e) (read_again buffer ks (fine buffer sheet ks b e))

pub appended-to : AppendedTo
appended-to buffer sheet ks ms b e v l =
    let f = fine buffer sheet ks b e in
    let q : in_use (purge buffer sheet) ++ kept_bytes ms ≡ kept_bytes (ks ++ ms) = rw (in_use_lem buffer sheet ks e) (sym (bytes-append ks ms)) in
    rw q (read_all (ks ++ ms) (all_append f.valid v) (rw q at l))

pub purged-twice : PurgedTwice
purged-twice buffer sheet ks b e =
    let w = whole buffer sheet ks e in
    let f = fine buffer sheet ks b e in
    let again : kept_of (kept_bytes ks) sheet ≡ good ks = kept-left (kept_bytes ks) sheet w.rows ks w.sheet (read_again buffer ks f)
    (kept_again w.rows (subst (All (NoneGranted w.rows)) w.are (nothing-granted w.rows w.ms)) f.valid) in
    let z : length (kept_bytes ks) - length (kept_bytes ks) ≡ 0 = omega arith in
    rw (in_use_lem buffer sheet ks e, purge-is buffer sheet ks e) (purge-is (kept_bytes ks) sheet ks again ∙ rw (z, append-nil))

pub nothing-granted-left : NothingGrantedLeft
nothing-granted-left = nothing-granted

pub kept-exactly : (rows : List Row) → KeptExactly rows
kept-exactly rows = record {
  messages = records-append rows;
  packages = kept_append rows;
  taken = kept-taken rows;
  stays = kept-stays rows;
  none = had_none_lem rows;
  some = keeps-some rows;
  last = loses rows;
}

pub options-kept : OptionsKept
options-kept m n v = options-set n [] 0 0 0 m.options (omega arith) v.run

all_right : {ks : List Message} → All Valid ks → All CountIsRight ks
all_right all_nil = all_nil
all_right (all_cons v a) = all_cons v.count (all_right a)

pub counts-right : CountsRight
counts-right buffer sheet ks b e = all_right (fine buffer sheet ks b e).valid

pub numbers-kept : NumbersKept
unfolding with_packages
numbers-kept m ps = (refl, refl, refl, refl, refl, refl)

pub left-clean : LeftClean
unfolding kept_bytes
left-clean buffer sheet ks e = (ap (λ (a : Written × List ℕ). a.0) (purge-is buffer sheet ks e), in_use_lem buffer sheet ks e)

-- what the copy and the purge are read as
module _ (bytes sheetBytes : List ℕ) (rows : List Row) (ms : List Message) (s : rules.sheet sheetBytes ≡ good rows) (m : recording bytes ≡ good ms) where
  list : released_of bytes sheetBytes ≡ good (released rows ms)
  unfolding released_of
  list = step _ _ s (step _ _ m refl)

  kept : kept_of bytes sheetBytes ≡ good (kept_records rows ms)
  unfolding kept_of
  kept = step _ _ s (step _ _ m refl)

  has_room : (buffer : List ℕ) → (measurement bytes sheetBytes).bytes ≤ length buffer → length (copy_bytes (released rows ms)) ≤ length buffer
  unfolding measurement reported
  has_room buffer l = rw list at l

  copied : Bytes bytes → (buffer : List ℕ) → length (copy_bytes (released rows ms)) ≤ length buffer → recording (delivered (copy bytes sheetBytes buffer)) ≡ good (copy_messages [] (released rows ms))
  copied b buffer l = ap recording (delivered-is bytes sheetBytes (released rows ms) list buffer l) ∙ copy-passes bytes sheetBytes (released rows ms) b list

pub parts-recording : PartsRecording
parts-recording = record {
  records = λ rows ms. records_parted rows ms [];
  read = λ bytes sheetBytes buffer b rows s ms m l. (
    copy_messages [] (released rows ms),
    (
      kept_records rows ms,
      copied bytes sheetBytes rows ms s m b buffer (has_room bytes sheetBytes rows ms s m buffer l),
      left-read bytes sheetBytes (kept_records rows ms) b (kept bytes sheetBytes rows ms s m),
      records_parted rows ms [],
    ),
  );
}

pub worked : Worked
worked = worked_out

pub no_rows : NoRows
no_rows = record { all = without-rows; clean = stays-clean }
