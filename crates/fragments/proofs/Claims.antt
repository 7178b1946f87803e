-- Each claim, proved by the laws.
use Prim.Native.Nat.{ℕ, ◌≤◌}
use mathlib.Core.Path.{◌≡◌, refl, ap, ap₂, sym, subst, ◌∙◌}
use mathlib.Core.Logic.{◌⊎◌}
use mathlib.Core.List.{List, [], ◌∷◌, ◌++◌, map, append-nil}
use mathlib.Core.Option.{none}
use native.Mathlib.Omega.{arith}
use borrow.Author.Tests.{le-ltb, lt-ltb, ltb-false}
use lib.ListN.{length, take}
use lib.Seq.{sets}
use Rattle.rules.specs.Outcome.{Outcome, good, bad, ◌>>=◌, STANDARD, PACKAGE, COUNT}
use Rattle.rules.specs.Bytes.{Bytes, join}
use Rattle.rules.specs.Items.{All, all_nil, all_cons}
use Rattle.rules.specs.Packages.{piece_of}
use Rattle.rules.specs.Message.{head, payload, Message, message}
use Rattle.rules.specs.Writer.{write}
use Rattle.rules.specs.Clean.{clean_form}
use Rattle.rules.specs.Buffer.{stored, fitted}
use Rattle.rules.specs.Claims.{Careful, TellsApart}
use Rattle.rules.proofs.Apart.{beside}
use Rattle.refusal.proofs.Numbers.{number_positive, same_refusal}
use Rattle.fragments.specs.declared.Fragmented.{Fragmented}
use Rattle.refusal.specs.declared.Refusal.{Refusal}
use Rattle.std.specs.Prelude.{Result, Ok, Err}
use Rattle.fragments.specs.Told.{cut_numbers, told_cut}
use Rattle.rules.proofs.Outcomes.{pass, halt, step, stop, passed, stepped, good_inj, good≢bad}
use Rattle.rules.proofs.Numbers.{bytes-nil}
use Rattle.rules.proofs.RoundTrip.{read-written, clean-twice}
use Rattle.rules.proofs.Kept.{careful_sets, careful_none, careful_stored, take-sets, writes, roomless}
use Rattle.fragments.specs.Fragment.{Fragment, fragment, fragment_bytes, bytes_of, payloads_of}
use Rattle.fragments.specs.Cutting.{whole_of, cut_into, CutAnswer, room_for_all, cut_stored, cutter}
use Rattle.fragments.specs.Joining.{joined_with, at_start, clean_joined, joined, joiner}
use Rattle.fragments.specs.Claims.{WholeSet, CutRead, CutInOrder, CutEach, CutPayload, CutFits, CutFilled, CutCount, CutRefusedExactly, CutJoined, WholeJoined, JoinRefusedExactly, JoinWhole, JoinRefusals, JoinClean, JoinNotLonger, BuffersKept, Writes, RefusalsTold, RoomRefused}
use Rattle.fragments.specs.Worked.{WorkedCuts, WorkedJoins}
use Rattle.fragments.proofs.Worked as hand
use Rattle.fragments.proofs.Each as each
use Rattle.fragments.proofs.Uncut as uncut
use Rattle.fragments.proofs.Unjoined as unjoined
use Rattle.fragments.proofs.Again.{Valid, fragment-again, payload-again}
use Rattle.fragments.proofs.From.{set-read}
use Rattle.fragments.proofs.Back as back
use Rattle.fragments.proofs.Back.{CutOf, cut_of, whole_valid}
use Rattle.fragments.proofs.Readings.{ReadAll, reads_all}
use Rattle.fragments.proofs.Joining.{whole-bytes, whole-short, joined-short, joined-refused}
use Rattle.fragments.proofs.One.{one-joined}

-- ---- cutting

abbrev ReadAgain : Fragment → Type 0
ReadAgain f = (p : ℕ) (behind : List ℕ) → fragment p (fragment_bytes f ++ behind) ≡ good (f, length (fragment_bytes f))

read_again : {fs : List Fragment} → All Valid fs → All ReadAgain fs
read_again all_nil = all_nil
read_again (all_cons {a = f} v vs) = all_cons (λ p behind. fragment-again f v behind p) (read_again vs)

pub cut-read : CutRead
cut-read size s fs b e = read_again (cut_of size s fs b e).cuts.valid

pub cut_in_order : CutInOrder
cut_in_order size s fs b e = (cut_of size s fs b e).cuts.ordered

pub cut-each : CutEach
cut-each = each.cut-each

clean_of : (size : ℕ) (s : List ℕ) (fs : List Fragment) → Bytes s → (c : CutOf size s fs) → clean_form s ≡ good (write c.held)
clean_of size s fs b c = read-written s b c.held c.taken c.read

written-payload : (m : Message) → Valid (whole_of m) → payload (write m) (head (write m)) ≡ join (map piece_of m.packages)
unfolding whole_of
written-payload m v = rw (append-nil, back.whole-bytes m) at (payload-again (whole_of m) v [])

pub cut-payload : CutPayload
cut-payload size s c fs b e z =
    let k = cut_of size s fs b e in
    let q : write k.held ≡ c = good_inj (sym (clean_of size s fs b k) ∙ z) in
    subst (λ (x : List ℕ). payloads_of fs ≡ payload x (head x)) q (k.cuts.payload ∙ sym (written-payload k.held (whole_valid k.held k.valid)))

pub cut_fits : CutFits
cut_fits size s fs b e l =
    let k = cut_of size s fs b e in
    let (n, q) = k.cuts.fits l in
    (n, clean_of size s fs b k ∙ ap good (sym q))

pub cut-filled : CutFilled
cut-filled size s fs b e = (cut_of size s fs b e).cuts.filled

pub cut-count : CutCount
cut-count size s fs b e = (cut_of size s fs b e).cuts.count

pub cut-refused-exactly : CutRefusedExactly
cut-refused-exactly size s n p = (uncut.refused size s, uncut.refuses size s)

-- ---- joining

pub cut-joined : CutJoined
unfolding joined
cut-joined size s fs b e l =
    let k = cut_of size s fs b e in
    pass _ _ _ _ (le-ltb 65536 (length (bytes_of fs)) l) (step _ _ (set-read k.cuts.ordered k.cuts.valid 0) k.cuts.back) ∙ sym (clean_of size s fs b k)

pub whole-joined : WholeJoined
unfolding message
whole-joined s b l m e =
    let (r, q, z) = stepped _ _ e in
    one-joined s b l r q (ap (λ (k : Message × ℕ). k.1) (good_inj z))

start-good : {A : Type 0} (o : Outcome A) {a : A} → at_start o ≡ good a → o ≡ good a
unfolding at_start
start-good (good a) e = e
start-good (bad n p) e = absurd (good≢bad e)

refused-joined : (s : List ℕ) (fs : List Fragment) (n q : ℕ) → length s ≤ 65536 → ReadAll s fs → WholeSet fs → clean_joined fs ≡ bad n q → ((n ≡ STANDARD) ⊎ (n ≡ PACKAGE) ⊎ (n ≡ COUNT)) × (q ≡ 0)
unfolding clean_joined
refused-joined s [] n q l a w e = absurd (some-set w)
  where
    some-set : WholeSet [] → ⊥
    some-set = elim [ ]
refused-joined s (f ∷ fs) n q l a w e =
    let (p, g, z) = unjoined.start-bad _ e in
    (joined-refused f fs s l a g, z)

pub join-whole : JoinWhole
join-whole s fs w v = unjoined.joins_whole s w v

pub join_refusals : JoinRefusals
join_refusals s fs n q b w v z = refused-joined s fs n q w.small (reads_all none 0 0 s b w.small (unjoined.read_whole s w v)) v (sym (unjoined.joins_whole s w v) ∙ z)

pub join-refused-exactly : JoinRefusedExactly
join-refused-exactly s n p = (unjoined.refused s, unjoined.refuses s)

short-joined : (s c : List ℕ) (fs : List Fragment) → length s ≤ 65536 → ReadAll s fs → clean_joined fs ≡ good c → length c ≤ length s
unfolding clean_joined
short-joined s c [] l a e = absurd (good≢bad e)
short-joined s c (f ∷ fs) l a e = joined-short f fs s l a c (start-good _ e)

pub join_not_longer : JoinNotLonger
unfolding joined
join_not_longer s c b e =
    let (t, e) = passed _ _ _ _ e in
    let (fs, r, z) = stepped _ _ e in
    let l = ltb-false _ _ t in
    short-joined s c fs l (reads_all none 0 0 s b l r) z

clean-again : (s c : List ℕ) (fs : List Fragment) → length s ≤ 65536 → ReadAll s fs → clean_joined fs ≡ good c → clean_form c ≡ good c
unfolding clean_joined
clean-again s c [] l a e = absurd (good≢bad e)
clean-again s c (f ∷ fs) l a e =
    rw append-nil at (clean-twice (fragment_bytes (joined_with f fs)) c [] (whole-bytes f fs s l a) (omega (arith, whole-short f fs s l a)) bytes-nil (start-good _ e))

pub join-clean : JoinClean
unfolding joined
join-clean s c b e =
    let (t, e) = passed _ _ _ _ e in
    let (fs, r, z) = stepped _ _ e in
    let l = ltb-false _ _ t in
    clean-again s c fs l (reads_all none 0 0 s b l r) z

-- ---- buffers

careful_cut : (b : List ℕ) (o : Outcome (List Fragment)) → Careful (cut_stored b o).0.number (cut_stored b o).0.bytes b (cut_stored b o).1
unfolding cut_stored
careful_cut b (good fs) = careful_sets b (bytes_of fs)
careful_cut b (bad n p) = careful_none n b

pub buffers-kept : BuffersKept
unfolding cutter joiner
buffers-kept = record {
  cutter = λ size s buffer. careful_cut buffer (cut_into size s >>= room_for_all buffer);
  joiner = λ s buffer. careful_stored buffer (joined s >>= fitted buffer);
}

cut-is : (size : ℕ) (s buffer : List ℕ) (fs : List Fragment) → cut_into size s ≡ good fs → length (bytes_of fs) ≤ length buffer
    → cutter size s buffer ≡ (record { number = 0; place = 0; bytes = length (bytes_of fs); fragments = length fs }, sets buffer 0 (bytes_of fs))
unfolding cutter cut_stored room_for_all fitted
cut-is size s buffer fs e l = ap (cut_stored buffer) (step _ _ e (step _ _ (pass _ _ _ _ (le-ltb (length buffer) (length (bytes_of fs)) l) refl) refl))

pub writes_all : Writes
unfolding joiner
writes_all = record {
  cutter = λ size s buffer fs e l.
      let q = cut-is size s buffer fs e l in
      (ap (λ (r : CutAnswer × List ℕ). r.0) q, ap (λ (r : CutAnswer × List ℕ). take (length (bytes_of fs)) r.1) q ∙ take-sets buffer (bytes_of fs) l);
  joiner = λ s buffer c e l. writes buffer c (joined s) e l;
}

pub refusals_told : RefusalsTold
unfolding cutter cut_stored joiner stored
refusals_told = record { cutter = λ size s buffer n p e. ap (cut_stored buffer) (stop _ _ e); joiner = λ s buffer n p e. ap (stored buffer) (stop _ _ e) }

pub room-refused : RoomRefused
unfolding joiner cutter cut_stored room_for_all fitted
room-refused = record {
  cutter = λ size s buffer fs e l. ap (λ (r : Outcome (List Fragment)). (cut_stored buffer r).0) (step _ _ e (stop _ _ (halt _ _ _ _ (lt-ltb (length buffer) (length (bytes_of fs)) l))));
  joiner = λ s buffer c e l. roomless buffer c (joined s) e l;
}

-- ---- worked bytes

pub worked_cuts : WorkedCuts
worked_cuts = hand.worked_cuts

pub worked_joins : WorkedJoins
worked_joins = hand.worked_joins

-- ---- two answers of `cut`, each with the buffer after it, that are told alike are the same: its promise allows one outcome alone (that of `join` is compose's `tells_apart`)

same_cut : TellsApart cut_numbers
same_cut (Ok f) (Ok g) e = ap₂ (λ (n k : ℕ). Ok (record { bytes = n; fragments = k })) (ap (λ (r : CutAnswer). r.bytes) e) (ap (λ (r : CutAnswer). r.fragments) e)
same_cut (Ok f) (Err x) e = absurd (number_positive x.why (sym (ap (λ (r : CutAnswer). r.number) e)))
same_cut (Err x) (Ok f) e = absurd (number_positive x.why (ap (λ (r : CutAnswer). r.number) e))
same_cut (Err x) (Err y) e = ap Err (same_refusal x y (ap (λ (r : CutAnswer). r.number) e) (ap (λ (r : CutAnswer). r.place) e))

pub tells_apart : TellsApart (λ (x : Result Fragmented Refusal × List ℕ). told_cut x.0 x.1)
tells_apart = beside cut_numbers same_cut
