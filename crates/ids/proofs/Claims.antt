-- Each claim of specs/Claims.antt, proved.
use Prim.Native.Nat.{ℕ, ◌+◌, ◌≤◌, ◌<◌}
use mathlib.Core.Path.{◌≡◌, refl, sym, ap, subst, ◌∙◌}
use mathlib.Core.Logic.{⊎_elim}
use mathlib.Core.Bool.{Bool, true, false}
use mathlib.Core.List.{List, [], ◌∷◌, ◌++◌, append_assoc, map}
use native.Mathlib.Nat.{zero-add}
use native.Mathlib.Omega.{arith}
use borrow.Author.Tests.{ltb-true, ltb-false, lt-ltb, le-ltb}
use lib.Dec.{ltb}
use lib.ListN.{length, take, drop, length-append, length-map, take-append-drop}
use lib.Seq.{take-append_seam, take-append-add, take-take}
use Rattle.rules.specs.Outcome.{Outcome, good, bad}
use Rattle.rules.specs.Items.{All, all_nil, all_cons}
use Rattle.rules.specs.Message.{most_bytes}
use Rattle.refusal.specs.Numbers.{TEXT}
use Rattle.rules.proofs.Outcomes.{pass, passed, halt, step, stepped, stop, good_inj, bad_inj, good≢bad, refused-at, refused-step, came_after, refused-checks}
use Rattle.rules.proofs.Kept.{careful_stored, roomless, writes}
use Rattle.ids.specs.Line.{Item, Reads, IsList, alone, followed}
use Rattle.ids.specs.Reader.{list_at, ranges_of, id_ranges, Range}
use Rattle.ids.specs.Claims.{OneReading, Accepted, ReadExactly, Begins, Breaks, Faulty, Refused, large, form, fault, RefusedExactly, NoLeadingZeros, SingleWhereEqual, RangeFits, Writable, WrittenExactly, WrittenRead, ReadWritten, PlainShortest, Ordered, Fits, range_of, FirstBad, Unwritten, none, bad-range, UnwrittenExactly, WriterWrites, BufferKept, LineShort}
use Rattle.ids.specs.Worked.{Worked}
use Rattle.ids.specs.Writer.{line_text, ranges_kept, line_of, write_ids}
use Rattle.ids.proofs.Lines.{plain, text-single, text-range, Said, said, Good, kept-good, kept-complete, BadFrom, kept-bad, bad-kept, line_of-bad, line_of-good, line-short, line_shortest}
use Rattle.ids.proofs.Lists.{Broken, ListView, whole, broken, list_view, list-complete}
use Rattle.ids.proofs.Ranges.{Kept, ranges-good, ranges-complete, FaultyFrom, ranges-bad, ranges-faulty}
use Rattle.ids.proofs.Worked.{worked_out}

pub one-reading : OneReading
one-reading s is js a b = good_inj (sym (list-complete a) ∙ list-complete b)

-- what is read whole is a line
reads_whole : (s : List ℕ) (is : List Item) → list_at 0 0 s ≡ good is → Reads s is
reads_whole s is e = go (list_view 0 s)
  where
    go : ListView 0 s → Reads s is
    go (whole {is = js} f l) = subst (Reads s) (good_inj (sym f ∙ e)) l
    go (broken f b) = absurd (good≢bad (sym f ∙ e))

accepted : (s : List ℕ) (rs : List Range) → id_ranges s ≡ good rs → Accepted s rs
unfolding id_ranges
accepted s rs e =
    let (t, e) = passed _ _ _ _ e in
    let (is, f, g) = stepped _ _ e in
    go (ltb-false _ _ t) is (reads_whole s is f) (ranges-good 0 is rs (omega arith) g)
  where
    go : length s ≤ most_bytes → (is : List Item) → Reads s is → Kept 0 is rs → Accepted s rs
    go l is r k = record { small = l; items = is; reads = r; fit = k.fit; few = omega (arith, k.few); ranges = k.ranges }

accepts : (s : List ℕ) (rs : List Range) → Accepted s rs → id_ranges s ≡ good rs
unfolding id_ranges
accepts s rs a =
    pass _ _ _ _ (le-ltb most_bytes (length s) a.small) (step _ _ (list-complete a.reads) (ranges-complete 0 a.fit (omega (arith, a.few)) ∙ ap good a.ranges))

pub read-exactly : ReadExactly
read-exactly s rs = (accepted s rs, accepts s rs)

-- with the byte at q no line begins
module _ (s : List ℕ) (q : ℕ) (b : Broken 0 s q) (l : q ≡ length b.text) where
  shut : (r : List ℕ) → b.rest ≡ r → q < length s → Begins (take (q + 1) s) → ⊥
  shut [] e h g = omega (arith, ap length b.split, ap length e, length-append b.text b.rest)
  shut (y ∷ u) e h (t, is, r) =
      let k : take (q + 1) s ++ t ≡ b.text ++ y ∷ t = rw (b.split, e, l, take-append-add) (append_assoc b.text (y ∷ []) t) in
      good≢bad (sym (b.read y u t e) ∙ list-complete (subst (λ (z : List ℕ). Reads z is) k r))

-- where a line is broken
breaks : (s : List ℕ) (q : ℕ) → list_at 0 0 s ≡ bad TEXT q → Broken 0 s q → Breaks s q
breaks s q e b =
    let l : q ≡ length b.text = b.place ∙ zero-add (length b.text) in
    let k : take q s ≡ b.text = rw (b.split, l) (take-append_seam b.text b.rest) in
    record {
      before = (b.more, b.items, rw k b.goes);
      inside = omega (arith, ap length b.split, length-append b.text b.rest);
      here = shut s q b l b.rest refl;
      unread = λ is r. good≢bad (sym e ∙ list-complete r);
    }

refused-form : (s : List ℕ) {n p : ℕ} → list_at 0 0 s ≡ bad n p → (TEXT ≡ n) × Breaks s p
refused-form s {n} {p} e = go (list_view 0 s)
  where
    go : ListView 0 s → (TEXT ≡ n) × Breaks s p
    go (whole f l) = absurd (good≢bad (sym e ∙ f))
    go (broken {q = q} f b) = let z : ◌≡◌ {A = Outcome (List Item)} (bad TEXT q) (bad n p) = sym f ∙ e in (cc, subst (Breaks s) (cc) (breaks s q f b))

module _ (s : List ℕ) (n p : ℕ) where
  named : {m q : ℕ} → m ≡ n → q ≡ p → Refused s m q → Refused s n p
  named {m} {q} e f r = subst (λ (k : ℕ). Refused s k p) e (subst (Refused s m) f r)

  in_form : length s ≤ most_bytes → (TEXT ≡ n) × Breaks s p → Refused s n p
  in_form l (e, b) = named e refl (form l b)

  in_items : length s ≤ most_bytes → (is : List Item) → Reads s is → (TEXT ≡ n) × FaultyFrom 0 is p → Refused s n p
  in_items l is r (e, f) = named e refl (fault l r (record {
    before = f.before;
    item = f.item;
    behind = f.behind;
    split = f.split;
    fit = f.fit;
    few = rw zero-add at f.few;
    fault = rw zero-add at f.fault;
    place = f.place;
  }))

refused : (s : List ℕ) (n p : ℕ) → id_ranges s ≡ bad n p → Refused s n p
unfolding id_ranges
refused s n p e = ⊎_elim
    (λ z. named s n p z.1 z.2 (large (ltb-true _ _ z.0)))
    (λ z. ⊎_elim
    (λ f. in_form s n p (ltb-false _ _ z.0) (refused-form s f))
    (λ f. in_items s n p (ltb-false _ _ z.0) f.0 (reads_whole s f.0 f.1) (ranges-bad 0 f.0 (omega arith) f.2))
    (refused-step _ _ z.1))
    (refused-at _ _ _ _ e)

-- of two places one at most breaks the form: what stands before the later one goes on with the byte at the earlier one
module _ (s : List ℕ) where
  begins-before : (p q : ℕ) → p ≤ q → Begins (take q s) → Begins (take p s)
  begins-before p q l (t, is, r) =
      let e : take q s ++ t ≡ take p s ++ (drop p (take q s) ++ t) =
      sym (ap (λ (z : List ℕ). z ++ t) (ap (λ (z : List ℕ). z ++ drop p (take q s)) (sym (take-take p q s l)) ∙ take-append-drop p (take q s))) ∙ append_assoc (take p s) (drop p (take q s)) t in
      (drop p (take q s) ++ t, is, subst (λ (z : List ℕ). Reads z is) e r)

  not_earlier : (p q : ℕ) → Breaks s p → Breaks s q → p < q → ⊥
  not_earlier p q a b l = a.here (omega (arith, b.inside)) (begins-before (p + 1) q (omega arith) b.before)

  breaks_once : (p q : ℕ) → Breaks s p → Breaks s q → p ≡ q
  breaks_once p q a b = go (ltb p q) refl (ltb q p) refl
    where
      go : (x : Bool) → ltb p q ≡ x → (y : Bool) → ltb q p ≡ y → p ≡ q
      go true e y f = absurd (not_earlier p q a b (ltb-true _ _ e))
      go false e true f = absurd (not_earlier q p b a (ltb-true _ _ f))
      go false e false f = omega (arith, ltb-false p q e, ltb-false q p f)

  broken-there : (p : ℕ) → Breaks s p → list_at 0 0 s ≡ bad TEXT p
  broken-there p b = go (list_view 0 s)
    where
      go : ListView 0 s → list_at 0 0 s ≡ bad TEXT p
      go (whole {is = is} f l) = absurd (b.unread is l)
      go (broken {q = q} f c) = f ∙ ap (bad TEXT) (breaks_once q p (breaks s q f c) b)

  faulty-there : {is : List Item} {p : ℕ} → Faulty is p → ranges_of 0 is ≡ bad TEXT p
  faulty-there f = rw (f.split, ← f.place) (ranges-faulty 0 f.item f.behind f.fit (rw zero-add f.few) (rw zero-add f.fault))

  refuses : {n p : ℕ} → Refused s n p → id_ranges s ≡ bad n p
  unfolding id_ranges
  refuses (large h) = halt _ _ _ _ (lt-ltb most_bytes (length s) h)
  refuses (form {p = p} l b) = pass _ _ _ _ (le-ltb most_bytes (length s) l) (stop _ _ (broken-there p b))
  refuses (fault l r f) = pass _ _ _ _ (le-ltb most_bytes (length s) l) (step _ _ (list-complete r) (faulty-there f))

pub refused-exactly : RefusedExactly
refused-exactly s n p = (refused s n p, refuses s)

-- ---- Writing

pub no_leading_zeros : NoLeadingZeros
no_leading_zeros n h = plain n h

pub single_where_equal : SingleWhereEqual
single_where_equal = record { single = text-single; range = text-range }

-- what is written was good
written-good : (rs : List Range) (s : List ℕ) → line_of rs ≡ good s → Good 0 rs × (line_text rs ≡ s)
unfolding line_of
written-good [] s e = absurd (good≢bad e)
written-good (r ∷ rs) s e = let (k, e) = came_after _ _ e in (kept-good 0 (r ∷ rs) (omega arith) k, good_inj e)

writable_line : (rs : List Range) → Writable rs → line_of rs ≡ good (line_text rs)
writable_line rs w = line_of-good rs w.some (kept-complete 0 w.ordered (omega (arith, w.few)))

written-some : (rs : List Range) (s : List ℕ) → line_of rs ≡ good s → 1 ≤ length rs
unfolding line_of
written-some [] s e = absurd (good≢bad e)
written-some (r ∷ rs) s e = omega arith

was_writable : (rs : List Range) (s : List ℕ) → line_of rs ≡ good s → Writable rs × (line_text rs ≡ s)
was_writable rs s e =
    let (g, q) = written-good rs s e in
    (record { some = written-some rs s e; few = omega (arith, g.few); ordered = g.ordered }, q)

pub written-exactly : WrittenExactly
written-exactly rs s = (was_writable rs s, λ w. writable_line rs w.0 ∙ ap good w.1)

short-line : (rs : List Range) (s : List ℕ) → All RangeFits rs → Good 0 rs × (line_text rs ≡ s) → length s ≤ 703
unfolding line_text
short-line [] s f (g, e) = rw (← e) (omega arith)
short-line (r ∷ rs) s (all_cons f fs) (g, e) = rw (← e) (omega (arith, line-short r f fs, g.few))

pub line-is-short : LineShort
line-is-short rs s f e = short-line rs s f (written-good rs s e)

read_back : (rs : List Range) (s : List ℕ) → All RangeFits rs → Good 0 rs × (line_text rs ≡ s) → line_of rs ≡ good s → Accepted s rs
unfolding line_of
read_back [] s f g e = absurd (good≢bad e)
read_back (r ∷ rs) s (all_cons f fs) (g, q) e = go g.ordered
  where
    line : Said 0 (r ∷ rs) (line_text (r ∷ rs)) → Accepted s (r ∷ rs)
    line d = record {
      small = omega (arith, short-line (r ∷ rs) s (all_cons f fs) (g, q));
      items = d.items;
      reads = subst (λ (z : List ℕ). Reads z d.items) q d.is;
      fit = d.fit;
      few = omega (arith, g.few, sym (length-map d.items range_of) ∙ ap length d.says);
      ranges = d.says;
    }

    go : All Ordered (r ∷ rs) → Accepted s (r ∷ rs)
    go (all_cons o os) = line (said 0 r f o fs os)

pub written_read : WrittenRead
written_read rs s f e = accepts s rs (read_back rs s f (written-good rs s e) e)

-- ranges of items that fit are ordered
ordered_of : {is : List Item} → All Fits is → All Ordered (map range_of is)
ordered_of all_nil = all_nil
ordered_of (all_cons f fs) = all_cons f.order (ordered_of fs)

list-least : {p : ℕ} {s : List ℕ} {is : List Item} → IsList p s is → 1 ≤ length is
list-least (alone it) = omega arith
list-least (followed it l) = omega arith

writable : {s : List ℕ} {rs : List Range} → Accepted s rs → Writable rs
writable a =
    let n : length (map range_of a.items) ≡ length a.items = length-map a.items range_of in
    rw (← a.ranges) (record { some = omega (arith, list-least a.reads); few = omega (arith, a.few); ordered = ordered_of a.fit })

-- the ranges that are read have 32 bits
ranges-fit : {is : List Item} → All Fits is → All RangeFits (map range_of is)
ranges-fit all_nil = all_nil
ranges-fit (all_cons f fs) = all_cons (record { first = f.first; last = f.last }) (ranges-fit fs)

pub read-written : ReadWritten
read-written s rs e =
    let a = accepted s rs e in
    let w = writable_line rs (writable a) in
    (w, written_read rs (line_text rs) (rw (← a.ranges) (ranges-fit a.fit)) w)

pub plain_shortest : PlainShortest
plain_shortest s rs e = let a = accepted s rs e in rw (← a.ranges) (line_shortest a.reads)

unwritten_at : (rs : List Range) {m p : ℕ} → (TEXT ≡ m) × BadFrom 0 rs p → Unwritten rs m p
unwritten_at rs {m} {p} (e, b) = subst (λ (k : ℕ). Unwritten rs k p) e (bad-range (record {
  before = b.before;
  range = b.range;
  behind = b.behind;
  split = b.split;
  ordered = b.ordered;
  few = rw zero-add at b.few;
  fault = rw zero-add at b.fault;
  index = rw zero-add at b.index;
}))

unwritten : (rs : List Range) (n p : ℕ) → line_of rs ≡ bad n p → Unwritten rs n p
unfolding line_of
unwritten [] n p e = let (a, b) = bad_inj e in subst (λ (k : ℕ). Unwritten [] k p) a (subst (Unwritten [] TEXT) b none)
unwritten (r ∷ rs) n p e = unwritten_at (r ∷ rs) (kept-bad 0 (r ∷ rs) (omega arith) (refused-checks _ _ e))

bad-there : (rs : List Range) {p : ℕ} → FirstBad rs p → line_of rs ≡ bad TEXT p
bad-there rs {p} b =
    let k : ranges_kept 0 rs ≡ bad TEXT p = rw (b.split, ← b.index) (bad-kept 0 b.range b.behind b.ordered (rw zero-add b.few) (rw zero-add b.fault) ∙ ap (bad TEXT) (zero-add _)) in
    line_of-bad rs (rw (b.split, length-append) (omega arith)) k

unwrites : {rs : List Range} {n p : ℕ} → Unwritten rs n p → line_of rs ≡ bad n p
unfolding line_of
unwrites none = refl
unwrites (bad-range {rs = rs} b) = bad-there rs b

pub unwritten-exactly : UnwrittenExactly
unwritten-exactly rs n p = (unwritten rs n p, unwrites)

pub writer_writes : WriterWrites
unfolding write_ids
writer_writes rs s e = record { room = λ buffer l. writes buffer s (line_of rs) e l; short = λ buffer l. roomless buffer s (line_of rs) e l }

pub buffer-kept : BufferKept
unfolding write_ids
buffer-kept rs buffer = careful_stored buffer _

pub worked : Worked
worked = worked_out
