-- Why joining is refused: the fragments in order before the place, and what stops there.
use Prim.Native.Nat.{ℕ, zero, suc, ◌+◌, ◌-◌, ◌*◌, ◌≤◌}
use mathlib.Core.Path.{◌≡◌, refl, sym, ap, subst, ◌∙◌}
use mathlib.Core.Logic.{⊎_elim}
use mathlib.Core.Bool.{true, false, not, false≢true}
use mathlib.Core.List.{List, [], ◌∷◌, ◌++◌, append-nil}
use mathlib.Core.Option.{Option, none, some}
use native.Mathlib.Nat.{add-zero, zero-add, add-suc, suc-add}
use native.Mathlib.Omega.{arith}
use borrow.Author.Tests.{le-ltb, lt-ltb, ltb-true, ltb-false, not-true, not-false}
use lib.ListN.{length, take, drop, length-append, length-drop, take-append-drop}
use lib.Seq.{take-append_seam, drop-append_seam, length-take-le, take-length, drop-length}
use Rattle.rules.specs.Outcome.{Outcome, good, bad, ◌>>=◌, ◌∷>◌}
use Rattle.refusal.specs.Numbers.{GAP}
use Rattle.rules.specs.Items.{items, All, all_nil, all_cons}
use Rattle.rules.specs.Message.{most_bytes, head, payload_start, checks_one_to_six, option_run_length}
use Rattle.rules.proofs.Outcomes.{pass, halt, step, stop, stepped, fronted, front_of_lem, came_after, passed, good_inj, bad_inj, good≢bad, never_true, refused-at, refused-step, refused-front}
use Rattle.rules.proofs.Alone.{part-append, head-append}
use Rattle.rules.proofs.Loops.{◌++>◌}
use Rattle.rules.proofs.Passed.{sound}
use Rattle.fragments.specs.Fragment.{Fragment, fragment_of, fragment}
use Rattle.fragments.specs.Joining.{in_place, complete, fragments_from, at_start, clean_joined, joined}
use Rattle.fragments.specs.Claims.{WholeSet, Continued, InOrderTo, JoinRefused, large, bad-fragment, gap, last_missing, bad-whole}
use Rattle.fragments.proofs.From.{from-gap, from_stop, from_end, from_missing}
use Rattle.fragments.proofs.Order.{Placed, done, more, set-placed, Few, placed-set, Chain, link_none, link, chain_placed, placed_chain, chain_few, continued, not_continued, bits-few, all-few}
use Rattle.fragments.proofs.Gathering.{short}

-- ---- a fragment is read by its own bytes: what follows it changes nothing

-- the fragment at the start of s has n bytes, and s as many
record Inside (s : List ℕ) (n : ℕ) : Type 0 where
  pub header : 24 ≤ length s
  pub size : (head s).size ≡ n
  pub start : payload_start (head s) ≤ n
  pub most : n ≤ length s

inside : (p : ℕ) (s : List ℕ) (f : Fragment) (n : ℕ) → fragment p s ≡ good (f, n) → Inside s n
unfolding fragment option_run_length
inside p s f n e =
    let (k, o, e) = stepped _ _ e in
    let (c, o) = came_after _ _ o in
    let w = sound p s (head s) c in
    subst (Inside s) (ap (λ (r : Fragment × ℕ). r.1) (good_inj e)) (record { header = w.long; size = refl; start = w.least; most = w.most })

module _ (p : ℕ) (s t : List ℕ) {n : ℕ} (w : Inside s n) where
  same_run : option_run_length p (s ++ t) (head s) ≡ option_run_length p s (head s)
  unfolding option_run_length checks_one_to_six
  same_run =
      rw (
        le-ltb (length (s ++ t)) 24 (omega (arith, length-append s t, w.header)),
        le-ltb (length s) 24 w.header,
        le-ltb (length (s ++ t)) (head s).size (omega (arith, length-append s t, w.size, w.most)),
        le-ltb (length s) (head s).size (omega (arith, w.size, w.most)),
        part-append 24 (payload_start (head s)) s t w.header (omega (arith, w.start, w.most)),
      )

  same_fragment : (k : ℕ) → k ≤ 4 * (head s).words → fragment_of (s ++ t) (head s) k ≡ fragment_of s (head s) k
  unfolding fragment_of
  same_fragment k l =
      rw (
        part-append 24 (24 + k) s t w.header (omega (arith, w.start, w.most)),
        part-append (payload_start (head s)) (head s).size s t (omega (arith, w.start, w.most)) (omega (arith, w.size, w.most)),
      )

  beside : fragment p (s ++ t) ≡ fragment p s
  unfolding fragment ◌>>=◌
  beside = rw (head-append s t w.header, same_run) (go (option_run_length p s (head s)) refl)
    where
      go : (o : Outcome ℕ) → option_run_length p s (head s) ≡ o → ◌>>=◌ {B = Fragment × ℕ} o (λ k. good (fragment_of (s ++ t) (head s) k, (head s).size)) ≡ (o >>= λ k. good (fragment_of s (head s) k, (head s).size))
      go (good k) e = ap (λ (f : Fragment). good (f, (head s).size)) (same_fragment k (short p s (head s) k e))
      go (bad k q) e = refl

-- so it is read without them
alone : (p : ℕ) (s t : List ℕ) (f : Fragment) (n : ℕ) → n ≤ length s → fragment p (s ++ t) ≡ good (f, n) → fragment p s ≡ good (f, n)
alone p s t f n l e =
    let w = inside p (s ++ t) f n e in
    let h = head-append s t (omega (arith, w.start)) in
    sym (beside p s t (record { header = omega (arith, w.start); size = rw (← h) w.size; start = rw (← h) w.start; most = l })) ∙ e

-- ---- what stops the reading

-- behind the fragment e, s stands at place p
data Stops (e : Option Fragment) (p : ℕ) : List ℕ → ℕ → ℕ → Type 0 where
  unread : {s : List ℕ} {n q : ℕ} → 1 ≤ length s → fragment p s ≡ bad n q → Stops e p s n q
  apart : {s : List ℕ} {f : Fragment} {n : ℕ} → fragment p s ≡ good (f, n) → in_place e f ≡ false → Stops e p s GAP p
  missing : complete e ≡ false → Stops e p [] GAP p

-- s stands at place p behind the fragment b, and its first k bytes belong to b: the fragments of its front are in order, and what follows them stops the reading
record Stopped (b : Option Fragment) (k p : ℕ) (s : List ℕ) (n r : ℕ) : Type 0 where
  pub front : List ℕ
  pub rest : List ℕ
  pub split : front ++ rest ≡ s
  pub long : k ≤ length front
  pub fragments : List Fragment
  pub last : Option Fragment
  pub read : items fragment k p front ≡ good fragments
  pub chain : Chain b fragments last
  pub place : ℕ
  pub there : place ≡ p + length front
  pub stops : Stops last place rest n r

stopped_here : (b : Option Fragment) (k p : ℕ) (s : List ℕ) {n r : ℕ} → k ≤ 0 → Stops b p s n r → Stopped b k p s n r
unfolding items
stopped_here b k p s l w = record { front = []; rest = s; split = refl; long = l; fragments = []; last = b; read = refl; chain = link_none; place = p; there = omega arith; stops = w }

-- one byte more in front, and with it a fragment or none
module _ (b d : Option Fragment) (k m p x : ℕ) (s : List ℕ) {n r : ℕ} (w : Stopped d m (suc p) s n r) where
  stopped_on : (fs : List Fragment) → k ≤ suc (length w.front) → items fragment k p (x ∷ w.front) ≡ good fs → Chain b fs w.last → Stopped b k p (x ∷ s) n r
  stopped_on fs l e c = record {
    front = x ∷ w.front;
    rest = w.rest;
    split = rw w.split;
    long = l;
    fragments = fs;
    last = w.last;
    read = e;
    chain = c;
    place = w.place;
    there = omega (arith, w.there);
    stops = w.stops;
  }

stopped_skip : (b : Option Fragment) (k p x : ℕ) (s : List ℕ) {n r : ℕ} → Stopped b k (suc p) s n r → Stopped b (suc k) p (x ∷ s) n r
unfolding items
stopped_skip b k p x s w = stopped_on b b (suc k) k p x s w w.fragments (omega (arith, w.long)) w.read w.chain

stopped_next : (b : Option Fragment) (p x : ℕ) (s : List ℕ) (f : Fragment) (m : ℕ) {n r : ℕ} → fragment p (x ∷ s) ≡ good (f, m) → in_place b f ≡ true
    → Stopped (some f) (m - 1) (suc p) s n r → Stopped b 0 p (x ∷ s) n r
unfolding items
stopped_next b p x s f m e i w =
    let a = alone p (x ∷ w.front) w.rest f m (omega (arith, w.long)) (rw w.split e) in
    stopped_on b (some f) 0 (m - 1) p x s w (f ∷ w.fragments) (omega arith) (step _ _ a (front_of_lem _ _ w.read)) (link i w.chain)

stopped : (b : Option Fragment) (k p : ℕ) (s : List ℕ) {n r : ℕ} → k ≤ length s → fragments_from b k p s ≡ bad n r → Stopped b k p s n r
unfolding fragments_from
stopped b k p [] {n} {r} l e = ⊎_elim (λ z. go z) (λ z. absurd (good≢bad (sym z.1))) (refused-at _ _ _ _ e)
  where
    go : (not (complete b) ≡ true) × (GAP ≡ n) × (p ≡ r) → Stopped b k p [] n r
    go (t, a, c) = rw (← a, ← c) (stopped_here b k p [] l (missing (not-true _ t)))
stopped b (suc k) p (x ∷ s) l e = stopped_skip b k p x s (stopped b k (suc p) s (omega arith) e)
stopped b zero p (x ∷ s) {n} {r} l e =
    ⊎_elim
    (λ z. stopped_here b 0 p (x ∷ s) (omega arith) (unread (omega arith) z))
    (λ z. ⊎_elim
    (λ y. out z.0.0 z.0.1 z.1 y)
    (λ y. stopped_next b p x s z.0.0 z.0.1 z.1 (not-false _ y.0) (stopped (some z.0.0) (z.0.1 - 1) (suc p) s (omega (arith, (inside p (x ∷ s) z.0.0 z.0.1 z.1).most)) (refused-front _ _ y.1)))
    (refused-at _ _ _ _ z.2))
    (refused-step _ _ e)
  where
    out : (f : Fragment) (m : ℕ) → fragment p (x ∷ s) ≡ good (f, m) → (not (in_place b f) ≡ true) × (GAP ≡ n) × (p ≡ r) → Stopped b 0 p (x ∷ s) n r
    out f m g (t, a, c) = rw (← a, ← c) (stopped_here b 0 p (x ∷ s) (omega arith) (apart g (not-true _ t)))

-- where nothing stops it, the fragments are read so one by one, and each is in its place
in_order : (b : Option Fragment) (k p : ℕ) (s : List ℕ) {fs : List Fragment} → fragments_from b k p s ≡ good fs → (items fragment k p s ≡ good fs) × Placed b fs
unfolding fragments_from items
in_order b k p [] {fs} e =
    let (t, e) = passed _ _ _ _ e in
    let q : [] ≡ fs = good_inj e in
    rw (← q) (refl, done (not-false _ t))
in_order b (suc k) p (x ∷ s) e = in_order b k (suc p) s e
in_order b zero p (x ∷ s) {fs} e =
    let (r, g, e) = stepped _ _ e in
    let (t, e) = passed _ _ _ _ e in
    let (l, i, m) = fronted _ _ e in
    let (j, w) = in_order (some r.0) (r.1 - 1) (suc p) s i in
    rw (← m) (step _ _ g (front_of_lem _ _ j), more (not-false _ t) w)

-- ---- the reading goes on behind fragments in order

unlink : {b e : Option Fragment} {f : Fragment} {fs : List Fragment} → Chain b (f ∷ fs) e → (in_place b f ≡ true) × Chain (some f) fs e
unlink (link i c) = (i, c)

in_front : {A : Type 0} (a : A) (l : List A) (o : Outcome (List A)) → (a ∷> (l ++> o)) ≡ ((a ∷ l) ++> o)
unfolding ◌∷>◌ ◌++>◌
in_front a l (good m) = refl
in_front a l (bad n p) = refl

none_in_front : {A : Type 0} (o : Outcome (List A)) → o ≡ ([] ++> o)
unfolding ◌++>◌
none_in_front (good l) = refl
none_in_front (bad n p) = refl

goes_on : (b : Option Fragment) (k p : ℕ) (s t : List ℕ) {fs : List Fragment} {e : Option Fragment} → k ≤ length s → items fragment k p s ≡ good fs → Chain b fs e
    → fragments_from b k p (s ++ t) ≡ (fs ++> fragments_from e 0 (p + length s) t)
unfolding items fragments_from
goes_on b (suc k) p [] t l r c = absurd (omega arith)
goes_on b zero p [] t l r link_none = rw add-zero (none_in_front (fragments_from b 0 p t))
goes_on b zero p [] t l r (link {f = f} {fs = fs} i c) = let z : ◌≡◌ {A = List Fragment} [] (f ∷ fs) = good_inj r in cc
goes_on b (suc k) p (x ∷ s) t l r c = rw (add-suc, ← suc-add) (goes_on b k (suc p) s t (omega arith) r c)
goes_on b zero p (x ∷ s) t {fs} {e} l r c =
    let (a, g, d) = stepped _ _ r in
    let (gs, i, m) = fronted _ _ d in
    let (j, c) = unlink (subst (λ (l : List Fragment). Chain b l e) (sym m) c) in
    let w = inside p (x ∷ s) a.0 a.1 g in
    rw (← m, add-suc, ← suc-add)
    (step _ _ (beside p (x ∷ s) t w ∙ g) (pass _ _ _ _ (rw j) (ap (λ (o : Outcome (List Fragment)). a.0 ∷> o) (goes_on (some a.0) (a.1 - 1) (suc p) s t (omega (arith, w.most)) i c) ∙ in_front a.0 gs _)))

-- ---- what is continued is a chain

chain_of : {b : Option Fragment} (fs rest : List Fragment) → Placed b (fs ++ rest) → (e : Option Fragment) × Chain b fs e
chain_of {b} [] rest w = (b, link_none)
chain_of (f ∷ fs) rest (more i w) = let (e, c) = chain_of fs rest w in (e, link i c)

chain_more : {b e : Option Fragment} {fs : List Fragment} (f : Fragment) → Chain b fs e → in_place e f ≡ true → Chain b (fs ++ (f ∷ [])) (some f)
chain_more f link_none i = link i link_none
chain_more f (link j c) i = link j (chain_more f c i)

-- of a whole set the last is there
set-complete : {e : Option Fragment} {fs : List Fragment} → Chain none fs e → WholeSet fs → complete e ≡ true
set-complete {e} c v = go (placed_chain [] c (rw append-nil (set-placed v)))
  where
    go : Placed e [] → complete e ≡ true
    go (done t) = t

-- the fragments in the first q bytes of s are in order, and e is the last of them
module _ (s : List ℕ) (q : ℕ) (fs : List Fragment) (w : InOrderTo s q fs) (e : Option Fragment) (c : Chain none fs e) (l : q ≤ length s) where
  few : All Few fs
  few = all-few 0 0 (take q s) w.read

  read-on : fragments_from none 0 0 s ≡ (fs ++> fragments_from e 0 q (drop q s))
  read-on = rw (take-append-drop, length-take-le q s l, zero-add) at (goes_on none 0 0 (take q s) (drop q s) (omega arith) w.read c)

  stays : {n p : ℕ} → fragments_from e 0 q (drop q s) ≡ bad n p → joined s ≡ bad n p
  unfolding joined ◌++>◌
  stays f = pass _ _ _ _ (le-ltb most_bytes (length s) w.small) (stop _ _ (read-on ∙ rw f))

  out_of_place : (f : Fragment) (n : ℕ) → fragment q (drop q s) ≡ good (f, n) → (Continued (fs ++ (f ∷ [])) → ⊥) → in_place e f ≡ false
  out_of_place f n g h = never_true _ (λ t. h (continued (chain_few fs (f ∷ []) few (all_cons (bits-few q (drop q s) (f, n) g) all_nil)) (chain_more f c t)))

  incomplete : (WholeSet fs → ⊥) → complete e ≡ false
  incomplete h = never_true _ (λ t. h (placed-set few (rw append-nil at (chain_placed [] c (done t)))))

  whole-read : q ≡ length s → WholeSet fs → fragments_from none 0 0 s ≡ good fs
  unfolding ◌++>◌
  whole-read z v = read-on ∙ rw (z, drop-length s, from_end e (length s) (set-complete c v), append-nil)

-- ---- what the fragments make up is refused at place 0

pub start-bad : {A : Type 0} (o : Outcome A) {n q : ℕ} → at_start o ≡ bad n q → (p : ℕ) × (o ≡ bad n p) × (q ≡ 0)
unfolding at_start
start-bad (good a) e = absurd (good≢bad (sym e))
start-bad (bad n p) e = (p, cc, cc)

at-start : (fs : List Fragment) {n p : ℕ} → clean_joined fs ≡ bad n p → p ≡ 0
unfolding clean_joined
at-start [] e = sym (bad_inj e).1
at-start (f ∷ fs) e = (start-bad _ e).2

-- ---- all of it

module _ (s : List ℕ) where
  chained : {q : ℕ} {fs : List Fragment} → InOrderTo s q fs → (e : Option Fragment) × Chain none fs e
  chained {fs = fs} w = chain_of fs w.continued.0 (set-placed w.continued.1)

  module _ {fs : List Fragment} (w : InOrderTo s (length s) fs) (v : WholeSet fs) where
    pub read_whole : fragments_from none 0 0 s ≡ good fs
    read_whole = let (e, c) = chained w in whole-read s (length s) fs w e c (omega arith) refl v

    pub joins_whole : joined s ≡ clean_joined fs
    unfolding joined
    joins_whole = pass _ _ _ _ (le-ltb most_bytes (length s) w.small) (step _ _ read_whole refl)

  pub refuses : {n p : ℕ} → JoinRefused s n p → joined s ≡ bad n p
  unfolding joined
  refuses (large l) = halt _ _ _ _ (lt-ltb most_bytes (length s) l)
  refuses (bad-fragment {q = q} {fs = fs} w l f) =
      let (e, c) = chained w in
      stays s q fs w e c (omega arith) (from_stop e q (drop q s) (omega (arith, length-drop q s)) f)
  refuses (gap {q = q} {n = n} {fs = fs} {f = f} w g h) =
      let (e, c) = chained w in
      let l : q ≤ length s = omega (arith, (inside q (drop q s) f n g).header, length-drop q s) in
      stays s q fs w e c l (from-gap e q (drop q s) f n (omega (arith, (inside q (drop q s) f n g).header)) g (out_of_place s q fs w e c l f n g h))
  refuses (last_missing {fs = fs} w h) =
      let (e, c) = chained w in
      stays s (length s) fs w e c (omega arith) (rw (drop-length s) (from_missing e (length s) (incomplete s (length s) fs w e c (omega arith) h)))
  refuses (bad-whole w v z) = joins_whole w v ∙ z

-- fragments of the front, in order
up_to : (front rest : List ℕ) {fs : List Fragment} {e : Option Fragment} → items fragment 0 0 front ≡ good fs → Chain none fs e → length (front ++ rest) ≤ most_bytes → InOrderTo (front ++ rest) (length front) fs
up_to front rest r c l = record { small = l; read = rw take-append_seam r; continued = continued (all-few 0 0 front r) c }

-- where the reading was stopped behind them
was_stopped : (front : List ℕ) {rest : List ℕ} {fs : List Fragment} {e : Option Fragment} {q n p : ℕ} → items fragment 0 0 front ≡ good fs → Chain none fs e → length (front ++ rest) ≤ most_bytes
    → q ≡ length front → Stops e q rest n p → JoinRefused (front ++ rest) n p
was_stopped front {rest} {n = n} {p = p} r c l z (unread m f) = bad-fragment {n = n} {p = p} (up_to front rest r c l) (omega (arith, length-append front rest)) (rw (drop-append_seam, ← z) f)
was_stopped front {rest} r c l z (apart {f = f} {n = n} g i) = rw z (gap {n = n} {f = f} (up_to front rest r c l) (rw (drop-append_seam, ← z) g) (not_continued f c i))
was_stopped front r c l z (missing i) =
    let k : length (front ++ []) ≡ length front = rw append-nil in
    rw (z, ← k) (last_missing (rw (← k) at (up_to front [] r c l)) (λ v. false≢true (sym i ∙ set-complete c v)))

module _ (s : List ℕ) where
  by-reading : {n p : ℕ} → length s ≤ most_bytes → Stopped none 0 0 s n p → JoinRefused s n p
  by-reading {n} {p} l w = subst (λ (k : List ℕ). JoinRefused k n p) w.split (was_stopped w.front w.read w.chain (rw w.split l) (omega (arith, w.there)) w.stops)

  by-checks : {n p : ℕ} (fs : List Fragment) → length s ≤ most_bytes → fragments_from none 0 0 s ≡ good fs → clean_joined fs ≡ bad n p → JoinRefused s n p
  by-checks {n} fs l e z =
      let (r, w) = in_order none 0 0 s e in
      let v : WholeSet fs = placed-set (all-few 0 0 s r) w in
      let q = at-start fs z in
      subst (JoinRefused s n) (sym q) (bad-whole {fs = fs} (record { small = l; read = rw (take-length s) r; continued = ([], rw append-nil v) }) v (z ∙ ap (bad n) q))

  pub refused : {n p : ℕ} → joined s ≡ bad n p → JoinRefused s n p
  unfolding joined
  refused e =
      ⊎_elim
      (λ z. rw (← z.1, ← z.2) (large (ltb-true _ _ z.0)))
      (λ z. ⊎_elim (λ f. by-reading (ltb-false _ _ z.0) (stopped none 0 0 s (omega arith) f)) (λ f. by-checks f.0 (ltb-false _ _ z.0) f.1 f.2) (refused-step _ _ z.1))
      (refused-at _ _ _ _ e)
