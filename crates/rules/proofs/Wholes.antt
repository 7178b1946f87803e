-- Option runs as whole options, one behind the other: which runs pass, where option bytes are refused, and which number a run says.
use Prim.Native.Nat.{ℕ, zero, suc, ◌+◌, ◌-◌, ◌≤◌, ◌<◌}
use mathlib.Core.Path.{◌≡◌, refl, sym, ap, subst, ◌∙◌}
use mathlib.Core.Logic.{◌↔◌, ◌⊎◌, inl, inr, ⊎_elim}
use mathlib.Core.Bool.{Bool, true, false, ◌&&◌}
use mathlib.Core.List.{List, [], ◌∷◌, ◌++◌, map}
use mathlib.Core.Option.{some}
use native.Mathlib.Nat.{add-zero, add-suc, zero-add, pos_of_ne-zero}
use native.Mathlib.Omega.{arith}
use borrow.Author.Tests.{ltb-true, ltb-false, lt-ltb, le-ltb, eqb-true, eqb-false, leb-true, le-leb, eq-eqb, not-false, not-true}
use lib.Dec.{leb, ltb, eqb}
use lib.ListN.{length, take, drop, length-append, take-append-drop, get_or-append}
use lib.Seq.{get_or-take, length-take-le, drop-append_seam, take-add, drop-drop}
use Rattle.rules.specs.Outcome.{good, bad, OPTION}
use Rattle.rules.specs.Bytes.{at, word}
use Rattle.rules.specs.Items.{Fills, none, more, count}
use Rattle.rules.specs.Options.{length_allowed, option_size, option_fits, is_second, option_run_from, count_said_from, count_said, kind_of, WholeOption}
use Rattle.rules.specs.Claims.{WholeRun, Some, here, there}
use Rattle.rules.proofs.Outcomes.{both, good≢bad, refused-at, some_inj, none≢some}
use Rattle.rules.proofs.Run.{Going, run_inv, run-next, Kinds, short, long, kinds, bounds, Same, same}
use Rattle.rules.proofs.Numbers.{word-append}
use Rattle.rules.proofs.Counts.{said_here, said-next}

-- ---- second ones

first_one : (x : ℕ) (seen : List ℕ) → is_second x seen ≡ false → 0x86 ≤ x → x ≤ 0x87 → count x seen ≡ 0
unfolding is_second
first_one x seen e a b =
    let l = ltb-false 0 (count x seen) (rw (le-leb 0x86 x a, le-leb x 0x87 b) at e) in
    omega arith

no_second : (x : ℕ) (seen : List ℕ) → (0x86 ≤ x → x ≤ 0x87 → count x seen ≡ 0) → is_second x seen ≡ false
unfolding is_second
no_second x seen h = go (leb 0x86 x) refl (leb x 0x87) refl
  where
    go : (a : Bool) → leb 0x86 x ≡ a → (b : Bool) → leb x 0x87 ≡ b → (a && b && ltb 0 (count x seen)) ≡ false
    go true p true q = le-ltb 0 (count x seen) (omega (arith, h (leb-true _ _ p) (leb-true _ _ q)))
    go true p false q = refl
    go false p true q = refl
    go false p false q = refl

record Second (x : ℕ) (seen : List ℕ) : Type 0 where
  least : 0x86 ≤ x
  most : x ≤ 0x87
  met : 1 ≤ count x seen

seconds : (x : ℕ) (seen : List ℕ) → is_second x seen ≡ true → Second x seen
unfolding is_second
seconds x seen e =
    let (a, c) = both (leb 0x86 x && leb x 0x87) (ltb 0 (count x seen)) e in
    let (a, b) = both (leb 0x86 x) (leb x 0x87) a in
    record { least = leb-true _ _ a; most = leb-true _ _ b; met = ltb-true _ _ c }

second-by : (x : ℕ) (seen : List ℕ) → 0x86 ≤ x → x ≤ 0x87 → 1 ≤ count x seen → is_second x seen ≡ true
unfolding is_second
second-by x seen a b c = rw (le-leb 0x86 x a, le-leb x 0x87 b, lt-ltb 0 (count x seen) c)

-- a kind counted among those seen or among those behind them
shifted : (x y : ℕ) (seen kinds : List ℕ) → count x (y ∷ kinds) + count x seen ≡ count x kinds + count x (y ∷ seen)
unfolding count
shifted x y seen kinds = go (eqb x y)
  where
    go : (b : Bool) → elim b [ true ↦ suc (count x kinds) | false ↦ count x kinds ] + count x seen ≡ count x kinds + elim b [ true ↦ suc (count x seen) | false ↦ count x seen ]
    go true = omega arith
    go false = refl

met_first : (x : ℕ) (l : List ℕ) → count x (x ∷ l) ≡ suc (count x l)
unfolding count
met_first x l = rw (eq-eqb x x refl, count)

-- ---- a run that passes is whole options

-- the options behind those seen: each of the two kinds is there at most once
abbrev Once : List ℕ → List (List ℕ) → Type 0
Once seen cs = (x : ℕ) → 0x86 ≤ x → x ≤ 0x87 → count x (map kind_of cs) + count x seen ≤ 1

record Wholes (seen run : List ℕ) : Type 0 where
  options : List (List ℕ)
  fills : Fills WholeOption options run
  once : ((x : ℕ) → 0x86 ≤ x → x ≤ 0x87 → count x seen ≤ 1) → Once seen options

-- the option at the start of a list, by itself
at-start : (n x : ℕ) (s : List ℕ) → 1 ≤ n → at (take n (x ∷ s)) 0 ≡ x
at-start n x s l = get_or-take n (x ∷ s) 0 0 l

option_of : (x : ℕ) (s : List ℕ) → 0 < x → option_fits (x ∷ s) ≡ true → WholeOption (take (option_size (x ∷ s)) (x ∷ s))
option_of x s k f =
    let n : ℕ = option_size (x ∷ s) in
    let b = bounds (x ∷ s) (omega arith) f in
    let l : length (take n (x ∷ s)) ≡ n = length-take-le n (x ∷ s) b.most in
    let a : at (take n (x ∷ s)) 0 ≡ x = at-start n x s b.least in
    let w : Same (x ∷ s) (take n (x ∷ s)) = same (x ∷ s) (take n (x ∷ s)) f a (λ two. get_or-take n (x ∷ s) 1 0 (omega arith)) (omega (arith, l)) in
    record { kind = rw a k; fits = w.fits; whole = l ∙ sym w.size }

ahead : (n x : ℕ) (s : List ℕ) (cs : List (List ℕ)) → 1 ≤ n → WholeOption (take n (x ∷ s)) → Fills WholeOption cs (drop (n - 1) s) → Fills WholeOption (take n (x ∷ s) ∷ cs) (x ∷ s)
ahead zero x s cs h w r = absurd (omega arith)
ahead (suc n) x s cs h w r =
    let e : suc n - 1 ≡ n = omega arith in
    let v : Fills WholeOption (take (suc n) (x ∷ s) ∷ cs) (take (suc n) (x ∷ s) ++ drop (suc n) (x ∷ s)) = more w (rw e at r) in
    rw take-append-drop at v

-- no kind of the two is seen twice once one that is no second one has been seen too
seen-once : (x : ℕ) (seen : List ℕ) → is_second x seen ≡ false → ((y : ℕ) → 0x86 ≤ y → y ≤ 0x87 → count y seen ≤ 1) → (y : ℕ) → 0x86 ≤ y → y ≤ 0x87 → count y (x ∷ seen) ≤ 1
unfolding count
seen-once x seen e h y l m = go (eqb y x) refl
  where
    go : (b : Bool) → eqb y x ≡ b → elim b [ true ↦ suc (count y seen) | false ↦ count y seen ] ≤ 1
    go true q =
        let z : y ≡ x = eqb-true _ _ q in
        let n : count y seen ≡ 0 = rw z (first_one x seen e (rw z at l) (rw z at m)) in
        omega arith
    go false q = h y l m

wholes_next : (seen : List ℕ) (p n x : ℕ) (s : List ℕ) {e : ℕ} → Going seen p n x s e → Wholes (x ∷ seen) (drop (option_size (x ∷ s) - 1) s) → Wholes seen (x ∷ s)
wholes_next seen p n x s g w =
    let b = bounds (x ∷ s) (omega arith) g.fits in
    let a : at (take (option_size (x ∷ s)) (x ∷ s)) 0 ≡ x = at-start (option_size (x ∷ s)) x s b.least in
    record {
      options = take (option_size (x ∷ s)) (x ∷ s) ∷ w.options;
      fills = ahead (option_size (x ∷ s)) x s w.options b.least (option_of x s g.kind g.fits) w.fills;
      once = λ h y l m. rw (a, shifted y x seen (map kind_of w.options)) (w.once (seen-once x seen g.once h) y l m);
    }

wholes : (seen : List ℕ) (k p n : ℕ) (s : List ℕ) {e : ℕ} → k ≤ length s → n + length s ≡ e → option_run_from seen k p n s ≡ good e → Wholes seen (drop k s)
unfolding option_run_from count
wholes seen (suc k) p n [] h l r = absurd (omega arith)
wholes seen zero p n [] h l r = record { options = []; fills = none; once = λ c x a b. rw zero-add (c x a b) }
wholes seen (suc k) p n (x ∷ s) h l r = wholes seen k p (suc n) s (omega arith) (omega arith) r
wholes seen zero p n (x ∷ s) {e} h l r =
    ⊎_elim (λ z. absurd (omega arith))
    (λ g. wholes_next seen p n x s g (wholes (x ∷ seen) (option_size (x ∷ s) - 1) p (suc n) s (let b = bounds (x ∷ s) (omega arith) g.fits in omega (arith, b.most)) (omega arith) g.next))
    (run_inv seen p n x s r)

-- ---- whole options, with none of the two kinds twice, are a run that passes

long-enough : (l : List ℕ) → 0 < at l 0 → 1 ≤ length l
long-enough [] h = absurd (omega arith)
long-enough (x ∷ l) h = omega arith

-- the option at the start of more bytes
fronts : (c s : List ℕ) → WholeOption c → Same c (c ++ s) × (at (c ++ s) 0 ≡ at c 0)
fronts c s w =
    let b : 1 ≤ length c = long-enough c w.kind in
    let a : at (c ++ s) 0 ≡ at c 0 = get_or-append c s 0 0 (omega arith) in
    (same c (c ++ s) w.fits a (λ two. get_or-append c s 0 1 (omega (arith, w.whole))) (omega (arith, w.whole, length-append c s)), a)

passing : (seen : List ℕ) (p n : ℕ) {cs : List (List ℕ)} {s : List ℕ} → Fills WholeOption cs s → Once seen cs → option_run_from seen 0 p n s ≡ good (n + length s)
unfolding option_run_from
passing seen p n none o = rw add-zero
passing seen p n (more {c = c} {cs = cs} {s = s} w r) o =
    let (f, a) = fronts c s w in
    let z : option_size (c ++ s) ≡ length c = f.size ∙ sym w.whole in
    let k : is_second (at c 0) seen ≡ false = no_second (at c 0) seen (λ l m. omega (arith, o (at c 0) l m, met_first (at c 0) (map kind_of cs))) in
    let e : n + length (c ++ s) ≡ n + length c + length s = omega (arith, length-append c s) in
    run-next seen p n (c ++ s) (rw a w.kind) f.fits (rw a k)
    ∙ rw (a, z, drop-append_seam, e) (passing (at c 0 ∷ seen) p (n + length c) r (λ x l m. rw (← shifted x (at c 0) seen (map kind_of cs)) (o x l m)))

-- ---- a bare run passes exactly if it is whole options, none of the two kinds twice

pub only_two : (x : ℕ) → 0x86 ≤ x → x ≤ 0x87 → (x ≡ 0x86) ⊎ (x ≡ 0x87)
only_two x l m = go (eqb x 0x86) refl
  where
    go : (b : Bool) → eqb x 0x86 ≡ b → (x ≡ 0x86) ⊎ (x ≡ 0x87)
    go true e = inl (eqb-true _ _ e)
    go false e = inr (let n = eqb-false x 0x86 e in omega arith)

whole_by_lem : (run : List ℕ) → Wholes [] run → WholeRun run
unfolding count
whole_by_lem run w =
    let one = w.once (λ x l m. omega arith) in
    (w.options, w.fills, rw add-zero at (one 0x86 (omega arith) (omega arith)), rw add-zero at (one 0x87 (omega arith) (omega arith)))

once_by : (run : List ℕ) (w : WholeRun run) → Once [] w.0
unfolding count
once_by run w x l m = rw add-zero (⊎_elim (λ e. rw e w.2) (λ e. rw e w.3) (only_two x l m))

pub whole-run-by : (run : List ℕ) → (option_run_from [] 0 0 0 run ≡ good (length run)) ↔ WholeRun run
whole-run-by run = (λ e. whole_by_lem run (wholes [] 0 0 0 run (omega arith) (omega arith) e), λ w. rw zero-add at (passing [] 0 0 w.1 (once_by run w)))

-- ---- option bytes that are refused at an option, or behind it

data Halting (seen : List ℕ) (p n x : ℕ) (s : List ℕ) (m q : ℕ) : Type 0 where
  unfit : option_fits (x ∷ s) ≡ false → OPTION ≡ m → p + n ≡ q → Halting seen p n x s m q
  second : is_second x seen ≡ true → OPTION ≡ m → p + n ≡ q → Halting seen p n x s m q
  later : 0 < x → option_fits (x ∷ s) ≡ true → option_run_from (x ∷ seen) (option_size (x ∷ s) - 1) p (suc n) s ≡ bad m q → Halting seen p n x s m q

halting : (seen : List ℕ) (p n x : ℕ) (s : List ℕ) {m q : ℕ} → option_run_from seen 0 p n (x ∷ s) ≡ bad m q → Halting seen p n x s m q
unfolding option_run_from
halting seen p n x s {m} {q} h = go (eqb x 0) refl
  where
    go : (b : Bool) → eqb x 0 ≡ b → Halting seen p n x s m q
    go true t = absurd (good≢bad (sym (rw (t, option_run_from) at h)))
    go false t =
        ⊎_elim (λ a. unfit (not-true _ a.0) a.1 a.2)
        (λ f. ⊎_elim (λ a. second a.0 a.1 a.2) (λ g. later (pos_of_ne-zero (eqb-false x 0 t)) (not-false _ f.0) g.1) (refused-at _ _ _ _ f.1))
        (refused-at _ _ _ _ (rw (t, option_run_from) at h))

-- the second one that stands at place d, behind these options and those seen
record SecondAt (seen : List ℕ) (d : ℕ) (s : List ℕ) (options : List (List ℕ)) : Type 0 where
  kind : ℕ
  is : kind ≡ at (drop d s) 0
  least : 0x86 ≤ kind
  most : kind ≤ 0x87
  met : 1 ≤ count kind (map kind_of options) + count kind seen

-- what is before the place is whole options, behind those seen; and what stands there
pub record Stopped (seen : List ℕ) (p : ℕ) (s : List ℕ) (m q : ℕ) : Type 0 where
  pub before : ℕ
  pub number : m ≡ OPTION
  pub place : q ≡ p + before
  pub options : List (List ℕ)
  pub fills : Fills WholeOption options (take before s)
  fault : (option_fits (drop before s) ≡ false) ⊎ SecondAt seen before s options

-- whole options in front of those before the place
behind : (seen : List ℕ) (k p x : ℕ) (s : List ℕ) {m q : ℕ} → 1 ≤ k → WholeOption (take k (x ∷ s)) → Stopped (x ∷ seen) (suc p + (k - 1)) (drop (k - 1) s) m q → Stopped seen p (x ∷ s) m q
behind seen zero p x s h c w = absurd (omega arith)
behind seen (suc k) p x s h c w =
    let e : suc k - 1 ≡ k = omega arith in
    let v = rw e at w in
    let d : drop (suc k + v.before) (x ∷ s) ≡ drop v.before (drop k s) = sym (drop-drop v.before (suc k) (x ∷ s)) in
    record {
      before = suc k + v.before;
      number = v.number;
      place = omega (arith, v.place);
      options = take (suc k) (x ∷ s) ∷ v.options;
      fills = rw (take-add (suc k) v.before (x ∷ s)) (more c v.fills);
      fault = ⊎_elim (λ f. inl (rw d f)) (λ f. inr (record {
        kind = f.kind;
        is = rw d f.is;
        least = f.least;
        most = f.most;
        met = rw (shifted f.kind x seen (map kind_of v.options)) f.met;
      })) v.fault;
    }

stopped : (seen : List ℕ) (k p n : ℕ) (s : List ℕ) {m q : ℕ} → k ≤ length s → option_run_from seen k p n s ≡ bad m q → Stopped seen (p + n + k) (drop k s) m q
unfolding option_run_from
stopped seen zero p n [] h e = absurd (good≢bad (sym e))
stopped seen (suc k) p n [] h e = absurd (omega arith)
stopped seen (suc k) p n (x ∷ s) {m} {q} h e =
    let z : p + suc n + k ≡ p + n + suc k = omega arith in
    subst (λ (i : ℕ). Stopped seen i (drop k s) m q) z (stopped seen k p (suc n) s (omega arith) e)
stopped seen zero p n (x ∷ s) {m} {q} h e = go (halting seen p n x s e) (λ k l f. stopped (x ∷ seen) k p (suc n) s l f)
  where
    go : Halting seen p n x s m q → ((k : ℕ) → k ≤ length s → option_run_from (x ∷ seen) k p (suc n) s ≡ bad m q → Stopped (x ∷ seen) (p + suc n + k) (drop k s) m q) → Stopped seen (p + n + 0) (x ∷ s) m q
    go (unfit f a b) rest = record { before = 0; number = sym a; place = omega arith; options = []; fills = none; fault = inl f }
    go (second f a b) rest =
        let c = seconds x seen f in
        record {
          before = 0;
          number = sym a;
          place = omega arith;
          options = [];
          fills = none;
          fault = inr (record { kind = x; is = refl; least = c.least; most = c.most; met = omega (arith, c.met) });
        }
    go (later k f e) rest =
        let b = bounds (x ∷ s) (omega arith) f in
        rw add-zero (behind seen (option_size (x ∷ s)) (p + n) x s b.least (option_of x s k f) (rw add-suc at (rest (option_size (x ∷ s) - 1) (omega (arith, b.most)) e)))

pub option_stopped : (p : ℕ) (o : List ℕ) {n q : ℕ} → option_run_from [] 0 p 0 o ≡ bad n q → Stopped [] p o n q
option_stopped p o e = rw (add-zero, add-zero) at (stopped [] 0 p 0 o (omega arith) e)

pub fault-at : (p : ℕ) (o : List ℕ) {n q : ℕ} (w : Stopped [] p o n q) → (option_fits (drop w.before o) ≡ false) ⊎ (is_second (kind_of (drop w.before o)) (map kind_of w.options) ≡ true)
unfolding count
fault-at p o w =
    ⊎_elim (λ f. inl f) (λ f. inr (rw (← f.is) (second-by f.kind (map kind_of w.options) f.least f.most (rw add-zero at f.met)))) w.fault

-- ---- the number that a run says

-- an option 0x87 has six bytes
six : (k n : ℕ) → k ≡ 0x87 → length_allowed k n ≡ true → n ≡ 6
unfolding length_allowed
six k n e f = eqb-true n 6 (both (leb 2 n && leb n 60) (eqb n 6) (subst (λ (z : ℕ). length_allowed z n ≡ true) e f)).1

sixth : (c : List ℕ) → WholeOption c → at c 0 ≡ 0x87 → length c ≡ 6
sixth c w e = go (kinds c w.fits)
  where
    go : Kinds c → length c ≡ 6
    go (short t z) = absurd (omega (arith, ltb-true (at c 0) 0x80 t))
    go (long t z a r) = w.whole ∙ z ∙ six (at c 0) (at c 1) e a

-- c is an option 0x87 that says n
abbrev Says : ℕ → List ℕ → Type 0
Says n c = (kind_of c ≡ 0x87) × (word c 2 ≡ n)

-- where an option says a number there is an option 0x87
some_met : (n : ℕ) {cs : List (List ℕ)} → Some (Says n) cs → 1 ≤ count 0x87 (map kind_of cs)
unfolding count
some_met n (here {a = c} {l = cs} e) = rw e.0 (omega (arith, met_first 0x87 (map kind_of cs)))
some_met n (there {a = c} {l = cs} r) = go (eqb 0x87 (kind_of c)) (some_met n r)
  where
    go : (b : Bool) → 1 ≤ count 0x87 (map kind_of cs) → 1 ≤ elim b [ true ↦ suc (count 0x87 (map kind_of cs)) | false ↦ count 0x87 (map kind_of cs) ]
    go true h = omega arith
    go false h = h

none_met : (n : ℕ) → Some (Says n) [] → ⊥
unfolding count
none_met n w = omega (arith, some_met n w)

later-less : (x y : ℕ) (l : List ℕ) → count x l ≤ count x (y ∷ l)
unfolding count
later-less x y l = go (eqb x y)
  where
    go : (b : Bool) → count x l ≤ elim b [ true ↦ suc (count x l) | false ↦ count x l ]
    go true = omega arith
    go false = omega arith

-- the option 0x87 that stands first says it, or one behind an option of another kind
by_first : (n : ℕ) (c : List ℕ) (cs : List (List ℕ)) → count 0x87 (map kind_of (c ∷ cs)) ≤ 1 → at c 0 ≡ 0x87 → Some (Says n) (c ∷ cs) → word c 2 ≡ n
by_first n c cs l q (here e) = e.1
by_first n c cs l q (there h) = absurd (omega (arith, rw q at l, some_met n h, met_first 0x87 (map kind_of cs)))

by-later : (n : ℕ) (c : List ℕ) (cs : List (List ℕ)) → (at c 0 ≡ 0x87 → ⊥) → Some (Says n) (c ∷ cs) → Some (Says n) cs
by-later n c cs q (here e) = absurd (q e.0)
by-later n c cs q (there h) = h

-- the number said is that of the one option 0x87
pub said-by : {cs : List (List ℕ)} {s : List ℕ} → Fills WholeOption cs s → count 0x87 (map kind_of cs) ≤ 1 → (n : ℕ) → (count_said s ≡ some n) ↔ Some (Says n) cs
unfolding count_said_from
said-by none l n = (λ e. absurd (none≢some e), λ w. absurd (none_met n w))
said-by (more {c = c} {cs = cs} {s = s} w r) l n = go (eqb (at c 0) 0x87) refl (λ h. said-by r h n)
  where
    go : (b : Bool) → eqb (at c 0) 0x87 ≡ b → (count 0x87 (map kind_of cs) ≤ 1 → (count_said s ≡ some n) ↔ Some (Says n) cs) → (count_said (c ++ s) ≡ some n) ↔ Some (Says n) (c ∷ cs)
    go true e rest =
        let q : at c 0 ≡ 0x87 = eqb-true _ _ e in
        let z : count_said (c ++ s) ≡ some (word c 2) = said_here (c ++ s) ((fronts c s w).1 ∙ q) ∙ ap some (word-append c s 2 (omega (arith, sixth c w q))) in
        (λ h. here (q, some_inj (sym z ∙ h)), λ h. z ∙ ap some (by_first n c cs l q h))
    go false e rest =
        let (f, a) = fronts c s w in
        let z : option_size (c ++ s) ≡ length c = f.size ∙ sym w.whole in
        let y : count_said (c ++ s) ≡ count_said s =
        said-next (c ++ s) (omega (arith, length-append c s, long-enough c w.kind)) (λ q. eqb-false (at c 0) 0x87 e (sym a ∙ q)) (omega (arith, z, long-enough c w.kind))
        ∙ rw (z, drop-append_seam) in
        let r = rest (omega (arith, l, later-less 0x87 (at c 0) (map kind_of cs))) in
        (λ h. there (r.0 (sym y ∙ h)), λ h. y ∙ r.1 (by-later n c cs (eqb-false (at c 0) 0x87 e) h))
