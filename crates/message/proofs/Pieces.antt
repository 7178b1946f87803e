-- Packages: the piece that one takes, the one at a place of a run, and the loop over a payload.
use Prim.Native.Nat.{ℕ, ◌+◌, ◌-◌, ◌*◌, ◌≤◌, ◌<◌}
use mathlib.Core.Path.{◌≡◌, refl, sym, ap, subst, ◌∙◌}
use mathlib.Core.Bool.{Bool, true, false}
use mathlib.Core.List.{List, [], ◌∷◌, ◌++◌}
use mathlib.Core.Option.{Option, none, some}
use native.Mathlib.Nat.{add-zero, add_assoc}
use native.Mathlib.Omega.{arith}
use borrow.Author.Tests.{lt-ltb, le-ltb, le-leb, lt-leb, ltb-false, leb-false, not-false}
use lib.Dec.{leb}
use lib.ListN.{length, take, drop, length-drop, length-append}
use lib.Seq.{get_or-take}
use Rattle.rules.specs.Outcome.{Outcome, good, bad, LARGE, PACKAGE}
use Rattle.rules.specs.Bytes.{at, half, word, pad}
use Rattle.rules.specs.Packages.{package_fits, piece}
use Rattle.rules.proofs.Outcomes.{pass, halt, step, stop, passed, stepped, good_inj, some_inj}
use Rattle.rules.proofs.Numbers.{half-take}
use Rattle.rules.proofs.Cut.{fit}
use Rattle.rules.proofs.Loops.{rest, Passing, passing-start, passing-next, passing-end, passing-bad}
use Rattle.message.specs.Answers.{piece_here, cut_count}
use Rattle.rules.specs.Walk.{PackageSpot, package_spot, package_at}
use Rattle.std.specs.Prelude.{Some, None}

-- ---- the piece at the start of s

pub record Taking (s : List ℕ) (n : ℕ) : Type 0 where
  pub fits : package_fits s ≡ true
  pub size : n ≡ pad (half s 4)
  pub least : 12 ≤ half s 4
  pub most : n ≤ length s
  pub more : 12 ≤ n

taking : (s : List ℕ) → package_fits s ≡ true → Taking s (pad (half s 4))
taking s e =
    let f = fit s e in
    record { fits = e; size = refl; least = f.least; most = f.room; more = omega (arith, f.least) }

pub takes : (s : List ℕ) (n : ℕ) → piece_here s ≡ Some n → Taking s n
unfolding piece_here
takes s n e = go (package_fits s) refl
  where
    go : (b : Bool) → package_fits s ≡ b → Taking s n
    go true t =
        let f : Some (pad (half s 4)) ≡ Some n = rw (t, piece_here) at e in
        let z : pad (half s 4) ≡ n = cc in
        rw (← z) (taking s t)
    go false t =
        let f : None ≡ Some n = rw (t, piece_here) at e in
        let z : ◌≡◌ {A = ℕ} 0 1 = cc in absurd (omega arith)

pub broken : (s : List ℕ) → piece_here s ≡ None → package_fits s ≡ false
unfolding piece_here
broken s e = go (package_fits s) refl
  where
    go : (b : Bool) → package_fits s ≡ b → package_fits s ≡ false
    go true t =
        let f : Some (pad (half s 4)) ≡ None = rw (t, piece_here) at e in
        let z : ◌≡◌ {A = ℕ} 0 1 = cc in absurd (omega arith)
    go false t = t

pub piece-good : (p : ℕ) (s : List ℕ) (n : ℕ) → Taking s n → piece p s ≡ good (take n s, n)
unfolding piece
piece-good p s n t = pass _ _ _ _ (rw t.fits) (rw t.size)

pub piece-bad : (p : ℕ) (s : List ℕ) → package_fits s ≡ false → piece p s ≡ bad PACKAGE p
unfolding piece
piece-bad p s e = halt _ _ _ _ (rw e)

-- ---- the loop over a payload

pub record Counting (p : ℕ) (s : List ℕ) (i n : ℕ) : Type 0 where
  pub done : List (List ℕ)
  pub many : length done ≡ n
  pub few : 12 * n ≤ i
  pub inside : i ≤ length s
  pub doing : Passing piece p s done i (p + i)

pub start : (p : ℕ) (s : List ℕ) → Counting p s 0 0
start p s = record { done = []; many = refl; few = omega arith; inside = omega arith; doing = rw add-zero (passing-start piece p s) }

pub record Onward (p : ℕ) (s : List ℕ) (i n k : ℕ) : Type 0 where
  pub least : 1 ≤ k
  pub counting : Counting p s (i + k) (n + 1)

module _ (p : ℕ) (s : List ℕ) (i n : ℕ) (c : Counting p s i n) where
  pub next : (k : ℕ) → i < length s → Some k ≡ piece_here (drop i s) → Onward p s i n k
  next k l e =
      let t : Taking (drop i s) k = takes (drop i s) k (sym e) in
      record {
        least = omega (arith, t.more);
        counting = record {
          done = c.done ++ (take k (drop i s) ∷ []);
          many = omega (arith, length-append c.done (take k (drop i s) ∷ []), c.many);
          few = omega (arith, t.more, c.few);
          inside = omega (arith, t.most, length-drop i s);
          doing = rw (← add_assoc) (passing-next piece p s c.done i (p + i) (take k (drop i s)) k c.doing l (omega (arith, t.more)) (piece-good (p + i) (drop i s) k t));
        };
      }

  pub stopped : i < length s → None ≡ piece_here (drop i s) → bad PACKAGE (p + i) ≡ cut_count p s
  unfolding cut_count
  stopped l e = sym (stop _ _ (passing-bad piece p s c.done i (p + i) c.doing l (piece-bad (p + i) (drop i s) (broken (drop i s) (sym e)))))

  pub ended : length s ≤ i → good n ≡ cut_count p s
  unfolding cut_count
  ended l = sym (step _ _ (passing-end piece p s c.done i (p + i) c.doing l) (ap good c.many))

-- ---- the package at a place

word-take : (n : ℕ) (s : List ℕ) (k : ℕ) → k + 3 < n → word (take n s) k ≡ word s k
unfolding word
word-take n s k h = rw (get_or-take n s k 0 (omega arith), get_or-take n s (k + 1) 0 (omega arith), get_or-take n s (k + 2) 0 (omega arith), get_or-take n s (k + 3) 0 h)

module _ (s : List ℕ) (p : ℕ) where
  pub large : 65536 < length s → bad LARGE 65536 ≡ package_at s p
  unfolding package_at
  large a = sym (halt _ _ _ _ (lt-ltb 65536 (length s) a))

  module _ (a : length s ≤ 65536) where
    pub over : length s ≤ p → good none ≡ package_at s p
    unfolding package_at
    over b = sym (pass _ _ _ _ (le-ltb 65536 (length s) a) (rw (le-leb (length s) p b)))

    module _ (b : p < length s) where
      pub not_there : None ≡ piece_here (take (length s - p) (drop p s)) → bad PACKAGE p ≡ package_at s p
      unfolding package_at
      not_there e = sym (pass _ _ _ _ (le-ltb 65536 (length s) a) (rw (lt-leb (length s) p b) (stop _ _ (piece-bad p (drop p s) (broken (drop p s) (sym (rw rest at e)))))))

      -- c is what `&s[p..]` has
      module _ (c : List ℕ) (ec : c ≡ take (length s - p) (drop p s)) (n : ℕ) (e : Some n ≡ piece_here c) where
        there-is : Taking (drop p s) n
        there-is = takes (drop p s) n (rw (← rest s p, ← ec) (sym e))

        pub room : (p + n ≤ length s) × (12 ≤ n)
        room = let t = there-is in (omega (arith, t.most, length-drop p s), t.more)

        pub there : (i l t d z : ℕ) → i ≡ word c 0 → l ≡ half c 4 → t ≡ at c 7 → d ≡ word c 8 → z ≡ l
            → good (some (record { id = i; size = l; status = t; delta = d; from = p + 12; to = p + z; next = p + n })) ≡ package_at s p
        unfolding package_at package_spot
        there i l t d z ei el et ed ez =
            let g = there-is in
            let q : c ≡ drop p s = ec ∙ rest s p in
            let more : 12 ≤ n = g.more in
            let fi : i ≡ word (take n (drop p s)) 0 = rw (word-take n (drop p s) 0 (omega arith), ← q) ei in
            let fl : l ≡ half (take n (drop p s)) 4 = rw (half-take n (drop p s) 4 (omega arith), ← q) el in
            let ft : t ≡ at (take n (drop p s)) 7 = rw (get_or-take n (drop p s) 7 0 (omega arith), ← q) et in
            let fd : d ≡ word (take n (drop p s)) 8 = rw (word-take n (drop p s) 8 (omega arith), ← q) ed in
            sym (pass _ _ _ _ (le-ltb 65536 (length s) a) (rw (lt-leb (length s) p b) (step _ _ (piece-good p (drop p s) n g) (rw (← fi, ← fl, ← ft, ← fd, ez)))))

-- ---- and backwards: what a step that shows a package says

pub piece_taking : (p : ℕ) (s c : List ℕ) (n : ℕ) → piece p s ≡ good (c, n) → Taking s n × (c ≡ take n s)
unfolding piece
piece_taking p s c n e =
    let (a, b) = passed _ _ _ _ e in
    let q : ◌≡◌ {A = List ℕ × ℕ} (take (pad (half s 4)) s, pad (half s 4)) (c, n) = good_inj b in
    let m : pad (half s 4) ≡ n = ap (λ (r : List ℕ × ℕ). r.1) q in
    let l : take (pad (half s 4)) s ≡ c = ap (λ (r : List ℕ × ℕ). r.0) q in
    (rw m at (taking s (not-false _ a)), sym (rw m at l))

pub record Shown (s : List ℕ) (i : ℕ) (d : PackageSpot) : Type 0 where
  pub small : length s ≤ 65536
  pub place : i < length s
  pub size : ℕ
  pub taking : Taking (drop i s) size
  pub reads : piece i (drop i s) ≡ good (take size (drop i s), size)
  pub spot : package_spot i (take size (drop i s)) size ≡ d

pub shown : (s : List ℕ) (i : ℕ) (d : PackageSpot) → package_at s i ≡ good (some d) → Shown s i d
unfolding package_at
shown s i d e = go (leb (length s) i) refl
  where
    go : (b : Bool) → leb (length s) i ≡ b → Shown s i d
    go true t =
        let (a, f) = passed _ _ _ _ e in
        let g : ◌≡◌ {A = Outcome (Option PackageSpot)} (good none) (good (some d)) = rw t at f in
        let z : ◌≡◌ {A = ℕ} 0 1 = cc in absurd (omega arith)
    go false t =
        let (a, f) = passed _ _ _ _ e in
        let (r, g, h) = stepped _ _ (rw t at f) in
        let (k, w) = piece_taking i (drop i s) r.0 r.1 g in
        let q : package_spot i r.0 r.1 ≡ d = some_inj (good_inj h) in
        record { small = ltb-false _ _ a; place = leb-false _ _ t; size = r.1; taking = k; reads = piece-good i (drop i s) r.1 k; spot = rw (← w) q }

-- the places that it tells lie in the run, in this order
pub record Inside (s : List ℕ) (i : ℕ) (d : PackageSpot) : Type 0 where
  pub from : d.from ≡ i + 12
  pub to : d.to ≡ i + d.size
  pub least : 12 ≤ d.size
  pub next : d.next ≡ i + pad d.size
  pub most : d.next ≤ length s

inside-spot : (s : List ℕ) (i n : ℕ) → Taking (drop i s) n → Inside s i (package_spot i (take n (drop i s)) n)
unfolding package_spot
inside-spot s i n t =
    let h : half (take n (drop i s)) 4 ≡ half (drop i s) 4 = half-take n (drop i s) 4 (omega (arith, t.more)) in
    let e : n ≡ pad (half (take n (drop i s)) 4) = rw h t.size in
    record { from = refl; to = refl; least = rw h t.least; next = ap (λ (k : ℕ). i + k) e; most = omega (arith, t.most, t.more, length-drop i s) }

pub inside : (s : List ℕ) (i : ℕ) (d : PackageSpot) → package_at s i ≡ good (some d) → Inside s i d
inside s i d e =
    let w = shown s i d e in
    subst (λ (x : PackageSpot). Inside s i x) w.spot (inside-spot s i w.size w.taking)
