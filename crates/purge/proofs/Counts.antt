-- Package counts set in an option run: the run stays one of whole options, as long as it was, and says the number that is set; one that says it already stays as it is.
use Prim.Native.Nat.{ℕ, zero, suc, ◌+◌, ◌-◌, ◌≤◌, ◌<◌}
use mathlib.Core.Path.{◌≡◌, refl, ap, sym, subst, ◌∙◌}
use mathlib.Core.Logic.{◌⊎◌, inl, inr, ⊎_elim}
use mathlib.Core.Bool.{Bool, true, false, ◌&&◌}
use mathlib.Core.List.{List, [], ◌∷◌, ◌++◌, append-nil, append_assoc}
use mathlib.Core.Option as options
use native.Mathlib.Nat.{add-zero}
use native.Mathlib.Omega.{arith}
use borrow.Author.Tests.{eqb-true, eqb-false, lt-ltb, le-ltb, eq-eqb, ne_eqb}
use lib.Dec.{leb, ltb, eqb}
use lib.ListN.{length, take, drop, take-append-drop, length-append, length-drop, drop_of_length-le}
use lib.Seq.{length-take-le, drop-append_seam, drop-nil, get_or-take, take_all, take-add, drop-drop, get_or-drop, sets, length-sets}
use Rattle.rules.specs.Outcome.{good}
use Rattle.rules.specs.Bytes.{Bytes, at, word, put32}
use Rattle.rules.specs.Items.{count}
use Rattle.rules.specs.Options.{length_allowed, option_size, option_fits, is_second, option_run_from, count_said_from, count_said}
use Rattle.rules.proofs.Outcomes.{both}
use Rattle.rules.proofs.Numbers.{bytes-nil, bytes-cons, bytes-head, bytes-tail, bytes-put32, bytes_take, bytes_drop, word-put32, put32-word}
use Rattle.rules.proofs.Outcomes.{none≢some}
use Rattle.rules.proofs.Counts.{said_here, said-next}
use Rattle.rules.proofs.Run.{run_go, Going, run_inv, Bounds, bounds, Same, same}
use Rattle.purge.specs.Purge.{package_count, behind_kind, count_set}
use Rattle.rules.proofs.Loops.{running, drop-sets, drop_pred}
use Rattle.purge.specs.Parts.{count_at}
use Rattle.purge.proofs.Stores.{take_more}
use Rattle.purge.specs.Claims.{CountsSet, none, counted, other}

-- a run stays as long as it is
pub length-set : (n : ℕ) (left o : List ℕ) → length (count_set n left o) ≡ length o
unfolding count_set
length-set n left [] = refl
length-set n [] (x ∷ o) = ap suc (length-set n (behind_kind n (x ∷ o)) o)
length-set n (y ∷ left) (x ∷ o) = ap suc (length-set n left o)

-- and a run of bytes
bytes-behind : (n : ℕ) (o : List ℕ) → Bytes o → Bytes (behind_kind n o)
unfolding behind_kind
bytes-behind n o b = go (eqb (at o 0) package_count)
  where
    go : (t : Bool) → Bytes (elim t [ true ↦ at o 1 ∷ put32 n [] | false ↦ take (option_size o - 1) (drop 1 o) ])
    go true = bytes-cons (b.below 1) (bytes-put32 n bytes-nil)
    go false = bytes_take (option_size o - 1) (drop 1 o) (bytes_drop 1 o b)

pub bytes-set : (n : ℕ) (left o : List ℕ) → Bytes left → Bytes o → Bytes (count_set n left o)
unfolding count_set
bytes-set n left [] a b = bytes-nil
bytes-set n [] (x ∷ o) a b = bytes-cons (bytes-head b) (bytes-set n (behind_kind n (x ∷ o)) o (bytes-behind n (x ∷ o) b) (bytes-tail b))
bytes-set n (y ∷ left) (x ∷ o) a b = bytes-cons (bytes-head a) (bytes-set n left o (bytes-tail a) (bytes-tail b))

-- a package count has six bytes
six : (o : List ℕ) → option_fits (package_count ∷ o) ≡ true → at o 0 ≡ 6
unfolding option_fits length_allowed
six o f =
    let (a, r) = both (length_allowed package_count (at o 0)) (leb (at o 0) (suc (length o))) f in
    eqb-true _ _ (both (leb 2 (at o 0) && leb (at o 0) 60) (eqb (at o 0) 6) a).1

-- what is to stand behind the kind of an option that keeps the rules
pub record Behind (n x : ℕ) (o : List ℕ) : Type 0 where
  pub size : length (behind_kind n (x ∷ o)) ≡ option_size (x ∷ o) - 1
  pub first : 2 ≤ option_size (x ∷ o) → (b : List ℕ) × (behind_kind n (x ∷ o) ≡ at o 0 ∷ b)

behind-count : (n : ℕ) (o : List ℕ) → option_fits (package_count ∷ o) ≡ true → Behind n package_count o
unfolding behind_kind option_size
behind-count n o f = record { size = omega (arith, six o f); first = λ h. (put32 n [], refl) }

first_taken : (k : ℕ) (o : List ℕ) → 1 ≤ k → 1 ≤ length o → (b : List ℕ) × (take k o ≡ at o 0 ∷ b)
first_taken zero o h l = absurd (omega arith)
first_taken (suc k) [] h l = absurd (omega arith)
first_taken (suc k) (x ∷ o) h l = (take k o, refl)

-- in an option of another kind its own bytes stand
pub other-behind : (n x : ℕ) (o : List ℕ) → eqb x package_count ≡ false → behind_kind n (x ∷ o) ≡ take (option_size (x ∷ o) - 1) o
unfolding behind_kind
other-behind n x o t = rw (t, behind_kind)

pub behind : (n x : ℕ) (o : List ℕ) → option_fits (x ∷ o) ≡ true → Behind n x o
behind n x o f = go (eqb x package_count) refl
  where
    go : (t : Bool) → eqb x package_count ≡ t → Behind n x o
    go true t =
        let e : x ≡ package_count = eqb-true _ _ t in
        subst (λ (y : ℕ). Behind n y o) (sym e) (behind-count n o (rw e at f))
    go false t =
        let b = bounds (x ∷ o) (omega arith) f in
        let e = other-behind n x o t in
        record {
          size = rw e (length-take-le (option_size (x ∷ o) - 1) o (omega (arith, b.most)));
          first = λ h. rw e (first_taken (option_size (x ∷ o) - 1) o (omega arith) (omega (arith, b.most)));
        }

-- the bytes behind an option's kind, once its counts are set: the length byte is what it was
first-set : (n : ℕ) (y : ℕ) (b o : List ℕ) → 1 ≤ length o → at (count_set n (y ∷ b) o) 0 ≡ y
unfolding count_set
first-set n y b [] l = absurd (omega arith)
first-set n y b (x ∷ o) l = refl

module _ (n x : ℕ) (o : List ℕ) (f : option_fits (x ∷ o) ≡ true) where
  abbrev set : List ℕ
  set = count_set n (behind_kind n (x ∷ o)) o

  pub length-byte : 2 ≤ option_size (x ∷ o) → at set 0 ≡ at o 0
  length-byte h =
      let (b, e) = (behind n x o f).first h in
      let w = bounds (x ∷ o) (omega arith) f in
      rw e (first-set n (at o 0) b o (omega (arith, w.most)))

  pub same_option : Same (x ∷ o) (x ∷ set)
  same_option =
      let w = bounds (x ∷ o) (omega arith) f in
      same (x ∷ o) (x ∷ set) f refl length-byte (omega (arith, w.most, length-set n (behind_kind n (x ∷ o)) o))

-- a run of whole options stays one
pub run-set : (n : ℕ) (seen : List ℕ) (k p q m : ℕ) (left o : List ℕ) {e : ℕ} → length left ≡ k → k ≤ length o → m + length o ≡ e → option_run_from seen k p m o ≡ good e → option_run_from seen k q m (count_set n left o) ≡ good e
unfolding option_run_from count_set
run-set n seen zero p q m left [] h l a r = r
run-set n seen (suc k) p q m left [] h l a r = absurd (omega arith)
run-set n seen (suc k) p q m [] (x ∷ o) h l a r = absurd (omega arith)
run-set n seen (suc k) p q m (y ∷ left) (x ∷ o) h l a r = run-set n seen k p q (suc m) left o (omega arith) (omega arith) (omega arith) r
run-set n seen zero p q m (y ∷ left) (x ∷ o) h l a r = absurd (omega arith)
run-set n seen zero p q m [] (x ∷ o) {e} h l a r =
    ⊎_elim (λ z. absurd (omega arith))
    (λ g. let w = bounds (x ∷ o) (omega arith) g.fits in
    let b = behind n x o g.fits in
    let s = same_option n x o g.fits in
    run_go seen q m x _ g.kind s.fits g.once
    (rw s.size (run-set n (x ∷ seen) (option_size (x ∷ o) - 1) p q (suc m) (behind_kind n (x ∷ o)) o b.size (omega (arith, w.most)) (omega arith) g.next)))
    (run_inv seen p m x o r)

count-size : (o : List ℕ) → option_fits (package_count ∷ o) ≡ true → option_size (package_count ∷ o) ≡ 6
unfolding option_size
count-size o f = six o f

-- a count that says n stays as it is when n is set: no second one can follow it
second-count : (seen : List ℕ) → 1 ≤ count package_count seen → is_second package_count seen ≡ true
unfolding is_second
second-count seen a = lt-ltb 0 (count package_count seen) a

kind-counted : (x : ℕ) (seen : List ℕ) → eqb package_count x ≡ true → 1 ≤ count package_count (x ∷ seen)
unfolding count
kind-counted x seen e = rw (e, count) (omega arith)

still_counted : (x : ℕ) (seen : List ℕ) → 1 ≤ count package_count seen → 1 ≤ count package_count (x ∷ seen)
unfolding count
still_counted x seen a = go (eqb package_count x)
  where
    go : (b : Bool) → 1 ≤ elim b [ true ↦ suc (count package_count seen) | false ↦ count package_count seen ]
    go true = omega arith
    go false = a

-- a package count is behind, or the one that is said is n
abbrev Agrees : ℕ → List ℕ → ℕ → List ℕ → Type 0
Agrees n seen k o = (1 ≤ count package_count seen) ⊎ ((c : ℕ) → count_said_from k o ≡ options.some c → c ≡ n)

record Right (n : ℕ) (seen : List ℕ) (x : ℕ) (o : List ℕ) : Type 0 where
  bytes : behind_kind n (x ∷ o) ≡ take (option_size (x ∷ o) - 1) o
  next : Agrees n (x ∷ seen) (option_size (x ∷ o) - 1) o

right-bytes : (n : ℕ) (o : List ℕ) → Bytes o → option_fits (package_count ∷ o) ≡ true → word (package_count ∷ o) 2 ≡ n → behind_kind n (package_count ∷ o) ≡ take (option_size (package_count ∷ o) - 1) o
unfolding behind_kind word
right-bytes n o b f e = rw (count-size o f) (go o b (let l = bounds (package_count ∷ o) (omega arith) f in omega (arith, l.most, count-size o f)) e)
  where
    go : (o : List ℕ) → Bytes o → 5 ≤ length o → word (package_count ∷ o) 2 ≡ n → behind_kind n (package_count ∷ o) ≡ take 5 o
    go [] b l e = absurd (omega arith)
    go (y ∷ o) b l e = ap (λ (s : List ℕ). y ∷ s) (rw (← e) (put32-word o [] (bytes-tail b) (omega arith) ∙ append-nil (take 4 o)))

right-one : (n : ℕ) (seen : List ℕ) (x : ℕ) (o : List ℕ) → Bytes o → option_fits (x ∷ o) ≡ true → is_second x seen ≡ false → Agrees n seen 0 (x ∷ o) → Right n seen x o
unfolding count_said_from
right-one n seen x o b f once q = go (eqb x package_count) refl
  where
    go : (t : Bool) → eqb x package_count ≡ t → Right n seen x o
    go true t =
        let e : x ≡ package_count = eqb-true _ _ t in
        let said : word (x ∷ o) 2 ≡ n = ⊎_elim (λ a. absurd (let z : ◌≡◌ {A = Bool} true false = sym (second-count seen a) ∙ (rw e at once) in let y : ◌≡◌ {A = ℕ} 0 1 = cc in omega arith)) (λ h. h (word (x ∷ o) 2) (said_here (x ∷ o) e)) q in
        record {
          bytes = subst (λ (y : ℕ). behind_kind n (y ∷ o) ≡ take (option_size (y ∷ o) - 1) o) (sym e) (right-bytes n o b (rw e at f) (rw e at said));
          next = inl (kind-counted x seen (eq-eqb package_count x (sym e)));
        }
    go false t = record {
      bytes = other-behind n x o t;
      next = ⊎_elim (λ a. inl (still_counted x seen a)) (λ h. inr (λ c e. h c (rw (t, count_said_from) e))) q;
    }

pub right-set : (n : ℕ) (seen : List ℕ) (k p m : ℕ) (o : List ℕ) {e : ℕ} → Bytes o → k ≤ length o → m + length o ≡ e → option_run_from seen k p m o ≡ good e → Agrees n seen k o → count_set n (take k o) o ≡ o
unfolding option_run_from count_set count_said_from
right-set n seen zero p m [] b h l r q = refl
right-set n seen (suc k) p m [] b h l r q = absurd (omega arith)
right-set n seen (suc k) p m (x ∷ o) {e} b h l r q = ap (λ (s : List ℕ). x ∷ s) (right-set n seen k p (suc m) o {e = e} (bytes-tail b) (omega arith) (omega arith) r q)
right-set n seen zero p m (x ∷ o) {e} b h l r q =
    ⊎_elim (λ z. absurd (omega arith))
    (λ (g : Going seen p m x o e). let w = bounds (x ∷ o) (omega arith) g.fits in
    let a = right-one n seen x o (bytes-tail b) g.fits g.once q in
    rw a.bytes (ap (λ (s : List ℕ). x ∷ s) (right-set n (x ∷ seen) (option_size (x ∷ o) - 1) p (suc m) o {e = e} (bytes-tail b) (omega (arith, w.most)) (omega arith) g.next a.next)))
    (run_inv seen p m x o r)

-- of the options in turn each is kept, or its number is set
kept-front : (n : ℕ) (left o : List ℕ) → length left ≤ length o → count_set n left o ≡ left ++ count_set n [] (drop (length left) o)
unfolding count_set
kept-front n [] o h = refl
kept-front n (y ∷ left) [] h = absurd (omega arith)
kept-front n (y ∷ left) (x ∷ o) h = ap (λ (l : List ℕ). y ∷ l) (kept-front n left o (omega arith))

-- the option at the start of a run, its number set or kept as it is, in front of the options behind it
six-set : (n a b c d : ℕ) (o : List ℕ) → CountsSet n o (count_set n [] o) → CountsSet n (package_count ∷ 6 ∷ a ∷ b ∷ c ∷ d ∷ o) (count_set n [] (package_count ∷ 6 ∷ a ∷ b ∷ c ∷ d ∷ o))
unfolding count_set behind_kind
six-set n a b c d o w = counted w

count_set_lem : (n : ℕ) (o : List ℕ) → option_fits (package_count ∷ o) ≡ true → CountsSet n (drop 5 o) (count_set n [] (drop 5 o)) → CountsSet n (package_count ∷ o) (count_set n [] (package_count ∷ o))
count_set_lem n o f w = go o (six o f) (let l = bounds (package_count ∷ o) (omega arith) f in omega (arith, l.most, count-size o f)) w
  where
    go : (o : List ℕ) → at o 0 ≡ 6 → 5 ≤ length o → CountsSet n (drop 5 o) (count_set n [] (drop 5 o)) → CountsSet n (package_count ∷ o) (count_set n [] (package_count ∷ o))
    go [] e l v = absurd (omega arith)
    go (y ∷ []) e l v = absurd (omega arith)
    go (y ∷ a ∷ []) e l v = absurd (omega arith)
    go (y ∷ a ∷ b ∷ []) e l v = absurd (omega arith)
    go (y ∷ a ∷ b ∷ c ∷ []) e l v = absurd (omega arith)
    go (y ∷ a ∷ b ∷ c ∷ d ∷ o) e l v = rw e (six-set n a b c d o v)

other-set : (n x : ℕ) (o : List ℕ) → option_fits (x ∷ o) ≡ true → eqb x package_count ≡ false
    → CountsSet n (drop (option_size (x ∷ o) - 1) o) (count_set n [] (drop (option_size (x ∷ o) - 1) o)) → CountsSet n (x ∷ o) (count_set n [] (x ∷ o))
unfolding count_set
other-set n x o f t w =
    let k = option_size (x ∷ o) - 1 in
    let b = bounds (x ∷ o) (omega arith) f in
    let l : length (take k o) ≡ k = length-take-le k o (omega (arith, b.most)) in
    let s = same (x ∷ o) (x ∷ take k o) f refl (λ h. get_or-take k o 0 0 (omega arith)) (omega (arith, l, b.least)) in
    let z : option_size (x ∷ take k o) ≡ length (x ∷ take k o) = s.size ∙ (omega (arith, l, b.least)) in
    let v = other (x ∷ take k o) (eqb-false x package_count t) z w in
    let front : x ∷ (take k o ++ drop k o) ≡ x ∷ o = rw take-append-drop in
    let set : count_set n (behind_kind n (x ∷ o)) o ≡ take k o ++ count_set n [] (drop k o) = rw (other-behind n x o t) (kept-front n (take k o) o (omega (arith, l, b.most)) ∙ rw l) in
    rw set (subst (λ (u : List ℕ). CountsSet n u (x ∷ (take k o ++ count_set n [] (drop k o)))) front v)

options-one : (n x : ℕ) (o : List ℕ) → option_fits (x ∷ o) ≡ true → CountsSet n (drop (option_size (x ∷ o) - 1) o) (count_set n [] (drop (option_size (x ∷ o) - 1) o)) → CountsSet n (x ∷ o) (count_set n [] (x ∷ o))
options-one n x o f w = go (eqb x package_count) refl
  where
    go : (t : Bool) → eqb x package_count ≡ t → CountsSet n (x ∷ o) (count_set n [] (x ∷ o))
    go true t =
        let e : x ≡ package_count = eqb-true _ _ t in
        subst (λ (y : ℕ). CountsSet n (y ∷ o) (count_set n [] (y ∷ o))) (sym e) (count_set_lem n o (rw e at f) (rw (e, count-size o (rw e at f)) at w))
    go false t = other-set n x o f t w

pub options-set : (n : ℕ) (seen : List ℕ) (k p m : ℕ) (o : List ℕ) {e : ℕ} → m + length o ≡ e → option_run_from seen k p m o ≡ good e → CountsSet n (drop k o) (count_set n [] (drop k o))
unfolding option_run_from count_set
options-set n seen k p m [] l r = rw drop-nil none
options-set n seen (suc k) p m (x ∷ o) l r = options-set n seen k p (suc m) o (omega arith) r
options-set n seen zero p m (x ∷ o) {e} l r =
    ⊎_elim (λ z. absurd (omega arith))
    (λ g. options-one n x o g.fits (options-set n (x ∷ seen) (option_size (x ∷ o) - 1) p (suc m) o (omega arith) g.next))
    (run_inv seen p m x o r)

-- a number that is set is the one that is said
size-front : (c t : List ℕ) → option_size c ≡ length c → (1 ≤ length c) × (option_size (c ++ t) ≡ length c)
unfolding option_size
size-front [] t e = absurd (omega arith)
size-front (x ∷ []) t e = (omega arith, go (ltb x 0x80) e)
  where
    go : (b : Bool) → ◌≡◌ {A = ℕ} (elim b [ true ↦ 1 | false ↦ 0 ]) 1 → ◌≡◌ {A = ℕ} (elim b [ true ↦ 1 | false ↦ at t 0 ]) 1
    go true z = refl
    go false z = absurd (omega arith)
size-front (x ∷ y ∷ c) t e = (omega arith, e)

first-front : (c t : List ℕ) → 1 ≤ length c → at (c ++ t) 0 ≡ at c 0
first-front [] t l = absurd (omega arith)
first-front (x ∷ c) t l = refl

other-said : (c t : List ℕ) → (at c 0 ≡ package_count → ⊥) → option_size c ≡ length c → count_said (c ++ t) ≡ count_said t
other-said c t h e =
    let (l, z) = size-front c t e in
    said-next (c ++ t) (omega (arith, l, length-append c t)) (λ q. h (sym (first-front c t l) ∙ q)) (omega (arith, z, l)) ∙ rw (z, drop-append_seam)

count-said : (n : ℕ) (t : List ℕ) → n < 4294967296 → word (package_count ∷ 6 ∷ put32 n t) 2 ≡ n
unfolding word
count-said n t l = word-put32 n t l

pub said-set : {n : ℕ} {o o' : List ℕ} → n < 4294967296 → CountsSet n o o' → (c : ℕ) → count_said o' ≡ options.some c → c ≡ n
unfolding count_said_from
said-set l none c e = absurd (none≢some e)
said-set {n} l (counted {o' = t} w) c e = let z : word (package_count ∷ 6 ∷ put32 n t) 2 ≡ c = cc in sym z ∙ count-said n t l
said-set l (other a {o' = t} h z w) c e = said-set l w c (sym (other-said a t h z) ∙ e)

take_pred : (k x : ℕ) (o : List ℕ) → 1 ≤ k → x ∷ take (k - 1) o ≡ take k (x ∷ o)
take_pred zero x o h = absurd (omega arith)
take_pred (suc k) x o h = let e : suc k - 1 ≡ k = omega arith in rw e

-- the option at the start of t, its number set
abbrev pub option_set : ℕ → List ℕ → List ℕ
option_set n t = at t 0 ∷ behind_kind n t

pub other-option : (n : ℕ) (t : List ℕ) → 1 ≤ length t → option_fits t ≡ true → eqb (at t 0) package_count ≡ false → option_set n t ≡ take (option_size t) t
other-option n [] l f e = absurd (omega arith)
other-option n (x ∷ o) l f e =
    let w = bounds (x ∷ o) (omega arith) f in
    rw (other-behind n x o e) (take_pred (option_size (x ∷ o)) x o w.least)

count-option : (n : ℕ) (o : List ℕ) → option_fits (package_count ∷ o) ≡ true → option_set n (package_count ∷ o) ≡ take 2 (package_count ∷ o) ++ put32 n []
unfolding behind_kind
count-option n [] f = absurd (omega (arith, six [] f))
count-option n (y ∷ o) f = refl

pub record Count (n : ℕ) (t : List ℕ) : Type 0 where
  pub size : option_size t ≡ 6
  pub bytes : option_set n t ≡ take 2 t ++ put32 n []

pub a-count : (n : ℕ) (t : List ℕ) → 1 ≤ length t → option_fits t ≡ true → eqb (at t 0) package_count ≡ true → Count n t
a-count n [] l f e = absurd (omega arith)
a-count n (x ∷ o) l f e =
    let q : x ≡ package_count = eqb-true _ _ e in
    subst (λ (y : ℕ). Count n (y ∷ o)) (sym q) (record { size = count-size o (rw q at f); bytes = count-option n o (rw q at f) })

-- ---- one option after the other: what the loop keeps

pub set-one : (n : ℕ) (t : List ℕ) → 1 ≤ length t → option_fits t ≡ true → count_set n [] t ≡ option_set n t ++ count_set n [] (drop (option_size t) t)
unfolding count_set
set-one n [] l f = absurd (omega arith)
set-one n (x ∷ o) l f =
    let b = behind n x o f in
    let w = bounds (x ∷ o) (omega arith) f in
    let e : drop (option_size (x ∷ o)) (x ∷ o) ≡ drop (length (behind_kind n (x ∷ o))) o = rw b.size (drop_pred (option_size (x ∷ o)) x o w.least) in
    ap (λ (s : List ℕ). x ∷ s) (kept-front n (behind_kind n (x ∷ o)) o (omega (arith, b.size, w.most)) ∙ rw e)

pub record Setting (n : ℕ) (o₀ o : List ℕ) (i : ℕ) : Type 0 where
  pub inside : i ≤ length o₀
  pub long : length o ≡ length o₀
  pub rest : drop i o ≡ drop i o₀
  pub seen : List ℕ
  pub run : option_run_from seen 0 0 i (drop i o₀) ≡ good (length o₀)
  pub set : take i o ++ count_set n [] (drop i o₀) ≡ count_set n [] o₀

module _ (n : ℕ) (o₀ : List ℕ) where
  pub set-start : option_run_from [] 0 0 0 o₀ ≡ good (length o₀) → Setting n o₀ o₀ 0
  set-start w = record { inside = omega arith; long = refl; rest = refl; seen = []; run = w; set = refl }

  module _ (o : List ℕ) (i : ℕ) (inv : Setting n o₀ o i) where
    pub set_ended : length o ≤ i → o ≡ count_set n [] o₀
    unfolding count_set
    set_ended l =
        let h : length o₀ ≤ i = omega (arith, inv.long) in
        let d : drop i o₀ ≡ [] = drop_of_length-le o₀ h in
        sym (sym inv.set ∙ rw (d, append-nil) (take_all i o l))

    module _ (l : i < length o) where
      abbrev t : List ℕ
      t = drop i o₀

      some : 1 ≤ length t
      some = omega (arith, length-drop i o₀, inv.long)

      -- an option stands there, keeps the rules, and is no second one
      stands : (0 < at t 0) × (option_fits t ≡ true) × (is_second (at t 0) inv.seen ≡ false)
      stands = go t some inv.run (length-drop i o₀)
        where
          go : (u : List ℕ) → 1 ≤ length u → option_run_from inv.seen 0 0 i u ≡ good (length o₀) → length u ≡ length o₀ - i → (0 < at u 0) × (option_fits u ≡ true) × (is_second (at u 0) inv.seen ≡ false)
          go [] a r e = absurd (omega arith)
          go (x ∷ u) a r e = ⊎_elim (λ z. absurd (omega (arith, z.1))) (λ g. (g.kind, g.fits, g.once)) (run_inv inv.seen 0 i x u r)

      abbrev size : ℕ
      size = option_size t

      pub size_bounds : Bounds t
      size_bounds = bounds t some stands.1

      pub size_is : option_size (drop i o) ≡ size
      size_is = ap option_size inv.rest

      kind-is : at o i ≡ at t 0
      kind-is = let e : at (drop i o) 0 ≡ at o i = rw (get_or-drop, add-zero) in sym e ∙ ap (λ (u : List ℕ). at u 0) inv.rest

      -- the option is done in o'
      one-done : (o' : List ℕ) → length o' ≡ length o → take (i + size) o' ≡ take i o ++ option_set n t → drop (i + size) o' ≡ drop (i + size) o₀ → Setting n o₀ o' (i + size)
      one-done o' m a d = record {
        inside = omega (arith, size_bounds.most, length-drop i o₀, inv.inside);
        long = m ∙ inv.long;
        rest = d;
        seen = at o₀ i ∷ inv.seen;
        run = sym (let e : at t 0 ≡ at o₀ i = rw (get_or-drop, add-zero) in running inv.seen 0 i o₀ (rw (← e) stands.0) stands.1 (rw (← e) stands.2)) ∙ inv.run;
        set = rw (a, append_assoc, ← drop-drop size i o₀, ← set-one n t some stands.1) inv.set;
      }

      rest-done : drop (i + size) o ≡ drop (i + size) o₀
      rest-done = rw (← drop-drop size i o, ← drop-drop size i o₀, inv.rest)

      pub set_next : (o' : List ℕ) → o' ≡ count_at o i n → Setting n o₀ o' (i + size)
      set_next o' e = go (eqb (at o i) package_count) refl e
        where
          go : (b : Bool) → eqb (at o i) package_count ≡ b → o' ≡ elim b [ true ↦ sets o (i + 2) (put32 n []) | false ↦ o ] → Setting n o₀ o' (i + size)
          go true h q =
              let c = a-count n t some stands.1 (rw kind-is at h) in
              let z : i + size ≡ i + 2 + 4 = omega (arith, c.size) in
              let room : i + 2 + 4 ≤ length o = omega (arith, c.size, size_bounds.most, length-drop i o₀, inv.long, inv.inside) in
              rw q (one-done (sets o (i + 2) (put32 n [])) (length-sets o (i + 2) (put32 n []))
              (rw (z, c.bytes) (take_more (put32 n []) o (i + 2) room ∙ rw (take-add i 2 o, inv.rest, append_assoc)))
              (drop-sets (put32 n []) o (i + 2) (i + size) (omega (arith, z)) ∙ rest-done))
          go false h q = rw q (one-done o refl (rw (other-option n t some stands.1 (rw kind-is at h), take-add i size o, inv.rest)) rest-done)

-- ---- the option at a place, by its bytes

module _ (o : List ℕ) (i : ℕ) where
  first-at : at (drop i o) 0 ≡ at o i
  first-at = rw (get_or-drop, add-zero)

  pub size-short : {b : ℕ} → b ≡ at o i → b < 0x80 → 1 ≡ option_size (drop i o)
  unfolding option_size
  size-short e l = let t : ltb (at (drop i o) 0) 0x80 ≡ true = lt-ltb (at (drop i o) 0) 0x80 (omega (arith, first-at)) in rw (t, option_size)

  pub size-long : {b c : ℕ} → b ≡ at o i → 0x80 ≤ b → c ≡ at o (i + 1) → c ≡ option_size (drop i o)
  unfolding option_size
  size-long e l q =
      let t : ltb (at (drop i o) 0) 0x80 ≡ false = le-ltb (at (drop i o) 0) 0x80 (omega (arith, first-at)) in
      let s : at (drop i o) 1 ≡ at o (i + 1) = rw get_or-drop in
      rw (t, option_size) (q ∙ sym s)

  pub count-here : (n : ℕ) {b : ℕ} {o' : List ℕ} → b ≡ at o i → b ≡ package_count → o' ≡ sets o (i + 2) (put32 n []) → o' ≡ count_at o i n
  count-here n e h q = rw (eq-eqb (at o i) package_count (sym e ∙ h), count_at) q

  pub count_not : (n : ℕ) {b : ℕ} → b ≡ at o i → (b ≡ package_count → ⊥) → o ≡ count_at o i n
  count_not n e h = rw (ne_eqb (at o i) package_count (λ z. h (e ∙ z)), count_at)
