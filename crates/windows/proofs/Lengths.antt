-- Messages by their lengths alone: one, what the loop over them keeps, and those that pass.
use Prim.Native.Nat.{ℕ, zero, suc, ◌+◌, ◌-◌, ◌≤◌, ◌<◌}
use mathlib.Core.Path.{◌≡◌, refl, ap, sym, ◌∙◌}
use mathlib.Core.Bool.{Bool, true, false}
use mathlib.Core.Logic.{◌⊎◌, ⊎_elim}
use mathlib.Core.List.{List, [], ◌∷◌, ◌++◌}
use native.Mathlib.Omega.{arith}
use borrow.Author.Tests.{ltb-true, ltb-false, le-ltb, lt-ltb}
use lib.Dec.{ltb}
use lib.ListN.{length, take, drop, length-append, length-drop}
use lib.Seq.{take_all}
use Rattle.rules.specs.Outcome.{Outcome, good, bad, ◌∷>◌, SHORT, LENGTH, CUT}
use Rattle.rules.specs.Bytes.{word}
use Rattle.rules.specs.Items.{items}
use Rattle.rules.specs.Message.{head, Message, message}
use Rattle.rules.proofs.Outcomes.{pass, halt, step, stop, stepped, fronted, good_inj}
use Rattle.rules.proofs.Passed.{passes}
use Rattle.rules.proofs.Alone.{head-append}
use Rattle.rules.proofs.Loops.{Doing, doing_start, doing_next, doing_end, doing_bad}
use Rattle.windows.specs.Window.{extent, end_by, whole_bytes}
use Rattle.std.specs.Prelude.{Some, None}
use Rattle.windows.specs.Told.{Whole, Extends}

-- ---- one message

module _ (s : List ℕ) where
  pub extends_short : length s < 24 → Extends s None
  unfolding extent
  extends_short l p = (SHORT, halt _ _ _ _ (lt-ltb (length s) 24 l))

  module _ (long : 24 ≤ length s) where
    pub extends_low : word s 12 < 24 → Extends s None
    unfolding extent head
    extends_low l p = (LENGTH, pass _ _ _ _ (le-ltb (length s) 24 long) (halt _ _ _ _ (lt-ltb (word s 12) 24 l)))

    module _ (least : 24 ≤ word s 12) where
      pub extends_cut : length s < word s 12 → Extends s None
      unfolding extent head
      extends_cut l p = (CUT, pass _ _ _ _ (le-ltb (length s) 24 long) (pass _ _ _ _ (le-ltb (word s 12) 24 least) (halt _ _ _ _ (lt-ltb (length s) (word s 12) l))))

      pub extends_whole : word s 12 ≤ length s → Extends s (Some (word s 12))
      unfolding extent head
      extends_whole l = record {
        least = omega arith;
        most = l;
        reads = λ p. pass _ _ _ _ (le-ltb (length s) 24 long) (pass _ _ _ _ (le-ltb (word s 12) 24 least) (pass _ _ _ _ (le-ltb (length s) (word s 12) l) refl));
      }

-- ---- the loop over a window

pub record Lengths (window : List ℕ) (k : ℕ) : Type 0 where
  pub done : List (Unit {0})
  pub doing : Doing extent window done k
  pub inside : k ≤ length window

pub lengths-start : (window : List ℕ) → Lengths window 0
lengths-start window = record { done = []; doing = doing_start extent window; inside = omega arith }

module _ (window : List ℕ) (k : ℕ) (inv : Lengths window k) where
  -- the bytes behind them
  behind : take (length window - k) (drop k window) ≡ drop k window
  behind = take_all (length window - k) (drop k window) (omega (arith, length-drop k window))

  pub lengths-end : Extends (take (length window - k) (drop k window)) None → (k ≡ whole_bytes window) × (k ≤ length window)
  unfolding whole_bytes end_by
  lengths-end e = (go (ltb k (length window)) refl, inv.inside)
    where
      go : (b : Bool) → ltb k (length window) ≡ b → k ≡ whole_bytes window
      go true t = let (n, f) = (rw behind at e) k in sym (ap (end_by (length window)) (doing_bad extent window inv.done k inv.doing (ltb-true _ _ t) f))
      go false t =
          let l = ltb-false k (length window) t in
          omega (arith, inv.inside, ap (end_by (length window)) (doing_end extent window inv.done k inv.doing l))

  module _ (r : ℕ) (e : Whole (take (length window - k) (drop k window)) r) where
    pub lengths-next : Lengths window (k + r)
    lengths-next =
        let w : Whole (drop k window) r = rw behind at e in
        record {
          done = inv.done ++ (tt ∷ []);
          doing = doing_next extent window inv.done k tt r inv.doing (omega (arith, w.least, w.most, length-drop k window)) w.least (w.reads k);
          inside = omega (arith, w.most, length-drop k window);
        }

-- ---- messages that pass

-- the length of one that passes is its own, whatever follows
extent_of : (p : ℕ) (s t : List ℕ) (m : Message) (n : ℕ) → message p s ≡ good (m, n) → (extent p (s ++ t) ≡ good (tt, n)) × (1 ≤ n) × (n ≤ length s)
unfolding message extent
extent_of p s t m n e =
    let (r, q, z) = stepped _ _ e in
    let w = passes p s (head s) r q in
    let size : (head s).size ≡ n = ap (λ (k : Message × ℕ). k.1) (good_inj z) in
    let h = head-append s t w.header.long in
    let same : (head (s ++ t)).size ≡ n = ap (λ (x : _). x.size) h ∙ size in (
      rw same (pass _ _ _ _ (le-ltb (length (s ++ t)) 24 (omega (arith, length-append s t, w.header.long)))
          (pass _ _ _ _ (le-ltb n 24 (omega (arith, size, w.header.least))) (pass _ _ _ _ (le-ltb (length (s ++ t)) n (omega (arith, size, length-append s t, w.header.most))) refl))),
      omega (arith, size, w.header.least),
      omega (arith, size, w.header.most),
    )

-- bytes that are no whole message
cut-here : (p : ℕ) (s : List ℕ) → length s < (head s).size → (b : Bool) → ltb (length s) 24 ≡ b → (n : ℕ) × (extent p s ≡ bad n p)
unfolding head
cut-here p s l true e = extends_short s (ltb-true (length s) 24 e) p
cut-here p s l false e = extends_cut s (ltb-false (length s) 24 e) (omega (arith, l, ltb-false (length s) 24 e)) l p

begun : (p : ℕ) (s : List ℕ) → (length s < 24) ⊎ (length s < (head s).size) → (n : ℕ) × (extent p s ≡ bad n p)
begun p s b = ⊎_elim (λ l. extends_short s l p) (λ l. cut-here p s l (ltb (length s) 24) refl) b

end-front : (size : ℕ) (o : Outcome (List (Unit {0}))) → end_by size (tt ∷> o) ≡ end_by size o
unfolding end_by ◌∷>◌
end-front size (good l) = refl
end-front size (bad n p) = refl

ends : (k p : ℕ) (a b : List ℕ) {ms : List Message} → k ≤ length a → items message k p a ≡ good ms → (length b < 24) ⊎ (length b < (head b).size)
    → end_by (p + length (a ++ b)) (items extent k p (a ++ b)) ≡ p + length a
unfolding items end_by
ends (suc k) p [] b h e c = absurd (omega arith)
ends zero p [] [] h e c = refl
ends zero p [] (y ∷ b) h e c =
    let (n, q) = begun p (y ∷ b) c in
    ap (end_by (p + suc (length b))) (stop _ _ q) ∙ omega arith
ends (suc k) p (x ∷ a) b h e c =
    let z : p + suc (length (a ++ b)) ≡ suc p + length (a ++ b) = omega arith in
    ap (λ (j : ℕ). end_by j (items extent k (suc p) (a ++ b))) z ∙ ends k (suc p) a b (omega arith) e c ∙ omega arith
ends zero p (x ∷ a) b h e c =
    let (r, g, d) = stepped _ _ e in
    let (ms, i, m) = fronted _ _ d in
    let (o, least, most) = extent_of p (x ∷ a) b r.0 r.1 g in
    let z : p + suc (length (a ++ b)) ≡ suc p + length (a ++ b) = omega arith in
    ap (end_by (p + suc (length (a ++ b)))) (step _ _ o refl) ∙ end-front (p + suc (length (a ++ b))) (items extent (r.1 - 1) (suc p) (a ++ b))
    ∙ ap (λ (k : ℕ). end_by k (items extent (r.1 - 1) (suc p) (a ++ b))) z ∙ ends (r.1 - 1) (suc p) a b (omega arith) i c ∙ omega arith

pub whole-bytes : (before behind : List ℕ) (ms : List Message) → items message zero zero before ≡ good ms → (length behind < 24) ⊎ (length behind < (head behind).size) → whole_bytes (before ++ behind) ≡ length before
unfolding whole_bytes
whole-bytes before behind ms e c =
    let z : 0 + length (before ++ behind) ≡ length (before ++ behind) = omega arith in
    ap (λ (k : ℕ). end_by k (items extent 0 0 (before ++ behind))) (sym z) ∙ ends 0 0 before behind (omega arith) e c ∙ omega arith
