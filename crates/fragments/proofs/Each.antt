-- Each fragment of a cut, by its place among them.
use Prim.Native.Nat.{ℕ, ◌+◌, ◌%◌, ◌<◌}
use mathlib.Core.Path.{◌≡◌, refl, sym, ap, subst, ◌∙◌}
use mathlib.Core.Bool.{Bool, true, false}
use mathlib.Core.List.{List, [], ◌∷◌, ◌++◌, append-nil}
use native.Mathlib.Omega.{arith}
use borrow.Author.Tests.{leb-true}
use lib.Dec.{leb}
use lib.ListN.{length, length-append}
use Rattle.rules.specs.Outcome.{good}
use Rattle.rules.specs.Message.{Message}
use Rattle.rules.proofs.Outcomes.{passed, stepped, came_after, good_inj}
use Rattle.fragments.specs.Fragment.{FIRST, Fragment, offset_option, payloads_of, next_number}
use Rattle.fragments.specs.Cutting.{whole_of, fragment_with, middle_or_last, later_fragments, fragments_with, payload_parts, fragments_of, cut_whole, cut_into}
use Rattle.fragments.specs.Claims.{bits_behind, Each, CutEach}

cons_inj : {A : Type 0} {x y : A} {xs ys : List A} → x ∷ xs ≡ y ∷ ys → (x ≡ y) × (xs ≡ ys)
cons_inj e = (cc, cc)

-- a later fragment with these bits, number, offset and payload
abbrev later_one : Fragment → ℕ → ℕ → ℕ → List ℕ → Fragment
later_one w b n o p = fragment_with w b n (offset_option o) p

later_same : (w : Fragment) {b b' n n' o o' : ℕ} {p p' : List ℕ} → b ≡ b' → n ≡ n' → o ≡ o' → p ≡ p' → later_one w b n o p ≡ later_one w b' n' o' p'
later_same w {b} {b'} {n} {n'} {o} {o'} {p} {p'} eb en eo ep =
    ap (λ (x : ℕ). later_one w x n o p) eb ∙ ap (λ (x : ℕ). later_one w b' x o p) en ∙ ap (λ (x : ℕ). later_one w b' n' x p) eo ∙ ap (λ (x : List ℕ). later_one w b' n' o' x) ep

later-bits : (w : Fragment) (o q : ℕ) (cs : List (List ℕ)) {after : List Fragment} → later_fragments w o q cs ≡ after → middle_or_last cs ≡ bits_behind after
unfolding later_fragments
later-bits w o q [] e = ap (λ (l : List Fragment). bits_behind l) e
later-bits w o q (c ∷ cs) e = ap (λ (l : List Fragment). bits_behind l) e

later-each : (w : Fragment) (o q : ℕ) (cs : List (List ℕ)) (before after : List Fragment) (f : Fragment) → q < 4294967296 → later_fragments w o q cs ≡ before ++ (f ∷ after)
    → f ≡ later_one w (bits_behind after) ((q + length before) % 4294967296) (o + length (payloads_of before)) f.payload
unfolding later_fragments
later-each w o q [] before after f l e = absurd (omega (arith, ap length e, length-append before (f ∷ after)))
later-each w o q (c ∷ cs) [] after f l e =
    let (h, t) = cons_inj e in
    sym h ∙ later_same w (later-bits w (o + length c) (next_number q) cs t) (omega arith) (omega arith) (ap (λ (g : Fragment). g.payload) h)
later-each w o q (c ∷ cs) (d ∷ before) after f l e =
    let (h, t) = cons_inj e in
    let p : length c ≡ length d.payload = ap (λ (g : Fragment). length g.payload) h in
    later-each w (o + length c) (next_number q) cs before after f (omega arith) t
    ∙ later_same w refl (omega arith) (omega (arith, length-append d.payload (payloads_of before), p)) refl

with-parts : (m : Message) (cs : List (List ℕ)) → Each m (fragments_with (whole_of m) cs)
unfolding fragments_with whole_of
with-parts m [] = record { first = λ f after e. absurd (omega (arith, ap length e)); later = λ d f before after e. absurd (omega (arith, ap length e)) }
with-parts m (c ∷ cs) = record {
  first = λ f after e.
      let (h, t) = cons_inj e in
      sym h ∙ ap (λ (x : List ℕ). fragment_with (whole_of m) FIRST m.sequence (m.options ++ offset_option 0) x) (ap (λ (g : Fragment). g.payload) h);
  later = λ d f before after e.
      let (h, t) = cons_inj e in
      let p : length c ≡ length d.payload = ap (λ (g : Fragment). length g.payload) h in
      later-each (whole_of m) (length c) (next_number m.sequence) cs before after f (omega arith) t
      ∙ later_same (whole_of m) refl (omega arith) (omega (arith, length-append d.payload (payloads_of before), p)) refl;
}

each_of : (size : ℕ) (fs : List Fragment) (m : Message) → cut_whole size (whole_of m) ≡ good fs → size < length (payloads_of fs) → Each m fs
unfolding cut_whole fragments_of
each_of size fs m e l = go (leb (length (whole_of m).payload) size) refl
  where
    go : (b : Bool) → leb (length (whole_of m).payload) size ≡ b → Each m fs
    go true t =
        let z : whole_of m ∷ [] ≡ fs = good_inj (rw (t, cut_whole) at e) in
        let k : length (payloads_of fs) ≡ length (whole_of m).payload = rw (← z, append-nil) in
        absurd (omega (arith, leb-true (length (whole_of m).payload) size t, k))
    go false t =
        let (r, q) = passed _ _ _ _ (rw (t, cut_whole) at e) in
        subst (Each m) (good_inj q) (with-parts m (payload_parts size (whole_of m).payload))

pub cut-each : CutEach
unfolding cut_into
cut-each size s fs m n e z l =
    let (a, e) = passed _ _ _ _ e in
    let (r, q, e) = stepped _ _ e in
    let (c, e) = passed _ _ _ _ e in
    let (d, e) = came_after _ _ e in
    each_of size fs m (subst (λ (k : Message × ℕ). cut_whole size (whole_of k.0) ≡ good fs) (good_inj (sym q ∙ z)) e) l
