-- What the loop over the stretches keeps: the bytes between those that are passed are stored.
use Prim.Native.Nat.{ℕ, ◌+◌, ◌-◌, ◌≤◌, ◌<◌}
use mathlib.Core.Path.{◌≡◌, refl, sym, ap, subst, ◌∙◌}
use mathlib.Core.List.{List, [], ◌∷◌, ◌++◌, map, append_assoc}
use native.Mathlib.Nat.{zero-add}
use native.Mathlib.Numerals.{add-one}
use native.Mathlib.Omega.{arith}
use lib.ListN.{length, get_or, drop, length-append, length-drop, length-map, drop_of_length-le, get_or-map}
use lib.Seq.{sets, drop-cons, length-take-le, length-sets, get_or-take}
use Rattle.rules.specs.Bytes.{part}
use Rattle.rules.proofs.Loops.{sets-sets, rest}
use Rattle.salvage.specs.Salvage as rule
use Rattle.salvage.specs.Claims.{without}
use Rattle.salvage.specs.Told.{stretch_in, no_stretch, reported, Fit, last, more}
use Rattle.salvage.specs.declared.Stretch.{Stretch}

pub fit-inside : {p e : ℕ} {hs : List rule.Stretch} → Fit p e hs → p ≤ e
fit-inside (last l) = l
fit-inside (more {h = h} a r) = let k = fit-inside r in omega arith

fit-first : {p e : ℕ} (h : rule.Stretch) (hs : List rule.Stretch) {gs : List rule.Stretch} → gs ≡ h ∷ hs → Fit p e gs → (p ≤ h.start) × Fit (h.start + h.size) e hs
fit-first h hs q (last l) = absurd (omega (arith, ap length q))
fit-first {p} {e} h hs q (more {h = g} {hs = gs} a r) =
    let x : g ≡ h = cc in
    let y : gs ≡ hs = cc in
    subst (λ (k : rule.Stretch). (p ≤ k.start) × Fit (k.start + k.size) e hs) x (a, subst (Fit (g.start + g.size) e) y r)

pub record Delivering (s b c : List ℕ) (hs : List rule.Stretch) (i to from : ℕ) : Type 0 where
  pub done : List ℕ
  pub whole : without hs 0 s ≡ done ++ without (drop i hs) from s
  pub fit : Fit from (length s) (drop i hs)
  pub stored : c ≡ sets b 0 done
  pub many : length done ≡ to
  pub small : to ≤ from

pub deliver_start : (s b : List ℕ) (hs : List rule.Stretch) → Fit 0 (length s) hs → Delivering s b b hs 0 0 0
deliver_start s b hs f = record { done = []; whole = refl; fit = f; stored = refl; many = refl; small = omega arith }

module _ (s b c : List ℕ) (hs : List rule.Stretch) (i to from : ℕ) (inv : Delivering s b c hs i to from) where
  pub from-inside : from ≤ length s
  from-inside = fit-inside inv.fit

  pub deliver_long : length c ≡ length b
  deliver_long = rw inv.stored (length-sets b 0 inv.done)

  module _ (h : rule.Stretch) (e : drop i hs ≡ h ∷ drop (i + 1) hs) where
    next-fit : (from ≤ h.start) × Fit (h.start + h.size) (length s) (drop (i + 1) hs)
    next-fit = fit-first h (drop (i + 1) hs) e inv.fit

    pub deliver_bounds : (from ≤ h.start) × (h.start + h.size ≤ length s)
    deliver_bounds = (next-fit.0, fit-inside next-fit.1)

    pub deliver_next : (d : List ℕ) → d ≡ sets c to (part from (from + (h.start - from)) s) → Delivering s b d hs (i + 1) (to + (h.start - from)) (h.start + h.size)
    unfolding without
    deliver_next d q =
        let (x, y) = deliver_bounds in
        let z : from + (h.start - from) ≡ h.start = omega arith in
        let l : length (part from h.start s) ≡ h.start - from = length-take-le (h.start - from) (drop from s) (omega (arith, length-drop from s)) in
        let g : to ≡ 0 + length inv.done = sym inv.many ∙ sym (zero-add _) in
        record {
          done = inv.done ++ part from h.start s;
          whole = inv.whole ∙ rw e (sym (append_assoc inv.done (part from h.start s) (without (drop (i + 1) hs) (h.start + h.size) s)));
          fit = next-fit.1;
          stored = q ∙ rw (z, inv.stored, g) (sets-sets inv.done (part from h.start s) b 0);
          many = rw (length-append, l, inv.many);
          small = omega (arith, inv.small);
        }

  pub deliver_end : length hs ≤ i → (d : List ℕ) → d ≡ sets c to (part from (from + (length s - from)) s) → d ≡ sets b 0 (without hs 0 s)
  unfolding without
  deliver_end l d q =
      let z : from + (length s - from) - from ≡ length s - from = omega arith in
      let g : to ≡ 0 + length inv.done = sym inv.many ∙ sym (zero-add _) in
      let w : without hs 0 s ≡ inv.done ++ drop from s = inv.whole ∙ rw (drop_of_length-le hs l) in
      q ∙ rw (z, rest s from, w, inv.stored, g) (sets-sets inv.done (drop from s) b 0)

-- the stretches of an array
module _ (stretches : List Stretch) (n : ℕ) (w : length stretches ≡ 64) (m : n ≤ 64) where
  pub reported-length : length (reported stretches n) ≡ n
  reported-length = length-take-le n (map stretch_in stretches) (omega (arith, length-map stretches stretch_in))

  pub reported-next : (i : ℕ) → i < n → drop i (reported stretches n) ≡ stretch_in (get_or stretches i no_stretch) ∷ drop (i + 1) (reported stretches n)
  reported-next i l =
      let e : get_or (reported stretches n) i rule.no_stretch ≡ stretch_in (get_or stretches i no_stretch) = get_or-take n (map stretch_in stretches) i rule.no_stretch l ∙ get_or-map stretch_in stretches i no_stretch in
      drop-cons (reported stretches n) i rule.no_stretch (omega (arith, reported-length)) ∙ rw (e, add-one)
