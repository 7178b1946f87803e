-- A message that passes checks 1 to 9 is refused as PACKAGE exactly if no pieces fill its payload; and one that passes checks 1 to 10 as COUNT
-- exactly if its option run says another number of packages.
use Prim.Native.Nat.{ℕ, ◌+◌}
use mathlib.Core.Path.{◌≡◌, refl, ap, sym, subst, ◌∙◌}
use mathlib.Core.Logic.{◌↔◌, ⊎_elim}
use mathlib.Core.Bool.{Bool, true, false}
use mathlib.Core.List.{List}
use mathlib.Core.Option.{some}
use native.Mathlib.Omega.{arith}
use lib.ListN.{length, length-map}
use Rattle.rules.specs.Outcome.{Outcome, good, bad, PACKAGE, COUNT}
use Rattle.rules.specs.Bytes.{part}
use Rattle.rules.specs.Items.{Fills}
use Rattle.rules.specs.Options.{count_said, differs}
use Rattle.rules.specs.Packages.{cut, package_of, Piece}
use Rattle.rules.specs.Message.{head, payload_start, payload, checks_one_to_nine, checks_one_to_ten, every_check, Message, record_of, message}
use Rattle.rules.specs.Claims.{SaysOther}
use Rattle.rules.proofs.Outcomes.{pass, halt, step, stop, stepped, good_inj, good≢bad, bad_inj, refused_pass, refused-step, refused-only}
use Rattle.rules.proofs.Nevers.{never_ten}
use Rattle.rules.proofs.Counts.{agreed, told-other, other-told}
use Rattle.rules.proofs.Passed.{passes}
use Rattle.rules.proofs.Cut.{complete, sound, refused}

-- where checks 1 to 10 pass, the option run says another number than that of the pieces, or it does not
abbrev miscounts : List ℕ → ℕ × List (List ℕ) → Bool
miscounts s r = differs (count_said (part 24 (24 + r.0) s)) (length r.1)

module _ (p : ℕ) (s : List ℕ) (r : ℕ × List (List ℕ)) (e : checks_one_to_ten p s (head s) ≡ good r) where
  right : miscounts s r ≡ false → message p s ≡ good (record_of s (head s) r, (head s).size)
  unfolding message every_check
  right d = step _ _ (step _ _ e (pass _ _ _ _ d refl)) refl

  wrong : miscounts s r ≡ true → message p s ≡ bad COUNT p
  unfolding message every_check
  wrong d = stop _ _ (step _ _ e (halt _ _ _ _ d))

module _ (p : ℕ) (s : List ℕ) (n : ℕ) (b : checks_one_to_nine p s (head s) ≡ good n) where
  -- the checks go on if the payload is cut, and the message is refused as the cut is
  made : (cs : List (List ℕ)) → cut (p + payload_start (head s)) (payload s (head s)) ≡ good cs → checks_one_to_ten p s (head s) ≡ good (n, cs)
  unfolding checks_one_to_ten
  made cs e = step _ _ b (step _ _ e refl)

  unmade : (m q : ℕ) → cut (p + payload_start (head s)) (payload s (head s)) ≡ bad m q → message p s ≡ bad m q
  unfolding message every_check checks_one_to_ten
  unmade m q e = stop _ _ (stop _ _ (step _ _ b (stop _ _ e)))

  found : ((cs : List (List ℕ)) → Fills Piece cs (payload s (head s)) → ⊥) → (o : Outcome (List (List ℕ))) → cut (p + payload_start (head s)) (payload s (head s)) ≡ o → (q : ℕ) × (message p s ≡ bad PACKAGE q)
  found no_cut (good cs) e = absurd (no_cut cs (sound 0 _ (payload s (head s)) e))
  found no_cut (bad m q) e = (q, rw (refused 0 _ (payload s (head s)) e).number at (unmade m q e))

  -- a payload that pieces fill is not refused as PACKAGE
  filled : (q : ℕ) → message p s ≡ bad PACKAGE q → (cs : List (List ℕ)) → Fills Piece cs (payload s (head s)) → ⊥
  filled q e cs f = go (miscounts s (n, cs)) refl
    where
      go : (x : Bool) → miscounts s (n, cs) ≡ x → ⊥
      go true d = omega (arith, (bad_inj (sym e ∙ wrong p s (n, cs) (made cs (complete f _)) d)).0)
      go false d = good≢bad (sym e ∙ right p s (n, cs) (made cs (complete f _)) d)

  pub exactly : ((q : ℕ) × (message p s ≡ bad PACKAGE q)) ↔ ((cs : List (List ℕ)) → Fills Piece cs (payload s (head s)) → ⊥)
  exactly = (λ e cs f. filled e.0 e.1 cs f, λ no_cut. found no_cut (cut (p + payload_start (head s)) (payload s (head s))) refl)

-- COUNT is given behind checks 1 to 10, which do not give it
count-only : (p : ℕ) (s : List ℕ) (q : ℕ) → message p s ≡ bad COUNT q → (q ≡ p) × ((r : ℕ × List (List ℕ)) × (checks_one_to_ten p s (head s) ≡ good r) × SaysOther (part 24 (24 + r.0) s) (length r.1))
unfolding message every_check
count-only p s q e =
    ⊎_elim (λ m. absurd ((never_ten COUNT (λ n l h e. omega arith) p s (head s)).given q m)) (λ w.
    ⊎_elim (λ m. (sym m.2, (w.0, w.1, told-other (count_said (part 24 (24 + w.0.0) s)) (length w.0.1) m.0))) (λ g. absurd (good≢bad (sym g))) (refused_pass _ _ _ _ w.2))
    (refused-step _ _ (refused-only _ _ e))

pub count-read : (p : ℕ) (s : List ℕ) (q : ℕ) → (message p s ≡ bad COUNT q) ↔ ((q ≡ p) × ((r : ℕ × List (List ℕ)) × (checks_one_to_ten p s (head s) ≡ good r) × SaysOther (part 24 (24 + r.0) s) (length r.1)))
count-read p s q = (
  (λ e. count-only p s q e),
  λ w.
      let (r, e, o) = w.1 in
      rw w.0 (wrong p s r e (other-told (count_said (part 24 (24 + r.0) s)) (length r.1) o.0 o.1 o.2)),
)

-- a message that passes says its number of packages
pub count-right : (p : ℕ) (s : List ℕ) (m : Message) (n : ℕ) → message p s ≡ good (m, n) → (c : ℕ) → count_said m.options ≡ some c → c ≡ length m.packages
unfolding message record_of
count-right p s m n e c q =
    let (r, k, z) = stepped _ _ e in
    let y : record_of s (head s) r ≡ m = ap (λ (x : Message × ℕ). x.0) (good_inj z) in
    let w = passes p s (head s) r k in
    subst (λ (x : Message). count_said x.options ≡ some c → c ≡ length x.packages) y (λ q. agreed _ (length r.1) w.count c q ∙ sym (length-map r.1 package_of)) q
