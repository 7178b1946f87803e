-- The steps of joining: the state behind the words of a run, and the offset that a run says.
use Prim.Native.Nat.{ℕ, suc, ◌+◌, ◌-◌, ◌*◌, ◌/◌, ◌%◌, ◌≤◌, ◌<◌, min}
use mathlib.Core.Path.{◌≡◌, refl, sym, ap, ◌∙◌}
use mathlib.Core.Bool.{Bool, true, false, ◌&&◌}
use mathlib.Core.List.{List, ◌∷◌, ◌++◌}
use mathlib.Core.Option.{none, some}
use native.Mathlib.Nat.{add-zero, add_assoc}
use native.Mathlib.Omega.{arith}
use borrow.Author.Tests.{eqb-true}
use lib.Dec.{ltb, eqb, leb}
use lib.ListN.{length, take, drop, length-append, length-drop, drop_of_length-le, get_or-append}
use lib.Seq.{drop-cons, drop-drop, drop-append-add}
use Rattle.rules.specs.Bytes.{at, half, word}
use Rattle.rules.specs.Options.{length_allowed, option_size, option_fits}
use Rattle.rules.proofs.Outcomes.{both}
use Rattle.rules.proofs.Loops.{rest}
use Rattle.fragments.specs.Fragment.{options_of, is_offset, offset_in}
use Rattle.fragments.specs.Joining.{says_offset}
use Rattle.fragments.specs.declared.Passed.{Passed}
use Rattle.fragments.specs.Stored.{WholeOptions, offset_place, package_step, scan, package_start, starts}
use Rattle.rules.specs.Items.{none, more}
use Rattle.rules.specs.Options.{WholeOption}
use Rattle.fragments.proofs.Options.{Run, made_of, opt_least}
use Rattle.fragments.proofs.Scan.{skip-some}

-- ---- the words of a run

-- the words before index i are passed
pub record Scanning (s : List ℕ) (st₀ st : Passed) (i : ℕ) : Type 0 where
  pub inside : i ≤ length s
  pub words : i % 4 ≡ 0
  pub same : scan st₀.state s ≡ scan st.state (drop i s)
  pub packages : st₀.packages + starts st₀.state s ≡ st.packages + starts st.state (drop i s)
  pub small : st.state < 4294967296

pub scan-start : (s : List ℕ) (st : Passed) → st.state < 4294967296 → Scanning s st st 0
scan-start s st h = record { inside = omega arith; words = refl; same = refl; packages = refl; small = h }

word-here : (s : List ℕ) (st i : ℕ) → i + 4 ≤ length s → scan st (drop i s) ≡ scan (package_step st (half s i)) (drop (i + 4) s)
unfolding scan half
word-here s st i l =
    let a : i + 1 ≡ suc i = omega arith in
    let d : i + 4 ≡ suc (suc (suc (suc i))) = omega arith in
    rw (drop-cons s i 0 (omega arith), drop-cons s (suc i) 0 (omega arith), drop-cons s (suc (suc i)) 0 (omega arith), drop-cons s (suc (suc (suc i))) 0 (omega arith), a, d)

starts-here : (s : List ℕ) (st i : ℕ) → i + 4 ≤ length s → starts st (drop i s) ≡ package_start st + starts (package_step st (half s i)) (drop (i + 4) s)
unfolding starts half
starts-here s st i l =
    let a : i + 1 ≡ suc i = omega arith in
    let d : i + 4 ≡ suc (suc (suc (suc i))) = omega arith in
    rw (drop-cons s i 0 (omega arith), drop-cons s (suc i) 0 (omega arith), drop-cons s (suc (suc i)) 0 (omega arith), drop-cons s (suc (suc (suc i))) 0 (omega arith), a, d)

pub scan-on : (s : List ℕ) (st₀ st : Passed) (i : ℕ) {l : ℕ} {n : Passed} → length s % 4 ≡ 0 → Scanning s st₀ st i → i < length s → l ≡ half s i
    → n.state ≡ package_step st.state l → n.packages ≡ st.packages + package_start st.state → n.state < 4294967296 → Scanning s st₀ n (i + 4)
scan-on s st₀ st i {l} {n} m w k e g c z =
    let here : i + 4 ≤ length s = omega (arith, w.words, w.inside) in
    record {
      inside = here;
      words = omega (arith, w.words);
      same = w.same ∙ word-here s st.state i here ∙ rw (g, e);
      packages = w.packages ∙ ap (λ (x : ℕ). st.packages + x) (starts-here s st.state i here) ∙ rw (g, e, c) (sym (add_assoc st.packages (package_start st.state) _));
      small = z;
    }

-- what is left of a package, or all that there is, is passed at once
pub scan-over : (s : List ℕ) (st₀ st : Passed) (i n : ℕ) → length s % 4 ≡ 0 → Scanning s st₀ st i → n ≡ min (st.state / 4 * 4) (length s - i)
    → Scanning s st₀ (record { state = st.state - n; packages = st.packages }) (i + n)
scan-over s st₀ st i n m w e =
    let words : n / 4 * 4 ≡ n = omega (arith, w.words, w.inside) in
    let few : n ≤ st.state = omega arith in
    let room : n ≤ length s - i = omega arith in
    let (a, b) = skip-some (n / 4) st.state (drop i s) (omega arith) (omega (arith, length-drop i s)) in
    record {
      inside = omega (arith, w.inside);
      words = omega (arith, w.words);
      same = w.same ∙ rw (words, drop-drop n i s) at a;
      packages = w.packages ∙ ap (λ (x : ℕ). st.packages + x) (rw (words, drop-drop n i s) at b);
      small = omega (arith, w.small);
    }

pub scan-ended : (s : List ℕ) (st₀ st : Passed) (i : ℕ) → Scanning s st₀ st i → length s ≤ i → st.state ≡ scan st₀.state s
unfolding scan
scan-ended s st₀ st i w l = sym (w.same ∙ rw (drop_of_length-le s l))

pub starts-ended : (s : List ℕ) (st₀ st : Passed) (i : ℕ) → Scanning s st₀ st i → length s ≤ i → st.packages ≡ st₀.packages + starts st₀.state s
unfolding starts
starts-ended s st₀ st i w l = sym (w.packages ∙ rw (drop_of_length-le s l) (add-zero st.packages))

-- ---- the offset that a run says

six : (n : ℕ) → length_allowed 0x86 n ≡ true → n ≡ 6
unfolding length_allowed
six n e = eqb-true n 6 (both (leb 2 n && leb n 60) (eqb n 6) e).1

allowed : (c : List ℕ) (k : ℕ) → at c 0 ≡ k → ltb k 0x80 ≡ false → option_fits c ≡ true → length_allowed k (at c 1) ≡ true
unfolding option_fits
allowed c k e l f = (both (length_allowed k (at c 1)) (leb (at c 1) (length c)) (rw (e, l, option_fits) at f)).0

sized : (c : List ℕ) (k : ℕ) → at c 0 ≡ k → ltb k 0x80 ≡ false → option_size c ≡ at c 1
unfolding option_size
sized c k e l = rw (e, l, option_size)

offset-long : (c : List ℕ) → WholeOption c → is_offset c ≡ true → length c ≡ 6
unfolding is_offset
offset-long c h t =
    let k : at c 0 ≡ 0x86 = eqb-true _ _ t in
    h.whole ∙ sized c 0x86 k refl ∙ six (at c 1) (allowed c 0x86 k refl h.fits)

word-front : (c t : List ℕ) → length c ≡ 6 → word (c ++ t) 2 ≡ word c 2
unfolding word
word-front c t e = rw (get_or-append c t 0 2 (omega arith), get_or-append c t 0 3 (omega arith), get_or-append c t 0 4 (omega arith), get_or-append c t 0 5 (omega arith))

pub offset-there : {cs : List (List ℕ)} {o : List ℕ} → Run cs o → offset_place cs < length o → offset_in cs ≡ some (word (drop (offset_place cs) o) 2)
unfolding offset_place offset_in
offset-there none l = absurd (omega arith)
offset-there (more {c = c} {cs = cs} {s = o} h r) l = go (is_offset c) refl (λ z. offset-there r z)
  where
    go : (b : Bool) → is_offset c ≡ b → (offset_place cs < length o → offset_in cs ≡ some (word (drop (offset_place cs) o) 2)) → offset_in (c ∷ cs) ≡ some (word (drop (offset_place (c ∷ cs)) (c ++ o)) 2)
    go true t again =
        let p : offset_place (c ∷ cs) ≡ 0 = rw (t, offset_place) in
        let i : offset_in (c ∷ cs) ≡ some (word c 2) = rw (t, offset_in) in
        i ∙ rw p (ap some (sym (word-front c o (offset-long c h t))))
    go false t again =
        let p : offset_place (c ∷ cs) ≡ length c + offset_place cs = rw (t, offset_place) in
        let i : offset_in (c ∷ cs) ≡ offset_in cs = rw (t, offset_in) in
        i ∙ again (omega (arith, length-append c o)) ∙ rw (p, drop-append-add c o (offset_place cs))

pub offset-none : {cs : List (List ℕ)} {o : List ℕ} → Run cs o → length o ≤ offset_place cs → offset_in cs ≡ none
unfolding offset_place offset_in
offset-none none l = refl
offset-none (more {c = c} {cs = cs} {s = o} h r) l = go (is_offset c) refl (λ z. offset-none r z)
  where
    go : (b : Bool) → is_offset c ≡ b → (length o ≤ offset_place cs → offset_in cs ≡ none) → offset_in (c ∷ cs) ≡ none
    go true t again =
        let p : offset_place (c ∷ cs) ≡ 0 = rw (t, offset_place) in
        absurd (omega (arith, opt_least c h, length-append c o))
    go false t again =
        let p : offset_place (c ∷ cs) ≡ length c + offset_place cs = rw (t, offset_place) in
        let i : offset_in (c ∷ cs) ≡ offset_in cs = rw (t, offset_in) in
        i ∙ again (omega (arith, length-append c o))

module _ (run : List ℕ) (w : WholeOptions run) {p : ℕ} (e : p ≡ offset_place (options_of run)) where
  pub says-it : (o : ℕ) {x : ℕ} → p < length run → x ≡ word (take (length run - p) (drop p run)) 2 → eqb x o ≡ says_offset (offset_in (options_of run)) o
  says-it o {x} l f =
      let i : offset_in (options_of run) ≡ some (word (drop p run) 2) = rw e (offset-there (made_of run w.run) (rw (← e) l)) in
      rw (i, f, rest)

  pub says_none : (o : ℕ) → length run ≤ p → false ≡ says_offset (offset_in (options_of run)) o
  says_none o l = rw (offset-none (made_of run w.run) (rw (← e) l))
