-- A refusal other than SHORT and CUT is final: more bytes behind the message change nothing of it.
use Prim.Native.Nat.{ℕ, ◌+◌, ◌-◌, ◌%◌, ◌≤◌}
use mathlib.Core.Path.{◌≡◌, refl, sym, subst, ◌∙◌}
use mathlib.Core.Logic.{⊎_elim}
use mathlib.Core.Bool.{Bool, true, false}
use mathlib.Core.List.{List, [], ◌++◌}
use native.Mathlib.Omega.{arith}
use borrow.Author.Tests.{le-ltb, ltb-false, eq-eqb}
use lib.Dec.{ltb}
use lib.ListN.{length, drop, length-append, length-drop, length-take}
use Rattle.rules.specs.Outcome.{Outcome, good, bad, refuse, ◌>>◌, SHORT, CUT, COUNT}
use Rattle.rules.specs.Bytes.{part}
use Rattle.rules.specs.Options.{count_said, differs}
use Rattle.rules.specs.Message.{Head, head, payload_start, checks_one_to_six, option_run_length, checks_eight_and_nine, checks_one_to_nine, checks_one_to_ten, every_check, Message, message}
use Rattle.rules.proofs.Outcomes.{pass, halt, pass_last, after, came_after, step, stepped, good_inj, stop, stop_before, refused-step, refused-only}
use Rattle.rules.proofs.Run.{run_ends}
use Rattle.rules.proofs.Passed.{Sound, sound}
use Rattle.rules.proofs.Alone.{part-append, head-append}

-- ---- chains that are refused alike

-- the same test in front of what is refused alike
alike : {A B : Type 0} (b : Bool) (m r : ℕ) (o : Outcome A) (o' : Outcome B) {n q : ℕ} → (refuse b m r >> o) ≡ bad n q → (o ≡ bad n q → o' ≡ bad n q) → (refuse b m r >> o') ≡ bad n q
unfolding refuse ◌>>◌
alike true m r o o' {n} {q} e f =
    let a : m ≡ n = cc in
    let b : r ≡ q = cc in
    rw (a, b)
alike false m r o o' e f = f e

-- another test, which passes where the first does, and whose refusal it is not
other : {A B : Type 0} (b b' : Bool) (m r : ℕ) (o : Outcome A) (o' : Outcome B) {n q : ℕ} → (n ≡ m → ⊥) → (b ≡ false → b' ≡ false) → (refuse b m r >> o) ≡ bad n q
    → (o ≡ bad n q → o' ≡ bad n q) → (refuse b' m r >> o') ≡ bad n q
unfolding refuse ◌>>◌
other true b' m r o o' {n} {q} h k e f =
    let a : n ≡ m = cc in
    absurd (h a)
other false b' m r o o' h k e f = pass _ _ _ _ (k refl) (f e)

-- checks in front: refused, or passed
behind : {A : Type 0} (c c' : Outcome (Unit {0})) (o o' : Outcome A) {n q : ℕ} → (c >> o) ≡ bad n q → (c ≡ bad n q → c' ≡ bad n q) → (c ≡ good tt → (c' ≡ good tt) × (o ≡ bad n q → o' ≡ bad n q)) → (c' >> o') ≡ bad n q
unfolding ◌>>◌
behind (good tt) c' o o' e f g = after _ _ (g refl).0 ((g refl).1 e)
behind (bad m r) c' o o' {n} {q} e f g =
    let a : m ≡ n = cc in
    let b : r ≡ q = cc in
    stop_before _ _ (f (rw (a, b)))

module _ (p : ℕ) (s t : List ℕ) (n q : ℕ) (not_IsShort : (n ≡ SHORT → ⊥)) (not_cut : (n ≡ CUT → ⊥)) (h : Head) where
  longer : length s ≤ length (s ++ t)
  longer = omega (arith, length-append s t)

  six : checks_one_to_six p s h ≡ bad n q → checks_one_to_six p (s ++ t) h ≡ bad n q
  unfolding checks_one_to_six
  six e =
      other _ _ _ _ _ _ not_IsShort (λ z. le-ltb (length (s ++ t)) 24 (omega (arith, longer, ltb-false (length s) 24 z))) e (λ e.
      alike _ _ _ _ _ e (λ e. alike _ _ _ _ _ e (λ e. alike _ _ _ _ _ e (λ e.
      other _ _ _ _ _ _ not_cut (λ z. le-ltb (length (s ++ t)) h.size (omega (arith, longer, ltb-false (length s) h.size z))) e (λ e. e)))))

  six-passed : checks_one_to_six p s h ≡ good tt → checks_one_to_six p (s ++ t) h ≡ good tt
  unfolding checks_one_to_six
  six-passed e =
      let w = sound p s h e in
      pass _ _ _ _ (le-ltb (length (s ++ t)) 24 (omega (arith, longer, w.long)))
      (pass _ _ _ _ (rw (eq-eqb h.version 1 w.version))
      (pass _ _ _ _ (rw (eq-eqb h.kind 0 w.kind))
      (pass _ _ _ _ (rw (le-ltb h.size (payload_start h) w.least, eq-eqb (h.size % 4) 0 w.whole))
      (pass _ _ _ _ (le-ltb (length (s ++ t)) h.size (omega (arith, longer, w.most)))
      (pass_last _ _ _ (le-ltb 999999999 h.nanos w.nanos))))))

  seven : option_run_length p s h ≡ bad n q → option_run_length p (s ++ t) h ≡ bad n q
  unfolding option_run_length
  seven e = behind _ _ _ _ e six (λ g.
      let w = sound p s h g in
      (six-passed g, λ r. rw (part-append 24 (payload_start h) s t w.long (omega (arith, w.least, w.most))) r))

  -- the option run of a message that passes checks 1 to 7
  seven-passed : (k : ℕ) → option_run_length p s h ≡ good k → Sound s h × (option_run_length p (s ++ t) h ≡ good k)
  unfolding option_run_length
  seven-passed k e =
      let (g, r) = came_after _ _ e in
      let w = sound p s h g in
      (w, after _ _ (six-passed g) (rw (part-append 24 (payload_start h) s t w.long (omega (arith, w.least, w.most))) r))

  -- the option run ends within the bytes
  seven-inside : (k : ℕ) → option_run_length p s h ≡ good k → 24 + k ≤ length s
  unfolding option_run_length
  seven-inside k e =
      let (g, r) = came_after _ _ e in
      let w = sound p s h g in
      let i = (run_ends [] 0 (p + 24) 0 (part 24 (payload_start h) s) (omega arith) r).most in
      omega (arith, i, length-take (payload_start h - 24) (drop 24 s), length-drop 24 s, w.least, w.most)

  nine : checks_one_to_nine p s h ≡ bad n q → checks_one_to_nine p (s ++ t) h ≡ bad n q
  unfolding checks_one_to_nine checks_eight_and_nine
  nine e = ⊎_elim
      (λ b. stop _ _ (seven b))
      (λ a.
      let (w, g) = seven-passed a.0 a.1 in
      step _ _ g (rw (part-append (payload_start h) h.size s t (omega (arith, w.least, w.most)) w.most) a.2))
      (refused-step _ _ e)

  -- a message that passes checks 1 to 9
  nine-passed : (k : ℕ) → checks_one_to_nine p s h ≡ good k → Sound s h × (24 + k ≤ length s) × (checks_one_to_nine p (s ++ t) h ≡ good k)
  unfolding checks_one_to_nine checks_eight_and_nine
  nine-passed k e =
      let (m, o, f) = stepped _ _ e in
      let (w, g) = seven-passed m o in
      let (c, z) = came_after _ _ f in
      let i : 24 + k ≤ length s = subst (λ (x : ℕ). 24 + x ≤ length s) (good_inj z) (seven-inside m o) in
      (w, i, step _ _ g (rw (part-append (payload_start h) h.size s t (omega (arith, w.least, w.most)) w.most) f))

  ten : checks_one_to_ten p s h ≡ bad n q → checks_one_to_ten p (s ++ t) h ≡ bad n q
  unfolding checks_one_to_ten
  ten e = ⊎_elim
      (λ b. stop _ _ (nine b))
      (λ a.
      let (w, i, g) = nine-passed a.0 a.1 in
      step _ _ g (rw (part-append (payload_start h) h.size s t (omega (arith, w.least, w.most)) w.most) a.2))
      (refused-step _ _ e)

  -- a message that passes checks 1 to 10
  ten_passed : (r : ℕ × List (List ℕ)) → checks_one_to_ten p s h ≡ good r → (24 + r.0 ≤ length s) × (checks_one_to_ten p (s ++ t) h ≡ good r)
  unfolding checks_one_to_ten
  ten_passed r e =
      let (k, o, f) = stepped _ _ e in
      let (w, j, g) = nine-passed k o in
      let (cs, c, z) = stepped _ _ f in
      let i : 24 + r.0 ≤ length s = subst (λ (x : ℕ × List (List ℕ)). 24 + x.0 ≤ length s) (good_inj z) j in
      (i, step _ _ g (rw (part-append (payload_start h) h.size s t (omega (arith, w.least, w.most)) w.most) f))

  every : every_check p s h ≡ bad n q → every_check p (s ++ t) h ≡ bad n q
  unfolding every_check
  every e = ⊎_elim (λ b. stop _ _ (ten b)) (λ a. counted a.0 a.1 a.2) (refused-step _ _ e)
    where
      counted : (r : ℕ × List (List ℕ)) → checks_one_to_ten p s h ≡ good r → (refuse (differs (count_said (part 24 (24 + r.0) s)) (length r.1)) COUNT p >> good r) ≡ bad n q
          → every_check p (s ++ t) h ≡ bad n q
      counted r e f =
          let (i, g) = ten_passed r e in
          step _ _ g (rw (part-append 24 (24 + r.0) s t (omega (arith, i)) i) f)

-- a message that is refused with fewer than 24 bytes is SHORT
long-enough : (p : ℕ) (s : List ℕ) (n q : ℕ) → (n ≡ SHORT → ⊥) → message p s ≡ bad n q → 24 ≤ length s
unfolding message every_check checks_one_to_ten checks_one_to_nine option_run_length checks_one_to_six
long-enough p s n q not_IsShort e = go (ltb (length s) 24) refl
  where
    go : (b : Bool) → ltb (length s) 24 ≡ b → 24 ≤ length s
    go false z = ltb-false (length s) 24 z
    go true z =
        let short : message p s ≡ bad SHORT p = stop _ _ (stop _ _ (stop _ _ (stop _ _ (stop_before _ _ (halt _ _ _ _ z))))) in
        let same : ◌≡◌ {A = Outcome (Message × ℕ)} (bad SHORT p) (bad n q) = sym short ∙ e in
        let a : n ≡ SHORT = cc in
        absurd (not_IsShort a)

pub final : (p : ℕ) (s t : List ℕ) (n q : ℕ) → (n ≡ SHORT → ⊥) → (n ≡ CUT → ⊥) → message p s ≡ bad n q → message p (s ++ t) ≡ bad n q
unfolding message
final p s t n q not_IsShort not_cut e = rw (head-append s t (long-enough p s n q not_IsShort e)) (stop _ _ (every p s t n q not_IsShort not_cut (head s) (refused-only _ _ e)))
