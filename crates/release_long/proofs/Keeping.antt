-- Steps one behind the other are a run, and what a turn takes is a step.
use Rattle.std.proofs.Common.{◌≡◌, ℕ, zero, suc, ◌+◌, ◌-◌, ◌^◌, ◌<◌, ◌≤◌, Bool, true, false, List, [], ◌∷◌, ◌++◌, length, get_or, take, replicate, sym, refl, ap, ◌∙◌, subst, append_assoc, append-nil, arith, length-append, length-take-le}
use lib.ListN.{length-replicate}
use Rattle.rules.specs.Outcome.{good}
use Rattle.rules.specs.Bytes.{Bytes}
use Rattle.rules.specs.Items.{items}
use Rattle.rules.specs.Message.{Message, message}
use Rattle.rules.proofs.Outcomes.{stepped, fronted}
use Rattle.numbered.specs.Numbering as rule
use Rattle.numbered.specs.Quota.{Report}
use Rattle.numbered.specs.Told.{report}
use Rattle.numbered.specs.declared.Progress.{Progress}
use Rattle.refusal.specs.declared.Refusal.{Refusal}
use Rattle.std.specs.Prelude.{Result, Ok, Err, IfOk}
use Rattle.step.specs.Step.{step, measured_step, output, consumed}
use Rattle.step.specs.Claims.{StateFits, Run, rest, next}
use Rattle.step.specs.Told.{state_in, told, told_measured}
use Rattle.step.specs.declared.State.{State}
use Rattle.step.specs.declared.Stepped.{Stepped}
use Rattle.step.proofs.Steps.{done, handles, fits_after}
use Rattle.step.proofs.Claims.{measured-step}
use Rattle.release_long.specs.Keeps.{fresh, Steps, Follows, Led, Onward, stepped_on}

-- ---- runs of steps

run-append : (sheet : List ℕ) {a b c : rule.State} {all joined all' joined' : List ℕ} → Run sheet a b all joined → Run sheet b c all' joined' → Run sheet a c (all ++ all') (joined ++ joined')
run-append sheet rest r = r
run-append sheet {a} {b} {c} {all' = all'} {joined' = joined'} (next {all = all} {joined = joined} input quota buffer e run) r =
    let answer = step input sheet quota a buffer in
    subst (λ (l : List ℕ). Run sheet a c l (output answer ++ joined ++ joined')) (sym (append_assoc (consumed input answer) all all'))
    (subst (λ (l : List ℕ). Run sheet a c (consumed input answer ++ (all ++ all')) l) (sym (append_assoc (output answer) joined joined'))
    (next input quota buffer e (run-append sheet run r)))

steps-none : (sheet : List ℕ) (a : rule.State) → Steps sheet a a 0
steps-none sheet a = record { all = []; joined = []; run = rest; long = refl }

steps-append : (sheet : List ℕ) (a b c : rule.State) (m n k : ℕ) → m + n ≡ k → Steps sheet a b m → Steps sheet b c n → Steps sheet a c k
steps-append sheet a b c m n k z s t = record {
  all = s.all ++ t.all;
  joined = s.joined ++ t.joined;
  run = run-append sheet s.run t.run;
  long = omega (arith, length-append s.all t.all, s.long, t.long, z);
}

pub led_none : (sheet : List ℕ) (writes : Bool) (a : rule.State) → StateFits a → Led sheet writes a a 0
led_none sheet writes a fits = record { end = a; fits = fits; follows = same writes; steps = steps-none sheet a }
  where
    same : (b : Bool) → Follows b a a
    same true = refl
    same false = record { ids = refl; held = refl }

pub led_on : (sheet : List ℕ) (writes : Bool) (from before after : rule.State) (m n k : ℕ) → m + n ≡ k → Led sheet writes from before m → Onward sheet writes before after n → Led sheet writes from after k
led_on sheet writes from before after m n k z l o =
    let r = o.leads l.end l.fits l.follows in
    record { end = r.end; fits = r.fits; follows = r.follows; steps = steps-append sheet from l.end r.end m n k z l.steps r.steps }

-- ---- a step with a quota above the bytes takes all of them

items-few : (k p : ℕ) (s : List ℕ) {ms : List Message} → items message k p s ≡ good ms → length ms ≤ length s
unfolding items
items-few k p [] {ms} e = let z : [] ≡ ms = cc in rw (← z) (omega arith)
items-few (suc k) p (x ∷ s) e = omega (arith, items-few k (suc p) s e)
items-few zero p (x ∷ s) e =
    let (r, g, d) = stepped _ _ e in
    let (l, i, m) = fronted _ _ d in
    rw (← m) (omega (arith, items-few (r.1 - 1) (suc p) s i))

one-step : (part sheet buffer : List ℕ) (state : rule.State) → StateFits state → length part ≤ 65536 → (step part sheet 65537 state buffer).0.number ≡ 0
    → StateFits (step part sheet 65537 state buffer).1 × Steps sheet state (step part sheet 65537 state buffer).1 (length part)
one-step part sheet buffer state fits l e =
    let d = done part sheet 65537 state buffer e in
    let h = handles part sheet 65537 state buffer fits d in
    let n : ℕ = (step part sheet 65537 state buffer).0.consumed in
    let few = items-few 0 0 (take n part) h.read in
    let all : n ≡ length part = h.all (omega (arith, few, h.handled, h.inside, length-take-le n part h.inside, l)) in (
      fits_after part sheet 65537 state buffer fits d,
      record {
        all = take n part ++ [];
        joined = output (step part sheet 65537 state buffer) ++ [];
        run = next part 65537 buffer e rest;
        long = ap length (append-nil (take n part)) ∙ length-take-le n part h.inside ∙ all;
      },
    )

-- written, from the very state
written : (part sheet buffer : List ℕ) (before : rule.State) → length part ≤ 65536 → (step part sheet 65537 before buffer).0.number ≡ 0
    → Onward sheet true before (step part sheet 65537 before buffer).1 (length part)
written part sheet buffer before l e = record {
  few = l;
  leads = λ from fits same.
      let number : (step part sheet 65537 from buffer).0.number ≡ 0 = ap (λ (s : rule.State). (step part sheet 65537 s buffer).0.number) same ∙ e in
      let (f, s) = one-step part sheet buffer from fits l number in
      record { end = (step part sheet 65537 from buffer).1; fits = f; follows = ap (λ (s : rule.State). (step part sheet 65537 s buffer).1) same; steps = s };
}

-- measured alone, from any with the same ids: a buffer of so many bytes has room
alone : (part sheet : List ℕ) (before : rule.State) → Bytes part → length part ≤ 65536 → (measured_step part sheet 65537 before).0.number ≡ 0
    → Onward sheet false before (measured_step part sheet 65537 before).1 (length part)
alone part sheet before bytes l e = record {
  few = l;
  leads = λ from fits same.
      let wide : List ℕ = replicate 65536 0 in
      let (r, s) = measured-step.long-buffer part sheet 65537 from before wide fits same bytes (omega (arith, length-replicate {A = ℕ} 65536 0)) in
      let (f, w) = one-step part sheet wide from fits l (ap (λ (x : Report). x.number) r ∙ e) in
      record { end = (step part sheet 65537 from wide).1; fits = f; follows = s; steps = w };
}

-- ---- what the functions say

pub fresh-fits : StateFits fresh
fresh-fits = record { ids = refl; next = refl; below = zeros 64 }
  where
    zeros : (n k : ℕ) → get_or (replicate n 0) k 0 < 2 ^ 32
    zeros zero k = omega arith
    zeros (suc n) zero = omega arith
    zeros (suc n) (suc k) = zeros n k

pub stepped_on_lem : (part sheet buffer after : List ℕ) (state : State) (r : Stepped) (writes : Bool) → writes ≡ true → length part ≤ 65536
    → told r after ≡ step part sheet 65537 (state_in state) buffer → stepped_on sheet writes part (state_in state) r
unfolding stepped_on
stepped_on_lem part sheet buffer after state r writes w l e = go r.answer (state_in r.state) e
  where
    go : (a : Result Progress Refusal) (end : rule.State) → ◌≡◌ {A = Report × rule.State × List ℕ} (report a, end, after) (step part sheet 65537 (state_in state) buffer) → IfOk a (λ p. Onward sheet writes (state_in state) end (length part))
    go (Ok p) end q =
        let number : (step part sheet 65537 (state_in state) buffer).0.number ≡ 0 = ap (λ (x : Report × rule.State × List ℕ). x.0.number) (sym q) in
        let same : (step part sheet 65537 (state_in state) buffer).1 ≡ end = ap (λ (x : Report × rule.State × List ℕ). x.1) (sym q) in
        subst (λ (s : rule.State). Onward sheet writes (state_in state) s (length part)) same
        (subst (λ (b : Bool). Onward sheet b (state_in state) (step part sheet 65537 (state_in state) buffer).1 (length part)) (sym w) (written part sheet buffer (state_in state) l number))
    go (Err f) end q = tt

pub measured-on : (part sheet : List ℕ) (state : State) (r : Stepped) (writes : Bool) → writes ≡ false → Bytes part → length part ≤ 65536
    → told_measured r ≡ measured_step part sheet 65537 (state_in state) → stepped_on sheet writes part (state_in state) r
unfolding stepped_on
measured-on part sheet state r writes w bytes l e = go r.answer (state_in r.state) e
  where
    go : (a : Result Progress Refusal) (end : rule.State) → ◌≡◌ {A = Report × rule.State} (report a, end) (measured_step part sheet 65537 (state_in state)) → IfOk a (λ p. Onward sheet writes (state_in state) end (length part))
    go (Ok p) end q =
        let number : (measured_step part sheet 65537 (state_in state)).0.number ≡ 0 = ap (λ (x : Report × rule.State). x.0.number) (sym q) in
        let same : (measured_step part sheet 65537 (state_in state)).1 ≡ end = ap (λ (x : Report × rule.State). x.1) (sym q) in
        subst (λ (s : rule.State). Onward sheet writes (state_in state) s (length part)) same
        (subst (λ (b : Bool). Onward sheet b (state_in state) (measured_step part sheet 65537 (state_in state)).1 (length part)) (sym w) (alone part sheet (state_in state) bytes l number))
    go (Err f) end q = tt

-- what a step takes where it is done
pub stepped-onward : (sheet part : List ℕ) (writes : Bool) (before : rule.State) (r : Stepped) (p : Progress) → r.answer ≡ Ok p → stepped_on sheet writes part before r
    → Onward sheet writes before (state_in r.state) (length part)
unfolding stepped_on
stepped-onward sheet part writes before r p e h = subst (λ (a : Result Progress Refusal). IfOk a (λ p. Onward sheet writes before (state_in r.state) (length part))) e h
