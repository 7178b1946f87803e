-- Checks 1 to 7, a header alone, and where its option run lies.
use Prim.Native.Nat.{ℕ, ◌+◌, ◌-◌, ◌*◌, ◌≤◌, ◌<◌}
use mathlib.Core.Path.{◌≡◌, refl, sym, ap, ap₂, ◌∙◌}
use mathlib.Core.Bool.{false}
use mathlib.Core.List.{List, []}
use native.Mathlib.Omega.{arith}
use lib.ListN.{length, take, drop, length-take, length-drop}
use Rattle.rules.specs.Outcome.{Outcome, good, bad, SHORT}
use Rattle.rules.specs.Bytes.{part}
use Rattle.rules.specs.Options.{option_run_from}
use Rattle.rules.specs.Message.{Head, head, payload_start, checks_one_to_six, option_run_length}
use Rattle.rules.specs.Reading.{header}
use Rattle.rules.proofs.Outcomes.{pass, step, stop, after, stop_before, came_after, passed, stepped, good_inj, refused_alike}
use Rattle.rules.proofs.Run.{run_ends}
use Rattle.rules.proofs.Passed.{Sound, sound}
use Rattle.message.proofs.Checks.{short, full-header}
use Rattle.message.specs.Answers.{tested_in, head_of, with_run, header_of, head_of_header, checked_run, told_header}
use Rattle.rules.specs.Reading.{option_run, option_start}
use Rattle.message.specs.declared.Tested.{Tested}
use Rattle.message.specs.declared.Header.{Header}
use Rattle.std.specs.Prelude.{Ok}

module _ (p : ℕ) (s : List ℕ) (h : Head) where
  pub gate_shut : {n q : ℕ} → bad n q ≡ checks_one_to_six p s h → bad n q ≡ option_run_length p s h
  unfolding option_run_length
  gate_shut e = sym (stop_before _ _ (sym e))

  pub gate_open : good tt ≡ checks_one_to_six p s h → Sound s h
  gate_open e = sound p s h (sym e)

  pub run-behind : {o : Outcome ℕ} (f : ℕ) → f ≡ 24 + 4 * h.words → good tt ≡ checks_one_to_six p s h → o ≡ option_run_from [] 0 (p + 24) 0 (take (f - 24) (drop 24 s)) → o ≡ option_run_length p s h
  unfolding option_run_length
  run-behind f ef e r = sym (after _ _ (sym e) (sym (rw ef at r)))

  -- the option run lies in the option bytes
  pub run_inside : {n : ℕ} → good n ≡ option_run_length p s h → 24 + n ≤ length s
  unfolding option_run_length
  run_inside e =
      let (a, b) = came_after _ _ (sym e) in
      let d = sound p s h a in
      let r = run_ends [] 0 (p + 24) 0 (part 24 (payload_start h) s) (omega arith) b in
      omega (arith, r.most, d.least, d.most, d.long, length-take (payload_start h - 24) (drop 24 s), length-drop 24 s)

  -- what checks 1 to 7 say of the header
  pub header_sound : {n : ℕ} → option_run_length p s h ≡ good n → Sound s h
  unfolding option_run_length
  header_sound e = sound p s h (came_after _ _ e).0

-- the numbers of a header that passes
whole : (k : Head) (n : ℕ) → k.version ≡ 1 → k.kind ≡ 0 → head_of_header (with_run k n) ≡ k
whole k n e f =
    ap₂ (λ (v t : ℕ). record { version = v; words = k.words; kind = t; flags = k.flags; id = k.id; sequence = k.sequence; size = k.size; seconds = k.seconds; nanos = k.nanos }) (sym e) (sym f)

-- where checks 1 to 7 of the message at the start of s pass, these are its header's numbers
pub record Headed (p : ℕ) (s : List ℕ) (h : Header) : Type 0 where
  pub same : head_of_header h ≡ head s
  pub run : option_run_length p s (head s) ≡ good h.run

module _ (p : ℕ) (s : List ℕ) where
  pub short-run : length s < 24 → bad SHORT p ≡ option_run_length p s (head s)
  unfolding option_run_length
  short-run a = sym (stop_before _ _ (sym (short p s (head s) a)))

  -- checks 1 to 7 look at no other number than those that are tested
  pub same_checks : (h : Tested) → h ≡ tested_in (head s) → option_run_length p s (head_of h) ≡ option_run_length p s (head s)
  unfolding option_run_length checks_one_to_six
  same_checks h eh = ap (λ (x : Tested). option_run_length p s (head_of x)) eh

  pub headed : (n : ℕ) (h : Header) → good n ≡ option_run_length p s (head s) → h ≡ header_of s n → Headed p s h
  headed n h e eh =
      let d = header_sound p s (head s) (sym e) in
      let w : h ≡ with_run (head s) n = eh ∙ full-header s n d.long in
      record { same = ap head_of_header w ∙ whole (head s) n d.version d.kind; run = sym e ∙ ap (λ (x : Header). good x.run) (sym w) }

-- a header alone: 12 before checks 1 to 7
module _ (s : List ℕ) where
  pub not_alone : {n q : ℕ} → bad n q ≡ checked_run s 0 false → bad n q ≡ header s
  unfolding header checked_run
  not_alone e = sym (refused_alike _ _ _ _ _ (λ z. stop _ _ z) (sym e))

  pub alone : (n : ℕ) (h : Header) → good n ≡ checked_run s 0 false → h ≡ header_of s n → told_header (Ok h) ≡ header s
  unfolding header checked_run
  alone n h e eh =
      let (a, g) = passed _ _ _ _ (sym e) in
      let k = headed 0 s n h (sym g) eh in
      ap (λ (z : Head). good (z, h.run)) k.same ∙ sym (pass _ _ _ _ a (step _ _ k.run refl))

-- where the option run of a header that was read lies
pub record Lies (s : List ℕ) (n : ℕ) : Type 0 where
  pub inside : 24 + n ≤ length s
  pub run : option_run s ≡ part 24 (24 + n) s
  pub start : option_start s ≡ 24

pub lies : (s : List ℕ) (h : Head) (n : ℕ) → good (h, n) ≡ header s → Lies s n
unfolding header option_run option_start
lies s h n e =
    let (a, b) = passed _ _ _ _ (sym e) in
    let (m, c, d) = stepped _ _ b in
    let z : m ≡ n = ap (λ (r : Head × ℕ). r.1) (good_inj d) in
    record { inside = rw (← z) (run_inside 0 s (head s) (sym c)); run = rw (← e, option_run); start = rw (← e, option_start) }

pub record Nowhere (s : List ℕ) : Type 0 where
  pub run : option_run s ≡ []
  pub start : option_start s ≡ 0

pub nowhere : (s : List ℕ) {n q : ℕ} → bad n q ≡ header s → Nowhere s
unfolding option_run option_start
nowhere s e = record { run = rw (← e, option_run); start = rw (← e, option_start) }
