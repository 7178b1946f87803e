-- A message checked but for its packages, and what follows of the message once they are walked over.
use Prim.Native.Nat.{ℕ, ◌+◌, ◌-◌, ◌*◌, ◌≤◌, ◌<◌}
use mathlib.Core.Path.{◌≡◌, refl, sym, ap, subst, ◌∙◌}
use mathlib.Core.Bool.{Bool, true, false}
use mathlib.Core.List.{List, []}
use native.Mathlib.Nat.{add-zero}
use native.Mathlib.Omega.{arith}
use borrow.Author.Tests.{lt-ltb, le-ltb, ltb-false}
use lib.Dec.{ltb}
use lib.ListN.{length, take, drop, length-take, length-drop}
use lib.Seq.{drop-drop, length-take-le}
use Rattle.rules.specs.Outcome.{Outcome, good, bad, SHORT, LARGE, PACKAGE, COUNT}
use Rattle.rules.specs.Bytes.{part}
use Rattle.rules.specs.Options.{option_run_from, count_said, differs}
use Rattle.rules.specs.Packages.{cut}
use Rattle.rules.specs.Message.{Head, head, payload_start, payload, checks_one_to_six, option_run_length, checks_eight_and_nine, checks_one_to_nine, checks_one_to_ten, every_check}
use Rattle.rules.specs.Reading.{MessageSpot, message_spot, message_at}
use Rattle.rules.proofs.Outcomes.{pass, halt, after, step, stop, stop_before, came_after, passed, stepped, good_inj, refused_alike, refused-only}
use Rattle.rules.proofs.Cut as Cut
use Rattle.rules.proofs.Loops.{rest}
use Rattle.rules.proofs.Shifted.{shifted, shifted-cut}
use Rattle.rules.proofs.Passed.{Sound}
use Rattle.rules.proofs.Run.{run_ends}
use Rattle.refusal.specs.declared.Why.TheVariants as why
use Rattle.message.proofs.Checks.{no_numbers}
use Rattle.message.proofs.Headers.{run-behind, run_inside, header_sound, Headed, short-run, same_checks, headed}
use Rattle.message.proofs.Messages.{by_bytes, framing, here}
use Rattle.message.specs.Answers.{tested_in, head_of, with_run, no_header, header_of, eight_and_nine, head_of_header, told_header, Opened, spot_behind_run, told_message, checked_run, front_run, header_in, front_at, payload_from, next_from}
use Rattle.message.specs.declared.Tested.{Tested}
use Rattle.message.specs.declared.Header.{Header}
use Rattle.std.specs.Prelude.{Ok, Err}

-- ---- checks 1 to 9 of the message at the start of s
module _ (p : ℕ) (s : List ℕ) where
  not_seven : {n q : ℕ} → bad n q ≡ option_run_length p s (head s) → bad n q ≡ checks_one_to_nine p s (head s)
  unfolding checks_one_to_nine
  not_seven e = sym (stop _ _ (sym e))

  -- h is the header, and its option run has n bytes
  module _ (h : Header) (n : ℕ) (eh : h ≡ header_of s n) (e : good n ≡ option_run_length p s (head s)) where
    gate : eight_and_nine p (head_of_header h) ≡ checks_eight_and_nine p s (head s)
    gate =
        let d = header_sound p s (head s) (sym e) in
        ap (eight_and_nine p) (headed p s n h e eh).same ∙ by_bytes p (head s) s d.most

    not_nine : {m q : ℕ} → bad m q ≡ eight_and_nine p (head_of_header h) → bad m q ≡ checks_one_to_nine p s (head s)
    unfolding checks_one_to_nine
    not_nine g = sym (step _ _ (sym e) (stop_before _ _ (sym (g ∙ gate))))

    nine-passed : good tt ≡ eight_and_nine p (head_of_header h) → good n ≡ checks_one_to_nine p s (head s)
    unfolding checks_one_to_nine
    nine-passed g = sym (step _ _ (sym e) (after _ _ (sym (g ∙ gate)) refl))

  -- a message without options: its run is empty
  pub plain : (t : Tested) (h : Header) → t ≡ tested_in (head s) → t.words ≡ 0 → good tt ≡ checks_one_to_six p s (head_of t) → h ≡ header_of s 0 → good tt ≡ eight_and_nine p (head_of_header h) → checks_one_to_nine p s (head s) ≡ good 0
  unfolding option_run_from
  plain t h et w six eh nine = sym (nine-passed h 0 eh (run-behind p s (head_of t) 24 (omega (arith, w)) six refl ∙ same_checks p s t et) nine)

-- ---- the message at a place of a recording
module _ (s : List ℕ) (p : ℕ) where
  -- all of it from the place on, as it is lent
  abbrev from : List ℕ
  from = take (length s - p) (drop p s)

  pub large : (nine : Bool) → 65536 < length s → bad LARGE 65536 ≡ checked_run s p nine
  unfolding checked_run
  large nine a = sym (halt _ _ _ _ (lt-ltb 65536 (length s) a))

  module _ (a : length s ≤ 65536) where
    seven_at : {o : Outcome ℕ} → o ≡ option_run_length p (drop p s) (head (drop p s)) → o ≡ checked_run s p false
    unfolding checked_run
    seven_at e = sym (pass _ _ _ _ (le-ltb 65536 (length s) a) (sym e))

    nine-at : {o : Outcome ℕ} → o ≡ checks_one_to_nine p (drop p s) (head (drop p s)) → o ≡ checked_run s p true
    unfolding checked_run
    nine-at e = sym (pass _ _ _ _ (le-ltb 65536 (length s) a) (sym e))

    pub behind : (nine : Bool) → length s < p → bad SHORT p ≡ checked_run s p nine
    behind false b = seven_at (short-run p (drop p s) (omega (arith, length-drop p s)))
    behind true b = nine-at (not_seven p (drop p s) (short-run p (drop p s) (omega (arith, length-drop p s))))

    pub seven-there : (nine : Bool) → nine ≡ false → {o : Outcome ℕ} → o ≡ option_run_length p from (head from) → o ≡ checked_run s p nine
    seven-there nine t e = rw t (seven_at (rw rest at e))

    pub not_seven_there : (nine : Bool) {n q : ℕ} → bad n q ≡ option_run_length p from (head from) → bad n q ≡ checked_run s p nine
    not_seven_there false e = seven_at (rw rest at e)
    not_seven_there true e = nine-at (not_seven p (drop p s) (rw rest at e))

    module _ (nine : Bool) (t : nine ≡ true) where
      module _ (h : Header) (n : ℕ) (eh : h ≡ header_of from n) (e : good n ≡ option_run_length p from (head from)) where
        pub not_nine_there : {m q : ℕ} → bad m q ≡ eight_and_nine p (head_of_header h) → bad m q ≡ checked_run s p nine
        not_nine_there g = rw t (nine-at (rw rest at (not_nine p from h n eh e g)))

        pub nine-there : good tt ≡ eight_and_nine p (head_of_header h) → good n ≡ checked_run s p nine
        nine-there g = rw t (nine-at (rw rest at (nine-passed p from h n eh e g)))

    pub plain-there : checks_one_to_nine p from (head from) ≡ good 0 → front_run s p ≡ good 0
    unfolding front_run
    plain-there e = pass _ _ _ _ (le-ltb 65536 (length s) a) (rw rest at e)

  pub header-behind : (n : ℕ) → length s < p → no_header ≡ header_in s p n
  unfolding header_in
  header-behind n a = no_numbers (drop p s) n (omega (arith, length-drop p s))

  pub header-there : (n : ℕ) → header_of from n ≡ header_in s p n
  unfolding header_in
  header-there n = rw rest

  pub front-is : checked_run s p true ≡ front_run s p
  unfolding checked_run front_run
  front-is = refl

  pub front-bad : {n q : ℕ} → bad n q ≡ front_run s p → bad n q ≡ front_at s p
  unfolding front_run front_at
  front-bad e = sym (refused_alike _ _ _ _ _ (λ z. stop _ _ z) (sym e))

  -- where it passes, and h is its header
  module _ (n : ℕ) (h : Header) (e : good n ≡ front_run s p) (eh : h ≡ header_in s p n) where
    -- checks 1 to 7 say how long its option run is, and 8 and 9 pass
    said : (option_run_length p (drop p s) (head (drop p s)) ≡ good n) × (checks_eight_and_nine p (drop p s) (head (drop p s)) ≡ good tt)
    unfolding front_run checks_one_to_nine
    said =
        let (m, o, z) = stepped _ _ (passed _ _ _ _ (sym e)).1 in
        let (c, d) = came_after _ _ z in
        (o ∙ d, c)

    seven_is : good n ≡ option_run_length p (drop p s) (head (drop p s))
    seven_is = sym said.0

    there : h ≡ header_of (drop p s) n
    unfolding header_in
    there = eh

    its : Headed p (drop p s) h
    its = headed p (drop p s) n h seven_is there

    pub front-good : told_header (Ok h) ≡ front_at s p
    unfolding front_run front_at
    front-good =
        let (a, g) = passed _ _ _ _ (sym e) in
        let r : h.run ≡ n = good_inj (sym its.run ∙ sym seven_is) in
        ap (λ (z : Head). good (z, h.run)) its.same ∙ ap (λ (m : ℕ). good (head (drop p s), m)) r ∙ sym (pass _ _ _ _ a (step _ _ g refl))

    -- what is left to check stands in the recording
    pub record Entered : Type 0 where
      pub inside : p ≤ length s
      pub opened : Opened from h p
      pub told : {o : Outcome MessageSpot} → o ≡ spot_behind_run p from (head_of_header h) h.run → o ≡ message_at s p

    pub entered : Entered
    unfolding front_run
    entered =
        let small = ltb-false 65536 (length s) (passed _ _ _ _ (sym e)).0 in
        let w = header_sound p (drop p s) (head (drop p s)) (sym seven_is) in
        let sound : Sound (drop p s) (head_of_header h) = subst (λ (x : Head). Sound (drop p s) x) (sym its.same) w in
        let long = length-drop p s in
        record {
          inside = omega (arith, w.long, long);
          opened = rw rest (record {
            nine = sym (gate p (drop p s) h n there seven_is ∙ said.1);
            least = sound.least;
            most = sound.most;
            run = run_inside p (drop p s) (head (drop p s)) (sym its.run);
            place = omega (arith, small, w.long, long);
          });
          told = λ f. here s p small (framing p (drop p s) h its (rw rest at f));
        }

-- ---- a cut at another place

pub cut-bad : (p : ℕ) (s : List ℕ) {n i : ℕ} → cut 0 s ≡ bad n i → cut p s ≡ bad n (p + i)
unfolding shifted
cut-bad p s e = rw add-zero at (shifted-cut p 0 s) ∙ ap (shifted p) e

pub cut-good : (p : ℕ) (s : List ℕ) {cs : List (List ℕ)} → cut 0 s ≡ good cs → cut p s ≡ good cs
cut-good p s e = Cut.complete (Cut.sound 0 0 s e) p

-- ---- from checks 1 to 9 to every check
module _ (p : ℕ) (s : List ℕ) (h : Head) where
  not_nine_not_every : {n q : ℕ} → checks_one_to_nine p s h ≡ bad n q → every_check p s h ≡ bad n q
  unfolding every_check checks_one_to_ten
  not_nine_not_every e = stop _ _ (stop _ _ e)

  module _ (n : ℕ) (nine : checks_one_to_nine p s h ≡ good n) where
    uncut : {m q : ℕ} → cut (p + payload_start h) (payload s h) ≡ bad m q → every_check p s h ≡ bad m q
    unfolding every_check checks_one_to_ten
    uncut e = stop _ _ (step _ _ nine (stop _ _ e))

    module _ (cs : List (List ℕ)) (e : cut (p + payload_start h) (payload s h) ≡ good cs) where
      ten : checks_one_to_ten p s h ≡ good (n, cs)
      unfolding checks_one_to_ten
      ten = step _ _ nine (step _ _ e refl)

      other : differs (count_said (part 24 (24 + n) s)) (length cs) ≡ true → every_check p s h ≡ bad COUNT p
      unfolding every_check
      other x = step _ _ ten (halt _ _ _ _ x)

      every : differs (count_said (part 24 (24 + n) s)) (length cs) ≡ false → every_check p s h ≡ good (n, cs)
      unfolding every_check
      every x = step _ _ ten (pass _ _ _ _ x refl)

  -- what checks 1 to 9 say of the header, and of its option run
  nine_sound : {n : ℕ} → checks_one_to_nine p s h ≡ good n → Sound s h
  unfolding checks_one_to_nine
  nine_sound e =
      let (m, o, z) = stepped _ _ e in
      header_sound p s h o

  nine-run : {n : ℕ} → checks_one_to_nine p s h ≡ good n → 24 + n ≤ payload_start h
  unfolding checks_one_to_nine option_run_length
  nine-run {n} e =
      let (m, o, z) = stepped _ _ e in
      let (a, b) = came_after _ _ o in
      let (c, d) = came_after _ _ z in
      let u : m ≡ n = good_inj d in
      let r = run_ends [] 0 (p + 24) 0 (part 24 (payload_start h) s) (omega arith) b in
      omega (arith, u, r.most, length-take (payload_start h - 24) (drop 24 s))

-- ---- for a caller that walks over the packages itself

-- a message that is refused by checks 1 to 9
pub front_stopped : (s : List ℕ) (k : ℕ) {n q : ℕ} → bad n q ≡ front_at s k → bad n q ≡ message_at s k
unfolding front_at message_at
front_stopped s k e = sym (refused_alike _ _ _ _ _ (λ z. stop _ _ (not_nine_not_every k (drop k s) (head (drop k s)) (refused-only _ _ z))) (sym e))

-- one that passes them
pub record Known (s : List ℕ) (k : ℕ) (h : Header) : Type 0 where
  pub small : length s ≤ 65536
  pub nine : checks_one_to_nine k (drop k s) (head (drop k s)) ≡ good h.run
  pub same : head_of_header h ≡ head (drop k s)

pub known : (s : List ℕ) (k : ℕ) (h : Header) → told_header (Ok h) ≡ front_at s k → Known s k h
unfolding front_at
known s k h e =
    let (a, g) = passed _ _ _ _ (sym e) in
    let (n, q, f) = stepped _ _ g in
    let z = good_inj f in
    let m : n ≡ h.run = ap (λ (r : Head × ℕ). r.1) z in
    record { small = ltb-false _ _ a; nine = rw (← m) q; same = ap (λ (r : Head × ℕ). r.0) (sym z) }

-- its places lie in the recording, in this order, and its option run lies in front of its payload
pub record Fronted (s : List ℕ) (k : ℕ) (h : Header) : Type 0 where
  pub whole : length s ≤ 65536
  pub within : next_from k h ≤ length s
  pub forth : payload_from k h ≤ next_from k h
  pub behind : k + 24 ≤ payload_from k h
  pub on : k < next_from k h
  pub run : k + 24 + h.run ≤ payload_from k h
  pub long : length (take (next_from k h - payload_from k h) (drop (payload_from k h) s)) ≡ next_from k h - payload_from k h
  pub small : length (take (next_from k h - payload_from k h) (drop (payload_from k h) s)) ≤ 65536

module _ (s : List ℕ) (k : ℕ) (h : Header) where
  -- the payload and the option run, as they are lent
  abbrev lent : List ℕ
  lent = take (next_from k h - payload_from k h) (drop (payload_from k h) s)

  abbrev options : List ℕ
  options = take (k + 24 + h.run - (k + 24)) (drop (k + 24) s)

  abbrev t : List ℕ
  t = drop k s

  module _ (f : Known s k h) where
    words_are : payload_start (head t) ≡ 24 + 4 * h.words
    words_are = sym (ap payload_start f.same)

    size_is : (head t).size ≡ h.length
    size_is = sym (ap (λ (x : Head). x.size) f.same)

    payload-at : k + payload_start (head t) ≡ payload_from k h
    payload-at = omega (arith, words_are)

    lent_is : lent ≡ payload t (head t)
    lent_is =
        let e : next_from k h - payload_from k h ≡ (head t).size - payload_start (head t) = omega (arith, words_are, size_is) in
        rw (e, ← payload-at, drop-drop)

    options-are : options ≡ part 24 (24 + h.run) t
    options-are =
        let e : k + 24 + h.run - (k + 24) ≡ 24 + h.run - 24 = omega arith in
        rw (e, drop-drop)

    in_order : Fronted s k h
    in_order =
        let d = nine_sound k t (head t) f.nine in
        let r = nine-run k t (head t) f.nine in
        let within : next_from k h ≤ length s = omega (arith, size_is, d.most, d.long, length-drop k s) in
        let forth : payload_from k h ≤ next_from k h = omega (arith, words_are, size_is, d.least) in
        let long : length lent ≡ next_from k h - payload_from k h = length-take-le (next_from k h - payload_from k h) (drop (payload_from k h) s) (omega (arith, length-drop (payload_from k h) s)) in
        record {
          whole = f.small;
          within = within;
          forth = forth;
          behind = omega arith;
          on = omega arith;
          run = omega (arith, r, words_are);
          long = long;
          small = omega (arith, long, f.small);
        }

    told-bad : {n q : ℕ} → every_check k t (head t) ≡ bad n q → bad n q ≡ message_at s k
    unfolding message_at
    told-bad e = sym (pass _ _ _ _ (le-ltb 65536 (length s) f.small) (stop _ _ e))

    module _ (cs : List (List ℕ)) (e : cut 0 lent ≡ good cs) where
      cut-there : cut (k + payload_start (head t)) (payload t (head t)) ≡ good cs
      cut-there = cut-good (k + payload_start (head t)) (payload t (head t)) (rw lent_is at e)

      told-count : differs (count_said options) (length cs) ≡ true → bad COUNT k ≡ message_at s k
      told-count x = told-bad (other k t (head t) h.run f.nine cs cut-there (rw options-are at x))

      told-good : differs (count_said options) (length cs) ≡ false
          → told_message (Ok (record { header = h; payload = payload_from k h; next = next_from k h; packages = length cs })) ≡ message_at s k
      unfolding message_at message_spot
      told-good x =
          sym
          (pass _ _ _ _ (le-ltb 65536 (length s) f.small)
          (step _ _ (every k t (head t) h.run f.nine cs cut-there (rw options-are at x))
          (ap (λ (y : Head). good (message_spot k y (h.run, cs))) (sym f.same))))

    told_package_lem : {n : ℕ} (i : ℕ) → cut 0 lent ≡ bad n i → bad n (payload_from k h + i) ≡ message_at s k
    told_package_lem {n} i e =
        let c : cut (payload_from k h) (payload t (head t)) ≡ bad n (payload_from k h + i) = cut-bad (payload_from k h) (payload t (head t)) (rw lent_is at e) in
        told-bad (uncut k t (head t) h.run f.nine (rw payload-at c))

  module _ (e : told_header (Ok h) ≡ front_at s k) where
    pub fronted : Fronted s k h
    fronted = in_order (known s k h e)

    -- one of its packages does not keep the rules
    pub front-uncut : {n i : ℕ} → cut 0 (take (next_from k h - payload_from k h) (drop (payload_from k h) s)) ≡ bad n i → bad n (payload_from k h + i) ≡ message_at s k
    front-uncut {i = i} c = told_package_lem (known s k h e) i c

    pub front_package : (i : ℕ) → cut 0 (take (next_from k h - payload_from k h) (drop (payload_from k h) s)) ≡ bad PACKAGE i
        → told_message (Err (record { why = why.Package; place = payload_from k h + i })) ≡ message_at s k
    front_package i c = told_package_lem (known s k h e) i c

    module _ (cs : List (List ℕ)) (c : cut 0 (take (next_from k h - payload_from k h) (drop (payload_from k h) s)) ≡ good cs) where
      -- its option run says another number of packages
      pub front-count : differs (count_said (take (k + 24 + h.run - (k + 24)) (drop (k + 24) s))) (length cs) ≡ true
          → told_message (Err (record { why = why.Count; place = k })) ≡ message_at s k
      front-count x = told-count (known s k h e) cs c x

      -- it passes
      pub front-message : differs (count_said (take (k + 24 + h.run - (k + 24)) (drop (k + 24) s))) (length cs) ≡ false
          → told_message (Ok (record { header = h; payload = payload_from k h; next = next_from k h; packages = length cs })) ≡ message_at s k
      front-message x = told-good (known s k h e) cs c x

-- ---- for a caller that needs nothing of the option run

module _ (s : List ℕ) (k n : ℕ) (e : good n ≡ front_run s k) where
  -- the numbers that are read are the message's, whatever is said of its option run
  pub numbers-there : (m : ℕ) → head_of_header (header_in s k m) ≡ head (drop k s)
  unfolding header_in header_of
  numbers-there m = go (ltb (length (drop k s)) 24) ∙ (its s k n (header_in s k n) e refl).same
    where
      go : (b : Bool) → head_of_header (elim b [ true ↦ no_header | false ↦ with_run (head (drop k s)) m ]) ≡ head_of_header (elim b [ true ↦ no_header | false ↦ with_run (head (drop k s)) n ])
      go true = refl
      go false = refl

  no_run : (header_in s k 0).run ≡ 0
  unfolding header_in header_of
  no_run = go (ltb (length (drop k s)) 24)
    where
      run_of : Header → ℕ
      run_of h = h.run

      go : (b : Bool) → run_of (elim b [ true ↦ no_header | false ↦ with_run (head (drop k s)) 0 ]) ≡ 0
      go true = refl
      go false = refl

  -- nor does its place depend on it
  pub fronted_alone : Fronted s k (header_in s k 0)
  fronted_alone =
      let f = fronted s k (header_in s k n) (front-good s k n (header_in s k n) e refl) in
      let same : head_of_header (header_in s k 0) ≡ head_of_header (header_in s k n) = numbers-there 0 ∙ sym (numbers-there n) in
      let words : (header_in s k 0).words ≡ (header_in s k n).words = ap (λ (x : Head). x.words) same in
      let size : (header_in s k 0).length ≡ (header_in s k n).length = ap (λ (x : Head). x.size) same in
      let long : length (take (next_from k (header_in s k 0) - payload_from k (header_in s k 0)) (drop (payload_from k (header_in s k 0)) s)) ≡ next_from k (header_in s k 0) - payload_from k (header_in s k 0) = rw (words, size) f.long in
      record {
        whole = f.whole;
        within = omega (arith, size, f.within);
        forth = omega (arith, words, size, f.forth);
        behind = omega arith;
        on = omega (arith, size, f.on);
        run = omega (arith, no_run);
        long = long;
        small = omega (arith, long, size, f.within, f.whole);
      }
