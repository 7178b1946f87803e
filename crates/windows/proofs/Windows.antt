-- What a window's reading says of what is handed over, and of the whole recording.
use Prim.Native.Nat.{ℕ, ◌+◌, ◌≤◌, ◌<◌}
use mathlib.Core.Path.{◌≡◌, refl, ap, sym, subst, ◌∙◌}
use mathlib.Core.Bool.{Bool, true, false, ◌&&◌}
use mathlib.Core.Logic.{◌⊎◌, inl, inr, ⊎_elim}
use mathlib.Core.List.{List, [], ◌++◌, append_assoc, append-nil}
use native.Mathlib.Omega.{arith}
use native.Mathlib.Nat.{zero-add, pos_of_ne-zero}
use borrow.Author.Tests.{ltb-true, ltb-false, leb-true, le-leb, eqb-true, eq-eqb}
use lib.Dec.{ltb, leb, eqb}
use lib.ListN.{length, take, drop, length-append, take-append-drop}
use lib.Seq.{take_all, take-append_seam, take-append-le, drop-append-le}
use Rattle.rules.specs.Outcome.{Outcome, good, bad, SHORT, CUT, LARGE}
use Rattle.rules.specs.Bytes.{join}
use Rattle.rules.specs.Items.{items}
use Rattle.rules.specs.Message.{Message, message, recording}
use Rattle.rules.proofs.Outcomes.{halt, passed, refused_pass, bad_inj, good_inj, good≢bad, both}
use Rattle.rules.proofs.Gives.{cut-place}
use Rattle.rules.proofs.Walk.{items_stop}
use Rattle.rules.proofs.Final.{final}
use Rattle.rules.proofs.Reasons.{messages_stopped, messages-refused}
use Rattle.numbered.proofs.Messages.{own-front, messages-append, small-recording, never_large}
use Rattle.numbered.proofs.Stops.{refused-joined}
use Rattle.windows.specs.Window.{is_cut, ending_before, handed_by, handed_over}
use Rattle.windows.specs.Claims.{HandedOver, FirstCut, Windows, last, next}

-- ---- numbers that say that a message's end is not there

cut-is : (n : ℕ) → is_cut n ≡ true → (n ≡ SHORT) ⊎ (n ≡ CUT)
cut-is n e = go (eqb n SHORT) refl
  where
    go : (b : Bool) → eqb n SHORT ≡ b → (n ≡ SHORT) ⊎ (n ≡ CUT)
    go true z = inl (eqb-true _ _ z)
    go false z = inr (eqb-true n CUT (rw z at e))

is_cut_lem : (n : ℕ) → (n ≡ SHORT) ⊎ (n ≡ CUT) → is_cut n ≡ true
is_cut_lem n (inl e) = rw e
is_cut_lem n (inr e) = rw e

not_cut : (n : ℕ) → is_cut n ≡ false → (n ≡ SHORT → ⊥) × (n ≡ CUT → ⊥)
not_cut n e = (λ z. no (is_cut_lem n (inl z)), λ z. no (is_cut_lem n (inr z)))
  where
    no : is_cut n ≡ true → ⊥
    no z = let w : ◌≡◌ {A = ℕ} 0 1 = cc in omega arith

-- ---- the reading of a window

-- a window that is refused with another number is refused at a message
refused-message : (window : List ℕ) (n p : ℕ) → (n ≡ LARGE → ⊥) → recording window ≡ bad n p → items message 0 0 window ≡ bad n p
unfolding recording
refused-message window n p not-large e = ⊎_elim (λ w. absurd (not-large (sym w.1))) (λ o. o) (refused_pass _ _ _ _ e)

passed-window : (window : List ℕ) (ms : List Message) → recording window ≡ good ms → items message 0 0 window ≡ good ms
unfolding recording
passed-window window ms e = (passed _ _ _ _ e).1

-- ---- a message that the window's end cuts

pub record CutWindow (window : List ℕ) (n p : ℕ) : Type 0 where
  pub inside : p < length window
  pub messages : List Message
  pub read : items message 0 0 (take p window) ≡ good messages
  pub refused : message p (drop p window) ≡ bad n p

cut-window : (window : List ℕ) (n p : ℕ) → is_cut n ≡ true → recording window ≡ bad n p → CutWindow window n p
cut-window window n p c e =
    let k = cut-is n c in
    let w = messages_stopped window (refused-message window n p (λ z. ⊎_elim (λ a. omega (arith, a, z)) (λ a. omega (arith, a, z)) k) e) in
    let r = rw zero-add at w.refused in
    let z = cut-place _ _ n p r k in
    record {
      inside = omega (arith, w.inside, z);
      messages = w.before;
      read = ap (λ (j : ℕ). items message 0 0 (take j window)) z ∙ w.passes;
      refused = ap (λ (j : ℕ). message j (drop j window)) z ∙ r;
    }

-- by its number
cut-both : (n q : ℕ) (o : Outcome (Message × ℕ)) → is_cut n ≡ true → o ≡ bad n q → (o ≡ bad SHORT q) ⊎ (o ≡ bad CUT q)
cut-both n q o c e = ⊎_elim (λ z. inl (e ∙ ap (λ (k : ℕ). bad k q) z)) (λ z. inr (e ∙ ap (λ (k : ℕ). bad k q) z)) (cut-is n c)

-- where the bytes that are handed over end
ending : (size p n : ℕ) → ending_before size p ≡ good n → ((p ≡ 0) → 65536 ≤ size → ⊥) × (p ≡ n)
unfolding ending_before
ending size p n e =
    let (t, f) = passed _ _ _ _ e in
    (λ z l. let w : (eqb p 0 && leb 65536 size) ≡ true = rw (eq-eqb p 0 z, le-leb 65536 size l) in let v : ◌≡◌ {A = ℕ} 0 1 = cc in omega arith, good_inj f)

ending_large : (size p n q : ℕ) → ending_before size p ≡ bad n q → (p ≡ 0) × (65536 ≤ size) × (n ≡ LARGE) × (q ≡ 0)
unfolding ending_before
ending_large size p n q e =
    ⊎_elim
    (λ w. let (a, b) = both _ _ w.0 in (eqb-true _ _ a, leb-true _ _ b, sym w.1, sym w.2))
    (λ o. absurd (good≢bad (sym o)))
    (refused_pass _ _ _ _ e)

-- ---- what a window hands over

handed-cut : (goesOn : Bool) (window : List ℕ) (k p n : ℕ) → goesOn ≡ true → is_cut k ≡ true → recording window ≡ bad k p → ending_before (length window) p ≡ good n → HandedOver goesOn window n
handed-cut goesOn window k p n g c e f =
    let w = cut-window window k p c e in
    let (some, z) = ending (length window) p n f in
    subst (HandedOver goesOn window) z (record {
      inside = omega (arith, w.inside);
      messages = w.messages;
      read = w.read;
      kept = λ l. cut-both k p _ c w.refused;
      all = λ no. let v : ◌≡◌ {A = Bool} true false = sym g ∙ no in let u : ◌≡◌ {A = ℕ} 0 1 = cc in absurd (omega (arith, u));
      onward = λ full. pos_of_ne-zero (λ none. some none (omega (arith, full)));
    })

handed-all : (goesOn : Bool) (window : List ℕ) (ms : List Message) (n : ℕ) → recording window ≡ good ms → length window ≡ n → HandedOver goesOn window n
handed-all goesOn window ms n e z = record {
  inside = omega (arith, z);
  messages = ms;
  read = ap (items message 0 0) (take_all n window (omega (arith, z))) ∙ passed-window window ms e;
  kept = λ l. absurd (omega (arith, z, l));
  all = λ g. sym z;
  onward = λ full. omega (arith, z, full);
}

pub hands_over : (goesOn : Bool) (window : List ℕ) (n : ℕ) → handed_over goesOn window ≡ good n → HandedOver goesOn window n
unfolding handed_over handed_by
hands_over goesOn window n e = go (recording window) refl e
  where
    by_test : (k p : ℕ) (b : Bool) → recording window ≡ bad k p → (goesOn && is_cut k) ≡ b → elim b [ true ↦ ending_before (length window) p | false ↦ bad k p ] ≡ good n → HandedOver goesOn window n
    by_test k p true r t f = let (g, c) = both _ _ t in handed-cut goesOn window k p n g c r f
    by_test k p false r t f = absurd (good≢bad f)

    go : (o : Outcome (List Message)) → recording window ≡ o → handed_by goesOn (length window) o ≡ good n → HandedOver goesOn window n
    go (good ms) r f = handed-all goesOn window ms n r (good_inj f)
    go (bad k p) r f = by_test k p (goesOn && is_cut k) r refl f

-- ---- how a window is refused

pub data Refused (goesOn : Bool) (window : List ℕ) (n p : ℕ) : Type 0 where
  large : (k : ℕ) → goesOn ≡ true → is_cut k ≡ true → recording window ≡ bad k 0 → 65536 ≤ length window → n ≡ LARGE → p ≡ 0 → Refused goesOn window n p
  final_there : (goesOn && is_cut n) ≡ false → recording window ≡ bad n p → Refused goesOn window n p

refused-window : (goesOn : Bool) (window : List ℕ) (n p : ℕ) → handed_over goesOn window ≡ bad n p → Refused goesOn window n p
unfolding handed_over handed_by
refused-window goesOn window n p e = go (recording window) refl e
  where
    by_test : (k q : ℕ) (b : Bool) → recording window ≡ bad k q → (goesOn && is_cut k) ≡ b → ◌≡◌ {A = Outcome ℕ} (elim b [ true ↦ ending_before (length window) q | false ↦ bad k q ]) (bad n p) → Refused goesOn window n p
    by_test k q true r t f =
        let (g, c) = both _ _ t in
        let (z, l, a, b) = ending_large (length window) q n p f in
        large k g c (r ∙ ap (λ (j : ℕ). bad k j) z) l a b
    by_test k q false r t f =
        let (a, b) = bad_inj f in
        final_there (ap (λ (j : ℕ). goesOn && is_cut j) (sym a) ∙ t) (r ∙ ap (λ (j : ℕ). bad j q) a ∙ ap (bad n) b)

    go : (o : Outcome (List Message)) → recording window ≡ o → handed_by goesOn (length window) o ≡ bad n p → Refused goesOn window n p
    go (good ms) r f = absurd (good≢bad (sym f))
    go (bad k q) r f = by_test k q (goesOn && is_cut k) r refl f

-- ---- the refusal of the whole recording

-- the message that is refused, with what the recording has behind the window
still_refused : (goesOn : Bool) (s behind : List ℕ) (d n p : ℕ) → (goesOn && is_cut n) ≡ false → (goesOn ≡ false → behind ≡ []) → message d s ≡ bad n p → message d (s ++ behind) ≡ bad n p
still_refused false s behind d n p t h e = ap (λ (l : List ℕ). message d (s ++ l)) (h refl) ∙ ap (message d) (append-nil s) ∙ e
still_refused true s behind d n p t h e = let (a, b) = not_cut n t in final d s behind n p a b e

whole-refused : (before window behind : List ℕ) (goesOn : Bool) (ms : List Message) (n p : ℕ) → items message 0 0 before ≡ good ms → (goesOn ≡ false → behind ≡ [])
    → (goesOn && is_cut n) ≡ false → items message 0 0 window ≡ bad n p → items message 0 0 (before ++ window ++ behind) ≡ bad n (length before + p)
whole-refused before window behind goesOn ms n p b h t e =
    let w = messages_stopped window e in
    let l : w.place ≤ length window = omega (arith, w.inside) in
    ap (items message 0 0) (append_assoc before window behind)
    ∙ refused-joined before (window ++ behind) b
    (messages-refused (window ++ behind) w.place (omega (arith, length-append window behind, w.inside)) (ap (items message 0 0) (take-append-le w.place window behind l) ∙ w.passes)
    (ap (message w.place) (drop-append-le w.place window behind l) ∙ still_refused goesOn (drop w.place window) behind w.place n p t h (rw zero-add at w.refused)))

pub refused_as_whole : (before window behind : List ℕ) (goesOn : Bool) (ms : List Message) (n p : ℕ) → items message 0 0 before ≡ good ms → (goesOn ≡ false → behind ≡ [])
    → length window ≤ 65536 → handed_over goesOn window ≡ bad n p → (n ≡ LARGE → ⊥) → items message 0 0 (before ++ window ++ behind) ≡ bad n (length before + p)
refused_as_whole before window behind goesOn ms n p b h l e not-large = go (refused-window goesOn window n p e)
  where
    go : Refused goesOn window n p → items message 0 0 (before ++ window ++ behind) ≡ bad n (length before + p)
    go (large k g c r s a z) = absurd (not-large a)
    go (final_there t r) = whole-refused before window behind goesOn ms n p b h t (refused-message window n p not-large r)

-- ---- LARGE

pub large-only : (goesOn : Bool) (window : List ℕ) (p : ℕ) → length window ≤ 65536 → handed_over goesOn window ≡ bad LARGE p → FirstCut goesOn window × (p ≡ 0)
large-only goesOn window p l e = go (refused-window goesOn window LARGE p e)
  where
    go : Refused goesOn window LARGE p → FirstCut goesOn window × (p ≡ 0)
    go (large k g c r s a z) = (record { goes_on = g; full = omega (arith, l, s); cut = cut-both k 0 _ c (cut-window window k 0 c r).refused }, z)
    go (final_there t r) = absurd ((never_large window).given LARGE p (sym (small-recording window l) ∙ r) refl)

cut-handed : (window : List ℕ) (k : ℕ) → length window ≡ 65536 → is_cut k ≡ true → message 0 window ≡ bad k 0 → handed_over true window ≡ bad LARGE 0
unfolding handed_over handed_by ending_before
cut-handed window k full c e =
    let r : recording window ≡ bad k 0 = small-recording window (omega (arith, full)) ∙ items_stop message 0 window (omega (arith, full)) e in
    rw (r, handed_by, c) (halt _ _ _ _ (le-leb 65536 (length window) (omega (arith, full))))

pub large-always : (goesOn : Bool) (window : List ℕ) → FirstCut goesOn window → handed_over goesOn window ≡ bad LARGE 0
large-always goesOn window f = ap (λ (b : Bool). handed_over b window) f.goes_on ∙ ⊎_elim (λ e. cut-handed window SHORT f.full refl e) (λ e. cut-handed window CUT f.full refl e) f.cut

-- a message within the window would be read there
within-read : (window behind : List ℕ) (p : ℕ) (m : Message) (n : ℕ) → n ≤ length window → message p (window ++ behind) ≡ good (m, n) → message 0 window ≡ good (m, n)
within-read window behind p m n l e = ap (message 0) (sym (take-append_seam window behind)) ∙ own-front p 0 (length window) (window ++ behind) m n l e

pub large-longer : (goesOn : Bool) (window behind : List ℕ) (p : ℕ) (m : Message) (n : ℕ) → FirstCut goesOn window → message p (window ++ behind) ≡ good (m, n) → 65536 < n
large-longer goesOn window behind p m n f e = go (ltb 65536 n) refl
  where
    go : (b : Bool) → ltb 65536 n ≡ b → 65536 < n
    go true t = ltb-true _ _ t
    go false t =
        let r = within-read window behind p m n (omega (arith, f.full, ltb-false 65536 n t)) e in
        absurd (⊎_elim (λ c. good≢bad (sym c ∙ r)) (λ c. good≢bad (sym c ∙ r)) f.cut)

-- ---- a recording, window by window

pub windows_join : {whole : List ℕ} {parts : List (List ℕ)} → Windows whole parts → join parts ≡ whole
windows_join (last {window = window} n e) = append-nil (take n window) ∙ take_all n window (omega (arith, (hands_over false window n e).all refl))
windows_join (next {parts = parts} window behind n e w) =
    ap (λ (l : List ℕ). take n window ++ l) (windows_join w) ∙ sym (append_assoc (take n window) (drop n window) behind) ∙ ap (λ (l : List ℕ). l ++ behind) (take-append-drop n window)

pub windows_pass : {whole : List ℕ} {parts : List (List ℕ)} → Windows whole parts → (ms : List Message) × (items message 0 0 whole ≡ good ms)
windows_pass (last {window = window} n e) =
    let h = hands_over false window n e in
    (h.messages, ap (items message 0 0) (sym (take_all n window (omega (arith, h.all refl)))) ∙ h.read)
windows_pass (next {parts = parts} window behind n e w) =
    let h = hands_over true window n e in
    let (ms, r) = windows_pass w in
    let z : window ++ behind ≡ take n window ++ (drop n window ++ behind) = ap (λ (l : List ℕ). l ++ behind) (sym (take-append-drop n window)) ∙ append_assoc (take n window) (drop n window) behind in
    (h.messages ++ ms, ap (items message 0 0) z ∙ messages-append 0 0 0 (take n window) (drop n window ++ behind) (omega arith) h.read r)
