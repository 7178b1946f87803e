-- Every packet comes under exactly one count, and by exactly the facts that it is for.
use Prim.Native.Nat.{ℕ, ◌+◌}
use mathlib.Core.Path.{◌≡◌, refl, ap, sym, subst, ◌∙◌}
use mathlib.Core.Bool.{Bool, true, false, ◌&&◌}
use mathlib.Core.List.{List, [], ◌∷◌}
use native.Mathlib.Omega.{arith}
use borrow.Author.Tests.{leb-true, eqb-true, eqb-false, eq-eqb, ne_eqb}
use lib.Dec.{leb, eqb}
use lib.ListN.{length}
use Rattle.rules.specs.Bytes.{half}
use Rattle.rules.proofs.Outcomes.{both}
use Rattle.capture.specs.File.{Packet}
use Rattle.capture.specs.Frame.{ip_of, ip_header, for_us, lengths_fit, data_of}
use Rattle.capture.specs.Reading.{takes, one_message, Class, kept, not_for_us, cut_short, bad_message, class_of, Taken, counted, taken_of}
use Rattle.capture.specs.Claims.{OneKept, one, TakenExactly, PortBehind}
use Rattle.capture.proofs.Counting.{whole-one}

module _ (port : ℕ) (k : Packet) where
  abbrev ip : List ℕ
  ip = ip_of k.bytes

  -- what is known of a packet, one of four
  data Decided : Type 0 where
    is-kept : (c : List ℕ) → OneKept port k c → Decided
    is-other : for_us port k.bytes ≡ false → Decided
    is_cut_lem : for_us port k.bytes ≡ true → (length k.bytes ≡ k.original → ⊥) → Decided
    is-bad : for_us port k.bytes ≡ true → length k.bytes ≡ k.original → ((c : List ℕ) → OneKept port k c → ⊥) → Decided

  passing : (c : List ℕ) → OneKept port k c → (lengths_fit ip && one_message (data_of ip)) ≡ true
  unfolding one_message takes
  passing c w = rw (w.fits, w.content, w.passes.1) (eq-eqb (length c) (length c) refl)

  decide : Decided
  decide = go (for_us port k.bytes) refl (eqb (length k.bytes) k.original) refl (lengths_fit ip && one_message (data_of ip)) refl
    where
      go : (a : Bool) → for_us port k.bytes ≡ a → (b : Bool) → eqb (length k.bytes) k.original ≡ b → (d : Bool) → (lengths_fit ip && one_message (data_of ip)) ≡ d → Decided
      go false x b y d z = is-other x
      go true x false y d z = is_cut_lem x (eqb-false _ _ y)
      go true x true y false z = is-bad x (eqb-true _ _ y) (λ c w. let q : false ≡ true = sym z ∙ passing c w in let n : ◌≡◌ {A = ℕ} 0 1 = cc in omega arith)
      go true x true y true z =
          let (f, m) = both _ _ z in
          let w = whole-one (data_of ip) m in
          is-kept (data_of ip) (record { ours = x; uncut = eqb-true _ _ y; fits = f; content = refl; passes = (w.held, w.reads) })

  class_kept : (c : List ℕ) → OneKept port k c → class_of port k ≡ kept c
  unfolding class_of
  class_kept c w = rw (w.ours, eq-eqb (length k.bytes) k.original w.uncut, passing c w, class_of) (ap kept w.content)

  class_other : for_us port k.bytes ≡ false → class_of port k ≡ not_for_us
  unfolding class_of
  class_other x = rw (x, class_of)

  class_cut : for_us port k.bytes ≡ true → (length k.bytes ≡ k.original → ⊥) → class_of port k ≡ cut_short
  unfolding class_of
  class_cut x d = rw (x, ne_eqb (length k.bytes) k.original d, class_of)

  class_bad : for_us port k.bytes ≡ true → length k.bytes ≡ k.original → ((c : List ℕ) → OneKept port k c → ⊥) → class_of port k ≡ bad_message
  unfolding class_of
  class_bad x u never = go (lengths_fit ip && one_message (data_of ip)) refl
    where
      go : (d : Bool) → (lengths_fit ip && one_message (data_of ip)) ≡ d → class_of port k ≡ bad_message
      go false z = rw (x, eq-eqb (length k.bytes) k.original u, z, class_of)
      go true z =
          let (f, m) = both _ _ z in
          let w = whole-one (data_of ip) m in
          absurd (never (data_of ip) (record { ours = x; uncut = u; fits = f; content = refl; passes = (w.held, w.reads) }))

-- the four classes are apart
abbrev tag : Class → ℕ
tag (kept c) = 0
tag not_for_us = 1
tag cut_short = 2
tag bad_message = 3

module _ (port : ℕ) (k : Packet) where
  kept_known : (c : List ℕ) → class_of port k ≡ kept c → OneKept port k c
  kept_known c e = go (decide port k)
    where
      go : Decided port k → OneKept port k c
      go (is-kept d w) = let q : kept d ≡ kept c = sym (class_kept port k d w) ∙ e in let r : d ≡ c = cc in subst (OneKept port k) r w
      go (is-other x) = let z : ◌≡◌ {A = ℕ} 1 0 = ap tag (sym (class_other port k x) ∙ e) in absurd (omega arith)
      go (is_cut_lem x d) = let z : ◌≡◌ {A = ℕ} 2 0 = ap tag (sym (class_cut port k x d) ∙ e) in absurd (omega arith)
      go (is-bad x u n) = let z : ◌≡◌ {A = ℕ} 3 0 = ap tag (sym (class_bad port k x u n) ∙ e) in absurd (omega arith)

  other_known : class_of port k ≡ not_for_us → for_us port k.bytes ≡ false
  other_known e = go (decide port k)
    where
      go : Decided port k → for_us port k.bytes ≡ false
      go (is-kept d w) = let z : ◌≡◌ {A = ℕ} 0 1 = ap tag (sym (class_kept port k d w) ∙ e) in absurd (omega arith)
      go (is-other x) = x
      go (is_cut_lem x d) = let z : ◌≡◌ {A = ℕ} 2 1 = ap tag (sym (class_cut port k x d) ∙ e) in absurd (omega arith)
      go (is-bad x u n) = let z : ◌≡◌ {A = ℕ} 3 1 = ap tag (sym (class_bad port k x u n) ∙ e) in absurd (omega arith)

  cut_known : class_of port k ≡ cut_short → (for_us port k.bytes ≡ true) × (length k.bytes ≡ k.original → ⊥)
  cut_known e = go (decide port k)
    where
      go : Decided port k → (for_us port k.bytes ≡ true) × (length k.bytes ≡ k.original → ⊥)
      go (is-kept d w) = let z : ◌≡◌ {A = ℕ} 0 2 = ap tag (sym (class_kept port k d w) ∙ e) in absurd (omega arith)
      go (is-other x) = let z : ◌≡◌ {A = ℕ} 1 2 = ap tag (sym (class_other port k x) ∙ e) in absurd (omega arith)
      go (is_cut_lem x d) = (x, d)
      go (is-bad x u n) = let z : ◌≡◌ {A = ℕ} 3 2 = ap tag (sym (class_bad port k x u n) ∙ e) in absurd (omega arith)

  bad_known : class_of port k ≡ bad_message → (for_us port k.bytes ≡ true) × (length k.bytes ≡ k.original) × ((c : List ℕ) → OneKept port k c → ⊥)
  bad_known e = go (decide port k)
    where
      go : Decided port k → (for_us port k.bytes ≡ true) × (length k.bytes ≡ k.original) × ((c : List ℕ) → OneKept port k c → ⊥)
      go (is-kept d w) = let z : ◌≡◌ {A = ℕ} 0 3 = ap tag (sym (class_kept port k d w) ∙ e) in absurd (omega arith)
      go (is-other x) = let z : ◌≡◌ {A = ℕ} 1 3 = ap tag (sym (class_other port k x) ∙ e) in absurd (omega arith)
      go (is_cut_lem x d) = let z : ◌≡◌ {A = ℕ} 2 3 = ap tag (sym (class_cut port k x d) ∙ e) in absurd (omega arith)
      go (is-bad x u n) = (x, u, n)

-- what is taken of one packet says its class
single : (port : ℕ) (k : Packet) (c : Class) → class_of port k ≡ c → taken_of port (k ∷ []) ≡ counted c (one [] 0 0 0)
unfolding taken_of
single port k c e = rw e

apart : (c d : Class) → counted c (one [] 0 0 0) ≡ counted d (one [] 0 0 0) → c ≡ d
unfolding counted
apart (kept c) (kept d) e = let q : c ∷ [] ≡ d ∷ [] = ap (λ (t : Taken). t.messages) e in ap kept cc
apart (kept c) not_for_us e = let z : ◌≡◌ {A = ℕ} 0 1 = ap (λ (t : Taken). t.not_for_us) e in absurd (omega arith)
apart (kept c) cut_short e = let z : ◌≡◌ {A = ℕ} 0 1 = ap (λ (t : Taken). t.cut_short) e in absurd (omega arith)
apart (kept c) bad_message e = let z : ◌≡◌ {A = ℕ} 0 1 = ap (λ (t : Taken). t.bad_message) e in absurd (omega arith)
apart not_for_us (kept d) e = let z : ◌≡◌ {A = ℕ} 1 0 = ap (λ (t : Taken). t.not_for_us) e in absurd (omega arith)
apart not_for_us not_for_us e = refl
apart not_for_us cut_short e = let z : ◌≡◌ {A = ℕ} 0 1 = ap (λ (t : Taken). t.cut_short) e in absurd (omega arith)
apart not_for_us bad_message e = let z : ◌≡◌ {A = ℕ} 0 1 = ap (λ (t : Taken). t.bad_message) e in absurd (omega arith)
apart cut_short (kept d) e = let z : ◌≡◌ {A = ℕ} 1 0 = ap (λ (t : Taken). t.cut_short) e in absurd (omega arith)
apart cut_short not_for_us e = let z : ◌≡◌ {A = ℕ} 0 1 = ap (λ (t : Taken). t.not_for_us) e in absurd (omega arith)
apart cut_short cut_short e = refl
apart cut_short bad_message e = let z : ◌≡◌ {A = ℕ} 0 1 = ap (λ (t : Taken). t.bad_message) e in absurd (omega arith)
apart bad_message (kept d) e = let z : ◌≡◌ {A = ℕ} 1 0 = ap (λ (t : Taken). t.bad_message) e in absurd (omega arith)
apart bad_message not_for_us e = let z : ◌≡◌ {A = ℕ} 0 1 = ap (λ (t : Taken). t.not_for_us) e in absurd (omega arith)
apart bad_message cut_short e = let z : ◌≡◌ {A = ℕ} 0 1 = ap (λ (t : Taken). t.cut_short) e in absurd (omega arith)
apart bad_message bad_message e = refl

class_said : (port : ℕ) (k : Packet) (c : Class) → taken_of port (k ∷ []) ≡ counted c (one [] 0 0 0) → class_of port k ≡ c
class_said port k c e = apart (class_of port k) c (sym (single port k (class_of port k) refl) ∙ e)

pub taken-exactly : TakenExactly
unfolding counted
taken-exactly = record {
  kept = λ port k c. ((λ e. kept_known port k c (class_said port k (kept c) e)), λ w. single port k (kept c) (class_kept port k c w));
  not_for_us = λ port k. ((λ e. other_known port k (class_said port k not_for_us e)), λ x. single port k not_for_us (class_other port k x));
  cut_short = λ port k. ((λ e. cut_known port k (class_said port k cut_short e)), λ w. single port k cut_short (class_cut port k w.0 w.1));
  bad_message = λ port k. ((λ e. bad_known port k (class_said port k bad_message e)), λ w. single port k bad_message (class_bad port k w.0 w.1 w.2));
}

-- a datagram whose UDP header is not within its IP packet
pub port_behind : PortBehind
unfolding lengths_fit counted
port_behind port k x u h =
    single port k bad_message
    (class_bad port k x u (λ c w.
    let (a, _) = both _ _ w.fits in
    let (a, _) = both _ _ a in
    let (a, _) = both (leb (ip_header (ip_of k.bytes) + 8) (half (ip_of k.bytes) 2)) (leb (half (ip_of k.bytes) 2) (length (ip_of k.bytes))) a in
    let l = leb-true (ip_header (ip_of k.bytes) + 8) (half (ip_of k.bytes) 2) a in omega arith))
