-- The class of a packet as the code finds it.
use Prim.Native.Nat.{ℕ, ◌+◌, ◌-◌, ◌≤◌}
use mathlib.Core.Path.{◌≡◌, refl, ap, sym, ◌∙◌}
use mathlib.Core.Bool.{Bool, true, false}
use mathlib.Core.List.{List}
use native.Mathlib.Nat.{zero-add}
use native.Mathlib.Omega.{arith}
use borrow.Author.Tests.{leb-true, eq-eqb, ne_eqb}
use lib.Dec.{leb, eqb}
use lib.ListN.{length, take, drop, length-drop, length-take}
use lib.Seq.{drop-drop}
use Rattle.rules.specs.Outcome.{Outcome, good, bad}
use Rattle.rules.specs.Bytes.{half, part}
use Rattle.rules.specs.Message as rule
use Rattle.rules.specs.Reading.{message_at}
use Rattle.rules.proofs.Outcomes.{both, good≢bad}
use Rattle.rules.proofs.Spots.{of_record, spot-read}
use Rattle.rules.proofs.Loops.{rest}
use Rattle.rules.proofs.Alone.{message-inside}
use Rattle.std.specs.Prelude.{Result, Ok, Err, MatchResult}
use Rattle.refusal.specs.Numbers.{refused, outcome_by}
use Rattle.refusal.specs.declared.Refusal.{Refusal}
use Rattle.message.specs.declared.Message.{Message}
use Rattle.message.specs.Answers.{spot_of_message}
use Rattle.capture.specs.Frame.{ip_of, ip_header, for_us, lengths_fit, data_of}
use Rattle.capture.specs.Reading.{takes, one_message, kept, not_for_us, cut_short, bad_message, class_of}
use Rattle.capture.specs.Told.{packet_by}
use Rattle.capture.proofs.Counting.{whole-one}

-- ---- one message

module _ (s : List ℕ) where
  pub one-refused : length s ≤ 65536 → (f : Refusal) → refused f ≡ message_at s 0 → false ≡ one_message s
  unfolding one_message takes
  one-refused l f e = go (rule.message 0 s) refl
    where
      go : (o : Outcome (rule.Message × ℕ)) → rule.message 0 s ≡ o → false ≡ takes (length s) o
      go (good r) q = let (k, g) = spot-read s 0 l r.0 r.1 q in absurd (good≢bad (e ∙ g))
      go (bad n p) q = refl

  pub one-read : (m : Message) → good (spot_of_message m) ≡ message_at s 0 → eqb m.next (length s) ≡ one_message s
  unfolding one_message takes
  one-read m e =
      let w = of_record s 0 _ (sym e) in
      let n : m.next ≡ 0 + m.header.length = w.5 in
      rw (w.1, n, zero-add)

  pub one-by : length s ≤ 65536 → (r : Result Message Refusal) (b : Bool) → outcome_by spot_of_message r ≡ message_at s 0 → MatchResult r (λ (m : Message). b ≡ eqb m.next (length s)) (λ (x : Refusal). b ≡ false) → b ≡ one_message s
  one-by l (Ok m) b e h = h ∙ one-read m e
  one-by l (Err f) b e h = h ∙ one-refused l f e

-- ---- what the tests leave known

pub for_us-long : (port : ℕ) (frame : List ℕ) (b : Bool) → b ≡ for_us port frame → b ≡ true → (34 ≤ length frame) × (20 ≤ ip_header (ip_of frame))
unfolding for_us
for_us-long port frame b e t =
    let (x, _) = both _ _ (sym e ∙ t) in
    let (x, _) = both _ _ x in
    let (x, _) = both _ _ x in
    let (x, _) = both _ _ x in
    let (x, h) = both _ _ x in
    let (x, _) = both _ _ x in
    let (x, _) = both _ _ x in
    (leb-true 34 (length frame) x, leb-true 20 (ip_header (ip_of frame)) h)

pub record Fitted (ip : List ℕ) (h u : ℕ) : Type 0 where
  pub least : h + 8 ≤ h + u
  pub most : h + u ≤ length ip

pub fitted : (ip : List ℕ) (b : Bool) → b ≡ lengths_fit ip → b ≡ true → (h : ℕ) → h ≡ ip_header ip → (u : ℕ) → u ≡ half ip (h + 4) → Fitted ip h u
unfolding lengths_fit
fitted ip b e t h eh u eu =
    let same : u ≡ half ip (ip_header ip + 4) = eu ∙ ap (λ (x : ℕ). half ip (x + 4)) eh in
    let (x, d) = both _ _ (sym e ∙ t) in
    let (x, c) = both _ _ x in
    let (a, m) = both (leb (ip_header ip + 8) (half ip 2)) (leb (half ip 2) (length ip)) x in
    let c = leb-true 8 (half ip (ip_header ip + 4)) c in
    let d = leb-true (ip_header ip + half ip (ip_header ip + 4)) (half ip 2) d in
    let m = leb-true (half ip 2) (length ip) m in
    record { least = omega (arith, same, c); most = omega (arith, same, eh, d, m) }

-- where the data is in the frame, if it is a message
module _ (frame : List ℕ) (h u : ℕ) (l : (34 ≤ length frame) × (20 ≤ ip_header (ip_of frame))) (f : Fitted (take (length frame - 14) (drop 14 frame)) h u) where
  pub inside : h ≡ ip_header (take (length frame - 14) (drop 14 frame)) → (r : Bool) → r ≡ one_message (part (h + 8) (h + u) (take (length frame - 14) (drop 14 frame))) → r ≡ true
      → (42 ≤ 14 + (h + 8)) × (14 + (h + 8) + 24 ≤ 14 + (h + u)) × (14 + (h + u) ≤ length frame)
  inside e r er hr =
      let ip = take (length frame - 14) (drop 14 frame) in
      let m = whole-one (part (h + 8) (h + u) ip) (sym er ∙ hr) in
      let (least, _) = message-inside 0 (part (h + 8) (h + u) ip) m.held (length (part (h + 8) (h + u) ip)) m.reads in
      let n = length-take (h + u - (h + 8)) (drop (h + 8) ip) in (
        omega (arith, l.1, e, ap ip_header (rest frame 14)),
        omega (arith, least, n),
        omega (arith, l.0, f.most, length-drop 14 frame, ap length (rest frame 14)),
      )

-- ---- the class

module _ (port : ℕ) (frame : List ℕ) (original : ℕ) (b : Bool) (eb : b ≡ for_us port frame) where
  pub other_port : b ≡ false → not_for_us ≡ class_of port (packet_by frame original)
  unfolding class_of
  other_port h = rw (← eb, h, class_of)

  module _ (hb : b ≡ true) (n : ℕ) (en : n ≡ original) where
    pub not_whole : (length frame ≡ n → ⊥) → cut_short ≡ class_of port (packet_by frame original)
    unfolding class_of
    not_whole d = rw (← eb, hb, ne_eqb (length frame) original (λ e. d (e ∙ sym en)), class_of)

    module _ (hn : length frame ≡ n) (f : Bool) (ef : f ≡ lengths_fit (take (length frame - 14) (drop 14 frame))) where
      ours : for_us port frame ≡ true
      ours = sym eb ∙ hb

      uncut : eqb (length frame) original ≡ true
      uncut = eq-eqb (length frame) original (hn ∙ en)

      fit : lengths_fit (ip_of frame) ≡ f
      fit = ap lengths_fit (sym (rest frame 14)) ∙ sym ef

      pub not_fitting : f ≡ false → bad_message ≡ class_of port (packet_by frame original)
      unfolding class_of
      not_fitting h = rw (ours, uncut, fit, h, class_of)

      module _ (hf : f ≡ true) (h : ℕ) (eh : h ≡ ip_header (take (length frame - 14) (drop 14 frame))) (u : ℕ) (eu : u ≡ half (take (length frame - 14) (drop 14 frame)) (h + 4)) where
        content : part (h + 8) (h + u) (take (length frame - 14) (drop 14 frame)) ≡ data_of (ip_of frame)
        unfolding data_of
        content =
            let eh' : h ≡ ip_header (ip_of frame) = eh ∙ ap ip_header (rest frame 14) in
            let eu' : u ≡ half (ip_of frame) (ip_header (ip_of frame) + 4) = eu ∙ ap (λ (x : List ℕ). half x (h + 4)) (rest frame 14) ∙ ap (λ (x : ℕ). half (ip_of frame) (x + 4)) eh' in
            rw (rest frame 14, eu', eh')

        moved : part (14 + (h + 8)) (14 + (h + u)) frame ≡ part (h + 8) (h + u) (drop 14 frame)
        moved = let e : 14 + (h + u) - (14 + (h + 8)) ≡ h + u - (h + 8) = omega arith in rw (e, drop-drop)

        module _ (r : Bool) (er : r ≡ one_message (part (h + 8) (h + u) (take (length frame - 14) (drop 14 frame)))) where
          pub not_one : r ≡ false → bad_message ≡ class_of port (packet_by frame original)
          unfolding class_of
          not_one hr = rw (ours, uncut, fit, hf, ← content, ← er, hr, class_of)

          pub is_one : r ≡ true → kept (part (14 + (h + 8)) (14 + (h + u)) frame) ≡ class_of port (packet_by frame original)
          unfolding class_of
          is_one hr = rw (ours, uncut, fit, hf, ← content, ← er, hr, class_of) (ap kept (moved ∙ ap (part (h + 8) (h + u)) (sym (rest frame 14)) ∙ content))
