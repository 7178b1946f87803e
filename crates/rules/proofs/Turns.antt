-- Two sheets in turn release what both grant, whichever comes first; joined they release what either grants; and a row more takes nothing out of the copy.
use Prim.Native.Nat.{ℕ, ◌+◌, ◌*◌, ◌/◌, ◌%◌, ◌≤◌}
use mathlib.Core.Path.{◌≡◌, refl, ap, ap₂, sym, ◌∙◌}
use mathlib.Core.Bool.{Bool, true, false, ◌&&◌, ◌||◌}
use mathlib.Core.List.{List, [], ◌∷◌, ◌++◌}
use native.Mathlib.Nat.{div-div-eq-div-mul}
use native.Mathlib.Omega.{arith}
use borrow.Author.Tests.{ltb-true, ltb-false}
use lib.Dec.{ltb}
use lib.ListN.{length}
use Rattle.rules.specs.Outcome.{Outcome, good, bad, ◌>>=◌, ROOM}
use Rattle.rules.specs.Bytes.{Bytes}
use Rattle.rules.specs.Items.{passing, count}
use Rattle.rules.specs.Packages.{Package, package_time}
use Rattle.rules.specs.Message.{is_simulated, Message, recording}
use Rattle.rules.specs.Sheet.{Row, row_bytes, sheet, grants}
use Rattle.rules.specs.Copy.{granted, listed_bits, Entry, granted_packages, with_entry_of, released, copy_message, copy_messages, copy_bytes, released_of, reported, room_for, answered, copy}
use Rattle.rules.specs.Turns.{Copied, released_by, Within, within-nil, within_both, within_more, Grown, Holds}
use Rattle.rules.specs.Claims.{InTurn}
use Rattle.rules.proofs.Outcomes.{step, stepped, good_inj}
use Rattle.rules.proofs.Nevers.{Never, never_released}
use Rattle.rules.proofs.Measured.{no_room_for}
use Rattle.rules.proofs.Growing.{granted_alike}
use Rattle.rules.proofs.Interference.{delivered-is, copy-passes}
use Rattle.rules.proofs.Joined.{sheet-joined, added}

-- ---- what the copy keeps of a message is what a grant looks at

bit_kept : (f : ℕ) → (64 + listed_bits f) / 8 % 2 ≡ f / 8 % 2
bit_kept f =
    let a : f / 2 / 4 ≡ f / 8 = div-div-eq-div-mul f 2 4 in
    let b : (64 + f / 2 % 8 * 2) / 8 ≡ 8 + f / 2 % 8 / 4 = omega arith in
    let c : f / 2 % 8 / 4 ≡ f / 2 / 4 % 2 = omega arith in
    rw (b, c, a) (omega arith)

pub listed_kept : (f : ℕ) → listed_bits (64 + listed_bits f) ≡ listed_bits f
listed_kept f =
    let a : (64 + f / 2 % 8 * 2) / 2 ≡ 32 + f / 2 % 8 = omega arith in
    let b : (32 + f / 2 % 8) % 8 ≡ f / 2 % 8 = omega arith in
    rw (a, b)

-- the entry of m with these packages
abbrev entry_of : Message → List Package → Entry
entry_of m ps = record { id = m.id; seconds = m.seconds; nanos = m.nanos; flags = listed_bits m.flags; packages = ps }

module _ (m : Message) (ps : List Package) (n : ℕ) where
  copied-granted : (qs : List Row) (p : Package) → granted qs (copy_message n (entry_of m ps)) p ≡ granted qs m p
  unfolding granted copy_message
  copied-granted [] p = refl
  copied-granted (r ∷ qs) p = rw (bit_kept m.flags, copied-granted qs p)

  copied-entry : (l : List Package) (es : List Entry) → with_entry_of (copy_message n (entry_of m ps)) l es ≡ with_entry_of m l es
  unfolding with_entry_of copy_message
  copied-entry [] es = refl
  copied-entry (p ∷ l) es = rw (listed_kept m.flags)

-- ---- a test in the place of a sheet

-- a package in front of others, if it passes
abbrev keep : Package → Bool → List Package → List Package
keep p b l = elim b [ true ↦ p ∷ l | false ↦ l ]

passing_alike : (t u : Package → Bool) → ((p : Package) → t p ≡ u p) → (ps : List Package) → passing t ps ≡ passing u ps
passing_alike t u h [] = refl
passing_alike t u h (p ∷ ps) = ap₂ (keep p) (h p) (passing_alike t u h ps)

alike : (t u : Message → Package → Bool) → ((m : Message) (p : Package) → t m p ≡ u m p) → (ms : List Message) → released_by t ms ≡ released_by u ms
unfolding released_by
alike t u h [] = refl
alike t u h (m ∷ ms) = ap₂ (with_entry_of m) (passing_alike (t m) (u m) (h m) m.packages) (alike t u h ms)

pub passing-granted : (rs : List Row) (m : Message) (ps : List Package) → granted_packages rs m ps ≡ passing (granted rs m) ps
unfolding granted_packages
passing-granted rs m [] = refl
passing-granted rs m (p ∷ ps) = ap (keep p (granted rs m p)) (passing-granted rs m ps)

by_one : (rs : List Row) (ms : List Message) → released rs ms ≡ released_by (granted rs) ms
unfolding released released_by
by_one rs [] = refl
by_one rs (m ∷ ms) = ap₂ (with_entry_of m) (passing-granted rs m m.packages) (by_one rs ms)

-- ---- what both sheets grant, and what either does

abbrev by_both : List Row → List Row → Message → Package → Bool
by_both rs qs m p = granted rs m p && granted qs m p

abbrev by_either : List Row → List Row → Message → Package → Bool
by_either rs qs m p = granted rs m p || granted qs m p

both-granted : (rs qs : List Row) (m : Message) (ps : List Package) → granted_packages qs m (granted_packages rs m ps) ≡ passing (by_both rs qs m) ps
unfolding granted_packages
both-granted rs qs m [] = refl
both-granted rs qs m (p ∷ ps) = go (granted rs m p) (both-granted rs qs m ps)
  where
    go : (a : Bool) → granted_packages qs m (granted_packages rs m ps) ≡ passing (by_both rs qs m) ps
        → granted_packages qs m (keep p a (granted_packages rs m ps)) ≡ keep p (a && granted qs m p) (passing (by_both rs qs m) ps)
    go true rest = ap (keep p (granted qs m p)) rest
    go false rest = rest

both-turned : (rs qs : List Row) (ms : List Message) → released_by (by_both rs qs) ms ≡ released_by (by_both qs rs) ms
both-turned rs qs = alike (by_both rs qs) (by_both qs rs) (λ m p. turned (granted rs m p) (granted qs m p))
  where
    turned : (a b : Bool) → (a && b) ≡ (b && a)
    turned true true = refl
    turned true false = refl
    turned false true = refl
    turned false false = refl

both_same : (rs : List Row) (ms : List Message) → released_by (by_both rs rs) ms ≡ released rs ms
both_same rs ms = alike (by_both rs rs) (granted rs) (λ m p. twice (granted rs m p)) ms ∙ sym (by_one rs ms)
  where
    twice : (a : Bool) → (a && a) ≡ a
    twice true = refl
    twice false = refl

granted_joined : (rs qs : List Row) (m : Message) (p : Package) → granted (rs ++ qs) m p ≡ by_either rs qs m p
unfolding granted
granted_joined [] qs m p = refl
granted_joined (r ∷ rs) qs m p = ap (λ (b : Bool). by || b) (granted_joined rs qs m p) ∙ regroup by (granted rs m p) (granted qs m p)
  where
    by : Bool
    by = grants m.id (is_simulated m.flags) p.id (package_time m.seconds m.nanos p.delta) r

    regroup : (a b c : Bool) → (a || (b || c)) ≡ ((a || b) || c)
    regroup true b c = refl
    regroup false b c = refl

either_joined : (rs qs : List Row) (ms : List Message) → released (rs ++ qs) ms ≡ released_by (by_either rs qs) ms
either_joined rs qs ms = by_one (rs ++ qs) ms ∙ alike (granted (rs ++ qs)) (by_either rs qs) (granted_joined rs qs) ms

-- ---- the copy, released again

-- one message more, of which the first sheet grants l: the copy's message for it, released under the second sheet
copied_next : (qs : List Row) (m : Message) (l : List Package) (seen : List ℕ) (es fs : List Entry) → ((s : List ℕ) → released qs (copy_messages s es) ≡ fs)
    → released qs (copy_messages seen (with_entry_of m l es)) ≡ with_entry_of m (granted_packages qs m l) fs
unfolding released copy_messages copy_message with_entry_of granted_packages
copied_next qs m [] seen es fs rest = rest seen
copied_next qs m (p ∷ l) seen es fs rest =
    let n = count m.id seen in
    copied-entry m (p ∷ l) n (granted_packages qs (copy_message n (entry_of m (p ∷ l))) (p ∷ l)) (released qs (copy_messages (m.id ∷ seen) es))
    ∙ ap₂ (with_entry_of m) (granted_alike qs qs (copy_message n (entry_of m (p ∷ l))) m (copied-granted m (p ∷ l) n qs) (p ∷ l)) (rest (m.id ∷ seen))

released-copied : (rs qs : List Row) (seen : List ℕ) (ms : List Message) → released qs (copy_messages seen (released rs ms)) ≡ released_by (by_both rs qs) ms
unfolding released copy_messages released_by
released-copied rs qs seen [] = refl
released-copied rs qs seen (m ∷ ms) =
    copied_next qs m (granted_packages rs m m.packages) seen (released rs ms) (released_by (by_both rs qs) ms) (λ s. released-copied rs qs s ms)
    ∙ ap (λ (l : List Package). with_entry_of m l (released_by (by_both rs qs) ms)) (both-granted rs qs m m.packages)

-- ---- over the bytes handed in and out

-- a copying that succeeds has a released list, and room for it
succeeded : (o : Outcome (List Entry)) (buffer : List ℕ) → Never 0 o → (reported (o >>= room_for buffer)).number ≡ 0 → (es : List Entry) × (o ≡ good es) × (length (copy_bytes es) ≤ length buffer)
unfolding reported ◌>>=◌
succeeded (bad n p) buffer v e = absurd (v.given p (ap (λ (x : ℕ). bad x p) e))
succeeded (good es) buffer v e = (es, refl, go (ltb (length buffer) (length (copy_bytes es))) refl)
  where
    go : (b : Bool) → ltb (length buffer) (length (copy_bytes es)) ≡ b → length (copy_bytes es) ≤ length buffer
    go true t = let z : ROOM ≡ 0 = sym (ap (λ (o : Outcome (List Entry)). (reported o).number) (no_room_for buffer es (ltb-true _ _ t))) ∙ e in absurd (omega arith)
    go false t = ltb-false _ _ t

-- so what it delivers is the released list's copy, whatever the buffer
copied_is : (r s c : List ℕ) → Copied r s c → (es : List Entry) × (released_of r s ≡ good es) × (c ≡ copy_bytes es)
unfolding copy answered
copied_is r s c h =
    let (es, list, room) = succeeded (released_of r s) h.0 (never_released 0 (λ n l o e. omega arith) r s) h.1 in
    (es, list, sym h.2 ∙ delivered-is r s es list h.0 room)

copied_of : (r s c : List ℕ) (es : List Entry) → released_of r s ≡ good es → Copied r s c → c ≡ copy_bytes es
copied_of r s c es list h =
    let (fs, l, e) = copied_is r s c h in
    e ∙ ap copy_bytes (good_inj (sym l ∙ list))

list-is : (r s : List ℕ) (rs : List Row) (ms : List Message) → sheet s ≡ good rs → recording r ≡ good ms → released_of r s ≡ good (released rs ms)
unfolding released_of
list-is r s rs ms v p = step _ _ v (step _ _ p refl)

module _ (r : List ℕ) (b : Bytes r) (ms : List Message) (passes : recording r ≡ good ms) where
  -- the copy c, released again under another sheet, or under its own
  module _ (s c : List ℕ) (h : Copied r s c) (rs : List Row) (valid : sheet s ≡ good rs) where
    copy-again : recording c ≡ good (copy_messages [] (released rs ms))
    copy-again =
        let list = list-is r s rs ms valid passes in
        rw (copied_of r s c (released rs ms) list h) (copy-passes r s (released rs ms) b list)

    under : (t : List ℕ) (qs : List Row) → sheet t ≡ good qs → released_of c t ≡ good (released_by (by_both rs qs) ms)
    under t qs v = list-is c t qs (copy_messages [] (released rs ms)) v copy-again ∙ ap good (released-copied rs qs [] ms)

    under_own : released_of c s ≡ released_of r s
    under_own = under s rs valid ∙ ap good (both_same rs ms) ∙ sym (list-is r s rs ms valid passes)

  pub in_turn : (s t c d : List ℕ) → Copied r s c → Copied r t d → (rs qs : List Row) → sheet s ≡ good rs → sheet t ≡ good qs → InTurn r s t c d rs qs ms
  in_turn s t c d h g rs qs v w =
      let one = under s c h rs v t qs w in
      let two = under t d g qs w s rs v in
      let turned : released_of c t ≡ released_of d s = one ∙ ap good (both-turned rs qs ms) ∙ sym two in
      let own : released_of c s ≡ released_of r s = under_own s c h rs v in
      record {
        both = one;
        turned = turned;
        delivered = λ e f x y. copied_of c t e _ one x ∙ sym (copied_of d s f _ (sym turned ∙ one) y);
        again = own;
        own = λ e x. copied_of c s e _ (own ∙ list-is r s rs ms v passes) x ∙ sym (copied_of r s c _ (list-is r s rs ms v passes) h);
        joined = λ l. list-is r (s ++ t) (rs ++ qs) ms (sheet-joined s t v w l) passes ∙ ap good (either_joined rs qs ms);
      }

-- ---- a row more

grants-more : (front new back : List Row) (m : Message) (p : Package) → granted (front ++ back) m p ≡ true → granted (front ++ (new ++ back)) m p ≡ true
grants-more front new back m p e =
    granted_joined front (new ++ back) m p ∙ ap (λ (b : Bool). granted front m p || b) (granted_joined new back m p)
    ∙ either (granted front m p) (granted new m p) (granted back m p) (sym (granted_joined front back m p) ∙ e)
  where
    either : (a b c : Bool) → (a || c) ≡ true → (a || (b || c)) ≡ true
    either true b c e = refl
    either false true c e = refl
    either false false c e = e

no_longer : {A : Type 0} {R : A → A → Type 0} {l k : List A} → Within R l k → length l ≤ length k
no_longer within-nil = omega arith
no_longer (within_both r h) = omega (arith, no_longer h)
no_longer (within_more h) = omega (arith, no_longer h)

module _ (rs qs : List Row) (more : (m : Message) (p : Package) → granted rs m p ≡ true → granted qs m p ≡ true) where
  abbrev Among : List Package → List Package → Type 0
  Among = Within (λ (p q : Package). p ≡ q)

  more-packages : (m : Message) (ps : List Package) → Among (granted_packages rs m ps) (granted_packages qs m ps)
  unfolding granted_packages
  more-packages m [] = within-nil
  more-packages m (p ∷ ps) = go (granted rs m p) refl (granted qs m p) refl (more-packages m ps)
    where
      go : (a : Bool) → granted rs m p ≡ a → (b : Bool) → granted qs m p ≡ b → Among (granted_packages rs m ps) (granted_packages qs m ps)
          → Among (keep p a (granted_packages rs m ps)) (keep p b (granted_packages qs m ps))
      go true e true f rest = within_both refl rest
      go true e false f rest = let z : true ≡ false = sym (more m p e) ∙ f in let y : ◌≡◌ {A = ℕ} 0 1 = cc in absurd (omega arith)
      go false e true f rest = within_more rest
      go false e false f rest = rest

  more-next : (m : Message) (ps ps' : List Package) (seen seen' : List ℕ) (es es' : List Entry) → Among ps ps'
      → ((s s' : List ℕ) → Within Grown (copy_messages s es) (copy_messages s' es')) → Within Grown (copy_messages seen (with_entry_of m ps es)) (copy_messages seen' (with_entry_of m ps' es'))
  unfolding with_entry_of copy_messages copy_message
  more-next m [] [] seen seen' es es' h rest = rest seen seen'
  more-next m [] (q ∷ qs) seen seen' es es' h rest = within_more (rest seen (m.id ∷ seen'))
  more-next m (p ∷ ps) [] seen seen' es es' h rest = absurd (omega (arith, no_longer h))
  more-next m (p ∷ ps) (q ∷ qs) seen seen' es es' h rest = within_both (refl, refl, refl, refl, h) (rest (m.id ∷ seen) (m.id ∷ seen'))

  more-released : (seen seen' : List ℕ) (ms : List Message) → Within Grown (copy_messages seen (released rs ms)) (copy_messages seen' (released qs ms))
  unfolding released copy_messages
  more-released seen seen' [] = within-nil
  more-released seen seen' (m ∷ ms) = more-next m _ _ seen seen' _ _ (more-packages m m.packages) (λ s s'. more-released s s' ms)

-- rows and messages of a copying that succeeds
copied-from : (r s c : List ℕ) → Copied r s c → (rs : List Row) × (sheet s ≡ good rs) × ((ms : List Message) × (recording r ≡ good ms))
unfolding released_of
copied-from r s c h =
    let (es, list, e) = copied_is r s c h in
    let (rs, v, e) = stepped _ _ list in
    let (ms, p, e) = stepped _ _ e in
    (rs, v, (ms, p))

pub row_added : (r front row back c d : List ℕ) → Bytes r → length front % row_bytes ≡ 0 → length row ≡ row_bytes → Copied r (front ++ back) c → Copied r (front ++ (row ++ back)) d → Holds d c
row_added r front row back c d b l n h g =
    let (rs, v, (ms, p)) = copied-from r (front ++ back) c h in
    let (qs, w, _) = copied-from r (front ++ (row ++ back)) d g in
    let a = added front row back l n v w in
    let more : (m : Message) (k : Package) → granted rs m k ≡ true → granted qs m k ≡ true = λ m k e. rw a.after (grants-more a.front a.new a.back m k (rw a.before at e)) in
    (copy_messages [] (released rs ms), copy_messages [] (released qs ms), copy-again r b ms p (front ++ back) c h rs v, copy-again r b ms p (front ++ (row ++ back)) d g qs w, more-released rs qs more [] [] ms)
