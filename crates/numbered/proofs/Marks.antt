-- Marks: bits that tell of each package whether it is granted, and of ids whether they may be held.
use Prim.Native.Nat.{ℕ, zero, suc, ◌+◌, ◌*◌, ◌/◌, ◌≤◌, ◌<◌}
use mathlib.Core.Path.{◌≡◌, refl, sym, ap, ◌∙◌}
use mathlib.Core.Bool.{Bool, true, false}
use mathlib.Core.List.{List, [], ◌∷◌, ◌++◌, map, append_assoc}
use native.Mathlib.Numerals.{add-one}
use native.Mathlib.Omega.{arith}
use native.Mathlib.Nat.{add-zero, zero-add}
use lib.Dec.{ltb, eqb}
use lib.ListN.{length, get_or, take, replicate, length-append, length-map}
use lib.Seq.{take-suc}
use borrow.Author.Tests.{ltb-true, ltb-false, eqb-false, eq-eqb}
use Rattle.rules.specs.Items.{count}
use Rattle.rules.specs.Packages as rules
use Rattle.rules.specs.Outcome.{good}
use Rattle.rules.specs.Packages.{cut, package_of}
use Rattle.rules.proofs.Cut as Cut
use Rattle.rules.specs.Message.{Message}
use Rattle.rules.specs.Sheet as rows
use Rattle.rules.specs.Copy.{granted, granted_packages}
use Rattle.rules.proofs.Growing.{map-append}
use Rattle.wire.specs.Bits.{bit_at, with_bit, with_bit_if}
use Rattle.wire.proofs.Bits.{bit-small, bit-set, bit_kept, bit-zeros, length-with}
use Rattle.message.proofs.Messages.{fill_least}
use Rattle.numbered.specs.Parts.{kept, flags_of, flags_in, Tells, picked, Place, slot_of, Sees}
use Rattle.numbered.proofs.Seeking.{count-append, count-other}

-- ---- flags in a list

get_first : (fs gs : List Bool) (i : ℕ) → i < length fs → get_or (fs ++ gs) i false ≡ get_or fs i false
get_first [] gs i l = absurd (omega arith)
get_first (f ∷ fs) gs zero l = refl
get_first (f ∷ fs) gs (suc i) l = get_first fs gs i (omega arith)

get_behind : (fs gs : List Bool) (i : ℕ) → get_or (fs ++ gs) (length fs + i) false ≡ get_or gs i false
get_behind [] gs i = ap (λ (n : ℕ). get_or gs n false) (zero-add i)
get_behind (f ∷ fs) gs i =
    let e : suc (length fs) + i ≡ suc (length fs + i) = omega arith in
    ap (λ (n : ℕ). get_or (f ∷ fs ++ gs) n false) e ∙ get_behind fs gs i

-- no flag is told by zeros
pub tells_none : (n : ℕ) → Tells (replicate n 0) []
tells_none n = record { each = λ i l. absurd (omega arith); rest = λ i l. bit-zeros n i }

-- one flag more
module _ (marks : List ℕ) (fs : List Bool) (t : Tells marks fs) (room : length fs / 8 < length marks) where
  old : (b : Bool) (i : ℕ) → (length fs ≡ i → ⊥) → bit_at (with_bit_if marks (length fs) b) i ≡ bit_at marks i
  unfolding with_bit_if
  old true i ne = bit_kept marks (length fs) i ne
  old false i ne = refl

  new : (b : Bool) → eqb (bit_at (with_bit_if marks (length fs) b) (length fs)) 1 ≡ b
  unfolding with_bit_if
  new true = eq-eqb _ _ (bit-set marks (length fs) room)
  new false = rw (t.rest (length fs) (omega arith)) refl

  pub tells_more : (b : Bool) → Tells (with_bit_if marks (length fs) b) (fs ++ (b ∷ []))
  tells_more b = record {
    each = λ i l. go i l (ltb i (length fs)) refl;
    rest = λ i l. old b i (λ e. omega (arith, length-append fs (b ∷ []))) ∙ t.rest i (omega (arith, length-append fs (b ∷ [])));
  }
    where
      go : (i : ℕ) → i < length (fs ++ (b ∷ [])) → (x : Bool) → ltb i (length fs) ≡ x → eqb (bit_at (with_bit_if marks (length fs) b) i) 1 ≡ get_or (fs ++ (b ∷ [])) i false
      go i l true e =
          let h = ltb-true i (length fs) e in
          ap (λ (n : ℕ). eqb n 1) (old b i (λ q. omega arith)) ∙ t.each i h ∙ sym (get_first fs (b ∷ []) i h)
      go i l false e =
          let h : i ≡ length fs = omega (arith, ltb-false i (length fs) e, length-append fs (b ∷ [])) in
          rw h (new b ∙ sym (ap (λ (n : ℕ). get_or (fs ++ (b ∷ [])) n false) (sym (add-zero (length fs))) ∙ get_behind fs (b ∷ []) 0))

-- ---- flags of pieces and of messages

pub flags-more : (rs : List rows.Row) (m : Message) (cs : List (List ℕ)) (c : List ℕ) → flags_of rs m (cs ++ (c ∷ [])) ≡ flags_of rs m cs ++ (granted rs m (package_of c) ∷ [])
unfolding flags_of
flags-more rs m cs c = map-append (λ c. granted rs m (package_of c)) cs (c ∷ [])

pub flags_long : (rs : List rows.Row) (m : Message) (cs : List (List ℕ)) → length (flags_of rs m cs) ≡ length cs
unfolding flags_of
flags_long rs m cs = length-map cs (λ c. granted rs m (package_of c))

pub flags_joined : (rs : List rows.Row) (ms ks : List Message) → flags_in rs (ms ++ ks) ≡ flags_in rs ms ++ flags_in rs ks
unfolding flags_in
flags_joined rs [] ks = refl
flags_joined rs (m ∷ ms) ks = rw (flags_joined rs ms ks) (sym (append_assoc (map (granted rs m) m.packages) (flags_in rs ms) (flags_in rs ks)))

pub pieces-few : (run : List ℕ) (cs : List (List ℕ)) → cut 0 run ≡ good cs → 12 * length cs ≤ length run
pieces-few run cs e = fill_least (Cut.sound 0 0 run e)

-- ---- what is marked is what is granted

-- bits from `first` on are the flags of these pieces
pub record Shows (rs : List rows.Row) (m : Message) (marks : List ℕ) (first : ℕ) (cs : List (List ℕ)) : Type 0 where
  pub each : (i : ℕ) → i < length cs → eqb (bit_at marks (first + i)) 1 ≡ get_or (flags_of rs m cs) i false

shows-rest : (rs : List rows.Row) (m : Message) (marks : List ℕ) (first : ℕ) (c : List ℕ) (cs : List (List ℕ)) → Shows rs m marks first (c ∷ cs) → Shows rs m marks (first + 1) cs
unfolding flags_of
shows-rest rs m marks first c cs s = record { each = λ i l. let e : first + suc i ≡ first + 1 + i = omega arith in rw (← e) (s.each (suc i) (omega arith)) }

-- among flags that are told, behind fs, stand those of these pieces
pub shows-part : (rs : List rows.Row) (m : Message) (marks : List ℕ) (first : ℕ) (fs gs : List Bool) (cs : List (List ℕ)) → first ≡ length fs → Tells marks (fs ++ (flags_of rs m cs ++ gs)) → Shows rs m marks first cs
shows-part rs m marks first fs gs cs e t = record {
  each = λ i l.
      let n = flags_long rs m cs in
      ap (λ (n : ℕ). eqb (bit_at marks (n + i)) 1) e
      ∙ t.each (length fs + i) (omega (arith, length-append fs (flags_of rs m cs ++ gs), length-append (flags_of rs m cs) gs))
      ∙ get_behind fs (flags_of rs m cs ++ gs) i ∙ get_first (flags_of rs m cs) gs i (omega arith);
}

alike : (a b : Bool) (p : rules.Package) (ps qs : List rules.Package) → a ≡ b → ps ≡ qs
    → ◌≡◌ {A = List rules.Package} (elim a [ true ↦ p ∷ ps | false ↦ ps ]) (elim b [ true ↦ p ∷ qs | false ↦ qs ])
alike a b p ps qs e f = ap (λ (x : Bool). elim x [ true ↦ p ∷ ps | false ↦ ps ]) e ∙ ap (λ (l : List rules.Package). elim b [ true ↦ p ∷ l | false ↦ l ]) f

pub picked-is : (rs : List rows.Row) (m : Message) (marks : List ℕ) (first : ℕ) (cs : List (List ℕ)) → Shows rs m marks first cs → picked marks first cs ≡ kept rs m cs
unfolding picked kept granted_packages flags_of
picked-is rs m marks first [] s = refl
picked-is rs m marks first (c ∷ cs) s =
    let h : eqb (bit_at marks first) 1 ≡ granted rs m (package_of c) = ap (λ (n : ℕ). eqb (bit_at marks n) 1) (sym (add-zero first)) ∙ s.each 0 (omega arith) in
    alike _ _ (package_of c) _ _ h (picked-is rs m marks (first + 1) cs (shows-rest rs m marks first c cs s))

-- ps, with p behind them if it is picked
abbrev pub grow : Bool → List rules.Package → rules.Package → List rules.Package
grow true ps p = ps ++ (p ∷ [])
grow false ps p = ps

grow-behind : (b d : Bool) (q : rules.Package) (ps : List rules.Package) (p : rules.Package) → elim d [ true ↦ q ∷ grow b ps p | false ↦ grow b ps p ] ≡ grow b (elim d [ true ↦ q ∷ ps | false ↦ ps ]) p
grow-behind true true q ps p = refl
grow-behind true false q ps p = refl
grow-behind false true q ps p = refl
grow-behind false false q ps p = refl

pub picked_more : (marks : List ℕ) (first : ℕ) (cs : List (List ℕ)) (c : List ℕ) → picked marks first (cs ++ (c ∷ [])) ≡ grow (eqb (bit_at marks (first + length cs)) 1) (picked marks first cs) (package_of c)
unfolding picked
picked_more marks first [] c = go (eqb (bit_at marks first) 1) ∙ ap (λ (n : ℕ). grow (eqb (bit_at marks n) 1) [] (package_of c)) (sym (add-zero first))
  where
    go : (b : Bool) → elim b [ true ↦ package_of c ∷ [] | false ↦ [] ] ≡ grow b [] (package_of c)
    go true = refl
    go false = refl
picked_more marks first (d ∷ cs) c =
    let e : first + 1 + length cs ≡ first + suc (length cs) = omega arith in
    let b = eqb (bit_at marks first) 1 in
    ap (λ (x : List rules.Package). elim b [ true ↦ package_of d ∷ x | false ↦ x ]) (picked_more marks (first + 1) cs c)
    ∙ grow-behind (eqb (bit_at marks (first + 1 + length cs)) 1) b (package_of d) (picked marks (first + 1) cs) (package_of c)
    ∙ ap (λ (n : ℕ). grow (eqb (bit_at marks n) 1) (elim b [ true ↦ package_of d ∷ picked marks (first + 1) cs | false ↦ picked marks (first + 1) cs ]) (package_of c)) e

-- ---- bits of ids

pub sees-none : (n : ℕ) → Sees (replicate n 0) []
unfolding count
sees-none n = record { none = λ x e. refl }

-- one id more
module _ (seen ids : List ℕ) (s : Sees seen ids) (long : length seen ≡ 512) (id : ℕ) where
  not_it : (x : ℕ) → bit_at (with_bit seen (slot_of id)) (slot_of x) ≡ 0 → slot_of id ≡ slot_of x → ⊥
  not_it x e q = omega (arith, e, ap (λ (k : ℕ). bit_at (with_bit seen (slot_of id)) k) (sym q), bit-set seen (slot_of id) (omega arith))

  seen_still : (x : ℕ) → bit_at (with_bit seen (slot_of id)) (slot_of x) ≡ 0 → count x ids ≡ 0
  seen_still x e = s.none x (sym (bit_kept seen (slot_of id) (slot_of x) (not_it x e)) ∙ e)

  pub sees_same : Sees (with_bit seen (slot_of id)) ids
  sees_same = record { none = seen_still }

  pub sees_more : Sees (with_bit seen (slot_of id)) (ids ++ (id ∷ []))
  sees_more = record { none = λ x e. omega (arith, count-append x ids (id ∷ []), seen_still x e, count-other x id (λ q. not_it x e (ap slot_of (sym q)))) }

-- the bit of an id is set
pub bit_put : (seen : List ℕ) (id : ℕ) {slot : ℕ} {seen' : List ℕ} → slot ≡ slot_of id → seen' ≡ with_bit_if seen slot true → seen' ≡ with_bit seen (slot_of id)
unfolding with_bit_if
bit_put seen id e f = f ∙ ap (with_bit seen) e

pub bit-long : (seen : List ℕ) (i : ℕ) → length (with_bit seen i) ≡ length seen
unfolding with_bit_if
bit-long seen i = length-with seen i true

-- the ids before i were seen, and now the one at i
pub see_next : (seen ids : List ℕ) (i : ℕ) → Sees seen (take i ids) → length seen ≡ 512 → i < length ids → Sees (with_bit seen (slot_of (get_or ids i 0))) (take (i + 1) ids)
see_next seen ids i s long l = rw (add-one, take-suc ids i 0 l) (sees_more seen (take i ids) s long (get_or ids i 0))

-- an id whose bit is not set stands nowhere
pub unseen : (seen ids : List ℕ) → Sees seen ids → (id : ℕ) → eqb (bit_at seen (slot_of id)) 1 ≡ false → Place ids id (length ids)
unseen seen ids s id e = record {
  inside = omega arith;
  hit = λ l. absurd (omega arith);
  miss = λ z. s.none id (omega (arith, bit-small seen (slot_of id), eqb-false (bit_at seen (slot_of id)) 1 e));
}
