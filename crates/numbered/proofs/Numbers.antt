-- Running numbers: how they grow with the entries, what they number, and that they are kept true.
use Prim.Native.Nat.{ℕ, suc, ◌+◌, ◌-◌, ◌%◌, ◌^◌, ◌<◌}
use mathlib.Core.Path.{◌≡◌, refl, ap, sym, ◌∙◌}
use mathlib.Core.Bool.{Bool, true, false}
use mathlib.Core.List.{List, [], ◌∷◌, ◌++◌, map}
use native.Mathlib.Omega.{arith}
use borrow.Author.Tests.{eqb-true, eqb-false}
use lib.Dec.{eqb}
use Rattle.rules.specs.Items.{All, all_nil, all_cons, count}
use Rattle.rules.specs.Message.{Message}
use Rattle.rules.specs.Valid.{Valid}
use Rattle.rules.specs.Copy.{Entry, copy_message}
use Rattle.rules.proofs.Released.{ValidEntry, valid_copy_message}
use Rattle.rules.proofs.Growing.{join-append, map-append}
use Rattle.numbered.proofs.Seeking.{count_same, count-other}
use Rattle.numbered.specs.Numbering.{Running, next_number, counted_on, numbers_after, numbered_messages, numbered_bytes}

-- ---- more entries

pub after-append : (ns : List Running) (es fs : List Entry) → numbers_after ns (es ++ fs) ≡ numbers_after (numbers_after ns es) fs
unfolding numbers_after
after-append ns [] fs = refl
after-append ns (e ∷ es) fs = after-append (counted_on e.id ns) es fs

pub numbered-append : (ns : List Running) (es fs : List Entry) → numbered_messages ns (es ++ fs) ≡ numbered_messages ns es ++ numbered_messages (numbers_after ns es) fs
unfolding numbers_after numbered_messages
numbered-append ns [] fs = refl
numbered-append ns (e ∷ es) fs = ap (λ (l : List Message). copy_message (next_number e.id ns) e ∷ l) (numbered-append (counted_on e.id ns) es fs)

pub bytes-append : (ns : List Running) (es fs : List Entry) → numbered_bytes ns (es ++ fs) ≡ numbered_bytes ns es ++ numbered_bytes (numbers_after ns es) fs
unfolding numbered_bytes
bytes-append ns es fs = rw (numbered-append ns es fs, map-append, join-append)

-- ---- numbers of 32 bits stay such

abbrev pub Low : Running → Type 0
Low n = n.next < 2 ^ 32

pub low-counted : (x : ℕ) {ns : List Running} → All Low ns → All Low (counted_on x ns)
unfolding counted_on
low-counted x all_nil = all_cons {a = record { id = x; next = 1 }} (omega arith) all_nil
low-counted x (all_cons {a = n} {l = ns} h a) = go (eqb x n.id) (low-counted x a)
  where
    go : (b : Bool) → All Low (counted_on x ns) → All Low (elim b [ true ↦ record { id = n.id; next = (n.next + 1) % 2 ^ 32 } ∷ ns | false ↦ n ∷ counted_on x ns ])
    go true r = all_cons {a = record { id = n.id; next = (n.next + 1) % 2 ^ 32 }} (omega arith) a
    go false r = all_cons h r

pub low-after : {ns : List Running} (es : List Entry) → All Low ns → All Low (numbers_after ns es)
unfolding numbers_after
low-after [] a = a
low-after {ns = ns} (e ∷ es) a = low-after {ns = counted_on e.id ns} es (low-counted e.id a)

pub low-next : (x : ℕ) {ns : List Running} → All Low ns → next_number x ns < 2 ^ 32
unfolding next_number
low-next x all_nil = omega arith
low-next x (all_cons {a = n} {l = ns} h a) = go (eqb x n.id) (low-next x a)
  where
    go : (b : Bool) → next_number x ns < 2 ^ 32 → elim b [ true ↦ n.next | false ↦ next_number x ns ] < 2 ^ 32
    go true r = h
    go false r = r

pub valid_numbered : {ns : List Running} {es : List Entry} → All Low ns → All ValidEntry es → All Valid (numbered_messages ns es)
unfolding numbered_messages
valid_numbered a all_nil = all_nil
valid_numbered {ns} a (all_cons {a = e} v r) = all_cons (valid_copy_message (next_number e.id ns) e (low-next e.id a) v) (valid_numbered {ns = counted_on e.id ns} (low-counted e.id a) r)

-- ---- the entries can be told from the messages

entry_in : Message → Entry
entry_in m = record { id = m.id; seconds = m.seconds; nanos = m.nanos; flags = m.flags - 64; packages = m.packages }

entries_in : (ns : List Running) (es : List Entry) → map entry_in (numbered_messages ns es) ≡ es
unfolding numbered_messages copy_message entry_in
entries_in ns [] = refl
entries_in ns (e ∷ es) = let z : 64 + e.flags - 64 ≡ e.flags = omega arith in rw (z, entries_in (counted_on e.id ns) es)

pub numbered_injective : (ns : List Running) (es es' : List Entry) → numbered_messages ns es ≡ numbered_messages ns es' → es ≡ es'
numbered_injective ns es es' q = sym (entries_in ns es) ∙ ap (map entry_in) q ∙ entries_in ns es'

-- ---- the numbers are kept true

pub count-cons : (x y : ℕ) (l : List ℕ) → count x (y ∷ l) ≡ count x (y ∷ []) + count x l
unfolding count
count-cons x y l = go (eqb x y)
  where
    go : (b : Bool) → elim b [ true ↦ suc (count x l) | false ↦ count x l ] ≡ elim b [ true ↦ 1 | false ↦ 0 ] + count x l
    go true = omega arith
    go false = omega arith

-- the first running number, and those behind it
module _ (x : ℕ) (n : Running) (ns : List Running) where
  pub next-hit : eqb x n.id ≡ true → next_number x (n ∷ ns) ≡ n.next
  unfolding next_number
  next-hit e = rw (e, next_number)

  pub next-miss : eqb x n.id ≡ false → next_number x (n ∷ ns) ≡ next_number x ns
  unfolding next_number
  next-miss e = rw (e, next_number)

  pub counted-hit : eqb x n.id ≡ true → counted_on x (n ∷ ns) ≡ record { id = n.id; next = (n.next + 1) % 2 ^ 32 } ∷ ns
  unfolding counted_on
  counted-hit e = rw (e, counted_on)

  pub counted-miss : eqb x n.id ≡ false → counted_on x (n ∷ ns) ≡ n ∷ counted_on x ns
  unfolding counted_on
  counted-miss e = rw (e, counted_on)

next-first : (x y : ℕ) → next_number x (counted_on y []) ≡ (next_number x [] + count x (y ∷ [])) % 2 ^ 32
unfolding next_number counted_on count
next-first x y = go (eqb x y)
  where
    go : (b : Bool) → elim b [ true ↦ 1 | false ↦ 0 ] ≡ (0 + elim b [ true ↦ 1 | false ↦ 0 ]) % 2 ^ 32
    go true = refl
    go false = refl

pub next-counted : (x y : ℕ) {ns : List Running} → All Low ns → next_number x (counted_on y ns) ≡ (next_number x ns + count x (y ∷ [])) % 2 ^ 32
next-counted x y all_nil = next-first x y
next-counted x y (all_cons {a = n} {l = ns} h a) = go (eqb y n.id) refl (eqb x n.id) refl (next-counted x y a)
  where
    go : (b : Bool) → eqb y n.id ≡ b → (c : Bool) → eqb x n.id ≡ c → next_number x (counted_on y ns) ≡ (next_number x ns + count x (y ∷ [])) % 2 ^ 32
        → next_number x (counted_on y (n ∷ ns)) ≡ (next_number x (n ∷ ns) + count x (y ∷ [])) % 2 ^ 32
    go true e true f r =
        let c = count_same x y (eqb-true x n.id f ∙ sym (eqb-true y n.id e)) in
        rw (counted-hit y n ns e, next-hit x (record { id = n.id; next = (n.next + 1) % 2 ^ 32 }) ns f, next-hit x n ns f, c)
    go true e false f r =
        let c = count-other x y (λ z. eqb-false x n.id f (z ∙ eqb-true y n.id e)) in
        let l = low-next x a in
        rw (counted-hit y n ns e, next-miss x (record { id = n.id; next = (n.next + 1) % 2 ^ 32 }) ns f, next-miss x n ns f, c) (omega arith)
    go false e true f r =
        let c = count-other x y (λ z. eqb-false y n.id e (sym z ∙ eqb-true x n.id f)) in
        rw (counted-miss y n ns e, next-hit x n (counted_on y ns) f, next-hit x n ns f, c) (omega arith)
    go false e false f r = rw (counted-miss y n ns e, next-miss x n (counted_on y ns) f, next-miss x n ns f) r

carried : (a b c : ℕ) → ((a + b) % 2 ^ 32 + c) % 2 ^ 32 ≡ (a + (b + c)) % 2 ^ 32
carried a b c = omega arith

pub next-after : (x : ℕ) {ns : List Running} (es : List Entry) → All Low ns → next_number x (numbers_after ns es) ≡ (next_number x ns + count x (map (λ (e : Entry). e.id) es)) % 2 ^ 32
unfolding numbers_after count
next-after x {ns} [] a = let l = low-next x a in omega arith
next-after x {ns} (e ∷ es) a =
    next-after x {ns = counted_on e.id ns} es (low-counted e.id a)
    ∙ ap (λ (k : ℕ). (k + count x (map (λ (e : Entry). e.id) es)) % 2 ^ 32) (next-counted x e.id a)
    ∙ carried (next_number x ns) (count x (e.id ∷ [])) (count x (map (λ (e : Entry). e.id) es))
    ∙ ap (λ (k : ℕ). (next_number x ns + k) % 2 ^ 32) (sym (count-cons x e.id (map (λ (e : Entry). e.id) es)))
