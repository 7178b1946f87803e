-- Reading, writing and cleaning agree.
use Prim.Native.Nat.{ℕ, ◌+◌, ◌-◌, ◌≤◌}
use mathlib.Core.Path.{◌≡◌, ap, sym, ◌∙◌, subst}
use mathlib.Core.Logic.{◌↔◌}
use mathlib.Core.List.{List, [], ◌++◌, map}
use native.Mathlib.Omega.{arith}
use lib.ListN.{length}
use Rattle.rules.specs.Outcome.{Outcome, good}
use Rattle.rules.specs.Bytes.{Bytes, pad, padded, join}
use Rattle.rules.specs.Items.{items, All, all_nil, all_cons}
use Rattle.rules.specs.Packages.{Package, piece_of}
use Rattle.rules.specs.Message.{head, Message, record_of, message}
use Rattle.rules.specs.Writer.{write}
use Rattle.rules.specs.Clean.{clean_form}
use Rattle.rules.specs.Valid.{ValidPackage, Valid}
use Rattle.rules.proofs.Outcomes.{step, stepped, good_inj}
use Rattle.rules.proofs.Numbers.{bytes-cons, bytes-nil, bytes-put16, bytes-put32, bytes-zeros, bytes-append}
use Rattle.rules.proofs.Walk.{items-join}
use Rattle.rules.proofs.Pieces.{length-padded}
use Rattle.rules.proofs.Again.{message-again, length-write, any-le}
use Rattle.rules.proofs.Passed.{passes}
use Rattle.rules.proofs.Cleaned.{write_read}
use Rattle.rules.proofs.Valids.{valid, payload-length}

-- what is written is bytes
bytes-padded : {s : List ℕ} → Bytes s → Bytes (padded s)
bytes-padded {s} b = bytes-append s _ b (bytes-zeros (pad (length s) - length s))

bytes-pieces : {ps : List Package} → All ValidPackage ps → Bytes (join (map piece_of ps))
unfolding piece_of
bytes-pieces all_nil = bytes-nil
bytes-pieces (all_cons {a = p} v r) =
    bytes-append (piece_of p) _
    (bytes-put32 _ (bytes-put16 _ (bytes-cons (omega arith) (bytes-cons v.status (bytes-put32 _ (bytes-padded v.content))))))
    (bytes-pieces r)

pub bytes-write : (m : Message) → Valid m → Bytes (write m)
unfolding write
bytes-write m v =
    bytes-cons (omega (arith, v.short, length-padded m.options)) (bytes-cons (omega arith) (bytes-cons (omega arith)
    (bytes-cons (omega (arith, v.flags, any-le m v []))
    (bytes-put32 _ (bytes-put32 _ (bytes-put32 _ (bytes-put32 _ (bytes-put32 _
    (bytes-append (padded m.options) _ (bytes-padded v.options) (bytes-pieces v.packages))))))))))

-- a record that is written and read again is the same record
pub written_read : (m : Message) → Valid m → (p : ℕ) (t : List ℕ) → message p (write m ++ t) ≡ good (m, length (write m))
written_read m v p t = message-again m v t p

-- and so is a list of them
pub all-written-read : {ms : List Message} → All Valid ms → (p : ℕ) → items message 0 p (join (map write ms)) ≡ good ms
all-written-read a p = items-join message write Valid (λ m v. omega (arith, length-write m v [])) (λ m v q t. written_read m v q t) p a

-- two records that are written alike are the same
pub write_injective : (m m' : Message) → Valid m → Valid m' → write m ≡ write m' → m ≡ m'
write_injective m m' v v' e =
    let q : ◌≡◌ {A = Outcome (Message × ℕ)} (good (m, length (write m))) (good (m', length (write m'))) = cc (written_read m v 0 [], written_read m' v' 0 []) in
    ap (λ (r : Message × ℕ). r.0) (good_inj q)

-- a message that is read and written again is its clean form
pub read-written : (s : List ℕ) → Bytes s → (m : Message) (n : ℕ) → message 0 s ≡ good (m, n) → clean_form s ≡ good (write m)
unfolding message clean_form
read-written s b m n e =
    let (r, q, z) = stepped _ _ e in
    let y : record_of s (head s) r ≡ m = ap (λ (k : Message × ℕ). k.0) (good_inj z) in
    step _ _ q (ap good (sym (write_read 0 s r b (passes 0 s (head s) r q)) ∙ ap write y))

-- the record of a message that passes is valid
pub read_valid : (p : ℕ) (s : List ℕ) → Bytes s → length s ≤ 65536 → (m : Message) (n : ℕ) → message p s ≡ good (m, n) → Valid m
unfolding message
read_valid p s b l m n e =
    let (r, q, z) = stepped _ _ e in
    let y : record_of s (head s) r ≡ m = ap (λ (k : Message × ℕ). k.0) (good_inj z) in
    subst Valid y (valid p s r b (passes p s (head s) r q) l)

-- a message that passes takes no fewer bytes than its header and its packages
pub read-size : (p : ℕ) (s : List ℕ) → Bytes s → (m : Message) (n : ℕ) → message p s ≡ good (m, n) → (24 + length (join (map piece_of m.packages)) ≤ n) × (n ≤ length s)
unfolding message record_of
read-size p s b m n e =
    let (r, q, z) = stepped _ _ e in
    let w = passes p s (head s) r q in
    subst (λ (k : Message × ℕ). (24 + length (join (map piece_of k.0.packages)) ≤ k.1) × (k.1 ≤ length s)) (good_inj z)
    (omega (arith, payload-length p s r b w, w.header.least), w.header.most)

-- what is cleaned is written from the record
cleaned-written : (s : List ℕ) {c : List ℕ} → Bytes s → length s ≤ 65536 → clean_form s ≡ good c → (m : Message) × Valid m × (write m ≡ c)
unfolding clean_form
cleaned-written s b l e =
    let (r, q, z) = stepped _ _ e in
    let w = passes 0 s (head s) r q in
    (record_of s (head s) r, valid 0 s r b w l, write_read 0 s r b w ∙ good_inj z)

-- cleaning twice is cleaning once
pub clean-twice : (s c t : List ℕ) → Bytes s → length s ≤ 65536 → Bytes t → clean_form s ≡ good c → clean_form (c ++ t) ≡ good c
clean-twice s c t b l bt e =
    let (m, v, q) = cleaned-written s b l e in
    rw (← q) (read-written (write m ++ t) (bytes-append (write m) t (bytes-write m v) bt) m (length (write m)) (written_read m v 0 t))

-- two messages have equal clean forms exactly if their records are equal
pub clean-exactly : (s s' : List ℕ) → Bytes s → Bytes s' → length s ≤ 65536 → length s' ≤ 65536 → (m m' : Message) (n n' : ℕ)
    → message 0 s ≡ good (m, n) → message 0 s' ≡ good (m', n') → (clean_form s ≡ clean_form s') ↔ (m ≡ m')
clean-exactly s s' b b' l l' m m' n n' e e' =
    let c = read-written s b m n e in
    let c' = read-written s' b' m' n' e' in (
      (λ q. write_injective m m' (read_valid 0 s b l m n e) (read_valid 0 s' b' l' m' n' e') (good_inj (sym c ∙ q ∙ c'))),
      λ q. c ∙ ap (λ (x : Message). good (write x)) q ∙ sym c',
    )
