-- How the released list and the copy grow, message by message: what the loop of the copy keeps.
use Prim.Native.Nat.{ℕ, zero, suc, ◌+◌, ◌*◌, ◌/◌, ◌%◌}
use mathlib.Core.Path.{◌≡◌, refl, ap, ap₂, ◌∙◌}
use mathlib.Core.Bool.{Bool, true, false}
use mathlib.Core.List.{List, [], ◌∷◌, ◌++◌, map, append_assoc}
use native.Mathlib.Nat.{zero-add, add-zero}
use native.Mathlib.Omega.{arith}
use lib.Dec.{eqb}
use lib.ListN.{replicate}
use Rattle.rules.specs.Bytes.{join}
use Rattle.rules.specs.Packages.{Package}
use Rattle.rules.specs.Message.{Message}
use Rattle.rules.specs.Sheet.{Row}
use Rattle.rules.specs.Items.{count, All, all_nil, all_cons}
use Rattle.rules.specs.Copy.{granted, Entry, granted_packages, with_entry_of, released, copy_message, copy_messages}

-- the message id of an entry
abbrev pub id_of : Entry → ℕ
id_of e = e.id

-- lists one behind the other
pub join-append : (cs ds : List (List ℕ)) → join (cs ++ ds) ≡ join cs ++ join ds
join-append [] ds = refl
join-append (c ∷ cs) ds = rw (join-append cs ds, append_assoc)

pub map-append : {A B : Type 0} (f : A → B) (l m : List A) → map f (l ++ m) ≡ map f l ++ map f m
map-append f [] m = refl
map-append f (a ∷ l) m = ap (λ (r : List _). f a ∷ r) (map-append f l m)

pub all_append : {A : Type 0} {P : A → Type 0} {l m : List A} → All P l → All P m → All P (l ++ m)
all_append all_nil b = b
all_append (all_cons h a) b = all_cons h (all_append a b)

pub map-replicate : {A B : Type 0} (f : A → B) (n : ℕ) (a : A) → map f (replicate n a) ≡ replicate n (f a)
map-replicate f zero a = refl
map-replicate f (suc n) a = ap (λ (l : List _). f a ∷ l) (map-replicate f n a)

-- the released list of more messages
with_entry_of-append : (m : Message) (ps : List Package) (es fs : List Entry) → with_entry_of m ps (es ++ fs) ≡ with_entry_of m ps es ++ fs
unfolding with_entry_of
with_entry_of-append m [] es fs = refl
with_entry_of-append m (p ∷ ps) es fs = refl

pub granted-append : (rs : List Row) (m : Message) (ks ls : List Package) → granted_packages rs m (ks ++ ls) ≡ granted_packages rs m ks ++ granted_packages rs m ls
unfolding granted_packages
granted-append rs m [] ls = refl
granted-append rs m (k ∷ ks) ls = go (granted rs m k) (granted-append rs m ks ls)
  where
    go : (b : Bool) → granted_packages rs m (ks ++ ls) ≡ granted_packages rs m ks ++ granted_packages rs m ls
        → elim b [ true ↦ k ∷ granted_packages rs m (ks ++ ls) | false ↦ granted_packages rs m (ks ++ ls) ]
        ≡ elim b [ true ↦ k ∷ granted_packages rs m ks | false ↦ granted_packages rs m ks ] ++ granted_packages rs m ls
    go true e = rw e
    go false e = e

-- what is granted alike is kept alike, by whatever rows and of whatever message
pub granted_alike : (rs rs' : List Row) (m m' : Message) → ((k : Package) → granted rs m k ≡ granted rs' m' k) → (ks : List Package) → granted_packages rs m ks ≡ granted_packages rs' m' ks
unfolding granted_packages
granted_alike rs rs' m m' h [] = refl
granted_alike rs rs' m m' h (k ∷ ks) = ap₂ (λ (b : Bool) (l : List Package). elim b [ true ↦ k ∷ l | false ↦ l ]) (h k) (granted_alike rs rs' m m' h ks)

-- what one message releases
module _ (rs : List Row) (m : Message) where
  pub released-entry : (k : Package) (ks : List Package) → granted_packages rs m m.packages ≡ k ∷ ks
      → released rs (m ∷ []) ≡ record { id = m.id; seconds = m.seconds; nanos = m.nanos; flags = m.flags / 2 % 8 * 2; packages = k ∷ ks } ∷ []
  unfolding released with_entry_of
  released-entry k ks e = ap (λ (ps : List Package). with_entry_of m ps []) e

  pub released-none : granted_packages rs m m.packages ≡ [] → released rs (m ∷ []) ≡ []
  unfolding released with_entry_of
  released-none e = ap (λ (ps : List Package). with_entry_of m ps []) e

pub released-append : (rs : List Row) (ms ns : List Message) → released rs (ms ++ ns) ≡ released rs ms ++ released rs ns
unfolding released
released-append rs [] ns = refl
released-append rs (m ∷ ms) ns = rw (released-append rs ms ns, with_entry_of-append)

-- one message more: no entry, or one
pub released_snoc : (rs : List Row) (ms : List Message) (m : Message) → released rs (ms ++ (m ∷ [])) ≡ released rs ms ++ with_entry_of m (granted_packages rs m m.packages) []
unfolding released
released_snoc rs ms m = released-append rs ms (m ∷ [])

-- the ids of the entries es, the latest first, in front of those seen before
ids : List Entry → List ℕ → List ℕ
ids [] seen = seen
ids (e ∷ es) seen = ids es (e.id ∷ seen)

copy_messages-append : (seen : List ℕ) (es fs : List Entry) → copy_messages seen (es ++ fs) ≡ copy_messages seen es ++ copy_messages (ids es seen) fs
unfolding copy_messages ids
copy_messages-append seen [] fs = refl
copy_messages-append seen (e ∷ es) fs = ap (λ (r : List Message). copy_message (count e.id seen) e ∷ r) (copy_messages-append (e.id ∷ seen) es fs)

-- how often an id was seen does not depend on the order
count-ids : (x : ℕ) (es : List Entry) (seen : List ℕ) → count x (ids es seen) ≡ count x (map id_of es) + count x seen
unfolding ids count
count-ids x [] seen = rw zero-add
count-ids x (e ∷ es) seen = count-ids x es (e.id ∷ seen) ∙ go (eqb x e.id)
  where
    go : (b : Bool) → count x (map id_of es) + elim b [ true ↦ suc (count x seen) | false ↦ count x seen ]
        ≡ elim b [ true ↦ suc (count x (map id_of es)) | false ↦ count x (map id_of es) ] + count x seen
    go true = omega arith
    go false = refl

-- the message of one entry more, and its copy
pub copy_messages_snoc : (es : List Entry) (e : Entry) → copy_messages [] (es ++ (e ∷ [])) ≡ copy_messages [] es ++ (copy_message (count e.id (map id_of es)) e ∷ [])
unfolding copy_messages count
copy_messages_snoc es e =
    let c : count e.id (ids es []) ≡ count e.id (map id_of es) = count-ids e.id es [] ∙ add-zero _ in
    rw (copy_messages-append [] es (e ∷ []), c)
