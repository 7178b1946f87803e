-- The records that are kept: how they grow, that they are valid, and that they take no more bytes than the messages did.
use Prim.Native.Nat.{ℕ, zero, suc, ◌+◌, ◌-◌, ◌*◌, ◌≤◌}
use mathlib.Core.Path.{◌≡◌, refl, ap, ap₂, sym, subst, ◌∙◌}
use mathlib.Core.Bool.{Bool, true, false, ◌||◌}
use mathlib.Core.Logic.{inr}
use mathlib.Core.List.{List, [], ◌∷◌, ◌++◌, map, append-nil, append_assoc}
use native.Mathlib.Omega.{arith}
use lib.ListN.{length, drop, length-append, length-take}
use Rattle.rules.specs.Outcome.{good}
use Rattle.rules.specs.Bytes.{Bytes, part, join}
use Rattle.rules.specs.Items.{items, All, all_nil, all_cons}
use Rattle.rules.specs.Packages.{Package, piece_of, package_time}
use Rattle.rules.specs.Message.{is_simulated, head, payload_start, Message, record_of, message}
use Rattle.rules.specs.Writer.{write}
use Rattle.rules.specs.Valid.{ValidPackage, Valid}
use Rattle.rules.specs.Sheet.{Row, grants}
use Rattle.rules.specs.Copy.{granted}
use Rattle.rules.proofs.Outcomes.{stepped, fronted, good_inj}
use Rattle.rules.proofs.Numbers.{bytes-nil, bytes-tail}
use Rattle.rules.proofs.Pieces.{length-padded}
use Rattle.rules.proofs.Run.{run_ends}
use Rattle.rules.proofs.Again.{length-write}
use Rattle.rules.proofs.Passed.{Passed, passes}
use Rattle.rules.proofs.Valids.{valid, run_length, payload-length}
use Rattle.rules.proofs.Growing.{join-append, map-append}
use Rattle.purge.specs.Purge.{kept_packages, count_set, with_packages, loses_last, kept_record, kept_records, kept_bytes}
use Rattle.purge.specs.Claims.{NoneGranted}
use Rattle.purge.proofs.Counts.{length-set, bytes-set, run-set, options-set, said-set, right-set}

-- ---- packages, one by one

pub kept_append : (rs : List Row) (m : Message) (ps qs : List Package) → kept_packages rs m (ps ++ qs) ≡ kept_packages rs m ps ++ kept_packages rs m qs
unfolding kept_packages
kept_append rs m [] qs = refl
kept_append rs m (p ∷ ps) qs = go (granted rs m p) (kept_append rs m ps qs)
  where
    go : (b : Bool) → kept_packages rs m (ps ++ qs) ≡ kept_packages rs m ps ++ kept_packages rs m qs
        → elim b [ true ↦ kept_packages rs m (ps ++ qs) | false ↦ p ∷ kept_packages rs m (ps ++ qs) ]
        ≡ elim b [ true ↦ kept_packages rs m ps | false ↦ p ∷ kept_packages rs m ps ] ++ kept_packages rs m qs
    go true e = e
    go false e = rw e

module _ (rs : List Row) (m : Message) where
  pub kept-taken : (p : Package) → granted rs m p ≡ true → kept_packages rs m (p ∷ []) ≡ []
  unfolding kept_packages
  kept-taken p e = rw (e, kept_packages)

  pub kept-stays : (p : Package) → granted rs m p ≡ false → kept_packages rs m (p ∷ []) ≡ p ∷ []
  unfolding kept_packages
  kept-stays p e = rw (e, kept_packages)

  -- the packages that are kept are valid, and take no more room
  pub record Kept (ps qs : List Package) : Type 0 where
    pub valid : All ValidPackage qs
    pub room : length (join (map piece_of qs)) ≤ length (join (map piece_of ps))

  pub kept_valid : {ps : List Package} → All ValidPackage ps → Kept ps (kept_packages rs m ps)
  unfolding kept_packages
  kept_valid all_nil = record { valid = all_nil; room = omega arith }
  kept_valid (all_cons {a = p} {l = ps} v a) = go (granted rs m p) (kept_valid a)
    where
      go : (b : Bool) → Kept ps (kept_packages rs m ps) → Kept (p ∷ ps) (elim b [ true ↦ kept_packages rs m ps | false ↦ p ∷ kept_packages rs m ps ])
      go true k = record { valid = k.valid; room = omega (arith, k.room, length-append (piece_of p) (join (map piece_of ps))) }
      go false k = record { valid = all_cons v k.valid; room = omega (arith, k.room, length-append (piece_of p) (join (map piece_of (kept_packages rs m ps))), length-append (piece_of p) (join (map piece_of ps))) }

  -- none of them is granted
  pub kept-none : (ps : List Package) → All (λ (p : Package). granted rs m p ≡ false) (kept_packages rs m ps)
  unfolding kept_packages
  kept-none [] = all_nil
  kept-none (p ∷ ps) = go (granted rs m p) refl (kept-none ps)
    where
      go : (b : Bool) → granted rs m p ≡ b → All (λ (q : Package). granted rs m q ≡ false) (kept_packages rs m ps)
          → All (λ (q : Package). granted rs m q ≡ false) (elim b [ true ↦ kept_packages rs m ps | false ↦ p ∷ kept_packages rs m ps ])
      go true e a = a
      go false e a = all_cons e a

  -- and where none is granted, all are kept
  pub kept-all : {ps : List Package} → All (λ (p : Package). granted rs m p ≡ false) ps → kept_packages rs m ps ≡ ps
  unfolding kept_packages
  kept-all all_nil = refl
  kept-all (all_cons {a = p} e a) = rw (e, kept_packages) (ap (λ (l : List Package). p ∷ l) (kept-all a))

-- without rows nothing is granted
pub ungranted : (m : Message) (ps : List Package) → kept_packages [] m ps ≡ ps
unfolding kept_packages granted
ungranted m [] = refl
ungranted m (p ∷ ps) = ap (λ (l : List Package). p ∷ l) (ungranted m ps)

-- ---- messages, one by one

pub records-append : (rs : List Row) (ms ns : List Message) → kept_records rs (ms ++ ns) ≡ kept_records rs ms ++ kept_records rs ns
unfolding kept_records
records-append rs [] ns = refl
records-append rs (m ∷ ms) ns = rw (records-append rs ms ns) (sym (append_assoc (kept_record m (kept_packages rs m m.packages)) (kept_records rs ms) (kept_records rs ns)))

pub bytes-append : (ks ls : List Message) → kept_bytes (ks ++ ls) ≡ kept_bytes ks ++ kept_bytes ls
unfolding kept_bytes
bytes-append ks ls = rw (map-append, join-append)

-- packages are fewer than the bytes that they take
few-pieces : (ks : List Package) → length ks ≤ length (join (map piece_of ks))
unfolding piece_of
few-pieces [] = omega arith
few-pieces (k ∷ ks) = omega (arith, few-pieces ks, length-append (piece_of k) (join (map piece_of ks)))

-- a record with fewer packages
module _ (m : Message) (ks : List Package) (v : Valid m) (all : All ValidPackage ks) (room : length (join (map piece_of ks)) ≤ length (join (map piece_of m.packages))) where
  same_options : length (count_set (length ks) [] m.options) ≡ length m.options
  same_options = length-set (length ks) [] m.options

  pub valid_fewer : Valid (with_packages m ks)
  unfolding with_packages
  valid_fewer = record {
    flags = v.flags;
    id = v.id;
    sequence = v.sequence;
    seconds = v.seconds;
    nanos = v.nanos;
    options = bytes-set (length ks) [] m.options bytes-nil v.options;
    run = rw same_options (run-set (length ks) [] 0 0 0 0 [] m.options refl (omega arith) (omega arith) v.run);
    short = rw same_options v.short;
    packages = all;
    count = said-set (omega (arith, few-pieces ks, room, v.size)) (options-set (length ks) [] 0 0 0 m.options (omega arith) v.run);
    size = rw same_options (omega (arith, v.size));
  }

  pub short_fewer : length (write (with_packages m ks)) ≤ length (write m)
  unfolding with_packages
  short_fewer =
      omega (arith, length-write m v [], length-write (with_packages m ks) valid_fewer [], length-padded m.options, length-padded (count_set (length ks) [] m.options), same_options)

-- what is kept of messages: valid records, in no more bytes
pub record Left (ms ks : List Message) : Type 0 where
  pub valid : All Valid ks
  pub small : length (kept_bytes ks) ≤ length (kept_bytes ms)

left-more : (m : Message) (ms qs : List Message) (ks : List Package) → Valid m → All ValidPackage ks → length (join (map piece_of ks)) ≤ length (join (map piece_of m.packages)) → Left ms qs → Left (m ∷ ms) (kept_record m ks ++ qs)
unfolding kept_record kept_bytes
left-more m ms qs ks v a room w = go (loses_last m.packages ks)
  where
    go : (b : Bool) → Left (m ∷ ms) (elim b [ true ↦ [] | false ↦ with_packages m ks ∷ [] ] ++ qs)
    go true = record { valid = w.valid; small = omega (arith, w.small, length-append (write m) (join (map write ms))) }
    go false = record {
      valid = all_cons (valid_fewer m ks v a room) w.valid;
      small = omega (arith, w.small, short_fewer m ks v a room, length-append (write m) (join (map write ms)), length-append (write (with_packages m ks)) (join (map write qs)));
    }

pub left : (rs : List Row) {ms : List Message} → All Valid ms → Left ms (kept_records rs ms)
unfolding kept_records kept_bytes
left rs all_nil = record { valid = all_nil; small = omega arith }
left rs (all_cons {a = m} {l = ms} v a) =
    let k = kept_valid rs m v.packages in
    left-more m ms (kept_records rs ms) (kept_packages rs m m.packages) v k.valid k.room (left rs a)

-- a message is never shorter than its record written
clean-length : (p : ℕ) (s : List ℕ) (r : ℕ × List (List ℕ)) (b : Bytes s) (w : Passed p s (head s) r) → length s ≤ 65536 → length (write (record_of s (head s) r)) ≤ (head s).size
unfolding record_of
clean-length p s r b w l =
    let o = run_ends [] 0 (p + 24) 0 (part 24 (payload_start (head s)) s) (omega arith) w.options in
    let inside : r.0 ≤ 4 * (head s).words = omega (arith, o.most, length-take (24 + 4 * (head s).words - 24) (drop 24 s)) in
    omega (arith, length-write (record_of s (head s) r) (valid p s r b w l) [], length-padded (part 24 (24 + r.0) s), run_length p s r b w, payload-length p s r b w, inside, w.header.least)

pub clean-short : (p : ℕ) (s : List ℕ) → Bytes s → length s ≤ 65536 → (m : Message) (n : ℕ) → message p s ≡ good (m, n) → (length (write m) ≤ n) × (n ≤ length s)
unfolding message
clean-short p s b l m n e =
    let (r, q, z) = stepped _ _ e in
    let w = passes p s (head s) r q in
    subst (λ (k : Message × ℕ). (length (write k.0) ≤ k.1) × (k.1 ≤ length s)) (good_inj z) (clean-length p s r b w l, w.header.most)

-- so a recording is never shorter than its messages in clean form, behind the k bytes that belong to the message before
pub all_short : (k p : ℕ) (s : List ℕ) {ms : List Message} → Bytes s → length s ≤ 65536 → items message k p s ≡ good ms → length (kept_bytes ms) ≤ length s - k
unfolding items kept_bytes
all_short k p [] {ms} b l e = let q : [] ≡ ms = cc in rw (← q) (omega arith)
all_short (suc k) p (x ∷ s) b l e = omega (arith, all_short k (suc p) s (bytes-tail b) (omega arith) e)
all_short zero p (x ∷ s) {ms} b l e =
    let (r, g, d) = stepped _ _ e in
    let (rest, i, m) = fronted _ _ d in
    let w = all_short (r.1 - 1) (suc p) s (bytes-tail b) (omega arith) i in
    let (short, most) = clean-short p (x ∷ s) b l r.0 r.1 g in
    rw (← m) (omega (arith, w, short, most, length-append (write r.0) (join (map write rest))))

-- ---- nothing that is granted is left

-- a grant depends on a message's id, its time and its flag bit 3 alone, which a kept record keeps
module _ (m m' : Message) (i : m.id ≡ m'.id) (f : is_simulated m.flags ≡ is_simulated m'.flags) (s : m.seconds ≡ m'.seconds) (n : m.nanos ≡ m'.nanos) where
  granted-by : (rs : List Row) (p : Package) → granted rs m p ≡ granted rs m' p
  unfolding granted
  granted-by [] p = refl
  granted-by (r ∷ rs) p =
      let e : grants m.id (is_simulated m.flags) p.id (package_time m.seconds m.nanos p.delta) r ≡ grants m'.id (is_simulated m'.flags) p.id (package_time m'.seconds m'.nanos p.delta) r = rw (i, f, s, n) in
      ap₂ (λ (a b : Bool). a || b) e (granted-by rs p)

  pub kept_by_lem : (rs : List Row) (ps : List Package) → kept_packages rs m ps ≡ kept_packages rs m' ps
  unfolding kept_packages
  kept_by_lem rs [] = refl
  kept_by_lem rs (p ∷ ps) = ap₂ (λ (b : Bool) (l : List Package). elim b [ true ↦ l | false ↦ p ∷ l ]) (granted-by rs p) (kept_by_lem rs ps)

same_granted : (rs : List Row) (m : Message) (ks : List Package) (p : Package) → granted rs (with_packages m ks) p ≡ granted rs m p
unfolding with_packages
same_granted rs m ks p = granted-by (with_packages m ks) m refl refl refl refl rs p

none-granted : (rs : List Row) (m : Message) (ks : List Package) {ps : List Package} → All (λ (p : Package). granted rs m p ≡ false) ps → All (λ (p : Package). granted rs (with_packages m ks) p ≡ false) ps
none-granted rs m ks all_nil = all_nil
none-granted rs m ks (all_cons {a = p} e a) = all_cons (same_granted rs m ks p ∙ e) (none-granted rs m ks a)

kept-granted : (rs : List Row) (m : Message) → NoneGranted rs (with_packages m (kept_packages rs m m.packages))
unfolding with_packages
kept-granted rs m = none-granted rs m (kept_packages rs m m.packages) (kept-none rs m m.packages)

pub nothing-granted : (rs : List Row) (ms : List Message) → All (NoneGranted rs) (kept_records rs ms)
unfolding kept_records kept_record
nothing-granted rs [] = all_nil
nothing-granted rs (m ∷ ms) = go (loses_last m.packages (kept_packages rs m m.packages)) (nothing-granted rs ms)
  where
    go : (b : Bool) → All (NoneGranted rs) (kept_records rs ms) → All (NoneGranted rs) (elim b [ true ↦ [] | false ↦ with_packages m (kept_packages rs m m.packages) ∷ [] ] ++ kept_records rs ms)
    go true a = a
    go false a = all_cons (kept-granted rs m) a

-- so what is kept is kept again
never_loses : (ps : List Package) → loses_last ps ps ≡ false
unfolding loses_last
never_loses [] = refl
never_loses (p ∷ ps) = refl

-- a valid record says how many packages it has, so with all of them it is itself
again_record : (m : Message) → Valid m → with_packages m m.packages ≡ m
unfolding with_packages
again_record m v =
    let e : count_set (length m.packages) [] m.options ≡ m.options = right-set (length m.packages) [] 0 0 0 m.options v.options (omega arith) (omega arith) v.run (inr v.count) in
    rw e

pub kept_same : (m : Message) → Valid m → kept_record m m.packages ≡ m ∷ []
unfolding kept_record
kept_same m v = rw (never_loses m.packages, kept_record, again_record m v)

pub kept_again : (rs : List Row) {ks : List Message} → All (NoneGranted rs) ks → All Valid ks → kept_records rs ks ≡ ks
unfolding kept_records
kept_again rs all_nil all_nil = refl
kept_again rs (all_cons {a = m} {l = ks} g a) (all_cons v b) = rw (kept-all rs m g, kept_same m v, kept_again rs a b)

-- ---- a message that keeps a package, one that had none, one that loses its last

pub stays_record : (m : Message) (ks : List Package) → loses_last m.packages ks ≡ false → kept_record m ks ≡ with_packages m ks ∷ []
unfolding kept_record
stays_record m ks e = rw (e, kept_record)

pub goes_record : (m : Message) (ks : List Package) → loses_last m.packages ks ≡ true → kept_record m ks ≡ []
unfolding kept_record
goes_record m ks e = rw (e, kept_record)

pub never_last : (ps : List Package) (k : Package) (ks : List Package) → loses_last ps (k ∷ ks) ≡ false
unfolding loses_last
never_last [] k ks = refl
never_last (p ∷ ps) k ks = refl

module _ (rs : List Row) (m : Message) where
  pub records-one : kept_records rs (m ∷ []) ≡ kept_record m (kept_packages rs m m.packages)
  unfolding kept_records
  records-one = append-nil _

  pub had_none_lem : m.packages ≡ [] → kept_records rs (m ∷ []) ≡ with_packages m [] ∷ []
  unfolding kept_packages loses_last
  had_none_lem e = records-one ∙ ap (kept_record m) (ap (kept_packages rs m) e) ∙ stays_record m [] (ap (λ (ps : List Package). loses_last ps []) e)

  pub keeps-some : (k : Package) (ks : List Package) → kept_packages rs m m.packages ≡ k ∷ ks → kept_records rs (m ∷ []) ≡ with_packages m (k ∷ ks) ∷ []
  keeps-some k ks e = records-one ∙ ap (kept_record m) e ∙ stays_record m (k ∷ ks) (never_last m.packages k ks)

  pub loses : (p : Package) (ps : List Package) → m.packages ≡ p ∷ ps → kept_packages rs m m.packages ≡ [] → kept_records rs (m ∷ []) ≡ []
  unfolding loses_last
  loses p ps q e = records-one ∙ ap (kept_record m) e ∙ goes_record m [] (ap (λ (l : List Package). loses_last l []) q)
