-- The packages of one message: what the two loops over a run keep.
use Prim.Native.Nat.{ℕ, ◌+◌, ◌-◌, ◌*◌, ◌/◌, ◌%◌, ◌≤◌, ◌<◌}
use mathlib.Core.Path.{◌≡◌, refl, sym, ap, ap₂, subst, ◌∙◌}
use mathlib.Core.Logic.{⊎_elim}
use mathlib.Core.Bool.{Bool, true, false, not}
use mathlib.Core.List.{List, [], ◌∷◌, ◌++◌, map, append-nil, append_assoc}
use native.Mathlib.Nat.{add-zero}
use native.Mathlib.Omega.{arith}
use lib.ListN.{length, take, drop, length-append}
use lib.Dec.{ltb, eqb}
use lib.Seq.{sets}
use borrow.Author.Tests.{ltb-true, ltb-false}
use Rattle.rules.specs.Outcome.{good, bad, PACKAGE}
use Rattle.rules.specs.Bytes.{Bytes, pad}
use Rattle.rules.specs.Packages as rules
use Rattle.rules.specs.Packages.{package_length, package_fits, piece, cut, package_of, piece_of, package_time}
use Rattle.rules.specs.Options.{count_said, differs}
use Rattle.rules.specs.Message.{is_simulated, record_bits, Message}
use Rattle.rules.specs.Sheet as rows
use Rattle.rules.specs.Copy.{granted, granted_packages}
use Rattle.rules.proofs.Outcomes.{good_inj, good≢bad, refused-at}
use Rattle.rules.proofs.Growing.{join-append, map-append, granted-append}
use Rattle.rules.proofs.Loops.{Doing, doing_start, doing_next, doing_end, doing_bad, sets-sets}
use Rattle.refusal.specs.declared.Refusal.{Refusal}
use Rattle.message.specs.declared.Header.{Header}
use Rattle.message.specs.declared.Package.{Package}
use Rattle.std.specs.Prelude.{Some, None, Result, Ok, Err}
use Rattle.std.specs.Prelude as std
use Rattle.message.proofs.Moved.{moved, read-moved}
use Rattle.message.specs.Answers.{told_header, told_package, front_at, payload_from, next_from}
use Rattle.message.proofs.Fronts.{fronted, front_stopped, front_package, front-count, front-message}
use Rattle.rules.specs.Walk.{package_at}
use Rattle.sheet.specs.Table.{rows_in, near_of, near_grants}
use Rattle.wire.specs.Bits.{bit_at, with_bit_if}
use Rattle.wire.proofs.Bits.{length-with}
use Rattle.numbered.specs.declared.Size.{Size}
use Rattle.numbered.specs.declared.Walked.{Walked}
use Rattle.message.specs.declared.Message as found
use Rattle.numbered.specs.Parts.{message_by, kept, payload_of, with_package, flags_of, Tells, WalkedOver, finished_by, finished, Took, piece_as, Placed, Stored, picked, StoredRun}
use Rattle.sheet.proofs.TableRows.{near_in}
use Rattle.numbered.proofs.Marks.{tells_more, flags-more, flags_long, grow, picked_more}
use Rattle.numbered.proofs.Found.{Found, found, no_end, no_piece, id-is, delta-is, next-is, least, on, still, placed, piece_is, piece-length}

module _ (rs : List rows.Row) (m : Message) where
  granteds_snoc : (ps : List rules.Package) (p : rules.Package) → granted_packages rs m (ps ++ (p ∷ [])) ≡ grow (granted rs m p) (granted_packages rs m ps) p
  unfolding granted_packages
  granteds_snoc ps p = granted-append rs m ps (p ∷ []) ∙ go (granted rs m p)
    where
      go : (b : Bool) → granted_packages rs m ps ++ elim b [ true ↦ p ∷ [] | false ↦ [] ] ≡ grow b (granted_packages rs m ps) p
      go true = refl
      go false = append-nil _

  kept_snoc : (cs : List (List ℕ)) (c : List ℕ) → kept rs m (cs ++ (c ∷ [])) ≡ grow (granted rs m (package_of c)) (kept rs m cs) (package_of c)
  unfolding kept
  kept_snoc cs c = rw (map-append package_of cs (c ∷ [])) (granteds_snoc (map package_of cs) (package_of c))

-- the bytes of packages, and of one more
pub payload-more : (ps : List rules.Package) (p : rules.Package) → payload_of (ps ++ (p ∷ [])) ≡ payload_of ps ++ piece_of p
payload-more ps p = rw (map-append, join-append, append-nil)

-- a record keeps flag bit 3
simulated_bit : (flags : ℕ) → is_simulated (record_bits flags) ≡ is_simulated flags
simulated_bit flags =
    let a : (flags / 64 % 2 * 64 + flags % 16) / 8 ≡ flags / 64 % 2 * 8 + flags % 16 / 8 = omega arith in
    let b : flags % 16 / 8 ≡ flags / 8 % 2 = omega arith in
    let c : (flags / 64 % 2 * 8 + flags / 8 % 2) % 2 ≡ flags / 8 % 2 = omega arith in
    rw (a, b, c)

-- a package that was read at the start of what is left, as it stands in the run
pub found-behind : (run : List ℕ) (k : ℕ) → length run ≤ 65536 → (p : Package) → told_package (Ok (Some p)) ≡ package_at (drop k run) 0 → Found run k (moved k p)
found-behind run k l p e = found run k (moved k p) (read-moved run k l (Ok (Some p)) e)

-- whether a package that was found is granted by the near rows of its message
module _ (table : List ℕ) (h : Header) (run : List ℕ) (k : ℕ) (p : Package) (f : Found run k p) where
  pub near_asked : near_grants p.id.0 (package_time h.seconds h.nanos p.delta) (near_of h.id.0 (is_simulated h.flags) table) ≡ granted (rows_in table) (message_by h) (package_of f.c)
  unfolding package_of
  near_asked = rw (← id-is run k p f, ← delta-is run k p f, ← simulated_bit h.flags) (near_in table (message_by h) (package_of f.c))

-- ---- what both loops keep: the pieces before place k are done, and ps are the packages among them that are kept

pub record Keeping (keep : List (List ℕ) → List rules.Package) (run : List ℕ) (ps : List rules.Package) (k : ℕ) : Type 0 where
  pub done : List (List ℕ)
  pub doing : Doing piece run done k
  pub inside : k ≤ length run
  pub are : keep done ≡ ps

-- where no package stands, it is refused there
piece-refused : (p : ℕ) (t : List ℕ) {n q : ℕ} → piece p t ≡ bad n q → piece p t ≡ bad PACKAGE p
unfolding piece
piece-refused p t e = ⊎_elim (λ w. e ∙ sym (ap₂ bad w.1 w.2)) (λ w. absurd (good≢bad (sym w.1)))
    (refused-at (not (package_fits t)) PACKAGE p (good (take (pad (package_length t)) t, pad (package_length t))) e)

module _ (keep : List (List ℕ) → List rules.Package) (run : List ℕ) where
  abbrev keep-start : keep [] ≡ [] → Keeping keep run [] 0
  keep-start e = record { done = []; doing = doing_start piece run; inside = omega arith; are = e }

  module _ (ps : List rules.Package) (k : ℕ) (inv : Keeping keep run ps k) where
    keep_all : length run ≤ k → cut 0 run ≡ good inv.done
    keep_all l = doing_end piece run inv.done k inv.doing l

    keep-bad : k < length run → {w p : ℕ} → piece k (drop k run) ≡ bad w p → cut 0 run ≡ bad PACKAGE k
    keep-bad l b = doing_bad piece run inv.done k inv.doing l (piece-refused k (drop k run) b)

    abbrev keep-next : k < length run → (p : Package) (f : Found run k p) (b : Bool) → keep (inv.done ++ (f.c ∷ [])) ≡ grow b (keep inv.done) (package_of f.c)
        → Keeping keep run (grow b ps (package_of f.c)) p.next
    keep-next l p f b g = record {
      done = inv.done ++ (f.c ∷ []);
      doing = rw (← next-is run k p f) (doing_next piece run inv.done k f.c f.n inv.doing l (omega (arith, least run k p f)) f.read);
      inside = still run k p f;
      are = g ∙ ap (λ (l : List rules.Package). grow b l (package_of f.c)) inv.are;
    }

-- what was read is no package
abbrev pub NoPackage : Result (std.Option Package) Refusal → Type 0
NoPackage x = (p : Package) → x ≡ Ok (Some p) → ⊥

pub no_package : (p : Package) → NoPackage (Ok (Some p)) → ⊥
no_package p o = o p refl

-- ---- measuring

module _ (rs : List rows.Row) (m : Message) (run marks₀ : List ℕ) (first : ℕ) where
  pub record Walking (s : Size) (all : ℕ) (marks : List ℕ) (k : ℕ) : Type 0 where
    pub ps : List rules.Package
    pub keeping : Keeping (kept rs m) run ps k
    pub small : s.bytes ≤ k
    pub few : s.packages ≤ k
    pub bytes : s.bytes ≡ length (payload_of ps)
    pub packages : s.packages ≡ length ps
    pub many : all ≡ length keeping.done
    pub least : 12 * all ≤ k
    pub long : length marks ≡ 683
    pub marked : (fs : List Bool) → length fs ≡ first → Tells marks₀ fs → Tells marks (fs ++ flags_of rs m keeping.done)

  pub walk_start : length marks₀ ≡ 683 → Walking (record { bytes = 0; packages = 0 }) 0 marks₀ 0
  unfolding kept granted_packages flags_of
  walk_start l = record {
    ps = [];
    keeping = keep-start (kept rs m) run refl;
    small = omega arith;
    few = omega arith;
    bytes = refl;
    packages = refl;
    many = refl;
    least = omega arith;
    long = l;
    marked = λ fs e t. rw (append-nil fs) t;
  }

  module _ (s : Size) (all : ℕ) (marks : List ℕ) (k : ℕ) (inv : Walking s all marks k) where
    -- as far as it came
    walked : (length run ≤ k → cut 0 run ≡ good inv.keeping.done) → (k < length run → cut 0 run ≡ bad PACKAGE k) → WalkedOver rs m run marks₀ marks first (record { size = s; all = all; end = k })
    walked w b = record {
      pieces = inv.keeping.done;
      inside = inv.keeping.inside;
      small = omega (arith, inv.small, inv.keeping.inside);
      few = omega (arith, inv.few, inv.keeping.inside);
      many = inv.many;
      whole = w;
      broken = b;
      bytes = inv.bytes ∙ ap (λ (l : List rules.Package). length (payload_of l)) (sym inv.keeping.are);
      packages = inv.packages ∙ ap length (sym inv.keeping.are);
      marked = inv.marked;
    }

    pub walk_ended : length run ≤ k → WalkedOver rs m run marks₀ marks first (record { size = s; all = all; end = k })
    walk_ended l = walked (keep_all (kept rs m) run inv.ps k inv.keeping) (λ b. absurd (omega arith))

    module _ (short : length run ≤ 65536) (l : k < length run) where
      pub walk_stopped : (x : Result (std.Option Package) Refusal) → NoPackage x → told_package x ≡ package_at (drop k run) 0 → WalkedOver rs m run marks₀ marks first (record { size = s; all = all; end = k })
      walk_stopped (Ok (Some p)) o e = absurd (no_package p o)
      walk_stopped (Ok None) o e = absurd (no_end run k short l (read-moved run k short (Ok None) e))
      walk_stopped (Err f) o e = walked (λ w. absurd (omega arith)) (λ b. keep-bad (kept rs m) run inv.ps k inv.keeping l (no_piece run k short l (record { why = f.why; place = k + f.place }) (read-moved run k short (Err f) e)))

      module _ (room : 12 * first + length run ≤ 65536) (p : Package) (f : Found run k (moved k p)) where
        abbrev done : List (List ℕ)
        done = inv.keeping.done

        marked_more : (b : Bool) → b ≡ granted rs m (package_of f.c) → (fs : List Bool) → length fs ≡ first → Tells marks₀ fs → Tells (with_bit_if marks (first + all) b) (fs ++ flags_of rs m (done ++ (f.c ∷ [])))
        marked_more b g fs e t =
            let n : length (fs ++ flags_of rs m done) ≡ first + all = omega (arith, length-append fs (flags_of rs m done), flags_long rs m done, inv.many) in
            let z = tells_more marks (fs ++ flags_of rs m done) (inv.marked fs e t) (omega (arith, n, inv.least, inv.long)) b in
            let a : (fs ++ flags_of rs m done) ++ (b ∷ []) ≡ fs ++ flags_of rs m (done ++ (f.c ∷ [])) =
            append_assoc fs (flags_of rs m done) (b ∷ [])
            ∙ ap (λ (x : Bool). fs ++ (flags_of rs m done ++ (x ∷ []))) g
            ∙ ap (λ (l : List Bool). fs ++ l) (sym (flags-more rs m done f.c)) in
            rw (← n, ← a) z

        abbrev keeps : (b : Bool) → b ≡ granted rs m (package_of f.c) → Keeping (kept rs m) run (grow b inv.ps (package_of f.c)) (k + p.next)
        keeps b g = keep-next (kept rs m) run inv.ps k inv.keeping l (moved k p) f b (kept_snoc rs m done f.c ∙ ap (λ (x : Bool). grow x (kept rs m done) (package_of f.c)) (sym g))

        pub walk_next : (b : Bool) → b ≡ granted rs m (package_of f.c) → Walking (with_package s p.next b) (all + 1) (with_bit_if marks (first + all) b) (k + p.next)
        walk_next true g = record {
          ps = inv.ps ++ (package_of f.c ∷ []);
          keeping = keeps true g;
          small = omega (arith, inv.small, on run k (moved k p) f);
          few = omega (arith, inv.few, on run k (moved k p) f);
          bytes = rw payload-more (omega (arith, inv.bytes, next-is run k (moved k p) f, piece-length run k (moved k p) f, length-append (payload_of inv.ps) (piece_of (package_of f.c))));
          packages = omega (arith, inv.packages, length-append inv.ps (package_of f.c ∷ []));
          many = omega (arith, inv.many, length-append done (f.c ∷ []));
          least = omega (arith, inv.least, next-is run k (moved k p) f, least run k (moved k p) f);
          long = length-with marks (first + all) true ∙ inv.long;
          marked = marked_more true g;
        }
        walk_next false g = record {
          ps = inv.ps;
          keeping = keeps false g;
          small = omega (arith, inv.small, on run k (moved k p) f);
          few = omega (arith, inv.few, on run k (moved k p) f);
          bytes = inv.bytes;
          packages = inv.packages;
          many = omega (arith, inv.many, length-append done (f.c ∷ []));
          least = omega (arith, inv.least, next-is run k (moved k p) f, least run k (moved k p) f);
          long = length-with marks (first + all) false ∙ inv.long;
          marked = marked_more false g;
        }

-- ---- a message whose packages were walked over

module _ (rs : List rows.Row) (input : List ℕ) (k : ℕ) (marks marks' : List ℕ) (first : ℕ) where
  pub took_refused : (f : Refusal) → told_header (Err f) ≡ front_at input k → Took rs input k marks marks' first (Err f)
  took_refused f e = record { told = front_stopped input k e; measured = tt }

  module _ (h : Header) (e : told_header (Ok h) ≡ front_at input k) (w : Walked) (o : WalkedOver rs (message_by h) (take (next_from k h - payload_from k h) (drop (payload_from k h) input)) marks marks' first w) where
    run_long : length (take (next_from k h - payload_from k h) (drop (payload_from k h) input)) ≡ next_from k h - payload_from k h
    run_long = (fronted input k h e).long

    abbrev said : ℕ → Bool
    said n = differs (count_said (take (k + 24 + h.run - (k + 24)) (drop (k + 24) input))) n

    by_end : (b : Bool) → ltb w.end (next_from k h - payload_from k h) ≡ b → (d : Bool) → said w.all ≡ d → Took rs input k marks marks' first (finished_by b d k h w)
    by_end true l d q = record { told = front_package input k h e w.end (o.broken (omega (arith, run_long, ltb-true w.end (next_from k h - payload_from k h) l))); measured = tt }
    by_end false l true q =
        let c = o.whole (omega (arith, run_long, ltb-false w.end (next_from k h - payload_from k h) l)) in
        record { told = front-count input k h e o.pieces c (ap said (sym o.many) ∙ q); measured = tt }
    by_end false l false q =
        let c = o.whole (omega (arith, run_long, ltb-false w.end (next_from k h - payload_from k h) l)) in
        let same : (cs : List (List ℕ)) → cut 0 (take (next_from k h - payload_from k h) (drop (payload_from k h) input)) ≡ good cs → o.pieces ≡ cs = λ cs x. good_inj (sym c ∙ x) in
        record {
          told = rw o.many (front-message input k h e o.pieces c (ap said (sym o.many) ∙ q));
          measured = record {
            sized = record {
              small = o.small;
              few = o.few;
              right = λ cs x. rw (← same cs x) (o.bytes, o.packages);
            };
            many = λ cs x. o.many ∙ ap length (same cs x);
            marked = λ cs x fs n t. rw (← same cs x) (o.marked fs n t);
          };
        }

    pub took_walked : (r : Result (found.Message × Size) Refusal) → r ≡ finished input k h w → Took rs input k marks marks' first r
    took_walked r q = subst (Took rs input k marks marks' first) (sym q) (by_end (ltb w.end (next_from k h - payload_from k h)) refl (said w.all) refl)

-- ---- writing

module _ (marks : List ℕ) (first : ℕ) (run before : List ℕ) (to : ℕ) where
  pub record Storing (after : List ℕ) (end all k : ℕ) : Type 0 where
    pub ps : List rules.Package
    pub keeping : Keeping (picked marks first) run ps k
    pub least : to ≤ end
    pub most : end ≤ to + k
    pub many : all ≡ length keeping.done
    pub few : all ≤ k
    pub ends : end ≡ to + length (payload_of ps)
    pub stored : after ≡ sets before to (payload_of ps)

  pub store_start : Storing before to 0 0
  unfolding picked
  store_start = record {
    ps = [];
    keeping = keep-start (picked marks first) run refl;
    least = omega arith;
    most = omega arith;
    many = refl;
    few = omega arith;
    ends = sym (add-zero to);
    stored = refl;
  }

  module _ (after : List ℕ) (end all k : ℕ) (inv : Storing after end all k) where
    pub store_ended : length run ≤ k → StoredRun (picked marks first) run before after to (record { bytes = end - to; all = all })
    store_ended l = record {
      small = omega (arith, inv.most, inv.keeping.inside);
      few = omega (arith, inv.few, inv.keeping.inside);
      right = λ cs e.
          let q : cs ≡ inv.keeping.done = good_inj (sym e ∙ keep_all (picked marks first) run inv.ps k inv.keeping l) in
          let a : picked marks first cs ≡ inv.ps = ap (picked marks first) q ∙ inv.keeping.are in
          rw (a, q) (omega (arith, inv.ends), inv.stored, inv.many);
    }

    module _ (short : length run ≤ 65536) (l : k < length run) where
      pub store_stopped : (x : Result (std.Option Package) Refusal) → NoPackage x → told_package x ≡ package_at (drop k run) 0 → StoredRun (picked marks first) run before after to (record { bytes = end - to; all = all })
      store_stopped (Ok (Some p)) o e = absurd (no_package p o)
      store_stopped (Ok None) o e = absurd (no_end run k short l (read-moved run k short (Ok None) e))
      store_stopped (Err f) o e = record {
        small = omega (arith, inv.most, inv.keeping.inside);
        few = omega (arith, inv.few, inv.keeping.inside);
        right = λ cs g. absurd (good≢bad (sym (keep-bad (picked marks first) run inv.ps k inv.keeping l (no_piece run k short l (record { why = f.why; place = k + f.place }) (read-moved run k short (Err f) e))) ∙ g));
      }

      module _ (p : Package) (e : told_package (Ok (Some p)) ≡ package_at (drop k run) 0) where
        abbrev p' : Package
        p' = moved k p

        abbrev f' : Found run k p'
        f' = found-behind run k short p e

        pub store_placed : Placed (drop k run) p
        store_placed = placed run k p f' short

        abbrev keeps' : (b : Bool) → b ≡ eqb (bit_at marks (first + all)) 1 → Keeping (picked marks first) run (grow b inv.ps (package_of f'.c)) (k + p.next)
        keeps' b g =
            keep-next (picked marks first) run inv.ps k inv.keeping l p' f' b
            (picked_more marks first inv.keeping.done f'.c
            ∙ ap (λ (n : ℕ). grow (eqb (bit_at marks (first + n)) 1) (picked marks first inv.keeping.done) (package_of f'.c)) (sym inv.many)
            ∙ ap (λ (x : Bool). grow x (picked marks first inv.keeping.done) (package_of f'.c)) (sym g))

        pub store_next : Bytes run → (b : Bool) → b ≡ eqb (bit_at marks (first + all)) 1 → (out : List ℕ) (r : ℕ)
            → Stored after out end r b (piece_as (drop k run) p) p.next → Storing out r (all + 1) (k + p.next)
        store_next y true g out r w = record {
          ps = inv.ps ++ (package_of f'.c ∷ []);
          keeping = keeps' true g;
          least = omega (arith, inv.least, w.behind);
          most = omega (arith, inv.most, w.behind, on run k p' f');
          many = omega (arith, inv.many, length-append inv.keeping.done (f'.c ∷ []));
          few = omega (arith, inv.few, on run k p' f');
          ends = rw payload-more (omega (arith, inv.ends, w.behind, next-is run k p' f', piece-length run k p' f', length-append (payload_of inv.ps) (piece_of (package_of f'.c))));
          stored = rw (payload-more, w.bytes, piece_is run k p f' y, inv.stored, inv.ends) (sets-sets (payload_of inv.ps) (piece_of (package_of f'.c)) before to);
        }
        store_next y false g out r w = record {
          ps = inv.ps;
          keeping = keeps' false g;
          least = omega (arith, inv.least, w.behind);
          most = omega (arith, inv.most, w.behind, on run k p' f');
          many = omega (arith, inv.many, length-append inv.keeping.done (f'.c ∷ []));
          few = omega (arith, inv.few, on run k p' f');
          ends = rw w.behind inv.ends;
          stored = rw w.bytes inv.stored;
        }
