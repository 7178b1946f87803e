-- The packages of one message slide down: what the loop keeps. The buffer is what stood before, then the packages kept so far, then a gap, then the packages that are not read yet.
use Prim.Native.Nat.{ℕ, ◌+◌, ◌-◌, ◌≤◌, ◌<◌}
use mathlib.Core.Path.{◌≡◌, refl, sym, ap, subst, ◌∙◌}
use mathlib.Core.Bool.{Bool, true, false}
use mathlib.Core.List.{List, [], ◌∷◌, ◌++◌, map, append-nil, append_assoc}
use native.Mathlib.Nat.{add-zero}
use native.Mathlib.Omega.{arith}
use lib.ListN.{length, take, drop, length-append, length-drop}
use lib.Seq.{sets, length-sets, drop-drop}
use Rattle.rules.specs.Outcome.{good, bad}
use Rattle.rules.specs.Packages as rules
use Rattle.rules.specs.Bytes.{Bytes, pad, part}
use Rattle.rules.specs.Packages.{package_length, piece, cut, package_of, piece_of, package_time}
use Rattle.rules.specs.Clean.{clean_piece}
use Rattle.rules.specs.Message.{is_simulated, Message}
use Rattle.rules.specs.Sheet as rows
use Rattle.rules.specs.Copy.{granted}
use Rattle.rules.specs.Walk.{PackageSpot, package_spot, package_at}
use Rattle.rules.proofs.Outcomes.{good_inj, good≢bad}
use Rattle.rules.proofs.Numbers.{bytes_take, bytes_drop}
use Rattle.rules.proofs.Cleaned.{piece-clean}
use Rattle.rules.proofs.Growing.{map-append}
use Rattle.rules.proofs.Loops.{Passing, passing-start, passing-next, passing-end, passing-bad, drop-sets}
use Rattle.refusal.specs.Numbers.{number_of}
use Rattle.message.specs.declared.Header.{Header}
use Rattle.message.specs.declared.Package.{Package}
use Rattle.std.specs.Prelude.{Some, None, Result, Ok, Err}
use Rattle.std.specs.Prelude as std
use Rattle.refusal.specs.declared.Refusal.{Refusal}
use Rattle.message.specs.Answers.{told_package}
use Rattle.sheet.specs.Table.{rows_in, near_of, near_grants}
use Rattle.numbered.specs.Parts.{message_by, payload_of}
use Rattle.numbered.proofs.Found.{Taken, taken, Found, found, no_end, no_piece, is-piece, piece-size, next-is, least, on, still, piece-length}
use Rattle.numbered.proofs.Packages.{NoPackage, near_asked, payload-more, no_package}
use Rattle.purge.specs.declared.Left.{Left}
use Rattle.purge.specs.Purge.{kept_packages}
use Rattle.purge.specs.Parts.{kept_pieces, Standing, KeptUnless, Slid}
use Rattle.purge.proofs.Keeping.{kept_append, kept-taken, kept-stays}
use Rattle.purge.proofs.Stores.{take_more}

-- one piece more: granted, or kept
module _ (rs : List rows.Row) (m : Message) (cs : List (List ℕ)) (c : List ℕ) where
  pub piece-taken : granted rs m (package_of c) ≡ true → kept_pieces rs m (cs ++ (c ∷ [])) ≡ kept_pieces rs m cs
  unfolding kept_pieces
  piece-taken e = rw (map-append package_of cs (c ∷ []), kept_append rs m (map package_of cs) (package_of c ∷ []), kept-taken rs m (package_of c) e, append-nil)

  pub piece-stays : granted rs m (package_of c) ≡ false → kept_pieces rs m (cs ++ (c ∷ [])) ≡ kept_pieces rs m cs ++ (package_of c ∷ [])
  unfolding kept_pieces
  piece-stays e = rw (map-append package_of cs (c ∷ []), kept_append rs m (map package_of cs) (package_of c ∷ []), kept-stays rs m (package_of c) e)

-- i bytes of the packages from place `from` on have been read
pub record Sliding (rs : List rows.Row) (m : Message) (from to : ℕ) (s₀ s : List ℕ) (l : Left) (k : ℕ) : Type 0 where
  pub i : ℕ
  pub done : List (List ℕ)
  pub place : k ≡ from + i
  pub passing : Passing piece from (drop from s₀) done i k
  pub inside : k ≤ length s₀
  pub long : length s ≡ length s₀
  pub rest : drop k s ≡ drop k s₀
  pub small : l.bytes ≤ i
  pub few : l.packages ≤ i
  pub packages : l.packages ≡ length (kept_pieces rs m done)
  pub used : take (to + l.bytes) s ≡ take to s₀ ++ payload_of (kept_pieces rs m done)

-- where a package that was found stands, and what its piece is
module _ (s : List ℕ) (k : ℕ) (p : Package) (f : Found s k p) where
  to_is : k + package_length f.c ≡ p.to
  unfolding package_spot
  to_is = ap (λ (x : PackageSpot). x.to) f.spot

  is-taken : Taken (drop k s) f.c f.n
  is-taken = taken k (drop k s) (f.c, f.n) f.read

  piece-part : f.c ≡ part k p.next s
  piece-part =
      let z : p.next - k ≡ pad (package_length (drop k s)) = omega (arith, next-is s k p f, is-taken.size) in
      is-taken.bytes ∙ rw z

  standing : length s ≤ 65536 → Standing s k p
  standing short = record {
    least = omega (arith, to_is, (is-piece s k p f).least);
    padding = omega (arith, to_is, next-is s k p f, piece-size s k p f);
    inside = still s k p f;
    short = short;
    size = rw (← piece-part) (omega (arith, to_is));
  }

  cleaned : Bytes (drop k s) → clean_piece (part k p.next s) ≡ piece_of (package_of f.c)
  cleaned b = rw (← piece-part) (sym (piece-clean f.c (is-piece s k p f) (rw is-taken.bytes (bytes_take (pad (package_length (drop k s))) (drop k s) b))))

module _ (table : List ℕ) (h : Header) (from to : ℕ) (s₀ : List ℕ) (ahead : to ≤ from) (into : from ≤ length s₀) (short : length s₀ ≤ 65536) where
  abbrev sheet : List rows.Row
  sheet = rows_in table

  abbrev it : Message
  it = message_by h

  pub slide_start : Sliding sheet it from to s₀ s₀ (record { bytes = 0; packages = 0 }) from
  unfolding kept_pieces kept_packages
  slide_start = record {
    i = 0;
    done = [];
    place = sym (add-zero from);
    passing = passing-start piece from (drop from s₀);
    inside = into;
    long = refl;
    rest = refl;
    small = omega arith;
    few = omega arith;
    packages = refl;
    used = rw (add-zero, append-nil);
  }

  module _ (s : List ℕ) (l : Left) (k : ℕ) (inv : Sliding sheet it from to s₀ s l k) where
    -- the place where the kept packages end is not ahead of the one that is read next
    pub behind : to + l.bytes ≤ k
    behind = omega (arith, inv.place, inv.small)

    unread : drop inv.i (drop from s₀) ≡ drop k s
    unread = drop-drop inv.i from s₀ ∙ rw (← inv.place) (sym inv.rest)

    slid : ((cs : List (List ℕ)) → cut from (drop from s₀) ≡ good cs → cs ≡ inv.done) → Slid sheet it from to s₀ s l
    slid e = record {
      long = inv.long;
      small = omega (arith, inv.small, inv.place, inv.inside);
      few = omega (arith, inv.few, inv.place, inv.inside);
      right = λ cs c. subst (λ (ds : List (List ℕ)). (l.packages ≡ length (kept_pieces sheet it ds)) × (take (to + l.bytes) s ≡ take to s₀ ++ payload_of (kept_pieces sheet it ds))) (sym (e cs c)) (inv.packages, inv.used);
    }

    pub slide_ended : length s ≤ k → Slid sheet it from to s₀ s l
    slide_ended e = slid (λ cs c. good_inj (sym c ∙ passing-end piece from (drop from s₀) inv.done inv.i k inv.passing (omega (arith, length-drop from s₀, inv.long, inv.place))))

    module _ (e : k < length s) where
      less : inv.i < length (drop from s₀)
      less = omega (arith, length-drop from s₀, inv.long, inv.place)

      small_too : length s ≤ 65536
      small_too = omega (arith, inv.long)

      pub slide_stopped : (x : Result (std.Option Package) Refusal) → NoPackage x → told_package x ≡ package_at s k → Slid sheet it from to s₀ s l
      slide_stopped (Ok (Some p)) o q = absurd (no_package p o)
      slide_stopped (Ok None) o q = absurd (no_end s k small_too e q)
      slide_stopped (Err f) o q =
          let b : piece k (drop inv.i (drop from s₀)) ≡ bad (number_of f.why) f.place = rw unread (no_piece s k small_too e f q) in
          slid (λ cs c. absurd (good≢bad (sym (passing-bad piece from (drop from s₀) inv.done inv.i k inv.passing less b) ∙ c)))

      module _ (p : Package) (q : told_package (Ok (Some p)) ≡ package_at s k) where
        abbrev f : Found s k p
        f = found s k p q

        pub slide_standing : Standing s k p
        slide_standing = standing s k p f small_too

        pub slide_on : k < p.next
        slide_on = on s k p f

        pub slide_still : p.next ≤ length s
        slide_still = still s k p f

        passed : Passing piece from (drop from s₀) (inv.done ++ (f.c ∷ [])) (inv.i + f.n) p.next
        passed = subst (λ (j : ℕ). Passing piece from (drop from s₀) (inv.done ++ (f.c ∷ [])) (inv.i + f.n) j) (next-is s k p f) (passing-next piece from (drop from s₀) inv.done inv.i k f.c f.n inv.passing less (omega (arith, least s k p f)) (rw unread f.read))

        rest-next : drop p.next s ≡ drop p.next s₀
        rest-next = rw (← next-is s k p f, ← drop-drop f.n k s, ← drop-drop f.n k s₀, inv.rest)

        place-next : p.next ≡ from + (inv.i + f.n)
        place-next = omega (arith, next-is s k p f, inv.place)

        module _ (after : List ℕ) (r : Left) where
          taken_next : granted sheet it (package_of f.c) ≡ true → after ≡ s → r ≡ l → Sliding sheet it from to s₀ after r p.next
          taken_next g a b =
              let z = piece-taken sheet it inv.done f.c g in
              rw (a, b) (record {
                i = inv.i + f.n;
                done = inv.done ++ (f.c ∷ []);
                place = place-next;
                passing = passed;
                inside = omega (arith, slide_still, inv.long);
                long = inv.long;
                rest = rest-next;
                small = omega (arith, inv.small);
                few = omega (arith, inv.few);
                packages = rw z inv.packages;
                used = rw z inv.used;
              })

          abbrev ps : List rules.Package
          ps = kept_pieces sheet it inv.done

          abbrev bytes : List ℕ
          bytes = piece_of (package_of f.c)

          stays-next : granted sheet it (package_of f.c) ≡ false → after ≡ sets s (to + l.bytes) bytes → r ≡ record { bytes = l.bytes + (p.next - k); packages = l.packages + 1 } → Sliding sheet it from to s₀ after r p.next
          stays-next g a b =
              let z = piece-stays sheet it inv.done f.c g in
              let n : length bytes ≡ f.n = piece-length s k p f in
              let m : p.next - k ≡ f.n = omega (arith, next-is s k p f) in
              let t : take (to + l.bytes + length bytes) (sets s (to + l.bytes) bytes) ≡ take (to + l.bytes) s ++ bytes = take_more bytes s (to + l.bytes) (omega (arith, behind, slide_still, next-is s k p f)) in
              let y : to + (l.bytes + f.n) ≡ to + l.bytes + length bytes = omega (arith) in
              rw (a, b, m) (record {
                i = inv.i + f.n;
                done = inv.done ++ (f.c ∷ []);
                place = place-next;
                passing = passed;
                inside = omega (arith, slide_still, inv.long);
                long = rw length-sets inv.long;
                rest = rw (drop-sets bytes s (to + l.bytes) p.next (omega (arith, behind, next-is s k p f))) rest-next;
                small = omega (arith, inv.small);
                few = omega (arith, inv.few, least s k p f);
                packages = rw z (omega (arith, inv.packages, length-append ps (package_of f.c ∷ [])));
                used = rw (z, y, t, inv.used, payload-more ps (package_of f.c), append_assoc);
              })

          pub slide_next : Bytes s₀ → (b : Bool) → b ≡ near_grants p.id.0 (package_time h.seconds h.nanos p.delta) (near_of h.id.0 (is_simulated h.flags) table) → KeptUnless s after k p b (to + l.bytes) l r → Sliding sheet it from to s₀ after r p.next
          slide_next y true g w = taken_next (sym (g ∙ near_asked table h s k p f)) w.bytes w.left
          slide_next y false g w = stays-next (sym (g ∙ near_asked table h s k p f)) (w.bytes ∙ ap (sets s (to + l.bytes)) (cleaned s k p f (rw inv.rest (bytes_drop k s₀ y)))) w.left
