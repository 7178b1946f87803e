-- A package that is read at the start of what is left of a run, as it stands in the run.
use Prim.Native.Nat.{ℕ, ◌+◌, ◌≤◌}
use mathlib.Core.Path.{◌≡◌, refl, sym, ap, ap₂, ◌∙◌}
use mathlib.Core.Bool.{Bool, true, false, not}
use mathlib.Core.List.{List}
use mathlib.Core.Option.{Option, none, some}
use native.Mathlib.Nat.{add-zero, zero-add}
use native.Mathlib.Omega.{arith}
use lib.Dec.{leb}
use lib.ListN.{length, take, drop, length-drop}
use borrow.Author.Tests.{leb-true, leb-false, le-leb, lt-leb, le-ltb}
use Rattle.rules.specs.Outcome.{Outcome, good, bad, refuse, ◌>>◌, ◌>>=◌, PACKAGE}
use Rattle.rules.specs.Bytes.{at, word, pad}
use Rattle.rules.specs.Packages.{package_header, package_length, package_fits, piece}
use Rattle.rules.specs.Walk.{PackageSpot, package_spot, package_at}
use Rattle.rules.proofs.Outcomes.{pass}
use Rattle.message.specs.declared.Package.{Package}
use Rattle.std.specs.Prelude.{Some, None, Result, Ok, Err}
use Rattle.std.specs.Prelude as std
use Rattle.refusal.specs.declared.Refusal.{Refusal}
use Rattle.message.specs.Answers.{told_package}

abbrev pub moved : ℕ → Package → Package
moved k p = record { id = p.id; length = p.length; status = p.status; delta = p.delta; from = k + p.from; to = k + p.to; next = k + p.next }

abbrev pub moved_read : ℕ → Result (std.Option Package) Refusal → Result (std.Option Package) Refusal
moved_read k (Ok (Some p)) = Ok (Some (moved k p))
moved_read k (Ok None) = Ok None
moved_read k (Err f) = Err (record { why = f.why; place = k + f.place })

-- what is found, k bytes on
shifted : ℕ → Outcome (Option PackageSpot) → Outcome (Option PackageSpot)
shifted k (good none) = good none
shifted k (good (some s)) = good (some (record { id = s.id; size = s.size; status = s.status; delta = s.delta; from = k + s.from; to = k + s.to; next = k + s.next }))
shifted k (bad n p) = bad n (k + p)

told_moved : (k : ℕ) (x : Result (std.Option Package) Refusal) → told_package (moved_read k x) ≡ shifted k (told_package x)
unfolding shifted
told_moved k (Ok (Some p)) = refl
told_moved k (Ok None) = refl
told_moved k (Err f) = refl

abbrev Spotted : ℕ → List ℕ → Outcome (Option PackageSpot)
Spotted k t = piece k t >>= λ (r : List ℕ × ℕ). good (some (package_spot k r.0 r.1))

spot-shifted : (k : ℕ) (t : List ℕ) → shifted k (Spotted 0 t) ≡ Spotted k t
unfolding shifted piece package_spot refuse ◌>>◌ ◌>>=◌
spot-shifted k t = go (package_fits t)
  where
    go : (b : Bool) → shifted k ((refuse (not b) PACKAGE 0 >> good (take (pad (package_length t)) t, pad (package_length t))) >>= λ (r : List ℕ × ℕ). good (some (package_spot 0 r.0 r.1)))
        ≡ ((refuse (not b) PACKAGE k >> good (take (pad (package_length t)) t, pad (package_length t))) >>= λ (r : List ℕ × ℕ). good (some (package_spot k r.0 r.1)))
    go true =
        let c : List ℕ = take (pad (package_length t)) t in
        ap₂ (λ (a b : ℕ). good (some (record { id = word c 0; size = package_length c; status = at c 7; delta = word c 8; from = k + package_header; to = k + a; next = k + b }))) (zero-add (package_length c)) (zero-add (pad (package_length t)))
    go false = ap (bad PACKAGE) (add-zero k)

module _ (run : List ℕ) (k : ℕ) where
  -- the end is there at once
  end-there : leb (length (drop k run)) 0 ≡ leb (length run) k
  end-there = go (leb (length run) k) refl
    where
      go : (b : Bool) → leb (length run) k ≡ b → leb (length (drop k run)) 0 ≡ b
      go true e = le-leb (length (drop k run)) 0 (omega (arith, leb-true (length run) k e, length-drop k run))
      go false e = lt-leb (length (drop k run)) 0 (omega (arith, leb-false (length run) k e, length-drop k run))

  found-shifted : length run ≤ 65536 → shifted k (package_at (drop k run) 0) ≡ package_at run k
  unfolding package_at shifted
  found-shifted l =
      let s : length (drop k run) ≤ 65536 = omega (arith, length-drop k run) in
      ap (shifted k) (pass _ _ _ _ (le-ltb 65536 (length (drop k run)) s) refl) ∙ rw end-there (go (leb (length run) k)) ∙ sym (pass _ _ _ _ (le-ltb 65536 (length run) l) refl)
    where
      go : (b : Bool) → shifted k (elim b [ true ↦ good none | false ↦ Spotted 0 (drop k run) ]) ≡ elim b [ true ↦ good none | false ↦ Spotted k (drop k run) ]
      go true = refl
      go false = spot-shifted k (drop k run)

  pub read-moved : length run ≤ 65536 → (x : Result (std.Option Package) Refusal) → told_package x ≡ package_at (drop k run) 0 → told_package (moved_read k x) ≡ package_at run k
  read-moved l x e = told_moved k x ∙ ap (shifted k) e ∙ found-shifted l
