-- The copy and the purge part a recording, package by package.
use Prim.Native.Nat.{ℕ, ◌+◌}
use mathlib.Core.Path.{◌≡◌, refl, sym, ap, subst, ◌∙◌}
use mathlib.Core.Bool.{Bool, true, false}
use mathlib.Core.List.{List, [], ◌∷◌, ◌++◌, map, append-nil, append_assoc}
use Rattle.rules.specs.Packages.{Package}
use Rattle.rules.specs.Message.{Message}
use Rattle.rules.specs.Sheet.{Row}
use Rattle.rules.specs.Copy.{granted, granted_packages, listed_bits, with_entry_of, released, copy_message, copy_messages}
use Rattle.rules.proofs.Turns.{listed_kept}
use Rattle.purge.specs.Purge.{kept_packages, loses_last, with_packages, kept_record, kept_records}
use Rattle.purge.specs.Parted.{InMessage, in_message, packages_in, Parted, ended, first, second}

parted_append : {A : Type 0} {l a b l' a' b' : List A} → Parted l a b → Parted l' a' b' → Parted (l ++ l') (a ++ a') (b ++ b')
parted_append ended q = q
parted_append (first p) q = first (parted_append p q)
parted_append (second p) q = second (parted_append p q)

packages-append : (ms ns : List Message) → packages_in (ms ++ ns) ≡ packages_in ms ++ packages_in ns
packages-append [] ns = refl
packages-append (m ∷ ms) ns = rw (packages-append ms ns) (sym (append_assoc (map (in_message m) m.packages) (packages_in ms) (packages_in ns)))

-- of one message the granted packages are parted from the others
one_parted : (rs : List Row) (m : Message) (ps : List Package) → Parted (map (in_message m) ps) (map (in_message m) (granted_packages rs m ps)) (map (in_message m) (kept_packages rs m ps))
unfolding granted_packages kept_packages
one_parted rs m [] = ended
one_parted rs m (p ∷ ps) = go (granted rs m p) (one_parted rs m ps)
  where
    go : (b : Bool) → Parted (map (in_message m) ps) (map (in_message m) (granted_packages rs m ps)) (map (in_message m) (kept_packages rs m ps))
        → Parted (map (in_message m) (p ∷ ps)) (map (in_message m) (elim b [ true ↦ p ∷ granted_packages rs m ps | false ↦ granted_packages rs m ps ]))
        (map (in_message m) (elim b [ true ↦ kept_packages rs m ps | false ↦ p ∷ kept_packages rs m ps ]))
    go true q = first q
    go false q = second q

-- what is kept of a message has its id, its time and its flags
kept_in : (m : Message) (ks : List Package) → packages_in (kept_record m ks) ≡ map (in_message m) ks
unfolding kept_record loses_last with_packages
kept_in m ks = go m.packages ks
  where
    go : (ps ls : List Package) → packages_in (elim (loses_last ps ls) [ true ↦ [] | false ↦ with_packages m ls ∷ [] ]) ≡ map (in_message m) ls
    go [] ls = append-nil (map (in_message m) ls)
    go (p ∷ ps) [] = refl
    go (p ∷ ps) (l ∷ ls) = append-nil (map (in_message m) (l ∷ ls))

-- and so has the copy's message for its entry
abbrev with_flags : Message → Package → ℕ → InMessage
with_flags m p f = record { id = m.id; seconds = m.seconds; nanos = m.nanos; flags = f; held = p }

copied_in : (m : Message) (ps : List Package) → map (in_message m) ps ≡ map (λ (p : Package). with_flags m p (listed_bits (64 + listed_bits m.flags))) ps
copied_in m ps = ap (λ (f : ℕ). map (λ (p : Package). with_flags m p f) ps) (sym (listed_kept m.flags))

module _ (rs : List Row) where
  -- whatever ids the copy has delivered before
  pub records_parted : (ms : List Message) (seen : List ℕ) → Parted (packages_in ms) (packages_in (copy_messages seen (released rs ms))) (packages_in (kept_records rs ms))
  unfolding released kept_records with_entry_of copy_messages copy_message
  records_parted [] seen = ended
  records_parted (m ∷ ms) seen =
      let kept : packages_in (kept_record m (kept_packages rs m m.packages) ++ kept_records rs ms) ≡ map (in_message m) (kept_packages rs m m.packages) ++ packages_in (kept_records rs ms) =
      packages-append (kept_record m (kept_packages rs m m.packages)) (kept_records rs ms) ∙ ap (λ (l : List InMessage). l ++ packages_in (kept_records rs ms)) (kept_in m (kept_packages rs m m.packages)) in
      rw kept (entry (granted_packages rs m m.packages) (one_parted rs m m.packages) (records_parted ms))
    where
      entry : (gs : List Package) → Parted (map (in_message m) m.packages) (map (in_message m) gs) (map (in_message m) (kept_packages rs m m.packages))
          → ((seen' : List ℕ) → Parted (packages_in ms) (packages_in (copy_messages seen' (released rs ms))) (packages_in (kept_records rs ms)))
          → Parted (packages_in (m ∷ ms)) (packages_in (copy_messages seen (with_entry_of m gs (released rs ms)))) (map (in_message m) (kept_packages rs m m.packages) ++ packages_in (kept_records rs ms))
      entry [] q r = parted_append q (r seen)
      entry (g ∷ gs) q r =
          subst (λ (l : List InMessage). Parted (packages_in (m ∷ ms)) (l ++ packages_in (copy_messages (m.id ∷ seen) (released rs ms))) (map (in_message m) (kept_packages rs m m.packages) ++ packages_in (kept_records rs ms))) (copied_in m (g ∷ gs))
          (parted_append q (r (m.id ∷ seen)))
