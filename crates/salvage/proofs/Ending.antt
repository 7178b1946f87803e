-- Where the message at a place ends, if one that passes stands there.
use Prim.Native.Nat.{ℕ, ◌≤◌, ◌<◌}
use mathlib.Core.Path.{◌≡◌, refl, sym, ap, subst, ◌∙◌}
use mathlib.Core.List.{List}
use borrow.Author.Tests.{le-ltb}
use lib.ListN.{length}
use Rattle.rules.specs.Outcome.{Outcome, good, bad}
use Rattle.rules.specs.Packages.{cut}
use Rattle.rules.specs.Reading.{MessageSpot, message_at}
use Rattle.rules.proofs.Outcomes.{pass, stepped, good_inj, refused-only}
use Rattle.message.specs.Answers.{cut_count}
use Rattle.message.specs.Runs.{cut_of}
use Rattle.std.specs.Prelude.{Some, None}
use Rattle.std.proofs.lemmas.Option.{none-some, same_Some}
use Rattle.salvage.specs.Told.{end_of}
use Rattle.salvage.proofs.Pieces.{Lost}
use Rattle.salvage.proofs.Surveying.{KeptAt, kept_at, lost-at}

-- packages that were counted
module _ (q : List ℕ) (l : length q ≤ 65536) where
  counting : cut_of q ≡ cut_count 0 q
  unfolding cut_of
  counting = pass _ _ _ _ (le-ltb 65536 (length q) l) refl

  pub uncounted : {n i : ℕ} → bad n i ≡ cut_of q → cut 0 q ≡ bad n i
  unfolding cut_count
  uncounted e = refused-only _ _ (sym counting ∙ sym e)

  pub counted : {n : ℕ} → good n ≡ cut_of q → (cs : List (List ℕ)) × (cut 0 q ≡ good cs) × (length cs ≡ n)
  unfolding cut_count
  counted e =
      let (cs, g, f) = stepped _ _ (sym counting ∙ sym e) in
      (cs, g, good_inj f)

module _ (s : List ℕ) (p : ℕ) where
  pub kept-end : (x : ℕ) → p < length s → Some x ≡ end_of (message_at s p) → KeptAt s p x
  kept-end x l e = go (message_at s p) refl
    where
      go : (o : Outcome MessageSpot) → message_at s p ≡ o → KeptAt s p x
      go (good d) f = subst (KeptAt s p) (sym (same_Some x d.next (e ∙ ap end_of f))) (kept_at s p d l (sym f))
      go (bad a b) f = absurd (none-some x (sym (e ∙ ap end_of f)))

  pub lost-end : length s ≤ 65536 → None ≡ end_of (message_at s p) → Lost s p
  lost-end l e = go (message_at s p) refl
    where
      go : (o : Outcome MessageSpot) → message_at s p ≡ o → Lost s p
      go (good d) f = absurd (none-some d.next (e ∙ ap end_of f))
      go (bad a b) f = lost-at s p l (sym f)
