-- The search for option 0x86 in an option run.
use Prim.Native.Nat.{ℕ, ◌+◌, ◌-◌, ◌≤◌, ◌<◌}
use mathlib.Core.Path.{◌≡◌, refl, sym, ap, ◌∙◌}
use mathlib.Core.Bool.{Bool, true, false}
use mathlib.Core.List.{List, ◌∷◌, ◌++◌}
use mathlib.Core.Option.{none}
use native.Mathlib.Nat.{add-zero, add_assoc}
use native.Mathlib.Omega.{arith}
use borrow.Author.Tests.{ne_eqb}
use lib.ListN.{length, take, drop, length-append, length-drop, drop_of_length-le, get_or-append}
use lib.Seq.{drop-append_seam, drop-drop, get_or-drop}
use Rattle.rules.specs.Outcome.{good, bad, OPTION}
use Rattle.rules.specs.Bytes.{at}
use Rattle.rules.specs.Options.{option_size}
use Rattle.rules.proofs.Outcomes.{pass, halt}
use Rattle.rules.proofs.Loops.{rest}
use Rattle.fragments.specs.Fragment.{parts, options_of, is_offset}
use Rattle.fragments.specs.Cutting.{no_offset}
use Rattle.fragments.specs.Stored.{WholeOptions, offset_place}
use Rattle.rules.specs.Items.{none, more}
use Rattle.rules.specs.Options.{WholeOption}
use Rattle.fragments.proofs.Options.{Run, made_of, run-options, opt_least, opt_part, front-size}

-- a run that is not at its end: an option, and the rest
pub record View (o : List ℕ) : Type 0 where
  pub option : List ℕ
  pub behind : List ℕ
  pub split : o ≡ option ++ behind
  pub opt : WholeOption option
  pub run : Run (options_of behind) behind

pub view : {cs : List (List ℕ)} {o : List ℕ} → Run cs o → 1 ≤ length o → View o
view none l = absurd (omega arith)
view (more {c = c} {s = o} h r) l = record { option = c; behind = o; split = refl; opt = h; run = rw (run-options r) r }

module _ (o : List ℕ) (v : View o) where
  pub view_options : options_of o ≡ v.option ∷ options_of v.behind
  view_options = ap (λ (x : List ℕ). options_of x) v.split ∙ opt_part v.option v.opt v.behind

  pub view_size : option_size o ≡ length v.option
  view_size = ap option_size v.split ∙ front-size v.option v.opt v.behind

  pub view_kind : at o 0 ≡ at v.option 0
  view_kind = ap (λ (x : List ℕ). at x 0) v.split ∙ get_or-append v.option v.behind 0 0 (opt_least v.option v.opt)

  pub view_rest : drop (option_size o) o ≡ v.behind
  view_rest = rw view_size (ap (drop (length v.option)) v.split ∙ drop-append_seam v.option v.behind)

  pub view_length : length o ≡ length v.option + length v.behind
  view_length = ap length v.split ∙ length-append v.option v.behind

-- the options before index i are passed, none of them 0x86
pub record Finding (o : List ℕ) (i : ℕ) : Type 0 where
  pub inside : i ≤ length o
  pub run : Run (options_of (drop i o)) (drop i o)
  pub place : offset_place (options_of o) ≡ i + offset_place (options_of (drop i o))

pub start : (o : List ℕ) → WholeOptions o → Finding o 0
start o w = record { inside = omega arith; run = made_of o w.run; place = omega arith }

pub record Onward (o : List ℕ) (i n : ℕ) : Type 0 where
  pub least : 1 ≤ n
  pub finding : Finding o (i + n)

module _ (o : List ℕ) (i : ℕ) (w : Finding o i) where
  module _ (l : i < length o) where
    here : View (drop i o)
    here = view w.run (omega (arith, length-drop i o))

    kind : at (drop i o) 0 ≡ at o i
    kind = rw (get_or-drop, add-zero)

    pub found : at o i ≡ 0x86 → i ≡ offset_place (options_of o)
    unfolding offset_place is_offset
    found e =
        let z : at here.option 0 ≡ 0x86 = sym (view_kind (drop i o) here) ∙ kind ∙ e in
        sym (w.place ∙ rw (view_options (drop i o) here, z, offset_place, add-zero))

    pub onward : (n : ℕ) → (at o i ≡ 0x86 → ⊥) → n ≡ option_size (take (length o - i) (drop i o)) → Onward o i n
    unfolding offset_place is_offset
    onward n other e =
        let q : n ≡ option_size (drop i o) = rw rest at e in
        let k : n ≡ length here.option = q ∙ view_size (drop i o) here in
        let d : drop (i + n) o ≡ here.behind = sym (drop-drop n i o) ∙ rw q (view_rest (drop i o) here) in
        let z : at here.option 0 ≡ 0x86 → ⊥ = λ y. other (sym kind ∙ view_kind (drop i o) here ∙ y) in
        let p : offset_place (options_of (drop i o)) ≡ length here.option + offset_place (options_of here.behind) =
        rw (view_options (drop i o) here, ne_eqb (at here.option 0) 0x86 z, offset_place) in
        record {
          least = omega (arith, opt_least here.option here.opt);
          finding = record {
            inside = omega (arith, view_length (drop i o) here, length-drop i o);
            run = rw d here.run;
            place = rw d (omega (arith, w.place));
          };
        }

  pub ended : length o ≤ i → i ≡ offset_place (options_of o)
  unfolding offset_place parts
  ended l = sym (w.place ∙ rw (drop_of_length-le o l, add-zero))

-- ---- what the place says

-- an 0x86 is refused where it stands
pub place-refused : {cs : List (List ℕ)} {o : List ℕ} → Run cs o → (p : ℕ) → offset_place cs < length o → no_offset p cs ≡ bad OPTION (p + offset_place cs)
unfolding offset_place no_offset
place-refused none p l = absurd (omega arith)
place-refused (more {c = c} {cs = cs} {s = o} h r) p l = go (is_offset c) refl (λ k. place-refused r (p + length c) k)
  where
    go : (b : Bool) → is_offset c ≡ b → (offset_place cs < length o → no_offset (p + length c) cs ≡ bad OPTION (p + length c + offset_place cs)) → no_offset p (c ∷ cs) ≡ bad OPTION (p + offset_place (c ∷ cs))
    go true t again =
        let e : offset_place (c ∷ cs) ≡ 0 = rw (t, offset_place) in
        rw (e, add-zero) (halt _ _ _ _ t)
    go false t again =
        let e : offset_place (c ∷ cs) ≡ length c + offset_place cs = rw (t, offset_place) in
        let k : offset_place cs < length o = omega (arith, length-append c o) in
        pass _ _ _ _ t (again k ∙ rw (e, ← add_assoc))

-- and where the place is the end, there is none
pub place_clear : {cs : List (List ℕ)} {o : List ℕ} → Run cs o → (p : ℕ) → length o ≤ offset_place cs → no_offset p cs ≡ good tt
unfolding offset_place no_offset
place_clear none p l = refl
place_clear (more {c = c} {cs = cs} {s = o} h r) p l = go (is_offset c) refl (λ k. place_clear r (p + length c) k)
  where
    go : (b : Bool) → is_offset c ≡ b → (length o ≤ offset_place cs → no_offset (p + length c) cs ≡ good tt) → no_offset p (c ∷ cs) ≡ good tt
    go true t again =
        let e : offset_place (c ∷ cs) ≡ 0 = rw (t, offset_place) in
        absurd (omega (arith, opt_least c h, length-append c o))
    go false t again =
        let e : offset_place (c ∷ cs) ≡ length c + offset_place cs = rw (t, offset_place) in
        pass _ _ _ _ t (again (omega (arith, length-append c o)))
