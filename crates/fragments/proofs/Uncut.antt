-- Why cutting is refused: each test as a fact, both ways.
use Prim.Native.Nat.{ℕ, ◌+◌, ◌%◌, ◌<◌}
use mathlib.Core.Path.{◌≡◌, refl, sym, ◌∙◌}
use mathlib.Core.Logic.{⊎_elim}
use mathlib.Core.Bool.{Bool, true, false, not, ◌||◌, false≢true}
use mathlib.Core.List.{List, [], ◌∷◌, ◌++◌}
use native.Mathlib.Nat.{add-zero}
use native.Mathlib.Omega.{arith}
use borrow.Author.Tests.{eqb-true, eqb-false, eq-eqb, ne_eqb, ltb-true, ltb-false, le-ltb, lt-ltb, leb-false, not-false}
use lib.Dec.{leb, ltb, eqb}
use lib.ListN.{length, length-append}
use Rattle.rules.specs.Outcome.{good, bad, refuse, ◌>>◌, LENGTH, OPTION}
use Rattle.rules.specs.Bytes.{join}
use Rattle.rules.specs.Items.{all_nil, all_cons}
use Rattle.rules.specs.Options.{kind_of}
use Rattle.rules.specs.Message.{most_bytes, Message}
use Rattle.rules.proofs.Outcomes.{pass, halt, after, step, stop, stop_before, passed, refused-at, refused-step, refused-after, neither, good≢bad}
use Rattle.fragments.specs.Fragment.{Fragment, options_of, is_offset}
use Rattle.fragments.specs.Cutting.{whole_of, no_offset, fragments_of, cut_whole, cut_into}
use Rattle.fragments.specs.Claims.{SizeAllowed, OffsetAbsent, OffsetAt, FirstPasses, CutRefused, large, bad-message, bad-size, has_offset, no_place}
use Rattle.fragments.proofs.Answering.{whole-full}

never_false : (b : Bool) → (b ≡ false → ⊥) → b ≡ true
never_false true h = refl
never_false false h = absurd (h refl)

-- ---- 0x86 among the options

offset-found : (p : ℕ) (options : List (List ℕ)) {n q : ℕ} → no_offset p options ≡ bad n q → (OPTION ≡ n) × OffsetAt p options q
unfolding no_offset is_offset
offset-found p [] e = absurd (good≢bad (sym e))
offset-found p (c ∷ options) {n} {q} e = ⊎_elim (λ z. here z) (λ z. further z.0 (offset-found (p + length c) options z.1)) (refused-at _ _ _ _ e)
  where
    here : (eqb (kind_of c) 0x86 ≡ true) × (OPTION ≡ n) × (p ≡ q) → (OPTION ≡ n) × OffsetAt p (c ∷ options) q
    here (t, a, b) = (a, record { before = []; option = c; behind = options; split = refl; none = all_nil; kind = eqb-true _ _ t; place = omega arith })

    further : eqb (kind_of c) 0x86 ≡ false → (OPTION ≡ n) × OffsetAt (p + length c) options q → (OPTION ≡ n) × OffsetAt p (c ∷ options) q
    further t (a, w) = (
      a,
      record {
        before = c ∷ w.before;
        option = w.option;
        behind = w.behind;
        split = rw (← w.split);
        none = all_cons (eqb-false _ _ t) w.none;
        kind = w.kind;
        place = omega (arith, w.place, length-append c (join w.before));
      },
    )

finds_offset : (p : ℕ) {before : List (List ℕ)} (option : List ℕ) (behind : List (List ℕ)) → OffsetAbsent before → kind_of option ≡ 0x86
    → no_offset p (before ++ (option ∷ behind)) ≡ bad OPTION (p + length (join before))
unfolding no_offset is_offset
finds_offset p option behind all_nil k = rw add-zero (halt _ _ _ _ (eq-eqb (kind_of option) 0x86 k))
finds_offset p option behind (all_cons {a = c} {l = before} h r) k =
    let z : p + length (c ++ join before) ≡ p + length c + length (join before) = omega (arith, length-append c (join before)) in
    pass _ _ _ _ (ne_eqb (kind_of c) 0x86 h) (rw z (finds_offset (p + length c) option behind r k))

offset-none : (p : ℕ) (options : List (List ℕ)) → no_offset p options ≡ good tt → OffsetAbsent options
unfolding no_offset is_offset
offset-none p [] e = all_nil
offset-none p (c ∷ options) e = let (t, e) = passed _ _ _ _ e in all_cons (eqb-false _ _ t) (offset-none (p + length c) options e)

none_passes : (p : ℕ) {options : List (List ℕ)} → OffsetAbsent options → no_offset p options ≡ good tt
unfolding no_offset is_offset
none_passes p all_nil = refl
none_passes p (all_cons {a = c} h r) = pass _ _ _ _ (ne_eqb (kind_of c) 0x86 h) (none_passes (p + length c) r)

-- ---- the size

abbrev bad_size : ℕ → Bool
bad_size size = ltb size 4 || not (eqb (size % 4) 0)

allowed_passes : (size : ℕ) → SizeAllowed size → bad_size size ≡ false
allowed_passes size a = rw (le-ltb size 4 a.least, eq-eqb (size % 4) 0 a.words)

size-refused : (size : ℕ) → bad_size size ≡ true → SizeAllowed size → ⊥
size-refused size t a = false≢true (sym (allowed_passes size a) ∙ t)

size_allowed : (size : ℕ) → bad_size size ≡ false → SizeAllowed size
size_allowed size t = let (a, b) = neither _ _ t in record { least = ltb-false _ _ a; words = eqb-true _ _ (not-false _ b) }

-- ---- no place for 0x86

whole-refused : (size : ℕ) (w : Fragment) {n p : ℕ} → cut_whole size w ≡ bad n p → (OPTION ≡ n) × (24 ≡ p) × (size < length w.payload) × (60 < length w.options + 6)
unfolding cut_whole fragments_of
whole-refused size w {n} {p} e = go (leb (length w.payload) size) refl
  where
    go : (b : Bool) → leb (length w.payload) size ≡ b → (OPTION ≡ n) × (24 ≡ p) × (size < length w.payload) × (60 < length w.options + 6)
    go true t = absurd (good≢bad (sym (rw (t, cut_whole) at e)))
    go false t =
        ⊎_elim
        (λ z. (z.1, z.2, leb-false _ _ t, ltb-true _ _ z.0))
        (λ z. absurd (good≢bad (sym z.1)))
        (refused-at _ _ _ _ (rw (t, cut_whole) at e))

-- ---- all of it

module _ (size : ℕ) (s : List ℕ) where
  named : {m n p q : ℕ} → m ≡ n → p ≡ q → CutRefused size s m p → CutRefused size s n q
  named e f r = rw (← e, ← f) r

  module _ (m : Message) (w : FirstPasses s m) {n p : ℕ} where
    from-options : SizeAllowed size → (no_offset 24 (options_of m.options) >> cut_whole size (whole_of m)) ≡ bad n p → CutRefused size s n p
    unfolding whole_of
    from-options a e =
        ⊎_elim
        (λ z. let (o, f) = offset-found 24 (options_of m.options) z in named o refl (has_offset w a f))
        (λ z. let (o, c, more, full) = whole-refused size (whole_of m) z.1 in named o c (no_place w a (offset-none 24 (options_of m.options) z.0) more full))
        (refused-after _ _ e)

    from-size : (refuse (bad_size size) LENGTH 0 >> (no_offset 24 (options_of m.options) >> cut_whole size (whole_of m))) ≡ bad n p → CutRefused size s n p
    from-size e = ⊎_elim (λ z. named z.1 z.2 (bad-size w (size-refused size z.0))) (λ z. from-options (size_allowed size z.0) z.1) (refused-at _ _ _ _ e)

  pub refused : {n p : ℕ} → cut_into size s ≡ bad n p → CutRefused size s n p
  unfolding cut_into
  refused e =
      ⊎_elim
      (λ z. named z.1 z.2 (large (ltb-true _ _ z.0)))
      (λ z. ⊎_elim
      (λ f. bad-message (ltb-false _ _ z.0) f)
      (λ f. from-size f.0.0 (record { small = ltb-false _ _ z.0; size = f.0.1; read = f.1 }) f.2)
      (refused-step _ _ z.1))
      (refused-at _ _ _ _ e)

  reaches-size : {m : Message} {n p : ℕ} → FirstPasses s m → (refuse (bad_size size) LENGTH 0 >> (no_offset 24 (options_of m.options) >> cut_whole size (whole_of m))) ≡ bad n p → cut_into size s ≡ bad n p
  unfolding cut_into
  reaches-size w e = pass _ _ _ _ (le-ltb most_bytes (length s) w.small) (step _ _ w.read e)

  pub refuses : {n p : ℕ} → CutRefused size s n p → cut_into size s ≡ bad n p
  unfolding cut_into whole_of
  refuses (large l) = halt _ _ _ _ (lt-ltb most_bytes (length s) l)
  refuses (bad-message l e) = pass _ _ _ _ (le-ltb most_bytes (length s) l) (stop _ _ e)
  refuses (bad-size w h) = reaches-size w (halt _ _ _ _ (never_false _ (λ t. h (size_allowed size t))))
  refuses (has_offset w a f) = reaches-size w (pass _ _ _ _ (allowed_passes size a) (stop_before _ _ (rw (f.split, f.place) (finds_offset 24 f.option f.behind f.none f.kind))))
  refuses (no_place {m = m} w a h l k) = reaches-size w (pass _ _ _ _ (allowed_passes size a) (after _ _ (none_passes 24 h) (whole-full (whole_of m) size l (omega arith))))
