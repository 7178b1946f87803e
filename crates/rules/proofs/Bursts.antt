-- What the randomizer leaves; and a burst is opened exactly if it is the marker and 1 to 80 whole codeblocks, and refused exactly for what is missing.
use Prim.Native.Nat.{ℕ, ◌+◌, ◌-◌, ◌*◌, ◌%◌, ◌≤◌}
use mathlib.Core.Path.{◌≡◌, refl, ap, sym, ◌∙◌}
use mathlib.Core.Logic.{◌↔◌, ⊎_elim}
use mathlib.Core.Bool.{true, false, ◌&&◌, false≢true}
use mathlib.Core.List.{List, [], ◌++◌, append-nil}
use native.Mathlib.Omega.{arith}
use borrow.Author.Tests.{le-leb, le-ltb, lt-ltb, eq-eqb, leb-true, ltb-true, ltb-false, eqb-true, not-false, not-true}
use lib.Dec.{leb, eqb}
use lib.ListN.{length, take, drop, take-append-drop}
use lib.Seq.{take-add}
use Rattle.rules.specs.Outcome.{good, bad}
use Rattle.rules.specs.Bytes.{Bytes, word, put32}
use Rattle.rules.specs.Burst.{randomized, randomized_answer, randomizer, marker, marked, codeblocks, blocks_fit, opening}
use Rattle.rules.specs.Claims.{BurstRefused, large, unmarked, blocks}
use Rattle.rules.proofs.Outcomes.{pass, halt, passed, good_inj, good≢bad, both, never_true, refused-at}
use Rattle.rules.proofs.Numbers.{put32-at}

pub randomizer-is : (buffer : List ℕ) → length buffer ≤ 65536 → randomizer buffer ≡ (record { number = 0; place = 0 }, randomized 0 buffer)
unfolding randomizer randomized_answer
randomizer-is buffer l = ap (randomized_answer buffer) (pass _ _ _ _ (le-ltb 65536 (length buffer) l) refl)

-- the first eight bytes by their two numbers
eight : (s : List ℕ) → Bytes s → 8 ≤ length s → put32 (word s 0) (put32 (word s 4) []) ≡ take 8 s
eight s b l = rw (put32-at 0 s _ b (omega arith), put32-at 4 s _ b (omega arith), append-nil, take-add 4 4 s)

-- what the tests say
record Marked (s : List ℕ) : Type 0 where
  long : 8 ≤ length s
  first : word s 0 ≡ word marker 0
  second : word s 4 ≡ word marker 4

marked-is : (s : List ℕ) → marked s ≡ true → Marked s
marked-is s e =
    let (a, b) = both _ _ e in
    let (c, d) = both _ _ a in
    record { long = leb-true _ _ c; first = eqb-true _ _ d; second = eqb-true _ _ b }

-- a list passes the test exactly if it begins with the marker
marked-begins : (s : List ℕ) → Bytes s → marked s ≡ true → take 8 s ≡ marker
unfolding word
marked-begins s b m = let w = marked-is s m in sym (eight s b w.long) ∙ rw (w.first, w.second)

begins-marked : (s : List ℕ) → take 8 s ≡ marker → marked s ≡ true
unfolding word
begins-marked s t =
    let e : marker ++ drop 8 s ≡ s = ap (λ (h : List ℕ). h ++ drop 8 s) (sym t) ∙ take-append-drop 8 s in
    let f : word s 0 ≡ word marker 0 = ap (λ (x : List ℕ). word x 0) (sym e) in
    let g : word s 4 ≡ word marker 4 = ap (λ (x : List ℕ). word x 4) (sym e) in
    rw (le-leb 8 (length s) (omega (arith, ap length e)), eq-eqb _ _ f, eq-eqb _ _ g)

record Whole (n : ℕ) : Type 0 where
  least : 1 ≤ codeblocks n
  most : codeblocks n ≤ 80
  exact : (n - 8) % 768 ≡ 0

whole : (n : ℕ) → blocks_fit n ≡ true → Whole n
whole n e =
    let (a, b) = both (leb 1 (codeblocks n) && leb (codeblocks n) 80) (eqb ((n - 8) % 768) 0) e in
    let (c, d) = both (leb 1 (codeblocks n)) (leb (codeblocks n) 80) a in
    record { least = leb-true _ _ c; most = leb-true _ _ d; exact = eqb-true _ _ b }

fits : (n k : ℕ) → 1 ≤ k → k ≤ 80 → n ≡ 8 + k * 768 → blocks_fit n ≡ true
fits n k least most size =
    let c : codeblocks n ≡ k = rw size (omega arith) in
    let r : (n - 8) % 768 ≡ 0 = rw size (omega arith) in
    rw (c, le-leb 1 k least, le-leb k 80 most, eq-eqb ((n - 8) % 768) 0 r)

module _ (s : List ℕ) (b : Bytes s) (blocks : ℕ) (after : List ℕ) where
  abbrev Is : Type 0
  Is = (take 8 s ≡ marker) × (1 ≤ blocks) × (blocks ≤ 80) × (length s ≡ 8 + blocks * 768) × (after ≡ marker ++ randomized 0 (drop 8 s))

  opened : opening s ≡ good (blocks, after) → Is
  unfolding opening
  opened e =
      let (a, e) = passed _ _ _ _ e in
      let (m, e) = passed _ _ _ _ e in
      let (f, e) = passed _ _ _ _ e in
      let v = whole (length s) (not-false _ f) in
      let n : codeblocks (length s) ≡ blocks = ap (λ (x : ℕ × List ℕ). x.0) (good_inj e) in
      let t : take 8 s ≡ marker = marked-begins s b (not-false _ m) in (
        t,
        rw n at v.least,
        rw n at v.most,
        rw (← n) (omega (arith, v.least, v.exact)),
        sym (ap (λ (x : ℕ × List ℕ). x.1) (good_inj e)) ∙ ap (λ (h : List ℕ). h ++ randomized 0 (drop 8 s)) t,
      )

  opens : Is → opening s ≡ good (blocks, after)
  unfolding opening
  opens (t, least, most, size, all) =
      let n : codeblocks (length s) ≡ blocks = rw size (omega arith) in
      pass _ _ _ _ (le-ltb 65536 (length s) (omega arith))
      (pass _ _ _ _ (rw (begins-marked s t))
      (pass _ _ _ _ (rw (fits (length s) blocks least most size))
      (rw (n, t, all))))

  pub burst_exactly : (opening s ≡ good (blocks, after)) ↔ Is
  burst_exactly = (opened, opens)

-- ---- why it is not opened

module _ (s : List ℕ) (b : Bytes s) where
  unopened : {n p : ℕ} → opening s ≡ bad n p → BurstRefused s n p
  unfolding opening
  unopened e =
      ⊎_elim (λ z. rw (← z.1, ← z.2) (large (ltb-true 65536 (length s) z.0))) (λ a.
      let l = ltb-false 65536 (length s) a.0 in
      ⊎_elim (λ z. rw (← z.1, ← z.2) (unmarked l (λ m. false≢true (sym (not-true _ z.0) ∙ begins-marked s m)))) (λ c.
      let m = marked-begins s b (not-false _ c.0) in
      ⊎_elim (λ z. rw (← z.1, ← z.2) (blocks l m (λ n least most size. false≢true (sym (not-true _ z.0) ∙ fits (length s) n least most size))))
      (λ g. absurd (good≢bad (sym g.1)))
      (refused-at _ _ _ _ c.1)) (refused-at _ _ _ _ a.1)) (refused-at _ _ _ _ e)

  unopens : {n p : ℕ} → BurstRefused s n p → opening s ≡ bad n p
  unfolding opening
  unopens (large l) = halt _ _ _ _ (lt-ltb 65536 (length s) l)
  unopens (unmarked l h) = pass _ _ _ _ (le-ltb 65536 (length s) l) (halt _ _ _ _ (rw (never_true (marked s) (λ m. h (marked-begins s b m)))))
  unopens (blocks l m h) =
      let f : blocks_fit (length s) ≡ false =
      never_true (blocks_fit (length s)) (λ f. let w = whole (length s) f in h (codeblocks (length s)) w.least w.most (omega (arith, w.least, w.exact))) in
      pass _ _ _ _ (le-ltb 65536 (length s) l) (pass _ _ _ _ (rw (begins-marked s m)) (halt _ _ _ _ (rw f)))

  pub burst_refused : (n p : ℕ) → (opening s ≡ bad n p) ↔ BurstRefused s n p
  burst_refused n p = (unopened, unopens)
