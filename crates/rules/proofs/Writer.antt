-- The writer writes valid records, and the parts of a message that is read give its clean form.
use Prim.Native.Nat.{ℕ, ◌+◌, ◌≤◌}
use mathlib.Core.Path.{◌≡◌, refl, ap, sym, subst, ◌∙◌}
use mathlib.Core.Logic.{◌↔◌, ⊎_elim}
use mathlib.Core.Bool.{false}
use mathlib.Core.List.{List, [], map}
use native.Mathlib.Omega.{arith}
use borrow.Author.Tests.{ltb-true, ltb-false, le-ltb, lt-ltb}
use lib.Dec.{ltb}
use lib.ListN.{length, length-map}
use Rattle.rules.specs.Outcome.{Outcome, good, bad, refuse, ◌>>=◌, ◌>>◌, OPTION, COUNT}
use Rattle.rules.specs.Bytes.{Bytes, pad, part, join}
use Rattle.rules.specs.Options.{option_run_from, count_said, differs}
use Rattle.rules.specs.Items.{Fills}
use Rattle.rules.specs.Packages.{cut, package_of, piece_of, Piece}
use Rattle.rules.specs.Message.{head, payload_start, Message, record_of}
use Rattle.rules.specs.Clean.{clean_bytes}
use Rattle.rules.specs.Valid.{Valid, DraftFits}
use Rattle.rules.specs.Claims.{WholeRun, draft_bytes, DraftSizes, DraftRefused, large, bad-time, long-run, bad-option, zero-option, bad_package, bad-count}
use Rattle.rules.specs.Writer.{Draft, drafted, accepted, written}
use Rattle.rules.proofs.Outcomes.{pass, halt, step, stop, passed, stepped, good_inj, good≢bad, refused-at, refused-step, refused-only}
use Rattle.rules.proofs.Cut as Cut
use Rattle.rules.proofs.Run.{run_ends}
use Rattle.rules.proofs.Counts.{agreed, told-other, other-told}
use Rattle.rules.proofs.Wholes.{whole-run-by, option_stopped}
use Rattle.rules.proofs.Passed.{Passed}
use Rattle.rules.proofs.Cleaned.{fills, payload-bytes, write_read}
use Rattle.rules.proofs.Valids.{valid_packages, same_lengths, kept-flags, valid}

-- what acceptance says
pub record Accepted (d : Draft) (m : Message) : Type 0 where
  pub large : 24 + pad (length d.options) + length d.packages ≤ 65536
  pub nanos : d.nanos ≤ 999999999
  pub short : length d.options ≤ 60
  pub whole : option_run_from [] 0 0 0 d.options ≡ good (length d.options)
  pub pieces : List (List ℕ)
  pub filled : cut 0 d.packages ≡ good pieces
  pub count : differs (count_said d.options) (length pieces) ≡ false
  pub is : drafted d pieces ≡ m

-- a run that ends no sooner than its bytes is whole
whole_run : (o : List ℕ) (n : ℕ) → option_run_from [] 0 0 0 o ≡ good n → length o ≤ n → option_run_from [] 0 0 0 o ≡ good (length o)
whole_run o n r l =
    let w = run_ends [] 0 0 0 o (omega arith) r in
    let q : n ≡ length o = omega (arith, w.most) in
    rw q at r

pub accepts : (d : Draft) {m : Message} → accepted d ≡ good m → Accepted d m
unfolding accepted
accepts d e =
    let (a, e) = passed _ _ _ _ e in
    let (b, e) = passed _ _ _ _ e in
    let (c, e) = passed _ _ _ _ e in
    let (n, r, e) = stepped _ _ e in
    let (g, e) = passed _ _ _ _ e in
    let (cs, k, e) = stepped _ _ e in
    let (t, e) = passed _ _ _ _ e in
    record {
      large = ltb-false _ _ a;
      nanos = ltb-false _ _ b;
      short = ltb-false _ _ c;
      whole = whole_run d.options n r (ltb-false _ _ g);
      pieces = cs;
      filled = k;
      count = t;
      is = good_inj e;
    }

-- what is accepted is a valid record
pub accepted_valid : (d : Draft) {m : Message} → DraftFits d → Accepted d m → Valid m
unfolding drafted
accepted_valid d f a =
    let filled : Fills Piece a.pieces d.packages = Cut.sound 0 0 d.packages a.filled in
    subst Valid a.is (record {
      flags = kept-flags d.flags;
      id = f.id;
      sequence = f.sequence;
      seconds = f.seconds;
      nanos = a.nanos;
      options = f.options;
      run = a.whole;
      short = a.short;
      packages = valid_packages filled f.packages;
      count = λ c q. agreed _ (length a.pieces) a.count c q ∙ sym (length-map a.pieces package_of);
      size = omega (arith, a.large, same_lengths filled f.packages);
    })

-- the parts of a message that is read, as a draft
abbrev pub parts : List ℕ → ℕ × List (List ℕ) → Draft
parts s r = record {
  flags = (head s).flags;
  id = (head s).id;
  sequence = (head s).sequence;
  seconds = (head s).seconds;
  nanos = (head s).nanos;
  options = part 24 (24 + r.0) s;
  packages = part (payload_start (head s)) (head s).size s;
}

pub parts-written : (p : ℕ) (s : List ℕ) (r : ℕ × List (List ℕ)) → Bytes s → length s ≤ 65536 → Passed p s (head s) r → written (parts s r) ≡ good (clean_bytes s r)
unfolding written accepted drafted record_of
parts-written p s r b l w =
    let v : Valid (record_of s (head s) r) = valid p s r b w l in
    let o : List ℕ = part 24 (24 + r.0) s in
    let q : List ℕ = part (payload_start (head s)) (head s).size s in
    let f : Fills Piece r.1 q = fills p s r b w in
    let same : length (join (map piece_of (map package_of r.1))) ≡ length q = same_lengths f (payload-bytes p s r b w) in
    step _ _
    (pass _ _ _ _ (le-ltb 65536 (24 + pad (length o) + length q) (omega (arith, v.size)))
    (pass _ _ _ _ (le-ltb 999999999 (head s).nanos v.nanos)
    (pass _ _ _ _ (le-ltb 60 (length o) v.short)
    (step _ _ v.run
    (pass _ _ _ _ (le-ltb (length o) (length o) (omega arith))
    (step _ _ (Cut.complete f 0) (pass _ _ _ _ w.count refl)))))))
    (ap good (write_read p s r b w))

-- ---- why a draft is refused

drafted-there : (d : Draft) {n p : ℕ} → accepted d ≡ bad n p → DraftRefused d n p
unfolding accepted
drafted-there d e =
    ⊎_elim (λ z. rw (← z.1, ← z.2) (large (ltb-true _ _ z.0))) (λ a.
    let size = ltb-false _ _ a.0 in
    ⊎_elim (λ z. rw (← z.1, ← z.2) (bad-time size (ltb-true _ _ z.0))) (λ b.
    let nanos = ltb-false _ _ b.0 in
    ⊎_elim (λ z. rw (← z.1, ← z.2) (long-run size nanos (ltb-true _ _ z.0))) (λ c.
    let sizes : DraftSizes d = (size, nanos, ltb-false _ _ c.0) in
    ⊎_elim (λ z. let m = (option_stopped 0 d.options z).number in rw m (bad-option sizes (rw m at z))) (λ r.
    ⊎_elim (λ z. rw (← z.1, ← z.2) (zero-option sizes r.1 (ltb-true _ _ z.0))) (λ g.
    let whole : WholeRun d.options = (whole-run-by d.options).0 (whole_run d.options r.0 r.1 (ltb-false _ _ g.0)) in
    ⊎_elim (λ z. let m = (Cut.refused 0 0 d.packages z).number in rw m (bad_package sizes whole (rw m at z))) (λ k.
    ⊎_elim (λ z. rw (← z.1, ← z.2) (bad-count sizes whole (Cut.sound 0 0 d.packages k.1) (told-other (count_said d.options) (length k.0) z.0)))
    (λ z. absurd (good≢bad (sym z.1))) (refused-at _ _ _ _ k.2))
    (refused-step _ _ g.1)) (refused-at _ _ _ _ r.2)) (refused-step _ _ c.1)) (refused-at _ _ _ _ b.1)) (refused-at _ _ _ _ a.1)) (refused-at _ _ _ _ e)

-- the checks behind those of its sizes, and behind those of its option run
module _ (d : Draft) where
  abbrev package_checks : Outcome Message
  package_checks = cut 0 d.packages >>= λ cs. refuse (differs (count_said d.options) (length cs)) COUNT 0 >> good (drafted d cs)

  abbrev option_checks : Outcome Message
  option_checks = option_run_from [] 0 0 0 d.options >>= λ n. refuse (ltb n (length d.options)) OPTION n >> package_checks

  behind-sizes : DraftSizes d → {o : Outcome Message} → option_checks ≡ o → accepted d ≡ o
  unfolding accepted
  behind-sizes w e =
      pass _ _ _ _ (le-ltb 65536 (draft_bytes d) w.0)
      (pass _ _ _ _ (le-ltb 999999999 d.nanos w.1)
      (pass _ _ _ _ (le-ltb 60 (length d.options) w.2) e))

  behind-run : DraftSizes d → WholeRun d.options → {o : Outcome Message} → package_checks ≡ o → accepted d ≡ o
  behind-run w r e = behind-sizes w (step _ _ ((whole-run-by d.options).1 r) (pass _ _ _ _ (le-ltb (length d.options) (length d.options) (omega arith)) e))

drafted-back : (d : Draft) {n p : ℕ} → DraftRefused d n p → accepted d ≡ bad n p
unfolding accepted
drafted-back d (large l) = halt _ _ _ _ (lt-ltb 65536 (draft_bytes d) l)
drafted-back d (bad-time l h) = pass _ _ _ _ (le-ltb 65536 (draft_bytes d) l) (halt _ _ _ _ (lt-ltb 999999999 d.nanos h))
drafted-back d (long-run l t h) =
    pass _ _ _ _ (le-ltb 65536 (draft_bytes d) l)
    (pass _ _ _ _ (le-ltb 999999999 d.nanos t) (halt _ _ _ _ (lt-ltb 60 (length d.options) h)))
drafted-back d (bad-option w e) = behind-sizes d w (stop _ _ e)
drafted-back d (zero-option {p = p} w e l) = behind-sizes d w (step _ _ e (halt _ _ _ _ (lt-ltb p (length d.options) l)))
drafted-back d (bad_package w r e) = behind-run d w r (stop _ _ e)
drafted-back d (bad-count {pieces = cs} w r f o) = behind-run d w r (step _ _ (Cut.complete f 0) (halt _ _ _ _ (other-told (count_said d.options) (length cs) o.0 o.1 o.2)))

pub draft-refused : (d : Draft) (n p : ℕ) → (written d ≡ bad n p) ↔ DraftRefused d n p
unfolding written
draft-refused d n p = (λ e. drafted-there d (refused-only _ _ e), λ r. stop _ _ (drafted-back d r))

pub draft-numbered : (d : Draft) {n p : ℕ} → DraftRefused d n p → n ≡ 0 → ⊥
draft-numbered d (large l) e = omega arith
draft-numbered d (bad-time l h) e = omega arith
draft-numbered d (long-run l t h) e = omega arith
draft-numbered d (bad-option w h) e = omega arith
draft-numbered d (zero-option w h l) e = omega arith
draft-numbered d (bad_package w r h) e = omega arith
draft-numbered d (bad-count w r f o) e = omega arith
