-- What a message that passes every check says of its bytes.
use Prim.Native.Nat.{ℕ, zero, ◌+◌, ◌/◌, ◌%◌, ◌≤◌}
use mathlib.Core.Path.{◌≡◌}
use mathlib.Core.Bool.{false}
use mathlib.Core.List.{List, []}
use borrow.Author.Tests.{ltb-false, eqb-true, not-false}
use lib.ListN.{length}
use Rattle.rules.specs.Outcome.{good}
use Rattle.rules.specs.Bytes.{part, one_if_any}
use Rattle.rules.specs.Options.{option_run_from, count_said, differs}
use Rattle.rules.specs.Packages.{cut}
use Rattle.rules.specs.Message.{Head, payload_start, checks_one_to_six, option_run_length, checks_eight_and_nine, checks_one_to_nine, checks_one_to_ten, every_check}
use Rattle.rules.proofs.Outcomes.{passed, passed-last, came_after, stepped, neither}

-- what a header that passes checks 1 to 6 says
pub record Sound (s : List ℕ) (h : Head) : Type 0 where
  pub long : 24 ≤ length s
  pub version : h.version ≡ 1
  pub kind : h.kind ≡ 0
  pub least : payload_start h ≤ h.size
  pub whole : h.size % 4 ≡ 0
  pub most : h.size ≤ length s
  pub nanos : h.nanos ≤ 999999999

pub sound : (p : ℕ) (s : List ℕ) (h : Head) → checks_one_to_six p s h ≡ good tt → Sound s h
unfolding checks_one_to_six
sound p s h e =
    let (a, e) = passed _ _ _ _ e in
    let (b, e) = passed _ _ _ _ e in
    let (c, e) = passed _ _ _ _ e in
    let (d, e) = passed _ _ _ _ e in
    let (f, e) = passed _ _ _ _ e in
    let g = passed-last _ _ _ e in
    let (i, j) = neither _ _ d in
    record {
      long = ltb-false _ _ a;
      version = eqb-true _ _ (not-false _ b);
      kind = eqb-true _ _ (not-false _ c);
      least = ltb-false _ _ i;
      whole = eqb-true _ _ (not-false _ j);
      most = ltb-false _ _ f;
      nanos = ltb-false _ _ g;
    }

-- what a message that passes says
pub record Passed (p : ℕ) (s : List ℕ) (h : Head) (r : ℕ × List (List ℕ)) : Type 0 where
  pub header : Sound s h
  pub options : option_run_from [] zero (p + 24) zero (part 24 (payload_start h) s) ≡ good r.0
  pub fragment : h.flags / 16 % 4 ≡ 0
  pub standard : h.flags / 128 % 2 ≡ one_if_any (part (payload_start h) h.size s)
  pub packages : cut (p + payload_start h) (part (payload_start h) h.size s) ≡ good r.1
  pub count : differs (count_said (part 24 (24 + r.0) s)) (length r.1) ≡ false

pub passes : (p : ℕ) (s : List ℕ) (h : Head) (r : ℕ × List (List ℕ)) → every_check p s h ≡ good r → Passed p s h r
unfolding every_check checks_one_to_ten checks_one_to_nine option_run_length checks_eight_and_nine
passes p s h r e =
    let (x, y, e) = stepped _ _ e in
    let (g, e) = passed _ _ _ _ e in
    let (n, o, y) = stepped _ _ y in
    let (m, o, z) = stepped _ _ o in
    let (a, b) = came_after _ _ o in
    let (f, z) = came_after _ _ z in
    let (c, f) = passed _ _ _ _ f in
    let d = passed-last _ _ _ f in
    let (cs, k, y) = stepped _ _ y in
    let u : (m, cs) ≡ x = cc in
    let q : (m, cs) ≡ r = cc in
    rw (← q) (record {
      header = sound p s h a;
      options = b;
      fragment = eqb-true _ _ (not-false _ c);
      standard = eqb-true _ _ (not-false _ d);
      packages = k;
      count = rw (← u) at g;
    })
