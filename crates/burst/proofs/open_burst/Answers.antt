-- `burst::open_burst` meets its contract: each answer with the tests that led to it.
use Prim.Native.Nat.{ℕ, ◌+◌, ◌*◌, ◌≤◌}
use mathlib.Core.Path.{◌≡◌, sym, ◌∙◌}
use mathlib.Core.Bool.{true}
use mathlib.Core.Logic.{◌↔◌}
use mathlib.Core.List.{List, ◌++◌}
use native.Mathlib.Omega.{arith}
use lib.ListN.{length, take, drop}
use Rattle.rules.specs.Outcome.{good}
use Rattle.rules.specs.Bytes.{Bytes}
use Rattle.rules.specs.Burst.{marker, marked, block_size, most_blocks, blocks_fit, randomized, opening}
use Rattle.rules.proofs.Claims.{premises_met, burst_is}
use Rattle.burst.proofs.Buffer.{behind}
use Rattle.burst.proofs.Answers.{opener-large, opener-marker, opener-blocks, opener-done}
use Rattle.burst.proofs.open_burst.Goals as goal
use Rattle.burst.proofs.open_burst.Goals.{After-blocks_fit-whole, After-slice_known-1, Else-not-begun, Else-not-whole}

-- the burst, and what its tests say of it
abbrev S : After-blocks_fit-whole → List ℕ
S c = c.args.buf.now

begins : (c : Else-not-begun) → marked (S (goal.at.Else-not-begun c).After-blocks_fit-whole) ≡ true
begins c =
    let m = c.is_marked-begun in
    sym m.ensures ∙ c.if-not-begun.false

whole : (c : Else-not-whole) → blocks_fit (length (S (goal.at.Else-not-whole c).After-blocks_fit-whole)) ≡ true
whole c =
    let b = c.blocks_fit-whole in
    sym b.ensures ∙ c.if-not-whole.false

pub returns-then-n-gt65536 : goal.returns-then-n-gt65536
returns-then-n-gt65536 c = rw c.refuse.ensures (opener-large (S (goal.at.returns-then-n-gt65536 c).After-blocks_fit-whole) c.if-n-gt65536.true)

pub returns-then-not-begun : goal.returns-then-not-begun
returns-then-not-begun c =
    let m = c.is_marked-begun in
    rw c.refuse-then-not-begun.ensures
    (opener-marker (S (goal.at.returns-then-not-begun c).After-blocks_fit-whole) c.if-n-gt65536.false (sym m.ensures ∙ c.if-not-begun.true))

pub returns-then-not-whole : goal.returns-then-not-whole
returns-then-not-whole c =
    let b = c.blocks_fit-whole in
    rw c.refuse-then-not-whole.ensures
    (opener-blocks (S (goal.at.returns-then-not-whole c).After-blocks_fit-whole) c.if-n-gt65536.false (cc) (sym b.ensures ∙ c.if-not-whole.true))

pub returns : goal.returns
returns c =
    let r = c.randomize_all in
    let s = S (goal.at.returns c).After-blocks_fit-whole in
    opener-done s c.if-n-gt65536.false (begins (goal.at.returns c).Else-not-begun) c.blocks_in.result _ (whole (goal.at.returns c).Else-not-whole) c.blocks_in.ensures (behind 0 8 s r.new.buf r.ensures)

-- ---- whatever a caller hands over is bytes; so at every call a burst is opened exactly if it is the marker and whole codeblocks
abbrev handed : After-slice_known-1 → List ℕ
handed c = c.args.buf.now

pub handed-bytes : (c : After-slice_known-1) → Bytes (handed c)
handed-bytes c = premises_met.bytes _ (λ k. omega (arith, c.slice_known-1.given k))

pub every_call : (c : After-slice_known-1) (blocks : ℕ) (after : List ℕ) → (opening (handed c) ≡ good (blocks, after)) ↔ ((take (length marker) (handed c) ≡ marker)
    × (1 ≤ blocks) × (blocks ≤ most_blocks) × (length (handed c) ≡ length marker + blocks * block_size) × (after ≡ marker ++ randomized 0 (drop (length marker) (handed c))))
every_call c = burst_is (handed c) (handed-bytes c)
