-- `compose::clean_read` meets its contract: what is walked over is refused, or finished as a draft of its own parts.
use Prim.Native.Nat.{ℕ, ◌+◌, ◌*◌}
use mathlib.Core.Path.{◌≡◌, sym, ◌∙◌}
use mathlib.Core.List.{List}
use native.Mathlib.Omega.{arith}
use Rattle.rules.specs.Outcome.{good}
use Rattle.rules.specs.Bytes.{Bytes}
use Rattle.message.specs.Answers.{spot_of_message, front_at, told_header}
use Rattle.message.specs.declared.Header.{Header}
use Rattle.std.specs.Prelude.{Ok}
use Rattle.message.proofs.Fronts.{Fronted, fronted}
use Rattle.rules.specs.Reading.{MessageSpot, message_at}
use Rattle.rules.proofs.Claims.{premises_met}
use Rattle.compose.proofs.Cleaning.{Read, reads, clean-refused, clean-fits, clean-finished, package_refused, count-refused, payload-small, walked_halves, walked_spot}
use Rattle.compose.proofs.clean_read.Goals as goal
use Rattle.compose.proofs.clean_read.Goals.{After-shared_slice_known-1, Else-miscounts}

-- the header that was read, and where the parts of its message lie
abbrev S : After-shared_slice_known-1 → List ℕ
S c = c.args.s.now

abbrev H : After-shared_slice_known-1 → Header
H c = c.args.h

front-told : (c : After-shared_slice_known-1) → told_header (Ok (H c)) ≡ front_at (S c) 0
front-told c = c.requires

places : (c : After-shared_slice_known-1) → Fronted (S c) 0 (H c)
places c = fronted (S c) 0 (H c) (front-told c)

bytes : (c : After-shared_slice_known-1) → Bytes (S c)
bytes c = premises_met.bytes _ (λ k. omega (arith, c.type_inv.s k))

-- the message that passed, and what its reading says
abbrev K : Else-miscounts → MessageSpot
K c =
    let h = H (goal.at.Else-miscounts c).After-shared_slice_known-1 in
    spot_of_message (record { header = h; payload = 24 + 4 * h.words; next = h.length; packages = c.walk-w.result.all })

read_told : (c : Else-miscounts) → good (K c) ≡ message_at (S (goal.at.Else-miscounts c).After-shared_slice_known-1) 0
read_told c =
    walked_spot (S (goal.at.Else-miscounts c).After-shared_slice_known-1) (H (goal.at.Else-miscounts c).After-shared_slice_known-1) (front-told (goal.at.Else-miscounts c).After-shared_slice_known-1) c.walk-w.result c.walk-w.ensures (omega arith) (sym c.miscounts.ensures ∙ c.if-miscounts.false)

read : (c : Else-miscounts) → Read (S (goal.at.Else-miscounts c).After-shared_slice_known-1) (K c)
read c = reads (S (goal.at.Else-miscounts c).After-shared_slice_known-1) (K c) (bytes (goal.at.Else-miscounts c).After-shared_slice_known-1) (read_told c)

pub overflow_add-end : goal.overflow_add-end
overflow_add-end c = omega (arith, places (goal.at.overflow_add-end c).After-shared_slice_known-1)

pub slice_bounds-walk-count : goal.slice_bounds-walk-count
slice_bounds-walk-count c = omega (arith, places (goal.at.slice_bounds-walk-count c).After-shared_slice_known-1)

pub slice_bounds-walk-start : goal.slice_bounds-walk-start
slice_bounds-walk-start c = omega (arith, places (goal.at.slice_bounds-walk-start c).After-shared_slice_known-1)

pub slice_bounds-walk-end : goal.slice_bounds-walk-end
slice_bounds-walk-end c = omega (arith, places (goal.at.slice_bounds-walk-end c).After-shared_slice_known-1)

pub walk-w-requires : goal.walk-w-requires
walk-w-requires c = payload-small (S (goal.at.walk-w-requires c).After-shared_slice_known-1) (H (goal.at.walk-w-requires c).After-shared_slice_known-1) (front-told (goal.at.walk-w-requires c).After-shared_slice_known-1)

pub overflow_sub-next : goal.overflow_sub-next
overflow_sub-next c = omega (arith, places (goal.at.overflow_sub-next c).After-shared_slice_known-1)

pub returns-then-w-next : goal.returns-then-w-next
returns-then-w-next c =
    rw c.refuse.ensures (clean-refused (S (goal.at.returns-then-w-next c).After-shared_slice_known-1) c.args.out.now (package_refused (S (goal.at.returns-then-w-next c).After-shared_slice_known-1) (H (goal.at.returns-then-w-next c).After-shared_slice_known-1) (front-told (goal.at.returns-then-w-next c).After-shared_slice_known-1) c.walk-w.result c.walk-w.ensures (omega arith)))

pub slice_bounds-miscounts-end : goal.slice_bounds-miscounts-end
slice_bounds-miscounts-end c = omega (arith, places (goal.at.slice_bounds-miscounts-end c).After-shared_slice_known-1)

pub returns-then-miscounts : goal.returns-then-miscounts
returns-then-miscounts c =
    rw c.refuse-then-miscounts.ensures (clean-refused (S (goal.at.returns-then-miscounts c).After-shared_slice_known-1) c.args.out.now (count-refused (S (goal.at.returns-then-miscounts c).After-shared_slice_known-1) (H (goal.at.returns-then-miscounts c).After-shared_slice_known-1) (front-told (goal.at.returns-then-miscounts c).After-shared_slice_known-1) c.walk-w.result c.walk-w.ensures (omega arith) (sym c.miscounts.ensures ∙ c.if-miscounts.true)))

pub round_up-requires : goal.round_up-requires
round_up-requires c = omega (arith, read (c))

pub overflow_sub-n : goal.overflow_sub-n
overflow_sub-n c = omega (arith, read (goal.at.overflow_sub-n c).Else-miscounts)

pub slice_bounds-finish-end : goal.slice_bounds-finish-end
slice_bounds-finish-end c = omega (arith, read (goal.at.slice_bounds-finish-end c).Else-miscounts)

pub slice_bounds-finish-count-2 : goal.slice_bounds-finish-count-2
slice_bounds-finish-count-2 c = omega (arith, read (goal.at.slice_bounds-finish-count-2 c).Else-miscounts)

pub slice_bounds-finish-start-2 : goal.slice_bounds-finish-start-2
slice_bounds-finish-start-2 c = omega (arith, read (goal.at.slice_bounds-finish-start-2 c).Else-miscounts)

pub slice_bounds-finish-end-2 : goal.slice_bounds-finish-end-2
slice_bounds-finish-end-2 c = omega (arith, read (goal.at.slice_bounds-finish-end-2 c).Else-miscounts)

pub finish-requires : goal.finish-requires
finish-requires c =
    record { halved = walked_halves (S (goal.at.finish-requires c).After-shared_slice_known-1) (H (goal.at.finish-requires c).After-shared_slice_known-1) (front-told (goal.at.finish-requires c).After-shared_slice_known-1) c.walk-w.result c.walk-w.ensures (omega arith); fit = rw c.record_of.ensures (clean-fits (S (goal.at.finish-requires c).After-shared_slice_known-1) c.args.out.now (K (goal.at.finish-requires c).Else-miscounts) (bytes (goal.at.finish-requires c).After-shared_slice_known-1) (read_told (goal.at.finish-requires c).Else-miscounts) c.round_up.ensures) }

pub returns : goal.returns
returns c =
    c.finish.ensures ∙ rw c.record_of.ensures (clean-finished (S (goal.at.returns c).After-shared_slice_known-1) c.args.out.now (K (goal.at.returns c).Else-miscounts) (bytes (goal.at.returns c).After-shared_slice_known-1) (read_told (goal.at.returns c).Else-miscounts))
