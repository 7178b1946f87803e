-- `fragments::cut` meets its contract: what was read, refused, cleaned or cut.
use mathlib.Core.Path.{◌≡◌, ◌∙◌}
use Prim.Native.Nat.{ℕ}
use mathlib.Core.List.{List}
use native.Mathlib.Omega.{arith}
use Rattle.refusal.proofs.Numbers.{passed_on}
use Rattle.rules.specs.Outcome.{good}
use Rattle.rules.specs.Bytes.{Bytes}
use Rattle.message.specs.Answers.{spot_of_message}
use Rattle.rules.specs.Reading.{MessageSpot, message_at}
use Rattle.fragments.proofs.Answering.{Read, reads, same_by, not_read, size_low, size_odd, whole-options, has_offset, fits-is, full, cuttable, cut-is}
use Rattle.fragments.proofs.cut.Goals as goal
use Rattle.fragments.proofs.cut.Goals.{In_ok-m, then-size-lt4-via-then-size-lt4, then-size-lt4-via-else-size-lt4+then-size-ne0}

-- the message that was read, and what its reading says
abbrev S : In_ok-m → List ℕ
S c = c.args.s.now

abbrev K : In_ok-m → MessageSpot
K c = spot_of_message c.in_ok-m.m

bytes : (c : In_ok-m) → Bytes (S c)
bytes c = record { below = λ k. omega (arith, c.type_inv.s k) }

read_told : (c : In_ok-m) → good (K c) ≡ message_at (S c) 0
read_told c = c.in_ok-m.ensures

read : (c : In_ok-m) → Read (S c) (K c)
read c = reads (S c) (K c) (bytes c) (read_told c)

pub overflow_add-end : goal.overflow_add-end
overflow_add-end c = let w = read (goal.at.overflow_add-end c).In_ok-m in omega (arith, w.inside, w.small)

pub returns-then-size-lt4 : goal.returns-then-size-lt4
returns-then-size-lt4 c =
    let at = (goal.at.returns-then-size-lt4 c).In_ok-m in
    let a = c.args in
    let w = read at in
    rw c.refuse.ensures (elim c.then-size-lt4.branch [
      | then-size-lt4-via-then-size-lt4 t ↦ size_low a.size (S at) a.out.now (K at) w (omega (arith, t.if-size-lt4.true))
      | then-size-lt4-via-else-size-lt4+then-size-ne0 t ↦ size_odd a.size (S at) a.out.now (K at) w (omega (arith, t.if-size-lt4.false)) (λ z. omega (arith, t.if-size-ne0.true))
    ])

pub slice_bounds-find_offset-end : goal.slice_bounds-find_offset-end
slice_bounds-find_offset-end c = let w = read (goal.at.slice_bounds-find_offset-end c).In_ok-m in omega (arith, w.inside)

pub find_offset-at-requires : goal.find_offset-at-requires
find_offset-at-requires c = let w = read (goal.at.find_offset-at-requires c).In_ok-m in let a = c.args in whole-options a.size (S (goal.at.find_offset-at-requires c).In_ok-m) a.out.now (K (goal.at.find_offset-at-requires c).In_ok-m) w (omega arith) (omega arith)

pub overflow_add-at : goal.overflow_add-at
overflow_add-at c = let w = read (goal.at.overflow_add-at c).In_ok-m in omega (arith, w.short)

pub returns-then-at-h : goal.returns-then-at-h
returns-then-at-h c = let w = read (goal.at.returns-then-at-h c).In_ok-m in let a = c.args in rw c.refuse-then-at-h.ensures (has_offset a.size (S (goal.at.returns-then-at-h c).In_ok-m) a.out.now (K (goal.at.returns-then-at-h c).In_ok-m) w (omega arith) (omega arith) _ c.find_offset-at.ensures (omega arith))

pub overflow_sub-next : goal.overflow_sub-next
overflow_sub-next c = let w = read (goal.at.overflow_sub-next c).In_ok-m in omega (arith, w.least)

pub returns-then-next-from : goal.returns-then-next-from
returns-then-next-from c = let w = read (goal.at.returns-then-next-from c).In_ok-m in let a = c.args in c.finish_whole.ensures ∙ fits-is a.size (S (goal.at.returns-then-next-from c).In_ok-m) a.out.now (K (goal.at.returns-then-next-from c).In_ok-m) w (omega arith) (omega arith) _ c.find_offset-at.ensures (omega arith) (omega arith)

pub returns-then-h-gt54 : goal.returns-then-h-gt54
returns-then-h-gt54 c = let w = read (goal.at.returns-then-h-gt54 c).In_ok-m in let a = c.args in rw c.refuse-then-h-gt54.ensures (full a.size (S (goal.at.returns-then-h-gt54 c).In_ok-m) a.out.now (K (goal.at.returns-then-h-gt54 c).In_ok-m) w (omega arith) (omega arith) _ c.find_offset-at.ensures (omega arith) (omega arith) (omega arith))

pub slice_bounds-finish_cut-end : goal.slice_bounds-finish_cut-end
slice_bounds-finish_cut-end c = let w = read (goal.at.slice_bounds-finish_cut-end c).In_ok-m in omega (arith, w.inside)

pub slice_bounds-finish_cut-end-2 : goal.slice_bounds-finish_cut-end-2
slice_bounds-finish_cut-end-2 c = let w = read (goal.at.slice_bounds-finish_cut-end-2 c).In_ok-m in omega (arith, w.most)

pub finish_cut-requires : goal.finish_cut-requires
finish_cut-requires c = let w = read (goal.at.finish_cut-requires c).In_ok-m in let a = c.args in cuttable a.size (S (goal.at.finish_cut-requires c).In_ok-m) a.out.now (K (goal.at.finish_cut-requires c).In_ok-m) w (omega (arith, c.if-size-lt4.false)) (omega (arith, c.if-size-ne0.false)) _ c.find_offset-at.ensures (omega (arith, c.if-at-h.false)) _ (same_by c.in_ok-m.m.header _ _ _ _ c.record_of.ensures) (omega (arith, c.if-next-from.false)) (omega (arith, c.if-h-gt54.false))

pub returns-in_err-m : goal.returns-in_err-m
returns-in_err-m c = let a = c.args in rw (passed_on _ _ c.from_residual.ensures.1) (not_read a.size a.s.now a.out.now c.in_err-m.ensures)

pub returns : goal.returns
returns c = let w = read (goal.at.returns c).In_ok-m in let a = c.args in c.finish_cut.ensures ∙ cut-is a.size (S (goal.at.returns c).In_ok-m) a.out.now (K (goal.at.returns c).In_ok-m) w (omega (arith, c.if-size-lt4.false)) (omega (arith, c.if-size-ne0.false)) _ c.find_offset-at.ensures (omega (arith, c.if-at-h.false)) _ (same_by c.in_ok-m.m.header _ _ _ _ c.record_of.ensures) (omega (arith, c.if-next-from.false)) (omega (arith, c.if-h-gt54.false))
