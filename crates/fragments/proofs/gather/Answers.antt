-- `fragments::gather` meets its contract: nothing, a first fragment that is refused, or all of them.
use mathlib.Core.Path.{◌≡◌, sym, ◌∙◌}
use native.Mathlib.Omega.{arith}
use Rattle.std.proofs.lemmas.Bool.Decides.{nat_tests}
use Rattle.rules.specs.Outcome.{good}
use Rattle.message.specs.Answers.{head_of_header}
use Rattle.message.specs.declared.Header.{Header}
use Rattle.fragments.specs.Stored.{header_at}
use Rattle.fragments.proofs.Gathering.{Headed, headed, nothing, first_stopped, first-gap, first-options}
use Rattle.refusal.proofs.Numbers.{handed_on}
use Rattle.fragments.proofs.gather.Goals as goal
use Rattle.fragments.proofs.gather.Goals.{In_ok-h}

-- the first header, and its fragment
abbrev H : In_ok-h → Header
H c = c.in_ok-h.h

told : (c : In_ok-h) → good (head_of_header (H c), (H c).run) ≡ header_at c.args.s.now 0
told c = c.in_ok-h.ensures

hd : (c : In_ok-h) → Headed c.args.s.now 0 (head_of_header (H c)) (H c).run
hd c = headed c.args.s.now 0 (record { below = λ k. omega (arith, c.type_inv.s k) }) c.requires (head_of_header (H c)) (H c).run (told c)

pub returns-then-is_empty : goal.returns-then-is_empty
returns-then-is_empty c = rw c.refuse.ensures (nothing c.args.s.now (grind (arith, nat_tests, c.is_empty.ensures, c.if-is_empty.true)))

pub overflow_add-end : goal.overflow_add-end
overflow_add-end c = let w = hd (goal.at.overflow_add-end c).In_ok-h in omega (arith, w.run, w.few)

pub slice_bounds-begins-end : goal.slice_bounds-begins-end
slice_bounds-begins-end c = let w = hd (goal.at.slice_bounds-begins-end c).In_ok-h in omega (arith, w.run, w.start, w.most)

pub begins-requires : goal.begins-requires
begins-requires c = first-options c.args.s.now _ _ (hd (goal.at.begins-requires c).In_ok-h)

pub returns-then-not-begins : goal.returns-then-not-begins
returns-then-not-begins c = rw c.refuse-then-not-begins.ensures (first-gap c.args.s.now _ _ (hd (goal.at.returns-then-not-begins c).In_ok-h) (sym c.begins.ensures ∙ c.if-not-begins.true))

pub follow-requires : goal.follow-requires
follow-requires c = record { begun = record { read = told (goal.at.follow-requires c).In_ok-h; begins = sym c.begins.ensures ∙ c.if-not-begins.false }; s_len_bound = c.requires }

pub returns-in_err-h : goal.returns-in_err-h
returns-in_err-h c = handed_on _ _ _ c.from_residual.ensures.1 (first_stopped c.args.s.now (grind (arith, nat_tests, c.is_empty.ensures, c.if-is_empty.false)) c.in_err-h.ensures)
