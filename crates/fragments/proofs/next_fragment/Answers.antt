-- `fragments::next_fragment` meets its contract.
use mathlib.Core.Path.{◌≡◌, refl, sym, ◌∙◌}
use native.Mathlib.Omega.{arith}
use Rattle.rules.specs.Outcome.{good}
use Rattle.message.specs.Answers.{head_of_header}
use Rattle.message.specs.declared.Header.{Header}
use Rattle.fragments.specs.Stored.{header_at}
use Rattle.fragments.proofs.Gathering.{Headed, headed, headed-options, told_stopped, told-gap, told-next}
use Rattle.refusal.proofs.Numbers.{handed_on}
use Rattle.fragments.proofs.next_fragment.Goals as goal
use Rattle.fragments.proofs.next_fragment.Goals.{In_ok-g}

-- the header that was read, and its fragment
abbrev G : In_ok-g → Header
G c = c.in_ok-g.g

told : (c : In_ok-g) → good (head_of_header (G c), (G c).run) ≡ header_at c.args.s.now c.args.i
told c = c.in_ok-g.ensures

hd : (c : In_ok-g) → Headed c.args.s.now c.args.i (head_of_header (G c)) (G c).run
hd c = headed c.args.s.now c.args.i (record { below = λ k. omega (arith, c.type_inv.s k) }) (omega (arith, c.requires.1)) (head_of_header (G c)) (G c).run (told c)

pub overflow_add-e : goal.overflow_add-e
overflow_add-e c = let w = hd (goal.at.overflow_add-e c).In_ok-g in omega (arith, w.run, w.few, w.most)

pub slice_bounds-fits_behind-end : goal.slice_bounds-fits_behind-end
slice_bounds-fits_behind-end c = let w = hd (goal.at.slice_bounds-fits_behind-end c).In_ok-g in omega (arith, w.run, w.start, w.most)

pub fits_behind-requires : goal.fits_behind-requires
fits_behind-requires c = headed-options _ _ _ _ (hd (goal.at.fits_behind-requires c).In_ok-g)

pub returns-then-not-fits_behind : goal.returns-then-not-fits_behind
returns-then-not-fits_behind c = rw c.refuse.ensures (told-gap c.args.s.now c.args.i (head_of_header c.args.h) c.args.last c.args.q c.args.o _ _ (told (goal.at.returns-then-not-fits_behind c).In_ok-g) (sym c.fits_behind.ensures ∙ c.if-not-fits_behind.true))

pub returns-in_err-g : goal.returns-in_err-g
returns-in_err-g c = handed_on _ _ _ c.from_residual.ensures.1 (told_stopped c.args.s.now c.args.i (head_of_header c.args.h) c.args.last c.args.q c.args.o c.in_err-g.ensures)

pub returns : goal.returns
returns c = told-next c.args.s.now c.args.i (head_of_header c.args.h) c.args.last c.args.q c.args.o _ _ (told (goal.at.returns c).In_ok-g) (sym c.fits_behind.ensures ∙ c.if-not-fits_behind.false) refl refl c.fragment_bits-bits.ensures
