-- `message::option_run` meets its contract: the part that is shown lies in the bytes.
use mathlib.Core.Path.{refl, sym, ap, ◌∙◌}
use Prim.Native.Nat.{ℕ, ◌+◌}
use native.Mathlib.Omega.{arith}
use Rattle.message.proofs.Headers.{Lies, lies, nowhere}
use Rattle.message.specs.Answers.{told_header}
use Rattle.message.proofs.option_run.Goals as goal
use Rattle.message.proofs.option_run.Goals.{In-Ok}

-- where the option run lies
there : (c : In-Ok) → Lies c.args.s.now c.in-Ok.h.run
there c = lies _ _ _ (ap told_header (sym c.in-Ok.is) ∙ c.read_header.ensures)

pub overflow_add-e : goal.overflow_add-e
overflow_add-e c = omega (arith, (there (goal.at.overflow_add-e c).In-Ok).inside)

pub slice_bounds-result-end : goal.slice_bounds-result-end
slice_bounds-result-end c = omega (arith, (there (goal.at.slice_bounds-result-end c).In-Ok).inside)

pub returns-in-Err : goal.returns-in-Err
returns-in-Err c =
    let w = nowhere _ (ap told_header (sym c.in-Err.is) ∙ c.read_header.ensures) in
    (sym w.run, record { block = refl; offset = ap (λ (k : ℕ). k + c.args.s.ref_ptr.1) (sym w.start) })

pub returns-in-Ok : goal.returns-in-Ok
returns-in-Ok c =
    let w = there (goal.at.returns-in-Ok c).In-Ok in
    (sym w.run, record { block = refl; offset = ap (λ (k : ℕ). k + c.args.s.ref_ptr.1) (sym w.start) })
